use Rattle.std.proofs.Common.{◌+◌, ◌%◌, ◌^◌, ◌==◌, ◌≡◌, true, arith, sym, ap, subst}
use Rattle.std.proofs.lemmas.Bool.{eq-eqb}
use Rattle.def_words.specs.Capability.{integer}
use Rattle.def_step.specs.Jumps.{jump_target}
use Rattle.ct_threads.specs.Windows.{window_holds}
use Rattle.ct_burst.specs.Carrying.{linked_to}
use Rattle.ct_burst.proofs.Carrying.{jump_quiet}
use Rattle.ct_burst.proofs.Turns.{beside_gone, led_jump}
use Rattle.ct_burst.proofs.jumping.go_by.Goals as goal

pub returns : goal.returns
returns c =
    let r = c.args.row.now in
    let new = c.go_to.new.row in
    let target : (c.address.result + c.args.by) % 2 ^ 32 ≡ jump_target r.pcc c.args.by = ap (λ n. (n + c.args.by) % 2 ^ 32) c.address.ensures in
    let aligned : (c.address.result + c.args.by) % 2 ^ 32 % 4 ≡ 0 = omega (arith, c.if-target-ne0.false) in
    let whole : (jump_target r.pcc c.args.by % 4 == 0) ≡ true = subst (λ n. (n % 4 == 0) ≡ true) target (eq-eqb ((c.address.result + c.args.by) % 2 ^ 32 % 4) 0 aligned) in
    let gone : new ≡ linked_to r (jump_target r.pcc c.args.by) 0 = subst (λ n. new ≡ linked_to r n 0) target c.go_to.ensures.gone in
    led_jump r c.args.window c.args.instruction (window_holds c.args.window ((c.address.result + c.args.by) % 2 ^ 32)) c.go_to.result new c.go_to.ensures.came
    (jump_quiet r new c.args.instruction c.args.by c.requires.by whole (subst (λ n. new ≡ linked_to r (jump_target r.pcc c.args.by) n) (sym c.requires.to) gone))
    (beside_gone r new _ 0 (integer 0) c.go_to.ensures.gone) c.go_to.ensures.held
