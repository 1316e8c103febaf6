use Rattle.std.proofs.Common.{◌%◌, ◌==◌, ◌≡◌, true, arith, sym, subst}
use Rattle.std.proofs.lemmas.Bool.{eq-eqb}
use Rattle.def_words.specs.Capability.{integer}
use Rattle.def_step.specs.Jumps.{jump_target}
use Rattle.ct_burst.specs.Carrying.{linked_to}
use Rattle.ct_burst.proofs.Carrying.{jump_quiet}
use Rattle.ct_burst.proofs.Turns.{beside_gone, past_jump}
use Rattle.ct_burst.proofs.jumping.go_past_branch.Goals as goal

pub returns : goal.returns
returns c =
    let r = c.args.row.now in
    let new = c.put.new.row in
    let here = c.requires.held.on.whole in
    let aligned : jump_target r.pcc 4 % 4 ≡ 0 = omega (arith, here) in
    let whole : (jump_target r.pcc 4 % 4 == 0) ≡ true = eq-eqb (jump_target r.pcc 4 % 4) 0 aligned in
    past_jump r c.args.window c.args.instruction c.put.result new c.put.ensures.went
    (jump_quiet r new c.args.instruction 4 c.requires.by whole (subst (λ n. new ≡ linked_to r (jump_target r.pcc 4) n) (sym c.requires.to) c.put.ensures.gone))
    (beside_gone r new _ 0 (integer 0) c.put.ensures.gone) c.put.ensures.past
