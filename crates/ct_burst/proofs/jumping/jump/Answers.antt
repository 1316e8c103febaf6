use Rattle.std.proofs.Common.{ℕ, ◌≡◌, Bool, true, false, refl, sym, subst}
use Rattle.def_instr.specs.declared.Instr.TheVariants.{Jal}
use Rattle.ct_areas.specs.declared.thread.Thread as row
use Rattle.def_step.specs.Jumps.{jump_target}
use Rattle.ct_burst.specs.Carrying.{linked_to, IsBeside}
use Rattle.ct_burst.proofs.Carrying.{jump_quiet}
use Rattle.ct_burst.proofs.Turns.{beside_gone, turned_jump}
use Rattle.ct_burst.proofs.jumping.jump.Goals as goal

beside : (r new : row.Thread) (at to : ℕ) (gone : Bool) → (gone ≡ true → new ≡ linked_to r at to) → (gone ≡ false → new ≡ r) → IsBeside r new
beside r new at to true gone same = beside_gone r new _ to _ (gone refl)
beside r new at to false gone same = subst (λ (q : row.Thread). IsBeside r q) (sym (same refl)) refl

pub returns : goal.returns
returns c =
    let r = c.args.row.now in
    let new = c.link_by.new.row in
    let left = c.link_by.ensures in
    turned_jump r c.args.window (Jal c.args.to c.args.offset) c.link_by.result c.turned_if.result new c.turned_if.ensures
    (λ gone. jump_quiet r new (Jal c.args.to c.args.offset) c.args.offset refl (left.whole gone) (left.gone gone))
    left.same (beside r new (jump_target r.pcc c.args.offset) c.args.to c.link_by.result left.gone left.same)
