-- So many instructions, and one more.
use Rattle.std.proofs.Common.{ℕ, zero, suc, ◌+◌, ◌≡◌, List, arith, sym, ap, ◌∙◌, subst}
use Rattle.def_memory.specs.declared.Granule.{Granule}
use Rattle.def_machine.specs.State.{Thread}
use Rattle.ct_areas.specs.declared.thread.Thread as row
use Rattle.ct_burst.specs.Carrying.{Stays}
use Rattle.ct_burst.specs.Going.{GoesOnce, GoesFor}

pub further : (ram n : ℕ) (w mid new : Thread) (gs between after : List Granule) → GoesFor ram n w gs mid between → GoesOnce ram mid between new after → GoesFor ram (n + 1) w gs new after
further ram n w mid new gs between after so once =
    let next : suc n ≡ n + 1 = omega arith in
    subst (λ k. GoesFor ram k w gs new after) next (mid, between, so, once)

pub both_for : (ram n m : ℕ) (w mid new : Thread) (gs between after : List Granule) → GoesFor ram n w gs mid between → GoesFor ram m mid between new after → GoesFor ram (n + m) w gs new after
both_for ram n zero w mid new gs between after so more =
    let none : n ≡ n + 0 = omega arith in
    subst (λ k. GoesFor ram k w gs new after) none
    (subst (λ (u : Thread). GoesFor ram n w gs u after) (sym more.0) (subst (λ (hs : List Granule). GoesFor ram n w gs mid hs) (sym more.1) so))
both_for ram n (suc m) w mid new gs between after so more =
    let next : suc (n + m) ≡ n + suc m = omega arith in
    subst (λ k. GoesFor ram k w gs new after) next (more.0, more.1, both_for ram n m w mid more.0 gs between more.1 so more.2, more.3)

pub stays_both : (r mid new : row.Thread) (gs between after : List Granule) → Stays r mid gs between → Stays mid new between after → Stays r new gs after
stays_both r mid new gs between after first second = record {
  beside = second.beside ∙ ap (λ (q : row.Thread). record q { pcc = new.pcc; regs = new.regs }) first.beside;
  size = second.size ∙ first.size;
}
