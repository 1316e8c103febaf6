-- What one look along the order finds is what is picked.
use Rattle.std.proofs.Common.{◌≡◌, ℕ, ◌<◌, ◌≤◌, ◌++◌, ◌∷◌, [], List, ap, take, drop, length-append, true, false, Some, inl, inr, sym, ◌∙◌, subst, arith, length}
use Rattle.std.proofs.Math.ListN.{get_or}
use Rattle.std.proofs.Math.Seq.{take-length}
use Rattle.std.specs.List.{remove}
use Rattle.std.proofs.lemmas.List.{get_or_default, take-append-le}
use Rattle.std.proofs.lemmas.List.Edits.{length-remove}
use Rattle.law_lists.proofs.Tests.{bool_tells}
use Rattle.law_lists.proofs.Finds.{find_is}
use Rattle.law_sched.proofs.Orders.{moves, goes_on as moved_is}
use Rattle.law_sched.proofs.Picks.{foremost_is, lesser_is_not, idle_is_not}
use Rattle.def_sched.specs.declared.Status.{Status}
use Rattle.def_sched.specs.Statuses.{is_ready, status_of}
use Rattle.def_sched.specs.Picks.{IsOrder, pick, priority_of, is_foremost, moved_last}
use Rattle.ct_sched.specs.Sched.{SchedRow, IsKept}
use Rattle.ct_sched.specs.Choosing.{at, IsForemost}

not_before : (ps : List ℕ) (ss : List Status) (order : List ℕ) (place : ℕ) → IsForemost ps ss order place → (k : ℕ) → k < place → is_foremost ps ss order (at order k) ≡ false
not_before ps ss order place is k lt =
    elim (bool_tells (is_ready (status_of ss (at order k)))) [
      | inl ready ↦ lesser_is_not ps ss order (at order k) place is.inside is.ready (is.before k lt ready)
      | inr idle ↦ idle_is_not ps ss order (at order k) idle
    ]

pub pick_is : (ps : List ℕ) (ss : List Status) (order : List ℕ) (place : ℕ) → IsForemost ps ss order place → pick ps ss order ≡ Some (at order place)
pick_is ps ss order place is =
    let t : ℕ = at order place in
    find_is (is_foremost ps ss order) order t (record {
      place = place;
      inside = is.inside;
      is = get_or_default order place t 0 is.inside;
      passes = foremost_is ps ss order t is.ready
          (λ k d inside. subst (λ v. is_ready (status_of ss v) ≡ true → priority_of ps v ≤ priority_of ps t) (get_or_default order k 0 d inside) (is.greatest k inside));
      before = λ k lt. subst (λ v. is_foremost ps ss order v ≡ false) (get_or_default order k 0 t (omega (arith, lt, is.inside))) (not_before ps ss order place is k lt);
    })

-- ---- the order after a pick

pub moved : (order new : List ℕ) (place t len count : ℕ) → IsOrder count order → place < length order → t ≡ get_or order place t → new ≡ remove order place ++ get_or order place 0 ∷ [] → len ≡ length order → take len (new ++ drop (length new) order) ≡ moved_last t order
moved order new place t len count is inside found put size =
    let here : get_or order place 0 ≡ t = get_or_default order place 0 t inside ∙ sym found in
    let whole : new ≡ moved_last t order = put ∙ ap (λ v. remove order place ++ v ∷ []) here ∙ moves order place t inside here is.once in
    let long : length new ≡ length order = omega (arith, ap length put, length-append (remove order place) (get_or order place 0 ∷ []), length-remove order place inside) in
    let all : len ≡ length new = size ∙ sym long in
    take-append-le len new (drop (length new) order) (omega (arith, all)) ∙ ap (λ k. take k new) all ∙ take-length new ∙ whole

pub kept_by_pick : (s : SchedRow) (going place t : ℕ) → IsKept s going → place < length s.order → t ≡ get_or s.order place t → IsKept (record s { order = moved_last t s.order }) going
kept_by_pick s going place t k inside found = record {
  few = k.few;
  priorities = k.priorities;
  order = moved_is (length s.statuses) t s.order (subst (λ v. v < length s.statuses) (sym found) (k.order.below place t inside)) k.order;
  going = k.going;
}
