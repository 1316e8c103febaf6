-- What a Sweep event does to the objects of the heap, by cases: nothing is due; a sweep begins; one goes on.
use Rattle.std.proofs.Common.{ℕ, ◌≡◌, ◌+◌, ◌*◌, ◌≤◌, ◌<◌, ◌⊎◌, inl, inr, true, false, nat_le, List, [], ◌∷◌, Option, Some, None, refl, sym, ap, ◌∙◌, subst, arith}
use Rattle.std.proofs.lemmas.Bool.{leb-true, leb-false}
use Rattle.std.proofs.Math.Nat.{min-le_right}
use Rattle.law_lists.proofs.Tests.{chosen, bool_tells}
use Rattle.def_machine.specs.Image.{Image}
use Rattle.def_machine.specs.State.{State, Object}
use Rattle.def_machine.specs.Objects.{Any, has_quarantined, painted, unpainted}
use Rattle.def_machine.specs.Heap.{with_slice, slice_end, sweep_over, ram_size, ended_sweep, sweep_began, sweep_on, swept}
use Rattle.law_moves.proofs.Rows.{any_map, left_any, any_left}
use Rattle.law_moves.proofs.Slices.{slice_length}
use Rattle.law_moves.proofs.Begins.{begun}
use Rattle.def_safety.specs.Reuse.{IsSameObject, Waits, IsPainted}

-- a Sweep event is counted
abbrev pub counted : State → State
counted s = record s { counts = record s.counts { sweeps = s.counts.sweeps + 1 } }

-- the slice from an offset, and the end where RAM is passed
abbrev pub sliced_from : Image → State → ℕ → State
sliced_from i s x = ended_sweep i (with_slice i s x (slice_end i s x)) (slice_end i s x)

pub swept_case : (P : State → Type 0) (i : Image) (s : State) → (s.front ≡ None → has_quarantined s.objects ≡ false → P s) → (s.front ≡ None → has_quarantined s.objects ≡ true → P (sliced_from i (begun s) 0))
    → ((x : ℕ) → s.front ≡ Some x → P (sliced_from i s x)) → P (swept i s)
swept_case P i s idle begins goes = by_front s.front refl
  where
    by_front : (o : Option ℕ) → s.front ≡ o → P (sweep_on i (sweep_began s o) (sweep_began s o).front)
    by_front (Some x) e = subst (λ (o : Option ℕ). P (sweep_on i s o)) (sym e) (goes x e)
    by_front None e = chosen (λ (z : State). P (sweep_on i z z.front)) (has_quarantined s.objects) (begun s) s
        (λ is. begins e is)
        (λ none. subst (λ (o : Option ℕ). P (sweep_on i s o)) (sym e) (idle e none))

-- how far a slice comes
slice_inside : (i : Image) (s : State) (x : ℕ) → slice_end i s x ≤ ram_size s
slice_inside i s x = min-le_right (x + 8 * i.sweep) (ram_size s)

sliced_size : (i : Image) (s : State) (x : ℕ) → ram_size (with_slice i s x (slice_end i s x)) ≡ ram_size s
sliced_size i s x = ap (λ (n : ℕ). 8 * n) (slice_length i s x (slice_end i s x) 0 s.granules)

-- a slice that comes to the end of RAM ends the sweep, and one that doesn't leaves it running
pub sliced_case : (P : State → Type 0) (i : Image) (s : State) (x : ℕ) → (slice_end i s x ≡ ram_size s → P (sweep_over i (with_slice i s x (slice_end i s x)))) → (slice_end i s x < ram_size s → P (with_slice i s x (slice_end i s x))) → P (sliced_from i s x)
sliced_case P i s x over on =
    let size = sliced_size i s x in
    let most = slice_inside i s x in
    chosen P (nat_le (ram_size (with_slice i s x (slice_end i s x))) (slice_end i s x)) (sweep_over i (with_slice i s x (slice_end i s x))) (with_slice i s x (slice_end i s x))
    (λ is. let all = leb-true (ram_size (with_slice i s x (slice_end i s x))) (slice_end i s x) is in over (omega (arith, all, size, most)))
    (λ not. let less = leb-false (ram_size (with_slice i s x (slice_end i s x))) (slice_end i s x) not in on (omega (arith, less, size)))

-- ---- rows

pub painted_row : (r : Object) (rows : List Object) → Any (IsSameObject r) rows → Any (IsSameObject r) (painted rows)
painted_row r [] h = absurd h
painted_row r (q ∷ qs) (inl h) = inl h
painted_row r (q ∷ qs) (inr h) = inr (painted_row r qs h)

pub waits_row : (r : Object) (rows : List Object) → Any (Waits r) rows → Any (IsSameObject r) rows
waits_row r rows h = any_map (Waits r) (IsSameObject r) rows (λ q k. k.0) h

-- what waits stays where the painted leave
pub waits_left : (r : Object) (rows : List Object) → Any (Waits r) rows → Any (Waits r) (unpainted rows)
waits_left r rows h = left_any (Waits r) rows (any_map (Waits r) (λ q. (q.painted ≡ false) × Waits r q) rows (λ q k. (k.1, k)) h)

-- a row is painted, or it waits
pub row_tells : (r : Object) (rows : List Object) → Any (IsSameObject r) rows → Any (IsPainted r) rows ⊎ Any (Waits r) rows
row_tells r [] h = absurd h
row_tells r (q ∷ qs) (inl h) = elim (bool_tells q.painted) [ inl is ↦ inl (inl (h, is)) | inr none ↦ inr (inl (h, none)) ]
row_tells r (q ∷ qs) (inr h) = elim (row_tells r qs h) [ inl is ↦ inl (inr is) | inr waits ↦ inr (inr waits) ]

-- none is painted among those that are left
pub none_painted : (r : Object) (rows : List Object) → Any (IsPainted r) (unpainted rows) → ⊥
none_painted r rows h = no_row rows (any_left (IsPainted r) rows h)
  where
    no_row : (qs : List Object) → Any (λ q. (q.painted ≡ false) × IsPainted r q) qs → ⊥
    no_row [] k = k
    no_row (q ∷ qs) (inl k) = let clash : false ≡ true = sym k.0 ∙ k.1.1 in cc
    no_row (q ∷ qs) (inr k) = no_row qs k
