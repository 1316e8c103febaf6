-- A slice granule by granule is *Heap*'s slice.
use Rattle.std.proofs.Common.{ℕ, zero, suc, ◌≡◌, ◌+◌, ◌*◌, ◌≤◌, ◌<◌, ◌⊎◌, inl, inr, List, [], ◌∷◌, length, refl, sym, ap, ◌∙◌, arith, subst}
use Rattle.std.proofs.lemmas.List.{ext_get_or}
use Rattle.law_lists.proofs.Tests.{chosen_in}
use Rattle.def_words.specs.declared.Cap.{Cap}
use Rattle.def_memory.specs.declared.Granule.{Granule}
use Rattle.def_memory.specs.Granules.{nothing, granule_at}
use Rattle.def_machine.specs.Image.{Image}
use Rattle.def_machine.specs.State.{State}
use Rattle.def_machine.specs.Memory.{filtered}
use Rattle.def_machine.specs.Heap.{sliced}
use Rattle.def_machine.specs.Slices.{kept_granules}
use Rattle.ct_revoke.specs.Slices.{IsSliced, SlicesHeap}

sliced_length : (i : Image) (s : State) (low high place : ℕ) (gs : List Granule) → length (kept_granules (sliced i s low high) place gs) ≡ length gs
sliced_length i s low high place [] = refl
sliced_length i s low high place (g ∷ gs) = ap (λ n. suc n) (sliced_length i s low high (place + 8) gs)

-- what holds of the granule that a slice leaves at a place: what passed, or what was there
sliced_at : (i : Image) (s : State) (low high place : ℕ) (gs : List Granule) (k : ℕ) (P : Granule → Type 0) → k < length gs
    → (low ≤ place + 8 * k → place + 8 * k < high → P (record (granule_at gs k) { cap = filtered i s (granule_at gs k).cap }))
    → ((place + 8 * k < low) ⊎ (high ≤ place + 8 * k) → P (granule_at gs k))
    → P (granule_at (kept_granules (sliced i s low high) place gs) k)
sliced_at i s low high place [] k P lt in_it out_of = absurd (omega (arith, lt))
sliced_at i s low high place (g ∷ gs) zero P lt in_it out_of =
    chosen_in (λ (c : Cap). P (record g { cap = c })) low high place (filtered i s g.cap) g.cap (λ a b. in_it (omega (arith, a)) (omega (arith, b))) (λ o. out_of (elim o [ inl a ↦ inl (omega (arith, a)) | inr b ↦ inr (omega (arith, b)) ]))
sliced_at i s low high place (g ∷ gs) (suc k) P lt in_it out_of =
    sliced_at i s low high (place + 8) gs k P (omega (arith, lt)) (λ a b. in_it (omega (arith, a)) (omega (arith, b))) (λ o. out_of (elim o [ inl a ↦ inl (omega (arith, a)) | inr b ↦ inr (omega (arith, b)) ]))

of_state : (low high : ℕ) (new : List Granule) (i : Image) (s : State) → IsSliced i.ram low high s.granules new → new ≡ kept_granules (sliced i s low high) 0 s.granules
of_state low high new i s is =
    ext_get_or nothing new (kept_granules (sliced i s low high) 0 s.granules) (is.size ∙ sym (sliced_length i s low high 0 s.granules))
    (λ k lt. let inside : k < length s.granules = omega (arith, lt, is.size) in
    sliced_at i s low high 0 s.granules k (λ g. granule_at new k ≡ g) inside (λ a b. is.passed k (omega (arith, a), omega (arith, b))) (λ o. is.rest k (elim o [ inl a ↦ inl (omega (arith, a)) | inr b ↦ inr (omega (arith, b)) ])))

pub slices_heap : (ram low high : ℕ) (old new : List Granule) → IsSliced ram low high old new → SlicesHeap ram low high old new
slices_heap ram low high old new is i s ram_is old_is =
    subst (λ gs. new ≡ kept_granules (sliced i s low high) 0 gs) old_is
    (of_state low high new i s (subst (λ gs. IsSliced i.ram low high gs new) (sym old_is) (subst (λ r. IsSliced r low high old new) (sym ram_is) is)))
