-- What a sweep changes of RAM: tags of what lies over marked granules go, and marks.
use Rattle.std.proofs.Common.{ℕ, zero, suc, ◌≡◌, ◌+◌, ◌⊎◌, ◌&&◌, inl, inr, true, false, nat_le, nat_lt, List, [], ◌∷◌, Option, Some, None, refl, sym, ◌∙◌, subst}
use Rattle.law_lists.proofs.Tests.{chosen, both_left, both_right}
use Rattle.def_words.specs.declared.Cap.{Cap}
use Rattle.def_words.specs.Authority.{cap_base}
use Rattle.def_words.specs.Capability.{untagged}
use Rattle.def_memory.specs.declared.Granule.{Granule}
use Rattle.def_memory.specs.Granules.{plain, granule_at}
use Rattle.def_machine.specs.Platform.{Platform}
use Rattle.def_machine.specs.Image.{Image}
use Rattle.def_machine.specs.Memory.{is_marked_in, filtered_in}
use Rattle.def_machine.specs.Objects.{has_quarantined, painted, is_painted_at}
use Rattle.def_machine.specs.Slices.{filtered_between, kept_granules, marks_cleared}
use Rattle.def_machine.specs.State.{State, Object, granule}
use Rattle.def_machine.specs.Heap.{sliced, with_slice, slice_end, sweep_over, ram_size, sweep_began, sweep_on, swept}
use Rattle.def_confined.specs.Confined.{Confined}
use Rattle.law_moves.proofs.Ends.{unmarked_cap}
use Rattle.def_integrity.specs.Touched.{IsSwept}

-- ---- one value

-- as it was, or without its tag, over a mark of these granules
abbrev pub FilteredIn : Image → List Granule → Cap → Cap → Type 0
FilteredIn i gs c d =
    (d ≡ c)
    ⊎ ((c.tag ≡ true) × (is_marked_in i.ram gs (cap_base c) ≡ true) × (d ≡ untagged c))

pub filter_says : (i : Image) (gs : List Granule) (c : Cap) → FilteredIn i gs c (filtered_in i.ram gs c)
filter_says i gs c = chosen (FilteredIn i gs c) (c.tag && is_marked_in i.ram gs (cap_base c)) (untagged c) c
    (λ is. inr (both_left c.tag (is_marked_in i.ram gs (cap_base c)) is, both_right c.tag (is_marked_in i.ram gs (cap_base c)) is, refl))
    (λ not. inl refl)

pub slice_says : (i : Image) (gs : List Granule) (low high offset : ℕ) (c : Cap) → FilteredIn i gs c (filtered_between i.ram gs low high offset c)
slice_says i gs low high offset c = chosen (FilteredIn i gs c) (nat_le low offset && nat_lt offset high) (filtered_in i.ram gs c) c
    (λ is. filter_says i gs c)
    (λ not. inl refl)

-- ---- granules

pub slice_zero : (ram : ℕ) (gs : List Granule) (low high offset : ℕ) → filtered_between ram gs low high offset (plain 0) ≡ plain 0
slice_zero ram gs low high offset = chosen (λ z. z ≡ plain 0) (nat_le low offset && nat_lt offset high) (filtered_in ram gs (plain 0)) (plain 0) (λ is. refl) (λ not. refl)

-- each is what is kept at some offset
kept_cap : (keep : ℕ → Cap → Cap) → ((n : ℕ) → keep n (plain 0) ≡ plain 0) → (offset : ℕ) (gs : List Granule) (k : ℕ) → (n : ℕ) × ((granule_at (kept_granules keep offset gs) k).cap ≡ keep n (granule_at gs k).cap)
kept_cap keep none offset [] k = (0, sym (none 0))
kept_cap keep none offset (g ∷ gs) zero = (offset, refl)
kept_cap keep none offset (g ∷ gs) (suc k) = kept_cap keep none (offset + 8) gs k

kept_mark : (keep : ℕ → Cap → Cap) (offset : ℕ) (gs : List Granule) (k : ℕ) → (granule_at (kept_granules keep offset gs) k).mark ≡ (granule_at gs k).mark
kept_mark keep offset [] k = refl
kept_mark keep offset (g ∷ gs) zero = refl
kept_mark keep offset (g ∷ gs) (suc k) = kept_mark keep (offset + 8) gs k

cleared_mark : (rows : List Object) (x : ℕ) (gs : List Granule) (k : ℕ) → ((granule_at (marks_cleared rows x gs) k).mark ≡ (granule_at gs k).mark) ⊎ ((granule_at (marks_cleared rows x gs) k).mark ≡ false)
cleared_mark rows x [] k = inl refl
cleared_mark rows x (g ∷ gs) zero = chosen (λ m. (m ≡ g.mark) ⊎ (m ≡ false)) (is_painted_at rows x) false g.mark (λ is. inr refl) (λ not. inl refl)
cleared_mark rows x (g ∷ gs) (suc k) = cleared_mark rows (x + 8) gs k

-- ---- a sweep

-- what a sweep leaves of a granule: its mark is as it was, or gone
record SweptIn (i : Image) (gs : List Granule) (k : ℕ) (new : Granule) : Type 0 where
  cap : FilteredIn i gs (granule_at gs k).cap new.cap
  mark : (new.mark ≡ (granule_at gs k).mark) ⊎ (new.mark ≡ false)

slice_in : (i : Image) (s : State) (low high k : ℕ) → SweptIn i s.granules k (granule (with_slice i s low high) k)
slice_in i s low high k =
    let at = kept_cap (sliced i s low high) (slice_zero i.ram s.granules low high) 0 s.granules k in
    record {
      cap = subst (FilteredIn i s.granules (granule s k).cap) (sym at.1) (slice_says i s.granules low high at.0 (granule s k).cap);
      mark = inl (kept_mark (sliced i s low high) 0 s.granules k);
    }

over_in : (i : Image) (gs : List Granule) (s : State) (k : ℕ) → SweptIn i gs k (granule s k) → SweptIn i gs k (granule (sweep_over i s) k)
over_in i gs s k h = record {
  cap = subst (FilteredIn i gs (granule_at gs k).cap) (sym (unmarked_cap s.objects i.ram s.granules k)) h.cap;
  mark = elim (cleared_mark s.objects i.ram s.granules k) [
    | inl same ↦ elim h.mark [ inl was ↦ inl (same ∙ was) | inr none ↦ inr (same ∙ none) ]
    | inr none ↦ inr none
  ];
}

on_in : (i : Image) (s : State) (o : Option ℕ) (k : ℕ) → SweptIn i s.granules k (granule (sweep_on i s o) k)
on_in i s None k = record { cap = inl refl; mark = inl refl }
on_in i s (Some front) k =
    chosen (λ (z : State). SweptIn i s.granules k (granule z k)) (nat_le (ram_size (with_slice i s front (slice_end i s front))) (slice_end i s front)) (sweep_over i (with_slice i s front (slice_end i s front))) (with_slice i s front (slice_end i s front))
    (λ is. over_in i s.granules (with_slice i s front (slice_end i s front)) k (slice_in i s front (slice_end i s front) k))
    (λ not. slice_in i s front (slice_end i s front) k)

began_ram : (s : State) (o : Option ℕ) → (sweep_began s o).granules ≡ s.granules
began_ram s None = chosen (λ (z : State). z.granules ≡ s.granules) (has_quarantined s.objects) (record s { objects = painted s.objects; front = Some 0 }) s (λ is. refl) (λ not. refl)
began_ram s (Some front) = refl

sweep_in : (b : Platform) (s : State) (k : ℕ) → SweptIn b.image s.granules k (granule (swept b.image s) k)
sweep_in b s k = subst (λ gs. SweptIn b.image gs k (granule (swept b.image s) k)) (began_ram s s.front) (on_in b.image (sweep_began s s.front) (sweep_began s s.front).front k)

-- where the state after it is confined, a mark that went covers no quarantined object
pub sweep_says : (b : Platform) (s : State) (k : ℕ) → Confined b.image (swept b.image s) → IsSwept b s (swept b.image s) k
sweep_says b s k after =
    let h = sweep_in b s k in
    record {
      cap = h.cap;
      mark = elim h.mark [
        | inl stays ↦ inl stays
        | inr gone ↦ inr (gone, λ covered. absurd (let clash : true ≡ false = sym ((after.marks k).all covered) ∙ gone in cc))
      ];
    }
