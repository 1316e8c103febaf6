-- The region that an address lies in.
use Rattle.std.proofs.Common.{ℕ, zero, suc, ◌≡◌, ◌+◌, ◌⊎◌, inl, inr, true, false, List, [], ◌∷◌, Some, None, slice_get, refl, sym, ap, ◌∙◌, subst, arith}
use Rattle.law_lists.proofs.Tests.{le_tells, lt_tells}
use Rattle.def_image.specs.Parts.{PartsRow}
use Rattle.def_image.specs.Regions.{RegionRow, regions_of}
use Rattle.def_image.specs.Laid.{IsIn, IsRegion}
use Rattle.def_image.specs.Sound.{Sound}
use Rattle.def_boot.specs.Contents.{covers, region_in, region_at}

cover_tells : (x : ℕ) (r : RegionRow) → ((covers x r ≡ true) × IsIn r x) ⊎ ((covers x r ≡ false) × (IsIn r x → ⊥))
cover_tells x r = elim (le_tells r.base x) [
  | inl low ↦ elim (lt_tells x (r.base + r.length)) [
    | inl high ↦ inl (rw (low.0, high.0) refl, (low.1, high.1))
    | inr past ↦ inr (rw (low.0, past.0) refl, λ h. let lt = h.1 in let le = past.1 in omega (arith, lt, le))
  ]
  | inr under ↦ inr (rw under.0 refl, λ h. let le = h.0 in let lt = under.1 in omega (arith, le, lt))
]

-- the first that covers it, where no two do
found_in : (rs : List RegionRow) (x : ℕ) → ((i j : ℕ) (r q : RegionRow) → slice_get rs i ≡ Some r → slice_get rs j ≡ Some q → IsIn r x → IsIn q x → i ≡ j)
    → (i : ℕ) (r : RegionRow) → slice_get rs i ≡ Some r → IsIn r x → region_in rs x ≡ Some r
found_in [] x one i r is lies = cc
found_in (q ∷ qs) x one zero r is lies =
    let same : q ≡ r = cc in
    elim (cover_tells x q) [
      | inl there ↦ rw there.0 (ap (λ z. Some z) same)
      | inr away ↦ absurd (away.1 (subst (λ z. IsIn z x) (sym same) lies))
    ]
found_in (q ∷ qs) x one (suc i) r is lies =
    elim (cover_tells x q) [
      | inl there ↦ absurd (let clash : 0 ≡ suc i = one 0 (suc i) q r refl is there.1 lies in omega (arith, clash))
      | inr away ↦ rw away.0 (found_in qs x (λ a b s t e f g h. let more : suc a ≡ suc b = one (suc a) (suc b) s t e f g h in omega (arith, more)) i r is lies)
    ]

-- an address of a region of a sound image is found in it
pub found : (p : PartsRow) → Sound p → (i x : ℕ) (r : RegionRow) → IsRegion p i r → IsIn r x → region_at p x ≡ Some r
unfolding region_at
found p s i x r is lies = found_in (regions_of p) x (λ a b q t e f. s.laid.one a b x q t e f) i r is lies

none_in : (rs : List RegionRow) (x : ℕ) → ((i : ℕ) (r : RegionRow) → slice_get rs i ≡ Some r → IsIn r x → ⊥) → region_in rs x ≡ None
none_in [] x none = refl
none_in (q ∷ qs) x none = elim (cover_tells x q) [
  | inl there ↦ absurd (none 0 q refl there.1)
  | inr away ↦ rw away.0 (none_in qs x (λ i r is. none (suc i) r is))
]

pub none_there : (p : PartsRow) (x : ℕ) → ((i : ℕ) (r : RegionRow) → IsRegion p i r → IsIn r x → ⊥) → region_at p x ≡ None
unfolding region_at
none_there p x none = none_in (regions_of p) x none

-- what is found is there
pub record Lying (p : PartsRow) (x : ℕ) (r : RegionRow) : Type 0 where
  pub index : ℕ
  pub there : IsRegion p index r
  pub lies : IsIn r x

back_in : (rs : List RegionRow) (x : ℕ) (r : RegionRow) → region_in rs x ≡ Some r → (i : ℕ) × (slice_get rs i ≡ Some r) × IsIn r x
back_in [] x r is = cc
back_in (q ∷ qs) x r is = elim (cover_tells x q) [
  | inl there ↦
      let is_here : Some q ≡ Some r = sym (rw there.0 refl) ∙ is in
      let same : q ≡ r = cc in
      (0, ap (λ z. Some z) same, subst (λ z. IsIn z x) same there.1)
  | inr away ↦
      let is_later : region_in qs x ≡ Some r = sym (rw away.0 refl) ∙ is in
      let more = back_in qs x r is_later in
      (suc more.0, more.1, more.2)
]

pub back : (p : PartsRow) (x : ℕ) (r : RegionRow) → region_at p x ≡ Some r → Lying p x r
unfolding region_at
back p x r is = let found = back_in (regions_of p) x r is in record { index = found.0; there = found.1; lies = found.2 }
