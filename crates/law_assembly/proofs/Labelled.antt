-- Where the walk finds a label.
use Rattle.std.proofs.Common.{◌≡◌, ℕ, zero, suc, ◌+◌, ◌<◌, Bool, true, false, cond, [], ◌∷◌, Some, None, slice_get, refl, sym, ap, ◌∙◌, subst, arith, inl, inr, add-one}
use Rattle.std.proofs.lemmas.Bool.{cases_lt}
use Rattle.def_source.specs.declared.parts.Statement.{Statement}
use Rattle.def_source.specs.Source.{Name, Statements}
use Rattle.def_object.specs.declared.Place.{Place}
use Rattle.def_object.specs.declared.Label.{Label}
use Rattle.def_object.specs.Object.{is_label, label_from, label_in, place_after, offset, start}
use Rattle.def_assembly.specs.Sums.{section_at, total_before, AreSizes, IsPlaced}
use Rattle.law_assembly.proofs.Lengths.{Before, before_first, before_sized, offset_is, Rests, rest_first, rest_next, rests_all}

-- no statement before statement k is a label of that name
NoneBefore : Statements → Name → ℕ → Type 0
NoneBefore all name k = (i : ℕ) (x : Statement Name) → i < k → slice_get all i ≡ Some x → is_label name x.part ≡ false

none_next : (all : Statements) (name : Name) (k : ℕ) (x : Statement Name) → NoneBefore all name k → slice_get all k ≡ Some x → is_label name x.part ≡ false → NoneBefore all name (suc k)
unfolding NoneBefore
none_next all name k x none there other i y lt e = elim (cases_lt i k) [
  | inl below ↦ none i y below e
  | inr ge ↦
      let here : i ≡ k = omega (arith, lt, ge) in
      let both : Some y ≡ Some x = sym e ∙ ap (λ n. slice_get all n) here ∙ there in
      let same : x ≡ y = cc in
      subst (λ (z : Statement Name). is_label name z.part ≡ false) same other
]

made : Place → ℕ → Label
made p k = record { section = p.section; offset = offset p; index = k }

placed : (all : Statements) (sizes : ℕ → ℕ) (name : Name) (p : Place) (k : ℕ) (x : Statement Name) → Before all sizes k p → NoneBefore all name k → slice_get all k ≡ Some x → is_label name x.part ≡ true
    → IsPlaced all sizes name (made p k)
unfolding NoneBefore made
placed all sizes name p k x h none there is = record {
  first = record { statement = x; there = there; names = is; first = none };
  stands = h.stands;
  value = offset_is all sizes k p h ∙ ap (λ s. total_before (section_at all) sizes s k) (sym h.stands);
}

label_walk : (all : Statements) (sizes : ℕ → ℕ) (name : Name) (l : Label) (p : Place) (k : ℕ) (rest : Statements) → AreSizes all sizes → Before all sizes k p → Rests all k rest → NoneBefore all name k
    → label_from name p k rest ≡ Some l → IsPlaced all sizes name l
unfolding made
label_walk all sizes name l p k [] are h rests none e = cc
label_walk all sizes name l p k (x ∷ xs) are h rests none e =
    by (is_label name x.part) refl (λ other found. label_walk all sizes name l (place_after p x.part) (suc k) xs are (before_sized all sizes k p x are h there) (rest_next all k x xs rests) (none_next all name k x none there other)
    (subst (λ n. label_from name (place_after p x.part) n xs ≡ Some l) (add-one k) found)) e
  where
    there : slice_get all k ≡ Some x
    there = rest_first all k x xs rests

    by : (b : Bool) → is_label name x.part ≡ b → (is_label name x.part ≡ false → label_from name (place_after p x.part) (k + 1) xs ≡ Some l → IsPlaced all sizes name l)
        → cond b (Some (made p k)) (label_from name (place_after p x.part) (k + 1) xs) ≡ Some l → IsPlaced all sizes name l
    by true is later found = let same : made p k ≡ l = cc in subst (λ m. IsPlaced all sizes name m) same (placed all sizes name p k x h none there is)
    by false is later found = later is found

pub label_placed : (all : Statements) (sizes : ℕ → ℕ) (name : Name) (l : Label) → AreSizes all sizes → label_in all name ≡ Some l → IsPlaced all sizes name l
unfolding label_in NoneBefore
label_placed all sizes name l are e = label_walk all sizes name l start 0 all are (before_first all sizes) (rests_all all) (λ i x lt there. absurd (omega (arith, lt))) e

none_walk : (name : Name) (p : Place) (k : ℕ) (rest : Statements) → label_from name p k rest ≡ None → (i : ℕ) (y : Statement Name) → slice_get rest i ≡ Some y → is_label name y.part ≡ false
unfolding made
none_walk name p k [] e i y there = cc
none_walk name p k (x ∷ xs) e i y there = by (is_label name x.part) refl (λ none. none_walk name (place_after p x.part) (k + 1) xs none) e
  where
    by_place : (i : ℕ) → is_label name x.part ≡ false → ((j : ℕ) (z : Statement Name) → slice_get xs j ≡ Some z → is_label name z.part ≡ false) → slice_get (x ∷ xs) i ≡ Some y → is_label name y.part ≡ false
    by_place zero is later at = let same : x ≡ y = cc in subst (λ (z : Statement Name). is_label name z.part ≡ false) same is
    by_place (suc j) is later at = later j y at

    by : (b : Bool) → is_label name x.part ≡ b → (label_from name (place_after p x.part) (k + 1) xs ≡ None → (j : ℕ) (z : Statement Name) → slice_get xs j ≡ Some z → is_label name z.part ≡ false)
        → cond b (Some (made p k)) (label_from name (place_after p x.part) (k + 1) xs) ≡ None → is_label name y.part ≡ false
    by true is later none = absurd (let no : Some (made p k) ≡ None = none in cc)
    by false is later none = by_place i is (later none) there

pub no_label : (all : Statements) (name : Name) → label_in all name ≡ None → (k : ℕ) (x : Statement Name) → slice_get all k ≡ Some x → is_label name x.part ≡ false
unfolding label_in
no_label all name e = none_walk name start 0 all e
