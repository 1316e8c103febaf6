-- F10: what the addresses of devices and RAM say.
use Rattle.std.proofs.Common.{ℕ, zero, suc, ◌≡◌, ◌+◌, ◌%◌, ◌==◌, ◌&&◌, ◌||◌, not, Bool, true, false, cond, nat_eq, List, [], ◌∷◌, ◌++◌, length, Some, None, slice_get, refl, sym, ap, ap₂, ◌∙◌, subst, arith, inl, inr}
use Rattle.std.specs.List.{AllByRecursion, list_any}
use Rattle.std.proofs.lemmas.Bool.{eqb-true, not-false, or_parts}
use Rattle.ct_entry.specs.Listed.{DeviceRow}
use Rattle.law_lists.proofs.Tests.{lt_tells}
use Rattle.law_lists.proofs.Places.{any_not, still_there}
use Rattle.def_image.specs.Sound.{IsAway}
use Rattle.def_desc.specs.declared.Ram.{Ram}
use Rattle.def_desc.specs.declared.faults.PartWord.TheVariants as part
use Rattle.def_desc.specs.Rows.{DescRow}
use Rattle.def_desc.specs.Walk.{place}
use Rattle.def_desc.specs.Addresses.{meets, meets_native, meets_device, is_astray, first_astray, address_fault}
use Rattle.def_desc.specs.Lawful.{AreApart}
use Rattle.law_desc.proofs.Lists.{at_the_end}

away : (a m b n : ℕ) → meets a m b n ≡ false → IsAway a m b (b + n)
away a m b n e = elim (lt_tells a (b + n)) [
  | inr h ↦ inr h.1
  | inl h ↦ elim (lt_tells b (a + m)) [
    | inr k ↦ inl k.1
    | inl k ↦ absurd (let all : meets a m b n ≡ true = ap₂ (λ p q. p && q) h.0 k.0 in let no : true ≡ false = sym all ∙ e in cc)
  ]
]

at_itself : (a : ℕ) → meets a 16 a 16 ≡ true
at_itself a = elim (lt_tells a (a + 16)) [
  | inl h ↦ ap₂ (λ p q. p && q) h.0 h.0
  | inr h ↦ absurd (let le = h.1 in omega (arith, le))
]

pub record Placed (r : Ram) (x : DeviceRow) : Type 0 where
  pub even : x.base % 16 ≡ 0
  pub ram : IsAway x.base 16 r.base (r.base + r.size)
  pub native : IsAway x.base 16 65536 69632

head_placed : (r : Ram) (earlier xs : List DeviceRow) (x : DeviceRow) → first_astray r earlier (x ∷ xs) ≡ None
    → (is_astray r earlier x ≡ false) × (first_astray r (earlier ++ x ∷ []) xs ≡ None)
head_placed r earlier xs x e = by (is_astray r earlier x) refl e
  where
    by : (b : Bool) → is_astray r earlier x ≡ b → cond b (Some (place part.Device (length earlier) 0)) (first_astray r (earlier ++ x ∷ []) xs) ≡ None
        → (is_astray r earlier x ≡ false) × (first_astray r (earlier ++ x ∷ []) xs ≡ None)
    by true is h = absurd (let no : Some (place part.Device (length earlier) 0) ≡ None = h in cc)
    by false is h = (is, h)

placed_one : (r : Ram) (earlier : List DeviceRow) (x : DeviceRow) → is_astray r earlier x ≡ false → Placed r x
placed_one r earlier x e =
    let a = not (x.base % 16 == 0) in
    let b = meets x.base 16 r.base r.size in
    let c = list_any (meets_device x.base) earlier in
    let d = meets_native x.base 16 in
    let abc = (or_parts (a || b || c) d e).0 in
    let ab = (or_parts (a || b) c abc).0 in
    record {
      even = eqb-true (x.base % 16) 0 (not-false (nat_eq (x.base % 16) 0) (or_parts a b ab).0);
      ram = away x.base 16 r.base r.size (or_parts a b ab).1;
      native = away x.base 16 65536 4096 (or_parts (a || b || c) d e).1;
    }

alone : (r : Ram) (earlier : List DeviceRow) (x : DeviceRow) → is_astray r earlier x ≡ false → list_any (meets_device x.base) earlier ≡ false
alone r earlier x e =
    let a = not (x.base % 16 == 0) in
    let b = meets x.base 16 r.base r.size in
    let c = list_any (meets_device x.base) earlier in
    (or_parts (a || b) c (or_parts (a || b || c) (meets_native x.base 16) e).0).1

all_placed : (r : Ram) (earlier xs : List DeviceRow) → first_astray r earlier xs ≡ None → AllByRecursion (Placed r) xs
all_placed r earlier [] e = tt
all_placed r earlier (x ∷ xs) e =
    let h = head_placed r earlier xs x e in
    (placed_one r earlier x h.0, all_placed r (earlier ++ x ∷ []) xs h.1)

-- none meets one that was seen before
none_meets : (r : Ram) (seen xs : List DeviceRow) → first_astray r seen xs ≡ None → (j k : ℕ) (y z : DeviceRow)
    → slice_get xs j ≡ Some y → slice_get seen k ≡ Some z → meets_device y.base z ≡ false
none_meets r seen [] e j k y z at_j at_k = absurd (let no : None ≡ Some y = at_j in cc)
none_meets r seen (x ∷ xs) e zero k y z at_j at_k =
    let same : x ≡ y = cc in
    let h = head_placed r seen xs x e in
    subst (λ (q : DeviceRow). meets_device q.base z ≡ false) same (any_not (meets_device x.base) seen k z (alone r seen x h.0) at_k)
none_meets r seen (x ∷ xs) e (suc j) k y z at_j at_k =
    let h = head_placed r seen xs x e in
    none_meets r (seen ++ x ∷ []) xs h.1 j k y z at_j (still_there seen (x ∷ []) k z at_k)

clash : (x y : DeviceRow) → x.base ≡ y.base → meets_device y.base x ≡ false → ⊥
clash x y same e = let all : meets y.base 16 x.base 16 ≡ true = subst (λ b. meets y.base 16 b 16 ≡ true) (sym same) (at_itself y.base) in absurd (let no : true ≡ false = sym all ∙ e in cc)

are_apart : (r : Ram) (seen xs : List DeviceRow) → first_astray r seen xs ≡ None → AreApart xs
are_apart r seen [] e i j x y at_i at_j same = absurd (let no : None ≡ Some x = at_i in cc)
are_apart r seen (z ∷ zs) e zero zero x y at_i at_j same = refl
are_apart r seen (z ∷ zs) e zero (suc j) x y at_i at_j same =
    let first : z ≡ x = cc in
    let h = head_placed r seen zs z e in
    let end = at_the_end seen z in
    absurd (clash x y same (subst (λ q. meets_device y.base q ≡ false) first (none_meets r (seen ++ z ∷ []) zs h.1 j end.0 y z at_j end.1)))
are_apart r seen (z ∷ zs) e (suc i) zero x y at_i at_j same =
    let first : z ≡ y = cc in
    let h = head_placed r seen zs z e in
    let end = at_the_end seen z in
    absurd (clash y x (sym same) (subst (λ q. meets_device x.base q ≡ false) first (none_meets r (seen ++ z ∷ []) zs h.1 i end.0 x z at_i end.1)))
are_apart r seen (z ∷ zs) e (suc i) (suc j) x y at_i at_j same =
    let h = head_placed r seen zs z e in
    ap suc (are_apart r (seen ++ z ∷ []) zs h.1 i j x y at_i at_j same)

pub record Addressed (r : DescRow) : Type 0 where
  pub native : IsAway r.ram.base r.ram.size 65536 69632
  pub each : AllByRecursion (Placed r.ram) r.devices
  pub apart : AreApart r.devices

pub addressed : (r : DescRow) → address_fault r ≡ None → Addressed r
addressed r e = by (meets_native r.ram.base r.ram.size) refl e
  where
    by : (b : Bool) → meets_native r.ram.base r.ram.size ≡ b → cond b (Some (place part.Ram 0 0)) (first_astray r.ram [] r.devices) ≡ None → Addressed r
    by true is h = absurd (let no : Some (place part.Ram 0 0) ≡ None = h in cc)
    by false is h = record {
      native = away r.ram.base r.ram.size 65536 4096 is;
      each = all_placed r.ram [] r.devices h;
      apart = are_apart r.ram [] r.devices h;
    }
