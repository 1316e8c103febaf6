-- RAM while it is booted, granule by granule, and at the end.
use Rattle.std.proofs.Common.{ℕ, zero, suc, false, ◌+◌, ◌-◌, ◌*◌, ◌/◌, ◌%◌, ◌≡◌, ◌<◌, ◌≤◌, ◌⊎◌, ◌∙◌, inl, inr, List, [], ◌∷◌, Some, length, replicate, slice_get, refl, ap, sym, subst, arith}
use Rattle.std.proofs.Math.ListN.{get_or, set}
use Rattle.std.proofs.lemmas.List.{length-set, length-replicate}
use Rattle.law_lists.proofs.Sets.{after_set_at}
use Rattle.law_lists.proofs.Tests.{lt_tells}
use Rattle.def_words.specs.declared.Cap.{Cap}
use Rattle.def_memory.specs.declared.Granule.{Granule}
use Rattle.def_memory.specs.Granules.{plain, nothing, granule_at}
use Rattle.def_memory.specs.Accesses.{stored_cap}
use Rattle.def_image.specs.Parts.{PartsRow}
use Rattle.def_boot.specs.Contents.{boot_cap, boot_granule, boot_granules, granules_from, granules_in}
use Rattle.def_boot.specs.Booting.{BootPuts, empty_granules, IsDone, Booting, Stage, IsFrom}
use Rattle.def_boot.specs.Written.{IsBootWritten, InFirst}
use Rattle.law_boot.proofs.Zeros.{zero_else}
use Rattle.law_boot.proofs.Contents.{granules_count, granules_there}

-- ---- stages one after another

pub stage_none : (p : PartsRow) (gs : List Granule) (Of : ℕ → Type 0) → Booting p gs → ((x : ℕ) → Of x → ⊥) → Stage p gs gs Of
stage_none p gs Of h none = record { booting = h; keeps = λ k d. d; done = λ k of. absurd (none (p.ram + 8 * k) of) }

-- each granule that is asked for is of one of both
pub stage_then : (p : PartsRow) (a b c : List Granule) (P Q Of : ℕ → Type 0) → Stage p a b P → Stage p b c Q → ((x : ℕ) → x % 8 ≡ 0 → Of x → P x ⊎ Q x) → Stage p a c Of
stage_then p a b c P Q Of first second either = record {
  booting = second.booting;
  keeps = λ k d. second.keeps k (first.keeps k d);
  done = λ k of.
      let even = second.booting.ram in
      elim (either (p.ram + 8 * k) (omega (arith, even)) of) [ inl left ↦ second.keeps k (first.done k left) | inr right ↦ second.done k right ];
}

pub stage_as : (p : PartsRow) (a b : List Granule) (P Of : ℕ → Type 0) → Stage p a b P → ((x : ℕ) → Of x → P x) → Stage p a b Of
stage_as p a b P Of first each = record { booting = first.booting; keeps = first.keeps; done = λ k of. first.done k (each (p.ram + 8 * k) of) }

-- a range, and the range after it
pub stage_range : (p : PartsRow) (a b c : List Granule) (low mid high : ℕ) → Stage p a b (IsFrom low mid) → Stage p b c (IsFrom mid high) → Stage p a c (IsFrom low high)
stage_range p a b c low mid high first second = stage_then p a b c (IsFrom low mid) (IsFrom mid high) (IsFrom low high) first second (λ x even h. cut x h)
  where
    cut : (x : ℕ) → IsFrom low high x → IsFrom low mid x ⊎ IsFrom mid high x
    cut x h = elim (lt_tells x mid) [ inl lt ↦ inl (h.0, lt.1) | inr ge ↦ inr (ge.1, h.1) ]

-- a range, and one granule after it, which begins at a multiple of 8
pub stage_granule : (p : PartsRow) (a b c : List Granule) (low mid high : ℕ) → mid % 8 ≡ 0 → high ≤ mid + 8 → Stage p a b (IsFrom low mid) → Stage p b c (λ x. x ≡ mid) → Stage p a c (IsFrom low high)
stage_granule p a b c low mid high even size first second = stage_then p a b c (IsFrom low mid) (λ x. x ≡ mid) (IsFrom low high) first second (λ x unit h. cut x unit h)
  where
    cut : (x : ℕ) → x % 8 ≡ 0 → IsFrom low high x → IsFrom low mid x ⊎ (x ≡ mid)
    cut x unit h = elim (lt_tells x mid) [ inl lt ↦ inl (h.0, lt.1) | inr ge ↦ let above = ge.1 in let below = h.1 in inr (omega (arith, above, below, size, unit, even)) ]

-- a range of nothing
pub stage_empty : (p : PartsRow) (gs : List Granule) (low : ℕ) → Booting p gs → Stage p gs gs (IsFrom low low)
stage_empty p gs low h = stage_none p gs (IsFrom low low) h (λ x f. let a = f.0 in let b = f.1 in omega (arith, a, b))

-- one granule
pub stage_one : (p : PartsRow) (a b : List Granule) (low high : ℕ) → low % 8 ≡ 0 → high ≤ low + 8 → Stage p a b (λ x. x ≡ low) → Stage p a b (IsFrom low high)
stage_one p a b low high even size h = record {
  booting = h.booting;
  keeps = h.keeps;
  done = λ k of. (let ram = h.booting.ram in let from = of.0 in let to = of.1 in h.done k (omega (arith, ram, from, to, even, size)));
}

-- ---- members of a list

pub none_yet : {A : Type 0} (p : PartsRow) (gs : List Granule) (In : A → ℕ → Type 0) (xs : List A) → Booting p gs → Stage p gs gs (InFirst In xs 0)
none_yet p gs In xs h = stage_none p gs (InFirst In xs 0) h (λ x f. let lt = f.1 in omega (arith, lt))

pub one_more : {A : Type 0} (p : PartsRow) (a b c : List Granule) (In : A → ℕ → Type 0) (xs : List A) (n : ℕ) (y : A) → slice_get xs n ≡ Some y
    → Stage p a b (InFirst In xs n) → Stage p b c (In y) → Stage p a c (InFirst In xs (n + 1))
one_more {A = A} p a b c In xs n y there first second = stage_then p a b c (InFirst In xs n) (In y) (InFirst In xs (n + 1)) first second (λ x even h. cut x h)
  where
    same_member : (i : ℕ) (z : A) (x : ℕ) → i ≡ n → slice_get xs i ≡ Some z → In z x → In y x
    same_member i z x e is h =
        let both : Some z ≡ Some y = sym is ∙ ap (λ k. slice_get xs k) e ∙ there in
        let same : z ≡ y = cc in
        subst (λ w. In w x) same h

    cut : (x : ℕ) → InFirst In xs (n + 1) x → InFirst In xs n x ⊎ In y x
    cut x (i, lt, z, is, h) = elim (lt_tells i n) [
      | inl less ↦ inl (i, less.1, z, is, h)
      | inr more ↦ let over = more.1 in inr (same_member i z x (omega (arith, over, lt)) is h)
    ]

-- ---- one granule is written

unmarked : (p : PartsRow) (gs : List Granule) (k : ℕ) → Booting p gs → (granule_at gs k).mark ≡ false
unmarked p gs k h = elim (h.each k) [ inl d ↦ ap (λ (g : Granule). g.mark) d | inr n ↦ ap (λ (g : Granule). g.mark) n ]

got : (gs : List Granule) (i : ℕ) (g : Granule) → i < length gs → get_or (set gs i g) i nothing ≡ g
got [] i g lt = absurd (omega (arith, lt))
got (y ∷ ys) zero g lt = refl
got (y ∷ ys) (suc i) g lt = got ys i g (omega (arith, lt))

pub put_stage : (p : PartsRow) (gs : List Granule) (x : ℕ) (c : Cap) → Booting p gs → BootPuts p x c → Stage p gs (stored_cap gs (x - p.ram) c) (λ y. y ≡ x)
put_stage p gs x c h u = record {
  booting = record {
    ram = h.ram;
    size = length-set gs i g ∙ h.size;
    each = λ k. after_set_at (λ n y. (y ≡ boot_granule p (p.ram + 8 * n)) ⊎ (y ≡ nothing)) gs i k g nothing (inl right) (h.each k);
  };
  keeps = λ k d. after_set_at (λ n y. y ≡ boot_granule p (p.ram + 8 * n)) gs i k g nothing right d;
  done = λ k at.
      let same : k ≡ (x - p.ram) / 8 = omega (arith, at) in
      subst (λ n. IsDone p (stored_cap gs (x - p.ram) c) n) (sym same) (got gs i g inside ∙ right);
}
  where
    i : ℕ
    i = (x - p.ram) / 8

    g : Granule
    g = record { cap = c; mark = (granule_at gs ((x - p.ram) / 8)).mark }

    place : x ≡ p.ram + 8 * ((x - p.ram) / 8)
    place = let low = u.low in let even = u.even in let ram = h.ram in omega (arith, low, even, ram)

    right : g ≡ boot_granule p (p.ram + 8 * ((x - p.ram) / 8))
    right =
        let cap : c ≡ boot_cap p (p.ram + 8 * ((x - p.ram) / 8)) = u.is ∙ ap (boot_cap p) place in
        rw (cap, unmarked p gs ((x - p.ram) / 8) h) refl

    inside : (x - p.ram) / 8 < length gs
    inside = let high = u.high in let low = u.low in let size = h.size in let even = u.even in let ram = h.ram in omega (arith, high, low, size, even, ram)

-- ---- RAM before and after

empty_at : (n k : ℕ) → get_or (replicate n nothing) k nothing ≡ nothing
empty_at zero k = refl
empty_at (suc n) zero = refl
empty_at (suc n) (suc k) = empty_at n k

pub empty_booting : (p : PartsRow) (gs : List Granule) → p.ram % 8 ≡ 0 → gs ≡ empty_granules p → Booting p gs
empty_booting p gs even e =
    let P : List Granule → Type 0 = λ z. Booting p z in
    subst P (sym e) (record { ram = even; size = length-replicate (granules_in p) nothing; each = λ k. inr (empty_at (granules_in p) k) })

same_lists : (xs ys : List Granule) → length xs ≡ length ys → ((k : ℕ) → k < length xs → get_or xs k nothing ≡ get_or ys k nothing) → xs ≡ ys
same_lists [] [] e each = refl
same_lists [] (y ∷ ys) e each = absurd (omega (arith, e))
same_lists (x ∷ xs) [] e each = absurd (omega (arith, e))
same_lists (x ∷ xs) (y ∷ ys) e each =
    let here : x ≡ y = each 0 (omega arith) in
    let rest : xs ≡ ys = same_lists xs ys (omega (arith, e)) (λ k lt. each (suc k) (omega (arith, lt))) in
    rw (here, rest) refl

-- RAM in which all that is written at boot stands, and else zeros, is RAM as the parts boot it
pub whole : (p : PartsRow) (gs : List Granule) → Booting p gs → ((k : ℕ) → IsBootWritten p (p.ram + 8 * k) → IsDone p gs k) → gs ≡ boot_granules p
unfolding boot_granules
whole p gs h done =
    let count = granules_count p p.ram (granules_in p) in
    let size = h.size in
    same_lists gs (granules_from p p.ram (granules_in p)) (size ∙ sym count) (λ k lt. each k ∙ sym (granules_there p p.ram (granules_in p) k (omega (arith, lt, size))))
  where
    zeros : (k : ℕ) → boot_cap p (p.ram + 8 * k) ≡ plain 0 → IsDone p gs k
    zeros k e = elim (h.each k) [ inl d ↦ d | inr n ↦ n ∙ (rw e refl) ]

    each : (k : ℕ) → IsDone p gs k
    each k = elim (zero_else p (p.ram + 8 * k)) [ inl written ↦ done k written | inr none ↦ zeros k none ]
