-- Ranges of RAM that are booted, one granule or one range after another.
use Rattle.std.proofs.Common.{ℕ, ◌≡◌, ◌+◌, ◌*◌, ◌%◌, ◌<◌, inl, inr, List, length, Some, slice_get, sym, ap, ◌∙◌, subst, arith}
use Rattle.std.specs.Prelude.{slice_index_or}
use Rattle.std.proofs.lemmas.Option.{slice_get_within, slice_get-get_or}
use Rattle.def_memory.specs.declared.Granule.{Granule}
use Rattle.def_image.specs.Parts.{PartsRow}
use Rattle.def_boot.specs.Booting.{Stage, IsFrom}
use Rattle.def_boot.specs.Written.{InCode, InCompartment, InSealed, InFirst, OfAny}
use Rattle.def_boot.specs.Contents.{boot_granules}
use Rattle.law_boot.proofs.Stages.{stage_granule, stage_one, whole}

-- granule i of a range is booted after those before it
pub next_granule : (p : PartsRow) (a b c : List Granule) (base i : ℕ) → (base + 8 * i) % 8 ≡ 0 → Stage p a b (IsFrom base (base + 8 * i)) → Stage p b c (λ x. x ≡ base + 8 * i) → Stage p a c (IsFrom base (base + 8 * (i + 1)))
next_granule p a b c base i even first second = stage_granule p a b c base (base + 8 * i) (base + 8 * (i + 1)) even (omega arith) first second

-- two granules
pub both_granules : (p : PartsRow) (a b c : List Granule) (base : ℕ) → base % 8 ≡ 0 → Stage p a b (λ x. x ≡ base) → Stage p b c (λ x. x ≡ base + 8) → Stage p a c (IsFrom base (base + 16))
both_granules p a b c base even first second =
    stage_granule p a b c base (base + 8) (base + 16) (omega (arith, even)) (omega arith) (stage_one p a b base (base + 8) even (omega arith) first) second

pub granule_at : (p : PartsRow) (a b : List Granule) (low from : ℕ) → Stage p a b (λ x. x ≡ low) → from ≡ low → Stage p a b (λ x. x ≡ from)
granule_at p a b low from h start = subst (λ z. Stage p a b (λ x. x ≡ z)) (sym start) h

-- what an index reads is there
pub got_of : {A : Type 0} (xs ys : List A) (k : ℕ) (x : A) → xs ≡ ys → k < length ys → x ≡ slice_index_or xs k x → slice_get ys k ≡ Some x
got_of xs ys k x same lt read = slice_get-get_or ys k x lt ∙ ap (λ z. Some z) (sym (read ∙ ap (λ zs. slice_index_or zs k x) same))

-- ---- all of RAM

of_first : {A : Type 0} (In : A → ℕ → Type 0) (xs : List A) (x : ℕ) → OfAny In xs x → InFirst In xs (length xs) x
of_first In xs x (i, y, is, h) = (i, slice_get_within xs i y is, y, is, h)

pub filled : (p : PartsRow) (a b c d e : List Granule) → Stage p a b (InFirst InCompartment p.compartments (length p.compartments)) → Stage p b c (InFirst InCode p.libraries (length p.libraries))
    → Stage p c d (InFirst InSealed p.sealed (length p.sealed)) → Stage p d e (λ x. x ≡ p.trusted) → p.trusted % 8 ≡ 0 → e ≡ boot_granules p
filled p a b c d e owners libraries sealed sentry even =
    whole p e sentry.booting (λ k w. elim w [
      | inl own ↦ sentry.keeps k (sealed.keeps k (libraries.keeps k (owners.done k (of_first InCompartment p.compartments (p.ram + 8 * k) own))))
      | inr (inl lib) ↦ sentry.keeps k (sealed.keeps k (libraries.done k (of_first InCode p.libraries (p.ram + 8 * k) lib)))
      | inr (inr (inl box)) ↦ sentry.keeps k (sealed.done k (of_first InSealed p.sealed (p.ram + 8 * k) box))
      | inr (inr (inr head)) ↦ (stage_one p d e p.trusted (p.trusted + 8) even (omega arith) sentry).done k head
    ])
