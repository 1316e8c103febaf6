-- The bytes of a script come step by step, each once.
use Rattle.std.proofs.Common.{◌≡◌, ℕ, suc, ◌+◌, ◌<◌, ◌≤◌, ◌==◌, nat_le, List, [], ◌∷◌, Bool, true, false, inl, inr, refl, ◌∙◌, arith, length, map, filter}
use Rattle.std.specs.List.{All}
use Rattle.std.proofs.lemmas.List.{length-map}
use Rattle.std.proofs.lemmas.List.Elements.{All-filter, All-map}
use Rattle.law_lists.proofs.Tests.{eq_tells, le_tells}
use Rattle.def_script.specs.declared.Given.{Given}
use Rattle.def_script.specs.Script.{Due, given_at}
use Rattle.def_script.specs.Coming.{left_from}

abbrev comes_at : ℕ → Due → Bool
comes_at step d = d.step == step

abbrev comes_from : ℕ → Due → Bool
comes_from step d = nat_le step d.step

abbrev count : (Due → Bool) → List Due → ℕ
count p ds = length (filter p ds)

with_head : (p : Due → Bool) (d : Due) (ds : List Due) → p d ≡ true → count p (d ∷ ds) ≡ suc (count p ds)
with_head p d ds pass = rw pass refl

without_head : (p : Due → Bool) (d : Due) (ds : List Due) → p d ≡ false → count p (d ∷ ds) ≡ count p ds
without_head p d ds fail = rw fail refl

parted : (ds : List Due) (step : ℕ) → count (comes_at step) ds + count (comes_from (step + 1)) ds ≡ count (comes_from step) ds
parted [] step = refl
parted (d ∷ ds) step =
    let rest = parted ds step in
    elim (le_tells (step + 1) d.step) [
      | inl later ↦ elim (eq_tells d.step step) [
        | inl same ↦ absurd (omega (arith, later.1, same.1))
        | inr other ↦ elim (le_tells step d.step) [
          | inl from ↦ omega (arith, rest, without_head (comes_at step) d ds other.0, with_head (comes_from (step + 1)) d ds later.0, with_head (comes_from step) d ds from.0)
          | inr before ↦ absurd (omega (arith, later.1, before.1))
        ]
      ]
      | inr sooner ↦ elim (eq_tells d.step step) [
        | inl same ↦ elim (le_tells step d.step) [
          | inl from ↦ omega (arith, rest, with_head (comes_at step) d ds same.0, without_head (comes_from (step + 1)) d ds sooner.0, with_head (comes_from step) d ds from.0)
          | inr before ↦ absurd (omega (arith, same.1, before.1))
        ]
        | inr other ↦ elim (le_tells step d.step) [
          | inl from ↦ absurd (other.1 (let same : d.step ≡ step = omega (arith, sooner.1, from.1) in same))
          | inr before ↦ omega (arith, rest, without_head (comes_at step) d ds other.0, without_head (comes_from (step + 1)) d ds sooner.0, without_head (comes_from step) d ds before.0)
        ]
      ]
    ]

pub come_once : (ds : List Due) (step : ℕ) → length (given_at ds step) + left_from ds (step + 1) ≡ left_from ds step
come_once ds step =
    let same = length-map (filter (comes_at step) ds) (λ (d : Due). d.given) in
    let both = parted ds step in
    omega (arith, same, both)

pub no_more : (ds : List Due) (step : ℕ) → left_from ds step ≤ length ds
no_more [] step = omega arith
no_more (d ∷ ds) step =
    let rest = no_more ds step in
    elim (le_tells step d.step) [
      | inl from ↦ omega (arith, rest, with_head (comes_from step) d ds from.0)
      | inr before ↦ omega (arith, rest, without_head (comes_from step) d ds before.0)
    ]

pub all_given : (P : Given → Type 0) (ds : List Due) (step : ℕ) → All (λ (d : Due). P d.given) ds → All P (given_at ds step)
all_given P ds step h = All-map P (λ (d : Due). d.given) (filter (comes_at step) ds) (All-filter (comes_at step) (λ (d : Due). P d.given) ds h)
