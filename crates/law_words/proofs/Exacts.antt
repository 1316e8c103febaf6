-- What needs no rounding: a range of at most 511 addresses.
use Rattle.std.proofs.Common.{ℕ, ◌+◌, ◌<◌, ◌≤◌, ◌≡◌, ◌==◌, ◌&&◌, true, refl, arith, inl, inr}
use Rattle.std.proofs.Common.{eq-eqb}
use Rattle.def_profile.specs.declared.bounds.TheConstants.{LAST_EXPONENT, MOST_UNITS}
use Rattle.law_lists.proofs.Tests.{le_tells}
use Rattle.def_words.specs.LeastBounds.{floor_units, ceil_units, units, exponent_for, rounded_of}
use Rattle.law_words.proofs.Leasts.{exponent_is}

pub no_larger : (base top e : ℕ) → e ≤ LAST_EXPONENT → units base top e ≤ MOST_UNITS → exponent_for base top ≤ e
no_larger base top e small serves = elim (le_tells (exponent_for base top) e) [
  | inl t ↦ t.1
  | inr t ↦ absurd (let fails : 511 < units base top e = (exponent_is base top).least e t.1 small in omega (arith, fails, serves))
]

floor_one : (b : ℕ) → floor_units b 0 ≡ b
floor_one b = omega arith

ceil_one : (t : ℕ) → ceil_units t 0 ≡ t
ceil_one t = omega arith

pub exponent_zero : (base length : ℕ) → length ≤ MOST_UNITS → exponent_for base (base + length) ≡ 0
exponent_zero base length few =
    let serves : units base (base + length) 0 ≤ 511 = rw (floor_one base, ceil_one (base + length)) (omega (arith, few)) in
    let small : exponent_for base (base + length) ≤ 0 = no_larger base (base + length) 0 (omega arith) serves in
    omega (arith, small)

pub record IsExact (base top : ℕ) : Type 0 where
  pub exact : (rounded_of base top).exact ≡ true
  pub base_is : (rounded_of base top).base ≡ base
  pub top_is : (rounded_of base top).top ≡ top

both : (a b c d : ℕ) → a ≡ b → c ≡ d → ((a == b) && (c == d)) ≡ true
both a b c d e f = rw (eq-eqb a b e, eq-eqb c d f) refl

pub exact_base : (base top : ℕ) → exponent_for base top ≡ 0 → (rounded_of base top).base ≡ base
exact_base base top is = rw is (omega arith)

pub exact_top : (base top : ℕ) → exponent_for base top ≡ 0 → (rounded_of base top).top ≡ top
exact_top base top is = rw is (omega arith)

pub exact_flag : (base top : ℕ) → (rounded_of base top).base ≡ base → (rounded_of base top).top ≡ top → (rounded_of base top).exact ≡ true
exact_flag base top b t = both (rounded_of base top).base base (rounded_of base top).top top b t
