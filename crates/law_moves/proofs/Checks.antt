-- Checks of instructions and of native routines: those that failed give a trap that may be told; those that passed say so.
use Rattle.std.proofs.Common.{ℕ, ◌≡◌, ◌<◌, Bool, true, false, List, [], ◌∷◌, Option, Some, None, inl, inr, refl, if◌then◌else◌}
use Rattle.law_lists.proofs.Tests.{chosen}
use Rattle.def_words.specs.declared.Trap.{Trap}
use Rattle.def_words.specs.Traps.{capability_trap, plain_trap}
use Rattle.def_profile.specs.declared.traps.TheConstants.{PCC_REGISTER}
use Rattle.def_step.specs.Checks.{Check, first_failed}
use Rattle.def_confined.specs.Licensed.{IsCodeOfPcc, IsCodeOfRegister, IsPlainCause, IsTrap}

-- a trap as a deed may tell it
abbrev pub MayTell : Trap → Type 0
MayTell w = IsTrap w.cause w.code w.register

abbrev pub AllTell : List Check → Type 0
AllTell [] = Unit {0}
AllTell (c ∷ cs) = MayTell c.1 × AllTell cs

abbrev pub AllPass : List Check → Type 0
AllPass [] = Unit {0}
AllPass (c ∷ cs) = (c.0 ≡ true) × AllPass cs

-- what follows checks holds where it follows each trap and where all passed
pub by_checks : (P : Option Trap → Type 0) (cs : List Check) → AllTell cs → ((w : Trap) → MayTell w → P (Some w)) → (AllPass cs → P None) → P (first_failed cs)
by_checks P [] all fails passes = passes tt
by_checks P (c ∷ cs) all fails passes =
    chosen P c.0 (first_failed cs) (Some c.1) (λ is. by_checks P cs all.1 fails (λ rest. passes (is, rest))) (λ none. fails c.1 all.0)

-- where none failed, all passed
pub all_pass : (cs : List Check) → first_failed cs ≡ None → AllPass cs
all_pass [] e = tt
all_pass (c ∷ cs) e = by_test c.0 refl e (λ later. all_pass cs later)
  where
    by_test : (b : Bool) → c.0 ≡ b → (if b then first_failed cs else Some c.1) ≡ None → (first_failed cs ≡ None → AllPass cs) → AllPass (c ∷ cs)
    by_test true is e rest = (is, rest e)
    by_test false is e rest = absurd (let clash : Some c.1 ≡ None = e in cc)

-- ---- the traps of checks

pub register_tells : (code register : ℕ) → register < PCC_REGISTER → IsCodeOfRegister code → MayTell (capability_trap code register)
register_tells code register small is = inr (inr (refl, small, is))

pub counter_tells : (code : ℕ) → IsCodeOfPcc code → MayTell (capability_trap code PCC_REGISTER)
counter_tells code is = inr (inl (refl, refl, is))

pub plain_tells : (cause : ℕ) → IsPlainCause cause → MayTell (plain_trap cause)
plain_tells cause is = inl (is, refl, refl)
