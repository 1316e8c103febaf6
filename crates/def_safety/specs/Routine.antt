-- Which native routine a step carries out.
use Rattle.std.specs.Prelude.{ℕ, ◌≡◌, Some, None}
use Rattle.def_words.specs.Authority.{cap_address}
use Rattle.def_machine.specs.Platform.{Platform}
use Rattle.def_machine.specs.State.{State, thread}
use Rattle.def_step.specs.declared.Next.TheVariants.{Native, Returning}
use Rattle.def_step.specs.Checks.{first_failed}
use Rattle.def_step.specs.Instructions.{fetch_checks, next_at, space_of}

-- thread t runs, and stands at the native routine of this number, which it may fetch
pub record RunsRoutine (b : Platform) (s : State) (t number : ℕ) : Type 0 where
  pub runs : s.running ≡ Some t
  pub fetched : first_failed (fetch_checks (thread s t).pcc) ≡ None
  pub routine : next_at (space_of b s) (cap_address (thread s t).pcc) ≡ Native number

-- the same of the native return
pub record RunsReturn (b : Platform) (s : State) (t : ℕ) : Type 0 where
  pub runs : s.running ≡ Some t
  pub fetched : first_failed (fetch_checks (thread s t).pcc) ≡ None
  pub returns : next_at (space_of b s) (cap_address (thread s t).pcc) ≡ Returning
