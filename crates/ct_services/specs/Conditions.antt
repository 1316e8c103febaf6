-- What native routines ask of an engine and of the threads' statuses, where RAM begins here.
use Rattle.std.specs.Prelude.{ℕ, ◌%◌, ◌≡◌, ◌≤◌, List, Some}
use Rattle.ct_entry.specs.Listed.{Listed}
use Rattle.def_profile.specs.declared.limits.TheConstants.{MOST_STEPS}
use Rattle.def_native.specs.declared.TheConstants.{SWITCH}
use Rattle.def_sched.specs.declared.Status.{Status}
use Rattle.def_sched.specs.declared.Status.TheVariants.{Ready}
use Rattle.def_sched.specs.Statuses.{status_of}
use Rattle.def_machine.specs.Rows.{RowsFit}
use Rattle.ct_engine.specs.Seen.{EngineRow}
use Rattle.ct_engine.specs.Calls.{MayCall}
use Rattle.ct_engine.specs.Bursts.{IsOpen}
use Rattle.ct_services.specs.Arguments.{NamesQuota}

-- Thread t runs and is ready, a quota that it names is one of the heap's, nothing is hidden that it may load, one more
-- object may be made, each row of a key or a token is of a live object, and where the number is the switch's it may
-- call.
pub record MayServe (s : EngineRow) (ss : List Status) (t ram : ℕ) (e : Listed) (number : ℕ) : Type 0 where
  pub runs : s.state.running ≡ Some t
  pub ready : status_of ss t ≡ Ready
  pub quota : NamesQuota s t
  pub opens : IsOpen s t
  pub few : s.state.next ≤ MOST_STEPS
  pub rows : RowsFit s.state.objects s.state.tokens
  pub place : ram ≡ s.region.ram
  pub even : ram % 16 ≡ 0
  pub call : number ≡ SWITCH → MayCall s t e
