-- What the code of a native routine comes to: what the written routine comes to, of each image whose RAM, heap and
-- quotas lie where the engine's do, in each state of the machine that holds what is seen of the engine. A check that
-- fails is a trap, and then nothing changes; all else that fails is the answer.
use Rattle.std.specs.Prelude.{ℕ, ◌+◌, ◌≡◌, ◌≤◌, List, length, Option, Some, None, option_map}
use Rattle.ct_entry.specs.declared.acts.Act.{Act}
use Rattle.ct_entry.specs.Listed.{Listed}
use Rattle.def_native.specs.declared.TheConstants.{SWITCH}
use Rattle.def_words.specs.Traps.{plain_trap}
use Rattle.def_profile.specs.declared.traps.TheConstants.{ILLEGAL_INSTRUCTION}
use Rattle.def_sched.specs.declared.Status.{Status}
use Rattle.def_sched.specs.declared.Status.TheVariants.{Ready}
use Rattle.def_sched.specs.Statuses.{status_of}
use Rattle.def_machine.specs.Image.{Image}
use Rattle.def_machine.specs.State.{State}
use Rattle.def_step.specs.Routines as routine
use Rattle.def_step.specs.Routines.{Traps, Leaves}
use Rattle.def_step.specs.Switch.{Enters}
use Rattle.ct_engine.specs.Seen.{EngineRow}
use Rattle.ct_engine.specs.Calls.{HeadStands, switch_at}
use Rattle.ct_engine.specs.Written.{HasLayout, Shows, state_with}
use Rattle.ct_execute.specs.declared.ran.ActBy.{ActBy}
use Rattle.ct_execute.specs.declared.ran.Ran.{Ran}
use Rattle.ct_execute.specs.declared.ran.Ran.TheVariants.{Went, Returned, Native, Trapped}
use Rattle.ct_execute.specs.Deciding.{IfUnfinished}

-- what a routine comes to, of each image and state
abbrev pub Routine : Type 0
Routine = Image → State → routine.Ran

-- an act with the entry that it was done by, as a routine tells it
abbrev pub act_row : ActBy → ℕ × Act
act_row d = (d.entry, d.act)

-- What the code came to, and the state that it left, are what the routine comes to. The statuses of the written threads
-- are those told beside the engine: `state_with` sets them.
abbrev pub ComesTo : State → Ran → routine.Ran → Type 0
ComesTo after (Went done) x = x ≡ Leaves after (option_map act_row done)
ComesTo after (Trapped why) x = x ≡ Traps why
ComesTo after Returned x = ⊥
ComesTo after (Native number) x = ⊥

-- the running thread is ready
abbrev pub RunsReady : EngineRow → List Status → Type 0
RunsReady s ss = (t : ℕ) → s.state.running ≡ Some t → status_of ss t ≡ Ready

-- what no routine changes of an engine: where its parts lie, how large memory is, and how many threads there are
pub record StaysBeside (s new : EngineRow) : Type 0 where
  pub same : new ≡ record s { state = new.state }
  pub size : length new.state.granules ≡ length s.state.granules
  pub threads : length new.state.threads ≡ length s.state.threads

-- An engine and the threads' statuses became these, and the code came to this: what the written routine comes to, of
-- each image of which this holds. Where it traps nothing has changed. One object is made at most, and the running thread
-- stays ready.
pub record IsServedOf (Holds : Image → Type 0) (s : EngineRow) (ss : List Status) (new : EngineRow)
    (after : List Status) (ran : Ran) (x : Routine) : Type 0 where
  pub comes : (i : Image) (m : State) → Holds i
      → ComesTo (state_with m new after) ran (x i (state_with m s ss))
  pub same : IfUnfinished ran ((new ≡ s) × (after ≡ ss))
  pub beside : StaysBeside s new
  pub made : new.state.next ≤ s.state.next + 1
  pub many : length after ≡ length ss
  pub ready : RunsReady s ss → RunsReady new after

-- of each image whose RAM, heap and quotas lie where the engine's do
abbrev pub IsServed : EngineRow → List Status → EngineRow → List Status → Ran → Routine → Type 0
IsServed s ss new after ran x = IsServedOf (λ i. HasLayout i s ss) s ss new after ran x

-- the same where the statuses stay
abbrev pub ServesAlone : EngineRow → EngineRow → Ran → Routine → Type 0
ServesAlone s new ran x = (ss : List Status) → IsServed s ss new ss ran x

-- Of an image whose calls thread t makes: its entries are these, RAM, the thread's stack and the room for its frames are
-- as it has them, and the head of the callee's export table is as boot made it.
pub record HoldsCallee (i : Image) (s : EngineRow) (t : ℕ) (e : Listed) : Type 0 where
  pub entries : e ≡ i.entries
  pub shows : Shows i s.state s t
  pub heads : (export high : ℕ) → switch_at s e t ≡ Enters export high → HeadStands i s t export

-- of the routine of a number: of an image, what lies where the engine's does, and, of the switch, the callee
abbrev pub HoldsRoutine : EngineRow → List Status → ℕ → Listed → ℕ → Image → Type 0
HoldsRoutine s ss t e number i = HasLayout i s ss × (number ≡ SWITCH → HoldsCallee i s t e)

-- what the routine of a number comes to; no number of none is served
abbrev pub routine_or_trap : Option routine.Ran → routine.Ran
routine_or_trap (Some x) = x
routine_or_trap None = Traps (plain_trap ILLEGAL_INSTRUCTION)
