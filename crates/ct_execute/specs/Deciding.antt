-- One instruction of a thread: what the code came to and left is what the written step comes to, in each state of the
-- machine that holds what is seen.
use Rattle.std.specs.Prelude.{ℕ, ◌≡◌, length, List, Option, Some, None, option_map, Result, Ok, Err}
use Rattle.ct_entry.specs.Listed.{Listed}
use Rattle.ct_entry.specs.declared.acts.Act.{Act}
use Rattle.ct_entry.specs.declared.acts.Act.TheVariants.{Trap}
use Rattle.ct_entry.specs.declared.acts.Deed.{Deed}
use Rattle.def_words.specs.declared.Trap as words
use Rattle.def_instr.specs.declared.Instr.{Instr}
use Rattle.def_instr.specs.Table.{InRange}
use Rattle.def_machine.specs.Image.{Image}
use Rattle.def_machine.specs.Platform.{Platform}
use Rattle.def_machine.specs.State.{State, Status, register}
use Rattle.def_machine.specs.State as state
use Rattle.def_step.specs.declared.Operands.{Operands}
use Rattle.def_step.specs.Handlers.{return_taken}
use Rattle.def_step.specs.Devices.{DeviceStates}
use Rattle.def_step.specs.Operands.{operands_of}
use Rattle.def_step.specs.Instructions.{Effect, actor_of, executed, served, trapped}
use Rattle.def_step.specs.Native.{native}
use Rattle.ct_decode.specs.Reading.{AreRegisters}
use Rattle.ct_threads.specs.Steps.{IsRoutine}
use Rattle.ct_burst.specs.Going.{outcome}
use Rattle.ct_engine.specs.Seen.{EngineRow, thread, after_jump, with_granules}
use Rattle.ct_engine.specs.Written.{state_with}
use Rattle.ct_execute.specs.declared.ran.ActBy.{ActBy}
use Rattle.ct_execute.specs.declared.ran.Ran.{Ran}
use Rattle.ct_execute.specs.declared.ran.Ran.TheVariants.{Went, Returned, Native, Trapped}

-- an act, by this entry
abbrev pub act_by : ℕ → Act → ActBy
act_by entry a = record { act = a; entry = entry }

-- ---- the written step, from what its instruction came to

-- the deed of what one instruction came to
abbrev pub deed_by : ℕ → ℕ → Ran → Option Deed
deed_by t actor (Went acted) =
    option_map
    (λ (d : ActBy). record { thread = t; actor = actor; entry = d.entry; act = d.act })
    acted
deed_by t actor Returned = None
deed_by t actor (Native number) = None
deed_by t actor (Trapped why) =
    Some (record {
      thread = t;
      actor = actor;
      entry = 0;
      act = Trap why.cause why.code why.register;
    })

-- What is left to do in this state, where `actor` was the innermost frame's compartment before the instruction: a frame
-- ends, or its error handler is entered, or a native routine runs; and the deed is told.
abbrev pub finished : Platform → ℕ → ℕ → State → Ran → State × Option Deed
finished b t actor s (Went acted) = (s, deed_by t actor (Went acted))
finished b t actor s Returned = (return_taken b.image s t (state.thread s t).frames, None)
finished b t actor s (Native number) = served b s t (native b.image s t number)
finished b t actor s (Trapped why) = trapped b s t why

-- of one instruction after which something is left to do: it returned or trapped, or a native routine is to run
abbrev pub IfUnfinished : Ran → Type 0 → Type 0
IfUnfinished (Went acted) P = Unit {0}
IfUnfinished Returned P = P
IfUnfinished (Native number) P = P
IfUnfinished (Trapped why) P = P

-- of a native routine: it isn't the return, and its number is at most the last
abbrev pub RanInRange : Ran → Type 0
RanInRange (Native number) = IsRoutine number
RanInRange ran = Unit {0}

-- the platform of an image with these devices
abbrev pub platform_with : Image → DeviceStates → Platform
platform_with i k = record { image = i; bases = k.bases }

-- the state where this is seen, with these devices at a time
abbrev pub state_at : State → EngineRow → List Status → DeviceStates → ℕ → State
state_at m s ss k time = record (state_with m s ss) { devices = k.states; time = time }

-- what no instruction changes of an engine
pub record Stays (s new : EngineRow) : Type 0 where
  pub beside : new ≡ record s {
    state = record s.state {
      granules = new.state.granules;
      threads = new.state.threads;
    };
  }
  pub size : length new.state.granules ≡ length s.state.granules
  pub threads : length new.state.threads ≡ length s.state.threads

-- Thread t of an engine with these devices at a time carried on, and the code came to this, which left these. With what
-- is left to do that is the written step of each image whose entries they are, in each state that holds what is seen.
-- Where something is left to do, nothing has changed.
pub record ExecutesAsWritten (e : Listed) (t time : ℕ) (s : EngineRow) (k : DeviceStates) (new : EngineRow)
    (bank : DeviceStates) (ran : Ran) : Type 0 where
  pub comes : (i : Image) (m : State) (ss : List Status) → s.region.ram ≡ i.ram → e ≡ i.entries
      → finished (platform_with i k) t
      (actor_of (state.thread (state_at m s ss k time) t).frames) (state_at m new ss bank time) ran
      ≡ executed (platform_with i k) (state_at m s ss k time) t
  pub same : IfUnfinished ran ((new ≡ s) × (bank ≡ k))
  pub stays : Stays s new
  pub bases : bank.bases ≡ k.bases

-- ---- an instruction, from what it comes to over the thread and what is around it

-- what the code leaves of the engine and of the devices, and answers, where the capability that was used has this root
abbrev pub Leaves : Result Effect words.Trap → ℕ → ℕ → EngineRow → DeviceStates → EngineRow → DeviceStates → Ran
    → Type 0
Leaves (Ok d) entry t s k new bank r =
    (new ≡ with_granules (after_jump s t d.pcc d.posture d.to d.value) d.granules) × (bank ≡ d.bank)
    × (r ≡ Went (option_map (act_by entry) d.act))
Leaves (Err why) entry t s k new bank r = (new ≡ s) × (bank ≡ k) × (r ≡ Trapped why)

-- the same of an instruction of thread t, where the root of its first source names this export
abbrev pub IsCarriedOut : ℕ → ℕ → ℕ → Instr → EngineRow → DeviceStates → EngineRow → DeviceStates → Ran → Type 0
IsCarriedOut named t time i s k new bank r =
    Leaves (outcome s.region.ram (thread s t) s.state.granules i named k time)
    (register (thread s t) (operands_of i).first).shadow.root t s k new bank r

-- an instruction of the table has these operands, each a register's number
pub record HasOperands (i : Instr) (o : Operands) : Type 0 where
  pub ranged : InRange i
  pub is : o ≡ operands_of i
  pub registers : AreRegisters o
