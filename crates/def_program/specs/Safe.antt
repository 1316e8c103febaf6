-- What holds of a run that a command asks for, beside the licences of its deeds: of each of its events what `Upholds`
-- says, that what is told is what was done, and that what changes changes for a reason that is listed; and of all of
-- them that what nobody may change stays, what is local stands in stacks, no freed object is used, chunks are swept
-- before reuse and quotas hold.
use Rattle.std.specs.Prelude.{ℕ, ◌≡◌, ◌≤◌, ◌++◌, List, ◌∷◌, take, Some}
use Rattle.ct_entry.specs.declared.acts.Act.TheVariants.{Allocate, Free}
use Rattle.ct_entry.specs.declared.acts.Deed.{Deed}
use Rattle.def_boot.specs.Boot.{platform_of, boot_state, booted_machine, image_of}
use Rattle.def_image.specs.Parts.{PartsRow}
use Rattle.def_machine.specs.Image.{root}
use Rattle.def_machine.specs.Objects.{charges}
use Rattle.def_program.specs.Commands.{Command, Run, RunImage, Demo}
use Rattle.def_program.specs.declared.TheConstants.{DEMO_STEPS}
use Rattle.def_program.specs.Runs.{events_until}
use Rattle.def_script.specs.Script.{Due}
use Rattle.def_step.specs.Events.{happens, run}
use Rattle.def_step.specs.declared.Event.{Event}
use Rattle.def_step.specs.declared.Event.TheVariants.{Step}
use Rattle.def_events.specs.Upheld.{Upholds}
use Rattle.def_integrity.specs.Homes.{HomesKept, HomesStay}
use Rattle.def_integrity.specs.Integrity.{Integrity}
use Rattle.def_safety.specs.Attenuates.{LocalsInStacks}
use Rattle.def_safety.specs.Chunks.{ChunksMeet, IsNotOf}
use Rattle.def_safety.specs.Each.{EachEvent}
use Rattle.def_safety.specs.Reuse.{SweepsWhole}
use Rattle.def_safety.specs.Temporal.{UsesOnly}
use Rattle.def_truly.specs.Exactly.{TellsExactly}
use Rattle.def_program.specs.Within.{state_after}

-- after so many of the events a granule that holds a capability without GL is of a thread's stack
abbrev pub StacksHoldLocals : PartsRow → List Event → Type 0
StacksHoldLocals p events =
    (count : ℕ) → LocalsInStacks (image_of p) (state_after p (take count events))

-- after so many of the events the live charges on each quota are at most its limit
abbrev pub WithinLimits : PartsRow → List Event → Type 0
WithinLimits p events =
    (count quota : ℕ)
    → charges quota (state_after p (take count events)).objects ≤ (root (image_of p) quota).limit

-- where one step tells a free, and a later one an allocation whose chunk meets the chunk of the freed object, a whole
-- sweep that began after the free lies between
abbrev pub SweptBeforeReuseIn : PartsRow → List Event → Type 0
SweptBeforeReuseIn p events =
    (before between rest : List Event) (freed made : Deed)
    (number base bytes charged other from size total : ℕ)
    → events ≡ before ++ Step ∷ (between ++ Step ∷ rest)
    → (happens (platform_of p) (state_after p before) Step).1.deed ≡ Some freed
    → freed.act ≡ Free number base bytes charged
    → (happens (platform_of p)
    (run (platform_of p) (happens (platform_of p) (state_after p before) Step).0 between)
    Step).1.deed ≡ Some made
    → made.act ≡ Allocate other from size total → ChunksMeet from size base bytes
    → SweepsWhole (platform_of p) (happens (platform_of p) (state_after p before) Step).0 between

-- where one step tells a free, no event after it loads, stores, waits or wakes through a capability of the freed
-- object
abbrev pub UnusedAfterFreeIn : PartsRow → List Event → Type 0
UnusedAfterFreeIn p events =
    (before between rest : List Event) (freed : Deed) (number base bytes charged : ℕ)
    → events ≡ before ++ Step ∷ (between ++ rest)
    → (happens (platform_of p) (state_after p before) Step).1.deed ≡ Some freed
    → freed.act ≡ Free number base bytes charged
    → UsesOnly (platform_of p)
    (run (platform_of p) (happens (platform_of p) (state_after p before) Step).0 between)
    (IsNotOf (platform_of p).image number)

pub record IsSafeRun (p : PartsRow) (es : List Event) : Type 0 where
  pub events : EachEvent (Upholds (platform_of p)) (platform_of p) (boot_state p) es
  pub exact : EachEvent (TellsExactly (platform_of p)) (platform_of p) (boot_state p) es
  pub integrity : EachEvent (Integrity (platform_of p)) (platform_of p) (boot_state p) es
  pub homes : EachEvent (HomesKept (platform_of p)) (platform_of p) (boot_state p) es
  pub stay : HomesStay (platform_of p) (boot_state p) es
  pub locals : StacksHoldLocals p es
  pub unused : UnusedAfterFreeIn p es
  pub swept : SweptBeforeReuseIn p es
  pub quotas : WithinLimits p es

-- of the run that a command asks for, whatever its script says
abbrev pub RunsSafely : PartsRow → ℕ → Type 0
RunsSafely p limit =
    (script : List Due) → IsSafeRun p (events_until (booted_machine p) script p.quantum limit)

abbrev pub IsSafeCommand : Command → PartsRow → Type 0
IsSafeCommand (Run name limit script) p = RunsSafely p limit
IsSafeCommand (RunImage name limit script) p = RunsSafely p limit
IsSafeCommand (Demo number) p = RunsSafely p DEMO_STEPS
IsSafeCommand _ p = Unit {0}
