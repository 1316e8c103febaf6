-- What a deed that is told says of the step that told it, and a span with interrupts off of the
-- event.
use Rattle.std.specs.Prelude.{ℕ, ◌≡◌, ◌+◌, ◌-◌, ◌⊎◌, true, false, List, ◌∷◌, Some, None, slice_set}
use Rattle.ct_entry.specs.declared.acts.Act.{Act}
use Rattle.ct_entry.specs.declared.acts.Act.TheVariants.{Call, Load, Store, Allocate, Free, Trap}
use Rattle.ct_entry.specs.declared.acts.Deed.{Deed}
use Rattle.ct_entry.specs.declared.acts.Owned.{Owned}
use Rattle.def_native.specs.declared.TheConstants.{SWITCH, ALLOCATE, FREE, TOKEN_KEY, TOKEN_NEW, TOKEN_FREE}
use Rattle.def_words.specs.declared.Cap.{Cap}
use Rattle.def_words.specs.Authority.{cap_address}
use Rattle.def_instr.specs.declared.Instr.{Instr}
use Rattle.def_reach.specs.Roots.{compartment_of}
use Rattle.def_machine.specs.Image.{root, stack_base}
use Rattle.def_machine.specs.Objects.{Any, charges, placed_among, quarantine}
use Rattle.def_machine.specs.Platform.{Platform}
use Rattle.def_machine.specs.Registers.{written}
use Rattle.def_machine.specs.State.{State, Frame, Object, DeviceState, thread, register}
use Rattle.def_step.specs.declared.Class.TheVariants as class
use Rattle.def_step.specs.declared.Event.{Event}
use Rattle.def_step.specs.declared.Event.TheVariants.{Step}
use Rattle.def_step.specs.declared.Next.TheVariants.{Instruction}
use Rattle.def_step.specs.Accesses.{access_of, device_value, is_ram, stored_value}
use Rattle.def_step.specs.Checks.{first_failed}
use Rattle.def_step.specs.Devices.{registers_base, device, found, left_by_read, left_by_write, value_read}
use Rattle.def_step.specs.Events.{happens}
use Rattle.def_step.specs.Instructions.{fetch_checks, next_at, space_of}
use Rattle.def_step.specs.Operands.{class_of, operands_of}
use Rattle.def_step.specs.Quotas.{Made, allocation, is_quota_cap}
use Rattle.def_step.specs.Switch.{frame_top, return_checks, switch_checks}
use Rattle.def_safety.specs.Clean.{high_of}
use Rattle.def_safety.specs.Each.{ready}
use Rattle.def_safety.specs.Routine.{RunsRoutine}
use Rattle.def_safety.specs.Traps.{step_checks}
use Rattle.def_safety.specs.Used.{authority_of, value_of, access_start, AccessPasses}

-- ---- by whom

-- the running thread told it, and its actor is the compartment of that thread's innermost frame
pub record ByRunning (s : State) (d : Deed) : Type 0 where
  pub runs : s.running ≡ Some d.thread
  pub frame : Frame
  pub below : List Frame
  pub frames : (thread s d.thread).frames ≡ frame ∷ below
  pub actor : d.actor ≡ frame.actor

-- ---- accesses

-- Thread t may fetch, and at its program counter stands an access whose checks pass. The entry is
-- the root of the capability that it goes through, address and width are those of the access,
-- which doesn't lie in RAM, and a device has the address: the nth.
pub record IsAccessDeed (b : Platform) (s : State) (t entry address width : ℕ)
    (k : Instr) (n : ℕ) : Type 0 where
  pub fetched : first_failed (fetch_checks (thread s t).pcc) ≡ None
  pub stands : next_at (space_of b s) (cap_address (thread s t).pcc) ≡ Instruction k
  pub accesses : class_of k ≡ class.Access
  pub passes : AccessPasses s t k
  pub entry_is : entry ≡ (authority_of s t k).shadow.root
  pub address_is : address ≡ access_start s t k
  pub width_is : width ≡ (access_of k).width
  pub outside : is_ram (space_of b s) address width ≡ false
  pub here : found b.bases address ≡ Some n

-- It loads, and the value is what the device gave. The register that the instruction names gets it, as a load of its
-- kind widens it, and no other changes; and the device is left as that reading leaves it.
pub record IsLoadTold (b : Platform) (s : State) (t entry address width value : ℕ)
    (devices : List DeviceState) (registers : List Cap) : Type 0 where
  pub instruction : Instr
  pub number : ℕ
  pub access : IsAccessDeed b s t entry address width instruction number
  pub loads : (access_of instruction).loads ≡ true
  pub value_is : value
      ≡ value_read (device s.devices number) (address - registers_base b.bases number) width s.time
  pub gives : registers
      ≡ written (thread s t).registers (operands_of instruction).to
      (device_value (access_of instruction) (authority_of s t instruction) value)
  pub left : devices
      ≡ slice_set s.devices number
      (left_by_read (device s.devices number) (address - registers_base b.bases number) width)

-- It stores, the value is what the second register holds, and the device is left as that writing
-- leaves it.
pub record IsStoreTold (b : Platform) (s : State) (t entry address width value : ℕ)
    (devices : List DeviceState) : Type 0 where
  pub instruction : Instr
  pub number : ℕ
  pub access : IsAccessDeed b s t entry address width instruction number
  pub stores : (access_of instruction).loads ≡ false
  pub value_is : value ≡ stored_value (access_of instruction) (value_of s t instruction)
  pub left : devices
      ≡ slice_set s.devices number
      (left_by_write (device s.devices number) (address - registers_base b.bases number) width value)

-- ---- calls

-- Thread t runs the switch, whose checks pass. The entry is the root of c6, and the export the one
-- that it names. A frame of the export's compartment lies over those before; it saved the caller's
-- registers.
pub record IsCallTold (b : Platform) (s : State) (t entry export : ℕ)
    (after : List Frame) : Type 0 where
  pub routine : RunsRoutine b s t SWITCH
  pub passes : first_failed
      (switch_checks (stack_base b.image t) (frame_top (thread s t).frames) (thread s t))
      ≡ None
  pub entry_is : entry ≡ (register (thread s t) 6).shadow.root
  pub export_is : export ≡ (root b.image entry).of
  pub frame : Frame
  pub pushes : after ≡ frame ∷ (thread s t).frames
  pub actor : frame.actor ≡ compartment_of (root b.image export).owner
  pub entered : frame.export ≡ export
  pub stack_end : frame.top ≡ high_of b.image s t
  pub unmarked : frame.handling ≡ false
  pub c1 : frame.c1 ≡ register (thread s t) 1
  pub c2 : frame.c2 ≡ register (thread s t) 2
  pub c3 : frame.c3 ≡ register (thread s t) 3
  pub c8 : frame.c8 ≡ register (thread s t) 8
  pub c9 : frame.c9 ≡ register (thread s t) 9

-- ---- the heap

-- How many bytes thread t asks for, by the routine that it runs: what its c11 says; a key has eight.
pub data Asks (b : Platform) (s : State) (t length : ℕ) : Type 0 where
  by_length : RunsRoutine b s t ALLOCATE ⊎ RunsRoutine b s t TOKEN_NEW
      → length ≡ cap_address (register (thread s t) 11) → Asks b s t length
  by_key : RunsRoutine b s t TOKEN_KEY → length ≡ 8 → Asks b s t length

-- Thread t runs a routine that hands an object out, and its c1 leads back. c10 is a quota, and the entry its root, to
-- which the object is charged; it is as long as what was asked for, rounded up, has the next number, and stands among
-- the others.
pub record IsAllocationTold (b : Platform) (s : State) (t entry number base bytes charged : ℕ)
    (objects : List Object) (next : ℕ) : Type 0 where
  pub asked : ℕ
  pub asks : Asks b s t asked
  pub returns : first_failed (return_checks (register (thread s t) 1)) ≡ None
  pub by_quota : is_quota_cap (register (thread s t) 10) ≡ true
  pub entry_is : entry ≡ (register (thread s t) 10).shadow.root
  pub object : Object
  pub made : allocation b.image s entry asked ≡ Made object
  pub quota : object.quota ≡ entry
  pub number_is : (object.number ≡ number) × (number ≡ s.next)
  pub base_is : object.base ≡ base
  pub bytes_is : object.length ≡ bytes
  pub live : object.live ≡ true
  pub placed : objects ≡ placed_among object s.objects
  pub onward : next ≡ s.next + 1
  pub charged_is : charged ≡ charges entry objects

-- Thread t runs a routine that takes an object back, and its c1 leads back: a live one, charged to the root of c10,
-- which is the entry; it is quarantined.
pub record IsFreeTold (b : Platform) (s : State) (t entry number base bytes charged : ℕ)
    (objects : List Object) : Type 0 where
  pub routine : RunsRoutine b s t FREE ⊎ RunsRoutine b s t TOKEN_FREE
  pub returns : first_failed (return_checks (register (thread s t) 1)) ≡ None
  pub by_quota : is_quota_cap (register (thread s t) 10) ≡ true
  pub entry_is : entry ≡ (register (thread s t) 10).shadow.root
  pub object : Object
  pub there : Any (λ q. q ≡ object) s.objects
  pub live : object.live ≡ true
  pub quota : object.quota ≡ entry
  pub number_is : object.number ≡ number
  pub base_is : object.base ≡ base
  pub bytes_is : object.length ≡ bytes
  pub taken : objects ≡ quarantine number s.objects
  pub charged_is : charged ≡ charges entry objects

-- ---- traps

-- it names no entry, and is that of the first check that fails
pub record IsTrapTold (b : Platform) (s : State) (t entry cause code register : ℕ) : Type 0 where
  pub entry_is : entry ≡ 0
  pub fails : first_failed (step_checks b s t)
      ≡ Some (record { cause = cause; code = code; register = register })

-- ---- whole

-- an act of thread t by an entry, of a step that began so and left this state
abbrev pub ActWasDone : Platform → State → State → ℕ → ℕ → Act → Type 0
ActWasDone b s after t entry (Call export) = IsCallTold b s t entry export (thread after t).frames
ActWasDone b s after t entry (Load address width value) =
    IsLoadTold b s t entry address width value after.devices (thread after t).registers
ActWasDone b s after t entry (Store address width value) =
    IsStoreTold b s t entry address width value after.devices
ActWasDone b s after t entry (Allocate number base bytes charged) =
    IsAllocationTold b s t entry number base bytes charged after.objects after.next
ActWasDone b s after t entry (Free number base bytes charged) =
    IsFreeTold b s t entry number base bytes charged after.objects
ActWasDone b s after t entry (Trap cause code register) =
    IsTrapTold b s t entry cause code register

abbrev pub DeedWasDone : Platform → State → State → Deed → Type 0
DeedWasDone b s after d = ByRunning s d × ActWasDone b s after d.thread d.entry d.act

-- A span with interrupts off that is told begins in this event: a step of that thread, which runs
-- on and holds them off by this source; before, another ran or none, or they were on, or by
-- another source. Its actor is that of the thread's innermost frame then.
pub record SpanBegins (b : Platform) (s : State) (e : Event) (after : State)
    (o : Owned) : Type 0 where
  pub step : e ≡ Step
  pub by : (ready b s).running ≡ Some o.thread
  pub runs : after.running ≡ Some o.thread
  pub off : (thread after o.thread).posture.off ≡ true
  pub source : (thread after o.thread).posture.source ≡ o.export
  pub frame : Frame
  pub below : List Frame
  pub frames : (thread after o.thread).frames ≡ frame ∷ below
  pub actor : o.actor ≡ frame.actor
  pub fresh : s.running ≡ Some o.thread
      → (thread s o.thread).posture ≡ (thread after o.thread).posture → ⊥

-- what an event tells is what was done, in the state in which its thread carries on
pub record TellsTruly (b : Platform) (s : State) (e : Event) : Type 0 where
  pub deeds : (d : Deed) → (happens b s e).1.deed ≡ Some d
      → (e ≡ Step) × DeedWasDone b (ready b s) (happens b s e).0 d
  pub spans : (o : Owned) → (happens b s e).1.off ≡ Some o
      → SpanBegins b s e (happens b s e).0 o
