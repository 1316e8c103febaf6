-- *Integrity*, of devices: what an event may change of a device.
use Rattle.std.specs.Prelude.{ℕ, ◌≡◌, ◌-◌, ◌≤◌, ◌<◌, ◌⊎◌, Option, Some}
use Rattle.ct_entry.specs.declared.rows.Kind.TheVariants as kind
use Rattle.ct_entry.specs.declared.acts.Act.TheVariants.{Load, Store}
use Rattle.ct_entry.specs.declared.acts.Deed.{Deed}
use Rattle.def_instr.specs.declared.Instr.{Instr}
use Rattle.def_reach.specs.Roots.{Listing}
use Rattle.def_reach.specs.Sharing.{Reaches}
use Rattle.def_machine.specs.Image.{root}
use Rattle.def_machine.specs.Platform.{Platform}
use Rattle.def_words.specs.Authority.{cap_address}
use Rattle.def_machine.specs.State.{State, DeviceState, thread}
use Rattle.def_step.specs.declared.Class.TheVariants as class
use Rattle.def_step.specs.declared.Event.{Event}
use Rattle.def_step.specs.declared.Event.TheVariants.{Step, Input}
use Rattle.def_step.specs.declared.Next.TheVariants.{Instruction}
use Rattle.def_step.specs.Accesses.{access_of}
use Rattle.def_step.specs.Devices.{device, found, registers_base, left_by_read, left_by_write, after_input}
use Rattle.def_step.specs.Events.{happens}
use Rattle.def_step.specs.Instructions.{next_at, space_of}
use Rattle.def_step.specs.Operands.{class_of}
use Rattle.def_safety.specs.Accesses.{IsUseAt}
use Rattle.def_safety.specs.Each.{ready}
use Rattle.def_safety.specs.Used.{authority_of, access_start, AccessPasses, used_right}
use Rattle.def_integrity.specs.Acting.{Acting, TellsAct, IsAuthority}

-- where an address lies among the registers of device n
abbrev pub offset_in : Platform → ℕ → ℕ → ℕ
offset_in b n address = address - registers_base b.bases n

-- A load or store of the running thread reached it. It stands at the program counter, and its checks pass. What it
-- goes through is tagged and unsealed, has these bytes in its own bounds and the right that is used, and is of a root
-- whose owner reaches the actor. The access is told, and the device is as that access leaves it.
pub record IsAccessed (b : Platform) (s : State) (told : Option Deed) (n : ℕ)
    (new : DeviceState) : Type 0 where
  pub by : Acting s
  pub instruction : Instr
  pub stands : next_at (space_of b s) (cap_address (thread s by.thread_is).pcc)
      ≡ Instruction instruction
  pub accesses : class_of instruction ≡ class.Access
  pub passes : AccessPasses s by.thread_is instruction
  pub uses : IsUseAt b.image s.objects by.thread_is by.frame.actor
      (authority_of s by.thread_is instruction) (access_start s by.thread_is instruction)
      (access_of instruction).width (used_right (access_of instruction))
  pub authority : IsAuthority (authority_of s by.thread_is instruction)
      (access_start s by.thread_is instruction) (access_of instruction).width
      (used_right (access_of instruction))
  pub here : found b.bases (access_start s by.thread_is instruction) ≡ Some n
  pub value : ℕ
  pub why : (TellsAct s by told
      (Load (access_start s by.thread_is instruction) (access_of instruction).width value)
      × (new
      ≡ left_by_read (device s.devices n)
      (offset_in b n (access_start s by.thread_is instruction)) (access_of instruction).width))
      ⊎ (TellsAct s by told
      (Store (access_start s by.thread_is instruction) (access_of instruction).width value)
      × (new
      ≡ left_by_write (device s.devices n)
      (offset_in b n (access_start s by.thread_is instruction)) (access_of instruction).width
      value))

-- a device is as it was, or the running thread reached it, or a byte came to it
pub data DeviceTouched (b : Platform) (s : State) (e : Event) (n : ℕ) : Type 0 where
  as_before : device (happens b s e).0.devices n ≡ device s.devices n → DeviceTouched b s e n
  by_access : e ≡ Step
      → IsAccessed b (ready b s) (happens b s e).1.deed n (device (happens b s e).0.devices n)
      → DeviceTouched b s e n
  by_input : (byte : ℕ) → e ≡ Input n byte
      → device (happens b s e).0.devices n ≡ after_input (device s.devices n) byte
      → DeviceTouched b s e n

abbrev pub DevicesKept : Platform → State → Event → Type 0
DevicesKept b s e = (n : ℕ) → DeviceTouched b s e n

-- ---- who holds a device

-- The actor is reached by the owner of an import of the device, in whose range this address lies.
pub record IsHeld (b : Platform) (s : State) (n : ℕ) : Type 0 where
  pub by : Acting s
  pub entry : ℕ
  pub address : ℕ
  pub is_device : (root b.image entry).origin ≡ Listing kind.Device
  pub reached : Reaches b.image.entries (root b.image entry).owner by.frame.actor
  pub low : (root b.image entry).base ≤ address
  pub high : address < (root b.image entry).top
  pub here : found b.bases address ≡ Some n

-- a step of such an actor, or an input to that device
abbrev pub ActsOnDevice : Platform → State → Event → ℕ → Type 0
ActsOnDevice b s e n =
    ((e ≡ Step) × IsHeld b (ready b s) n) ⊎ ((byte : ℕ) × (e ≡ Input n byte))

-- a device changes by these alone
abbrev pub DevicesHeld : Platform → State → Event → Type 0
DevicesHeld b s e =
    (n : ℕ)
    → (device (happens b s e).0.devices n ≡ device s.devices n) ⊎ ActsOnDevice b s e n
