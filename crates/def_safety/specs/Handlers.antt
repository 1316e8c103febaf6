-- Where a trap enters an error handler, and how the handler begins: the record of the trap, the registers, the frame.
use Rattle.std.specs.Prelude.{ℕ, ◌≡◌, ◌+◌, ◌*◌, ◌^◌, ◌≤◌, ◌<◌, ◌⊎◌, true, false, List, ◌∷◌}
use Rattle.def_words.specs.declared.Trap.{Trap}
use Rattle.def_words.specs.Authority.{cap_address, cap_base}
use Rattle.def_words.specs.Capability.{with_address}
use Rattle.def_words.specs.Permissions.{has, store_local}
use Rattle.def_words.specs.Seals.{cap_seal}
use Rattle.def_memory.specs.Granules.{plain}
use Rattle.def_reach.specs.Roots.{gate_for}
use Rattle.def_machine.specs.Image.{Image, made_cap, code_entry, globals_entry, handler_entry, address_of, stack_base}
use Rattle.def_machine.specs.State.{State, Frame, thread, register, granule, interrupts_on}
use Rattle.def_step.specs.declared.TheConstants.{TRAP_RECORD}
use Rattle.def_safety.specs.Clean.{HoldsThere}

-- ---- where it is entered

-- The record of a trap begins at this address of a frame's stack, which goes from a base up to a top: it ends at the
-- last multiple of 16 that isn't above c2's address, and lies between both.
pub record IsRecordPlace (base top address at : ℕ) : Type 0 where
  pub sixteens : ℕ
  pub aligned : at + TRAP_RECORD ≡ 16 * sixteens
  pub under : at + TRAP_RECORD ≤ address
  pub last : address < at + TRAP_RECORD + 16
  pub low : base ≤ at
  pub high : at + TRAP_RECORD ≤ top

-- The compartment of the frame has an error handler, which wasn't entered for this frame; and c2 is the thread's stack
-- from its base, at an address no further than the frame's top, with room for the record below.
pub record DueHandler (i : Image) (s : State) (t : ℕ) (f : Frame) : Type 0 where
  pub some : handler_entry i f.actor ≡ 0 → ⊥
  pub fresh : f.handling ≡ false
  pub tagged : (register (thread s t) 2).tag ≡ true
  pub unsealed : cap_seal (register (thread s t) 2) ≡ 0
  pub stores : has (register (thread s t) 2) store_local ≡ true
  pub base : cap_base (register (thread s t) 2) ≡ stack_base i t
  pub high : cap_address (register (thread s t) 2) ≤ f.top
  pub at : ℕ
  pub place : IsRecordPlace (stack_base i t) f.top (cap_address (register (thread s t) 2)) at

-- ---- how it begins

-- a granule holds two words, the first in its low half, and no tag
abbrev pub HoldsPair : State → ℕ → ℕ → ℕ → Type 0
HoldsPair after k low high = (granule after k).cap ≡ plain (low + high * 2 ^ 32)

-- The granules from an address on hold the record: the addresses of c0 to c15, then that of pcc; then cause, code
-- and register.
pub record RecordIs (i : Image) (s : State) (t : ℕ) (why : Trap) (at : ℕ)
    (after : State) : Type 0 where
  pub registers : (k n : ℕ) → n < 8 → address_of i k ≡ at + 8 * n
      → HoldsPair after k (cap_address (register (thread s t) (2 * n)))
      (cap_address (register (thread s t) (2 * n + 1)))
  pub cause : (k : ℕ) → address_of i k ≡ at + 64
      → HoldsPair after k (cap_address (thread s t).pcc) why.cause
  pub code : (k : ℕ) → address_of i k ≡ at + 72 → HoldsPair after k why.code why.register
  pub untagged : (k : ℕ) → at ≤ address_of i k → address_of i k < at + TRAP_RECORD
      → (granule after k).cap.tag ≡ false

-- The handler of the frame f begins, for this trap: pcc is its compartment's code at the export `handler`, c1 the
-- return sentry, c2 as it was, at the record, c3 its globals; cause, code and register stand in c10, c11 and c12, and
-- every other register is zero. The frame is handling, those below are as they were. No granule outside the record
-- changed, and none its revocation mark.
pub record HandlerBegins (i : Image) (s : State) (t : ℕ) (why : Trap) (f : Frame)
    (fs : List Frame) (after : State) : Type 0 where
  pub at : ℕ
  pub place : IsRecordPlace (stack_base i t) f.top (cap_address (register (thread s t) 2)) at
  pub pcc : ((thread after t).pcc.tag ≡ true)
      × ((thread after t).pcc
      ≡ with_address (made_cap i (code_entry i f.actor))
      (gate_for i.entries.gates (handler_entry i f.actor)).code)
  pub back : HoldsThere after t 1 (made_cap i 0)
  pub stack : HoldsThere after t 2 (with_address (register (thread s t) 2) at)
  pub globals : HoldsThere after t 3 (made_cap i (globals_entry i f.actor))
  pub c10 : register (thread after t) 10 ≡ plain why.cause
  pub c11 : register (thread after t) 11 ≡ plain why.code
  pub c12 : register (thread after t) 12 ≡ plain why.register
  pub zero : (n : ℕ) → (n ≡ 0) ⊎ ((4 ≤ n) × (n < 10)) ⊎ (13 ≤ n)
      → register (thread after t) n ≡ plain 0
  pub posture : (thread after t).posture ≡ interrupts_on
  pub frames : (thread after t).frames ≡ record f { handling = true } ∷ fs
  pub words : RecordIs i s t why at after
  pub marks : (k : ℕ) → (granule after k).mark ≡ (granule s k).mark
  pub rest : (k : ℕ) → (address_of i k < at) ⊎ (at + TRAP_RECORD ≤ address_of i k)
      → granule after k ≡ granule s k
