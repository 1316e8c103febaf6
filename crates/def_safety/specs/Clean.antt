-- *Clean calls*: what a callee begins with, what its frame keeps of the caller, and how the caller goes on.
use Rattle.std.specs.Prelude.{ℕ, ◌≡◌, ◌+◌, ◌-◌, ◌*◌, ◌/◌, ◌^◌, ◌≤◌, ◌<◌, ◌⊎◌, true, false, List, ◌∷◌}
use Rattle.def_profile.specs.declared.bounds.TheConstants.{MOST_UNITS}
use Rattle.def_profile.specs.declared.seals.TheConstants.{RETURN_DISABLE, RETURN_ENABLE}
use Rattle.def_words.specs.declared.Cap.{Cap}
use Rattle.def_words.specs.declared.Posture.{Posture}
use Rattle.def_words.specs.Authority.{cap_address}
use Rattle.def_words.specs.Capability.{untagged, with_address}
use Rattle.def_words.specs.Jumped.{opened}
use Rattle.def_words.specs.Seals.{cap_seal, posture_through}
use Rattle.def_memory.specs.Granules.{blank, plain}
use Rattle.def_reach.specs.Roots.{compartment_of, gate_for}
use Rattle.def_machine.specs.Image.{Image, root, made_cap, code_entry, globals_entry, address_of, stack_base}
use Rattle.def_machine.specs.State.{State, Frame, register, granule, thread, interrupts_on}
use Rattle.def_machine.specs.Memory.{filtered}
use Rattle.def_step.specs.Switch.{new_top}
use Rattle.def_safety.specs.Calling.{stack_up_to}

-- register n of a thread, which holds a capability with its tag
abbrev pub HoldsThere : State → ℕ → ℕ → Cap → Type 0
HoldsThere s t n c = (c.tag ≡ true) × (register (thread s t) n ≡ c)

-- the stack of a thread is zero and untagged, from its base up to an address
abbrev pub StackZero : Image → State → State → ℕ → ℕ → Type 0
StackZero i s after t high =
    (k : ℕ) → stack_base i t ≤ address_of i k → address_of i k < high
    → granule after k ≡ blank (granule s k)

-- what an export lets through of a word: the word as it is where it passes capabilities, else without its tag
pub data LetsThrough (i : Image) (export : ℕ) (from to : Cap) : Type 0 where
  whole : (root i export).passes ≡ true → to ≡ from → LetsThrough i export from to
  plainly : (root i export).passes ≡ false → to ≡ untagged from → LetsThrough i export from to

-- the posture of an export: interrupts off by it, or on
pub data IsPostureOf (i : Image) (export : ℕ) (p : Posture) : Type 0 where
  off : (root i export).disabled ≡ true → p ≡ record { off = true; source = export }
      → IsPostureOf i export p
  on : (root i export).disabled ≡ false → p ≡ interrupts_on → IsPostureOf i export p

-- ---- entry

-- the compartment of an export, how many arguments it declares, and where the stack of its callee ends
abbrev pub callee_of : Image → ℕ → ℕ
callee_of i export = compartment_of (root i export).owner

abbrev pub arguments_of : Image → ℕ → ℕ
arguments_of i export = (gate_for i.entries.gates export).args

abbrev pub high_of : Image → State → ℕ → ℕ
high_of i s t = new_top (stack_base i t) (cap_address (register (thread s t) 2))

-- Where the stack of a callee ends, which begins at a base, of whose caller c2 has an address: whole units of a power
-- of 2 above the base, at most 511 of them, so many that no more fit below the address. The power is the least from 4
-- on that serves.
pub record IsCalleeEnd (base address high : ℕ) : Type 0 where
  pub exponent : ℕ
  pub units : ℕ
  pub is : high ≡ base + units * 2 ^ exponent
  pub under : high ≤ address
  pub near : address < high + 2 ^ exponent
  pub few : units ≤ MOST_UNITS
  pub from : 4 ≤ exponent
  pub least : (k : ℕ) → 4 ≤ k → k < exponent → MOST_UNITS < (address - base) / 2 ^ k

-- the frame of a call by thread t: it isn't handling, and keeps c1, c2, c3, c8 and c9 of the caller
abbrev pub frame_of_call : Image → State → ℕ → ℕ → Frame
frame_of_call i s t export = record {
  actor = callee_of i export;
  export = export;
  top = high_of i s t;
  handling = false;
  c1 = register (thread s t) 1;
  c2 = register (thread s t) 2;
  c3 = register (thread s t) 3;
  c8 = register (thread s t) 8;
  c9 = register (thread s t) 9;
}

-- register n is an argument that the export declares, which passes capabilities, and holds what the caller's held
abbrev pub IsArgument : Image → State → ℕ → ℕ → ℕ → Cap → Type 0
IsArgument i s t export n c =
    ((10 ≤ n) × (n < 10 + arguments_of i export))
    × ((root i export).passes ≡ true) × (c ≡ register (thread s t) n)

-- The callee begins, by whatever export: pcc is its compartment's code at the export, c1 the return sentry, c2 the
-- stack from its base up to the last end that bounds can spell below the caller's address, as long as the export asks
-- for, and zero; c3 its globals. Of an argument that the export declares it gets what the export lets through, every
-- other register is zero, and the posture is the export's. A new frame stands over those before.
pub record CleanEntry (i : Image) (s : State) (t export : ℕ) (after : State) : Type 0 where
  pub code : ((thread after t).pcc.tag ≡ true)
      × ((thread after t).pcc
      ≡ with_address (made_cap i (code_entry i (callee_of i export)))
      (gate_for i.entries.gates export).code)
  pub back : HoldsThere after t 1 (made_cap i 0)
  pub stack : HoldsThere after t 2
      (stack_up_to i t (high_of i s t) (register (thread s t) 2).shadow)
  pub globals : HoldsThere after t 3 (made_cap i (globals_entry i (callee_of i export)))
  pub arguments : (n : ℕ) → 10 ≤ n → n ≤ 15 → n < 10 + arguments_of i export
      → LetsThrough i export (register (thread s t) n) (register (thread after t) n)
  pub zero : (n : ℕ)
      → (n ≡ 0) ⊎ ((4 ≤ n) × (n < 10)) ⊎ (10 + arguments_of i export ≤ n)
      → register (thread after t) n ≡ plain 0
  pub tagged : (n : ℕ) → (register (thread after t) n).tag ≡ true
      → ((1 ≤ n) × (n ≤ 3)) ⊎ IsArgument i s t export n (register (thread after t) n)
  pub frames : (thread after t).frames ≡ frame_of_call i s t export ∷ (thread s t).frames
  pub end_is : IsCalleeEnd (stack_base i t) (cap_address (register (thread s t) 2)) (high_of i s t)
  pub asked : (gate_for i.entries.gates export).stack ≤ high_of i s t - stack_base i t
  pub below : StackZero i s after t (high_of i s t)
  pub posture : IsPostureOf i export (thread after t).posture

-- no capability of the caller's goes over: tags stand in c1, c2 and c3 alone
abbrev pub TakesNone : State → ℕ → Type 0
TakesNone after t =
    (n : ℕ) → (register (thread after t) n).tag ≡ true → (1 ≤ n) × (n ≤ 3)

-- ---- the end of a frame

-- The caller goes on, where the frame f ended: its frames are those below f; its program counter is of the saved c1,
-- and so is the posture: off by the export that this link names, or on; c2, c3, c8 and c9 are as saved, through the
-- load filter; every other register but c10 and c11, the results, is zero; and so is the stack that the callee had.
pub record CleanReturn (i : Image) (s : State) (t : ℕ) (f : Frame) (fs : List Frame)
    (after : State) : Type 0 where
  pub frames : (thread after t).frames ≡ fs
  pub pcc : (thread after t).pcc ≡ opened (filtered i s f.c1)
  pub c2 : register (thread after t) 2 ≡ filtered i s f.c2
  pub c3 : register (thread after t) 3 ≡ filtered i s f.c3
  pub c8 : register (thread after t) 8 ≡ filtered i s f.c8
  pub c9 : register (thread after t) 9 ≡ filtered i s f.c9
  pub zero : (n : ℕ) → (n ≤ 1) ⊎ ((4 ≤ n) × (n ≤ 7)) ⊎ (12 ≤ n)
      → register (thread after t) n ≡ plain 0
  pub stack : StackZero i s after t f.top
  pub posture : (thread after t).posture
      ≡ posture_through (thread s t).posture (cap_seal f.c1) 0 f.c1.shadow.source
  pub disabled : cap_seal f.c1 ≡ RETURN_DISABLE
      → (thread after t).posture ≡ record { off = true; source = f.c1.shadow.source }
  pub enabled : cap_seal f.c1 ≡ RETURN_ENABLE → (thread after t).posture ≡ interrupts_on

-- the results are what the export of the frame lets through of the callee's
abbrev pub HandsBack : Image → State → ℕ → Frame → State → Type 0
HandsBack i s t f after =
    LetsThrough i f.export (register (thread s t) 10) (register (thread after t) 10)
    × LetsThrough i f.export (register (thread s t) 11) (register (thread after t) 11)

-- the results are an integer and 0
abbrev pub AnswersNumber : State → ℕ → ℕ → Type 0
AnswersNumber after t value =
    (register (thread after t) 10 ≡ plain value) × (register (thread after t) 11 ≡ plain 0)

-- the word of -1
abbrev pub minus_one : ℕ
minus_one = 2 ^ 32 - 1

-- of an error handler: where c10 has the address 1, its answer is that of c11, else -1
abbrev pub AnswersHandled : State → ℕ → State → Type 0
AnswersHandled s t after =
    (cap_address (register (thread s t) 10) ≡ 1
    → AnswersNumber after t (cap_address (register (thread s t) 11)))
    × ((cap_address (register (thread s t) 10) ≡ 1 → ⊥) → AnswersNumber after t minus_one)

-- the results are untagged
abbrev pub AnswersPlainly : State → ℕ → Type 0
AnswersPlainly after t =
    ((register (thread after t) 10).tag ≡ false) × ((register (thread after t) 11).tag ≡ false)
