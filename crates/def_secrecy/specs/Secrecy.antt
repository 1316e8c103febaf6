-- *Secrecy*: what a thread does goes by what it sees, and what it doesn't see never flows into what it does.
use Rattle.std.specs.Prelude.{ℕ, ◌≡◌, true, length, None, Some}
use Rattle.def_instr.specs.declared.Instr.{Instr}
use Rattle.def_words.specs.Authority.{cap_address}
use Rattle.def_machine.specs.Platform.{Platform}
use Rattle.def_machine.specs.State.{State, thread, register}
use Rattle.def_confined.specs.Confined.{Confined}
use Rattle.def_confined.specs.Partitioned.{Partitioned}
use Rattle.def_hidden.specs.Hidden.{Blank}
use Rattle.def_step.specs.declared.Event.{Event}
use Rattle.def_step.specs.declared.Event.TheVariants.{Step, Tick, Sweep, Input}
use Rattle.def_step.specs.Accesses.{access_of, accessed}
use Rattle.def_step.specs.Checks.{first_failed}
use Rattle.def_step.specs.Events.{happens}
use Rattle.def_step.specs.Instructions.{executed, fetch_checks, next_at, space_of}
use Rattle.def_safety.specs.Each.{ready}
use Rattle.def_safety.specs.Used.{authority_of, value_of, access_start, AccessPasses}
use Rattle.def_safety.specs.Wired.{Wired}
use Rattle.def_secrecy.specs.Agreeing.{Agree}

-- ---- what a step reads

-- Of two states, what thread t's next step reads of each.
pub record GoesByView (b : Platform) (s z : State) (t : ℕ) : Type 0 where
  -- the same check of the fetch fails first, or none does
  pub fetches : first_failed (fetch_checks (thread s t).pcc)
      ≡ first_failed (fetch_checks (thread z t).pcc)
  -- where none does, the same stands at the program counter: an instruction, a native routine, or nothing
  pub stands : first_failed (fetch_checks (thread s t).pcc) ≡ None
      → next_at (space_of b s) (cap_address (thread s t).pcc)
      ≡ next_at (space_of b z) (cap_address (thread z t).pcc)
  pub operands : (n : ℕ) → register (thread s t) n ≡ register (thread z t) n
  -- a load that passes its checks gives the same, from RAM or from a device
  pub loads : (k : Instr) → AccessPasses s t k → (access_of k).loads ≡ true
      → (accessed (access_of k) (authority_of s t k) (value_of s t k) (access_start s t k)
      (space_of b s)).value
      ≡ (accessed (access_of k) (authority_of z t k) (value_of z t k) (access_start z t k)
      (space_of b z)).value

-- ---- what a step does

-- thread t has as many frames as before: it made no call, and no frame of it ended
abbrev pub StaysIn : State → State → ℕ → Type 0
StaysIn s after t = length (thread after t).frames ≡ length (thread s t).frames

-- Of two states in which thread t carries on, what its step makes of each.
pub record Secret (b : Platform) (s z : State) (t : ℕ) : Type 0 where
  -- whatever the step does, calls, returns and traps included, it tells the same deed, or none
  pub deed : (executed b s t).1 ≡ (executed b z t).1
  -- and where the thread stays in its frame, it sees the same of what is left
  pub view : StaysIn s (executed b s t).0 t → Agree b t (executed b s t).0 (executed b z t).0

-- of any two states that are confined, and whose heap is zero where no live object is
abbrev pub Secrecy : Platform → Type 0
Secrecy b =
    (s z : State) (t : ℕ)
    → Partitioned b.image → Wired b → Confined b.image s → Confined b.image z
    → Blank b.image s → Blank b.image z
    → s.running ≡ Some t → Agree b t s z → Secret b s z t

-- ---- what an event does

-- By this event no thread but t carries on: it is a step of thread t, or one that finds no thread to run, a tick, a
-- slice of a sweep, or an input.
abbrev pub NoOtherRuns : Platform → State → ℕ → Event → Type 0
NoOtherRuns b s t Step = (u : ℕ) → (ready b s).running ≡ Some u → u ≡ t
NoOtherRuns b s t Tick = Unit {0}
NoOtherRuns b s t Sweep = Unit {0}
NoOtherRuns b s t (Input n byte) = Unit {0}

-- Of two states to which the same event comes, what it makes of each.
pub record EventSecret (b : Platform) (s z : State) (t : ℕ) (e : Event) : Type 0 where
  pub deed : (happens b s e).1.deed ≡ (happens b z e).1.deed
  -- where thread t stays in its frame, all that is told is the same, a span with interrupts off too
  pub happening : StaysIn s (happens b s e).0 t → (happens b s e).1 ≡ (happens b z e).1
  pub view : StaysIn s (happens b s e).0 t → Agree b t (happens b s e).0 (happens b z e).0
