-- What the thread that carries on holds after its step.
use Rattle.std.specs.Prelude.{ℕ, ◌≡◌, false, Option, Some}
use Rattle.ct_entry.specs.declared.acts.Deed.{Deed}
use Rattle.def_words.specs.declared.Cap.{Cap}
use Rattle.def_machine.specs.Heap.{object_cap}
use Rattle.def_machine.specs.Objects.{Any}
use Rattle.def_machine.specs.Platform.{Platform}
use Rattle.def_machine.specs.State.{State, Thread, Object, register, thread}
use Rattle.def_step.specs.declared.Event.TheVariants.{Step}
use Rattle.def_step.specs.Events.{happens}
use Rattle.def_step.specs.Tokens.{opened_token, sealed_token}
use Rattle.def_safety.specs.Comes.{IsNew, Makes, Saves, Stood}
use Rattle.def_safety.specs.Each.{ready}
use Rattle.def_safety.specs.Everywhere.{ThreadHas}
use Rattle.def_safety.specs.Opening.{MayOpen}

-- it is a thread's program counter, in one of its registers, or saved by one of its frames
pub data InThread (t : Thread) (c : Cap) : Type 0 where
  as_counter : c ≡ t.pcc → InThread t c
  as_register : (n : ℕ) → c ≡ register t n → InThread t c
  as_saved : Any (Saves c) t.frames → InThread t c

-- Thread t, which carries on in s, holds d afterwards: d is untagged; it held it, itself; it made it, or the switcher
-- gave it; it is the capability of an object that was handed out, as it is or sealed as a token; or it is the token of
-- its c11 without its seal, where it runs token_open.
pub data RunningComes (b : Platform) (s : State) (t : ℕ) (told : Option Deed) (after : State)
    (d : Cap) : Type 0 where
  untagged : d.tag ≡ false → RunningComes b s t told after d
  own : InThread (thread s t) d → RunningComes b s t told after d
  made : Makes b (Stood s) s t told d → RunningComes b s t told after d
  object : (r : Object) → IsNew s after r → d ≡ object_cap r → RunningComes b s t told after d
  sealed : (r : Object) → IsNew s after r → d ≡ sealed_token r → RunningComes b s t told after d
  token : MayOpen b s t → d ≡ opened_token (register (thread s t) 11)
      → RunningComes b s t told after d

-- so does everything that it holds: program counter, registers, and what its frames saved
abbrev pub RunningHolds : Platform → State → Type 0
RunningHolds b s =
    (t : ℕ) → (ready b s).running ≡ Some t
    → ThreadHas
    (RunningComes b (ready b s) t (happens b s Step).1.deed (happens b s Step).0)
    (thread (happens b s Step).0 t)
