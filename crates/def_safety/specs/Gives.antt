-- What the switcher gives a thread, in the step that tells why: at a call that it carries out, and where a trap
-- enters an error handler.
use Rattle.std.specs.Prelude.{ℕ, ◌≡◌, ◌≤◌, true, List, ◌∷◌, Option, Some}
use Rattle.ct_entry.specs.declared.acts.Act.TheVariants.{Call, Trap}
use Rattle.ct_entry.specs.declared.acts.Deed.{Deed}
use Rattle.ct_entry.specs.declared.rows.Owner.TheVariants.{Compartment}
use Rattle.def_words.specs.declared.Cap.{Cap}
use Rattle.def_words.specs.Authority.{cap_address}
use Rattle.def_words.specs.Capability.{with_address}
use Rattle.def_reach.specs.Roots.{gate_for}
use Rattle.def_machine.specs.Image.{Image, code_entry, globals_entry, handler_entry, made_cap, root, stack_base}
use Rattle.def_machine.specs.State.{State, Frame, register, thread}
use Rattle.def_confined.specs.Made.{IsOwn, IsReturnSentry, IsStackUpTo}
use Rattle.def_step.specs.Handlers.{is_handled}
use Rattle.def_step.specs.Instructions.{deed}
use Rattle.def_safety.specs.Calling.{stack_up_to}

-- a compartment's code at an export, the switcher's return sentry, or the compartment's globals, as boot made each
pub data IsGivenOwn (i : Image) (a export : ℕ) (d : Cap) : Type 0 where
  code : d ≡ with_address (made_cap i (code_entry i a)) (gate_for i.entries.gates export).code
      → (d.tag ≡ true → IsOwn i a d) → IsGivenOwn i a export d
  back : d ≡ made_cap i 0 → (d.tag ≡ true → IsReturnSentry i d) → IsGivenOwn i a export d
  globals : d ≡ made_cap i (globals_entry i a) → (d.tag ≡ true → IsOwn i a d)
      → IsGivenOwn i a export d

-- thread t tells its call of an export of compartment a, by the entry of its c6, which names that export
pub record TellsCall (i : Image) (s : State) (t : ℕ) (told : Option Deed)
    (a export : ℕ) : Type 0 where
  pub tells : told ≡ Some (deed s t (register (thread s t) 6).shadow.root (Call export))
  pub names : (root i (register (thread s t) 6).shadow.root).of ≡ export
  pub owner : (root i export).owner ≡ Compartment a

-- thread t tells a trap that enters the error handler of its innermost frame's compartment
pub record TellsHandled (i : Image) (s : State) (t : ℕ) (told : Option Deed) (f : Frame)
    (fs : List Frame) : Type 0 where
  pub frames : (thread s t).frames ≡ f ∷ fs
  pub handled : is_handled i (stack_base i t) (thread s t) f ≡ true
  pub cause : ℕ
  pub code : ℕ
  pub number : ℕ
  pub tells : told ≡ Some (deed s t 0 (Trap cause code number))

-- What the switcher gives thread t: at its call the callee's own, and its own stack from its base up to an address
-- that its c2 is at or above; where a trap enters a handler, the handler's own. Nothing of another compartment or
-- thread.
pub data Gives (i : Image) (s : State) (t : ℕ) (told : Option Deed) (d : Cap) : Type 0 where
  to_callee : (a export : ℕ) → TellsCall i s t told a export → IsGivenOwn i a export d
      → Gives i s t told d
  stack : (a export high : ℕ) → TellsCall i s t told a export
      → high ≤ cap_address (register (thread s t) 2)
      → d ≡ stack_up_to i t high (register (thread s t) 2).shadow
      → (d.tag ≡ true → IsStackUpTo i t high d) → Gives i s t told d
  to_handler : (f : Frame) (fs : List Frame) → TellsHandled i s t told f fs
      → IsGivenOwn i f.actor (handler_entry i f.actor) d → Gives i s t told d
