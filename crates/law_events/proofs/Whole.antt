-- The stack lies in RAM, where there is room for a record in it.
use Rattle.std.proofs.Common.{ℕ, ◌≡◌, ◌≤◌, ◌<◌, true, List, ◌∷◌, Some, refl, sym, subst, arith}
use Rattle.def_profile.specs.declared.rights.TheConstants.{STACK_RIGHTS}
use Rattle.def_words.specs.declared.Trap.{Trap}
use Rattle.def_words.specs.Permissions.{bit, store_data, memory_capability}
use Rattle.def_machine.specs.Image.{Image, stack_entry, stack_base, stack_top}
use Rattle.def_machine.specs.State.{State, Frame, thread}
use Rattle.def_confined.specs.Confined.{Confined, FramesHold}
use Rattle.def_confined.specs.Keeps.{Keeps}
use Rattle.def_confined.specs.Partitioned.{Partitioned}
use Rattle.def_confined.specs.Facts.{Facts}
use Rattle.def_step.specs.Handlers.{is_handled, handler_entered}
use Rattle.def_safety.specs.Handlers.{HandlerBegins}
use Rattle.law_events.proofs.Entered.{Says, says, entered_confined, entered_keeps}
use Rattle.law_events.proofs.Begins.{begins}

pub stack_stores : bit STACK_RIGHTS store_data ≡ true
unfolding bit
stack_stores = refl

stack_carries : bit STACK_RIGHTS memory_capability ≡ true
unfolding bit
stack_carries = refl

pub stack_in_ram : (i : Image) (s : State) (t : ℕ) (f : Frame) (fs : List Frame) → Partitioned i → Confined i s → (thread s t).frames ≡ f ∷ fs → Says i s t f → i.ram ≤ stack_base i t
stack_in_ram i s t f fs p h frames say =
    let below : FramesHold i s.objects t (f ∷ fs) = subst (λ (gs : List Frame). FramesHold i s.objects t gs) frames (h.frames t) in
    let rights = (p.stacks_are (stack_entry i t) below.0.stack).0 in
    let top = below.0.high in
    let high = say.high in
    let room = say.room in
    let some : stack_base i t < stack_top i t = omega (arith, top, high, room) in
    (p.carries (stack_entry i t) (stack_base i t) (subst (λ r. bit r store_data ≡ true) (sym rights) stack_stores) (subst (λ r. bit r memory_capability ≡ true) (sym rights) stack_carries) (omega arith) some).0

pub handler_keeps : (i : Image) (s : State) (t : ℕ) (why : Trap) (f : Frame) (fs : List Frame) → Partitioned i → Facts i → Keeps i s → s.running ≡ Some t → (thread s t).frames ≡ f ∷ fs
    → is_handled i (stack_base i t) (thread s t) f ≡ true → Keeps i (handler_entered i s t why f fs)
handler_keeps i s t why f fs p facts k runs frames is = entered_keeps i s t why f fs p facts (stack_in_ram i s t f fs p k.confined frames (says i s t f is)) k runs frames is

pub handler_begins : (i : Image) (s : State) (t : ℕ) (why : Trap) (f : Frame) (fs : List Frame) → Partitioned i → Facts i → Keeps i s → (thread s t).frames ≡ f ∷ fs
    → is_handled i (stack_base i t) (thread s t) f ≡ true → HandlerBegins i s t why f fs (handler_entered i s t why f fs)
handler_begins i s t why f fs p facts k frames is =
    begins i s t why f fs p facts (stack_in_ram i s t f fs p k.confined frames (says i s t f is)) k.confined frames (says i s t f is)

pub handler_confined : (i : Image) (s : State) (t : ℕ) (why : Trap) (f : Frame) (fs : List Frame) → Partitioned i → Facts i → Confined i s → s.running ≡ Some t → (thread s t).frames ≡ f ∷ fs
    → is_handled i (stack_base i t) (thread s t) f ≡ true → Confined i (handler_entered i s t why f fs)
handler_confined i s t why f fs p facts h runs frames is = entered_confined i s t why f fs p facts (stack_in_ram i s t f fs p h frames (says i s t f is)) h runs frames (says i s t f is)
