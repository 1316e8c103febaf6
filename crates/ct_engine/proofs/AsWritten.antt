-- Calls, frames' ends and error handlers over what is seen, as the machine's definitions write them.
use Rattle.std.proofs.Common.{ℕ, ◌≡◌, true, false, List, [], ◌∷◌, Option, None, refl, ap, ◌∙◌}
use Rattle.def_words.specs.declared.Cap.{Cap}
use Rattle.def_words.specs.declared.Trap.{Trap}
use Rattle.def_memory.specs.Granules.{plain}
use Rattle.def_machine.specs.Image.{Image, handler_entry, stack_base, frames_most}
use Rattle.def_machine.specs.State.{State, Thread, Frame, nobody, register}
use Rattle.def_machine.specs.State as state
use Rattle.def_machine.specs.Memory.{filtered_in}
use Rattle.def_machine.specs.Frames.{entered_by, answer, answer_by, left_with, left_by}
use Rattle.def_step.specs.Switch.{Enters, switch_of, frame_top}
use Rattle.def_step.specs.Handlers.{handed, is_handled}
use Rattle.ct_switch.specs.Exports.{callee_of}
use Rattle.ct_engine.specs.Seen.{EngineRow, thread}
use Rattle.ct_engine.specs.Calls.{HeadStands, switch_at, switched, after_call, ended_by, returned, ended_with}
use Rattle.ct_engine.specs.Handling.{is_handled_at, handed_at, after_trap}
use Rattle.ct_engine.specs.Written.{Shows, written, callee_thread, handler_seen}
use Rattle.ct_engine.proofs.Entering.{given_made}

pub comes_is : (i : Image) (m : State) (s : EngineRow) (t : ℕ) → Shows i m s t
    → switch_at s i.entries t ≡ switch_of i.entries (stack_base i t) (frame_top (state.thread m t).frames) (frames_most i t) (state.thread m t)
comes_is i m s t h = rw (h.stack, h.frames, h.thread) refl

-- the stack is zeroed as the image has it
switched_is : (i : Image) (m : State) (s : EngineRow) (t high : ℕ) (new : Thread) (run : Option ℕ) → Shows i m s t → switched s t high new run ≡ written i m s t high new run
switched_is i m s t high new run h = rw (h.stack, h.ram, h.granules) refl

pub enters_is : (i : Image) (m : State) (s : EngineRow) (t export high : ℕ) → Shows i m s t → HeadStands i s t export
    → after_call s i.entries t (Enters export high) ≡ written i m s t high (callee_thread i m t export high) s.state.running
enters_is i m s t export high h heads =
    ap (λ g. switched s t high (entered_by i.entries (thread s t) (callee_of i.entries export) export high g) s.state.running) (given_made i s t export high heads)
    ∙ rw h.thread (switched_is i m s t high (callee_thread i m t export high) s.state.running h)

frames_is : (i : Image) (m : State) (s : EngineRow) (t : ℕ) (fs : List Frame) → Shows i m s t → (state.thread m t).frames ≡ fs → (thread s t).frames ≡ fs
frames_is i m s t fs h frames = ap (λ (u : Thread). u.frames) h.thread ∙ frames

-- what is left of the thread, with results that go by the thread
left_is : (i : Image) (m : State) (s : EngineRow) (t : ℕ) (f : Frame) (fs : List Frame) (first second : Thread → Cap) → Shows i m s t
    → left_with (filtered_in s.region.ram s.state.granules) (thread s t) f fs (first (thread s t)) (second (thread s t))
    ≡ left_by i m (state.thread m t) f fs (first (state.thread m t)) (second (state.thread m t))
left_is i m s t f fs first second h = rw (h.ram, h.granules, h.thread) refl

goes_is : (i : Image) (m : State) (s : EngineRow) (t : ℕ) (f g : Frame) (fs : List Frame) (first second : Thread → Frame → Cap) → Shows i m s t
    → (state.thread m t).frames ≡ f ∷ g ∷ fs
    → ended_by s t (first (thread s t)) (second (thread s t)) (thread s t).frames
    ≡ written i m s t f.top (left_by i m (state.thread m t) f (g ∷ fs) (first (state.thread m t) f) (second (state.thread m t) f)) s.state.running
goes_is i m s t f g fs first second h frames =
    ap (λ l. ended_by s t (first (thread s t)) (second (thread s t)) l) (frames_is i m s t (f ∷ g ∷ fs) h frames)
    ∙ ap (λ u. switched s t f.top u s.state.running) (left_is i m s t f (g ∷ fs) (λ u. first u f) (λ u. second u f) h)
    ∙ switched_is i m s t f.top (left_by i m (state.thread m t) f (g ∷ fs) (first (state.thread m t) f) (second (state.thread m t) f)) s.state.running h

pub back_is : (i : Image) (m : State) (s : EngineRow) (t : ℕ) (f g : Frame) (fs : List Frame) → Shows i m s t → (state.thread m t).frames ≡ f ∷ g ∷ fs
    → returned s i.entries t
    ≡ written i m s t f.top (left_by i m (state.thread m t) f (g ∷ fs) (answer i (state.thread m t) f 10) (answer i (state.thread m t) f 11)) s.state.running
back_is i m s t f g fs h frames = goes_is i m s t f g fs (λ u x. answer_by i.entries u x 10) (λ u x. answer_by i.entries u x 11) h frames

pub value_is : (i : Image) (m : State) (s : EngineRow) (t v : ℕ) (f g : Frame) (fs : List Frame) → Shows i m s t → (state.thread m t).frames ≡ f ∷ g ∷ fs
    → ended_with s t v ≡ written i m s t f.top (left_by i m (state.thread m t) f (g ∷ fs) (plain v) (plain 0)) s.state.running
value_is i m s t v f g fs h frames = goes_is i m s t f g fs (λ u x. plain v) (λ u x. plain 0) h frames

pub last_is : (i : Image) (m : State) (s : EngineRow) (t v : ℕ) (f : Frame) → Shows i m s t → (state.thread m t).frames ≡ f ∷ []
    → (returned s i.entries t ≡ written i m s t f.top nobody None) × (ended_with s t v ≡ written i m s t f.top nobody None)
last_is i m s t v f h frames =
    let one = frames_is i m s t (f ∷ []) h frames in
    let over = switched_is i m s t f.top nobody None h in
    (rw one over, rw one over)

-- ---- an error handler

pub handled_comes : (i : Image) (m : State) (s : EngineRow) (t : ℕ) (f : Frame) (fs : List Frame) → Shows i m s t → (state.thread m t).frames ≡ f ∷ fs
    → is_handled_at s t (handler_entry i f.actor) ≡ is_handled i (stack_base i t) (state.thread m t) f
handled_comes i m s t f fs h frames = rw (frames_is i m s t (f ∷ fs) h frames, h.stack, h.thread) refl

-- what it gets, where the export is of this compartment
pub handed_made : (i : Image) (s : EngineRow) (t actor : ℕ) → HeadStands i s t (handler_entry i actor) → callee_of i.entries (handler_entry i actor) ≡ actor
    → handed_at s i.entries (handler_entry i actor) ≡ handed i actor
handed_made i s t actor h own = rw (h.code, h.globals, h.back, own) refl

pub handler_enters : (i : Image) (m : State) (s : EngineRow) (t : ℕ) (why : Trap) (f : Frame) (fs : List Frame) → Shows i m s t → HeadStands i s t (handler_entry i f.actor)
    → callee_of i.entries (handler_entry i f.actor) ≡ f.actor → (state.thread m t).frames ≡ f ∷ fs → is_handled i (stack_base i t) (state.thread m t) f ≡ true
    → after_trap s i.entries t (handler_entry i f.actor) why ≡ handler_seen i m s t why f fs
handler_enters i m s t why f fs h heads own frames is =
    rw (
      handled_comes i m s t f fs h frames ∙ is,
      frames_is i m s t (f ∷ fs) h frames,
      heads.code,
      heads.globals,
      heads.back,
      own,
      h.thread,
      h.ram,
      h.granules,
    ) refl

pub handler_stays : (i : Image) (m : State) (s : EngineRow) (t : ℕ) (why : Trap) (f : Frame) (fs : List Frame) → Shows i m s t → (state.thread m t).frames ≡ f ∷ fs
    → is_handled i (stack_base i t) (state.thread m t) f ≡ false → after_trap s i.entries t (handler_entry i f.actor) why ≡ s
handler_stays i m s t why f fs h frames is = rw (handled_comes i m s t f fs h frames ∙ is) refl
