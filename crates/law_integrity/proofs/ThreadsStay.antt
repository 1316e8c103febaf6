-- What a list of events leaves of a thread that doesn't carry on.
use Rattle.std.proofs.Common.{ℕ, inl, inr, List, [], ◌∷◌, refl, sym, ap, ◌∙◌, subst}
use Rattle.def_words.specs.declared.Cap.{Cap}
use Rattle.def_sched.specs.declared.Status.{Status}
use Rattle.def_sched.specs.declared.Status.TheVariants.{Ready}
use Rattle.def_sched.specs.Statuses.{after_tick}
use Rattle.def_machine.specs.Platform.{Platform}
use Rattle.def_machine.specs.State.{State, Thread, Frame, thread, register}
use Rattle.def_machine.specs.Threads.{with_status}
use Rattle.def_confined.specs.Facts.{Facts}
use Rattle.def_confined.specs.Keeps.{Keeps}
use Rattle.def_confined.specs.Partitioned.{Partitioned}
use Rattle.def_step.specs.declared.Event.{Event}
use Rattle.def_step.specs.Events.{happens, run}
use Rattle.def_safety.specs.Wired.{Wired}
use Rattle.def_integrity.specs.Homes.{CarriesOn, WordStays, SameThread, ThreadsStay}
use Rattle.def_integrity.specs.Threads.{FramesFaded, ThreadTouched, as_before, by_own_step, by_wake, by_tick, by_sweep}
use Rattle.def_integrity.specs.Touched.{IsFiltered}
use Rattle.law_events.proofs.Events.{event_keeps}
use Rattle.law_integrity.proofs.ThreadEvents.{ready_thread, threads_kept}

-- ---- words

pub filtered_word : (b : Platform) (s : State) (c d : Cap) → IsFiltered b s c d → WordStays c d
filtered_word b s c d h = elim h [
  | inl same ↦ ap (λ (x : Cap). x.word) same
  | inr gone ↦ ap (λ (x : Cap). x.word) gone.2
]

frames_words : (b : Platform) (s : State) (fs hs : List Frame) → FramesFaded (IsFiltered b s) fs hs → FramesFaded WordStays fs hs
frames_words b s [] [] h = tt
frames_words b s (f ∷ fs) (g ∷ hs) h = (
  record {
    actor = h.0.actor;
    export = h.0.export;
    same_top = h.0.same_top;
    handling = h.0.handling;
    c1 = filtered_word b s f.c1 g.c1 h.0.c1;
    c2 = filtered_word b s f.c2 g.c2 h.0.c2;
    c3 = filtered_word b s f.c3 g.c3 h.0.c3;
    c8 = filtered_word b s f.c8 g.c8 h.0.c8;
    c9 = filtered_word b s f.c9 g.c9 h.0.c9;
  },
  frames_words b s fs hs h.1,
)
frames_words b s [] (g ∷ hs) h = absurd h
frames_words b s (f ∷ fs) [] h = absurd h

same_frames : (fs : List Frame) → FramesFaded WordStays fs fs
same_frames [] = tt
same_frames (f ∷ fs) = (record { actor = refl; export = refl; same_top = refl; handling = refl; c1 = refl; c2 = refl; c3 = refl; c8 = refl; c9 = refl }, same_frames fs)

frames_on : (fs gs hs : List Frame) → FramesFaded WordStays fs gs → FramesFaded WordStays gs hs → FramesFaded WordStays fs hs
frames_on [] [] [] a b = tt
frames_on (f ∷ fs) (g ∷ gs) (h ∷ hs) a b = (
  record {
    actor = b.0.actor ∙ a.0.actor;
    export = b.0.export ∙ a.0.export;
    same_top = b.0.same_top ∙ a.0.same_top;
    handling = b.0.handling ∙ a.0.handling;
    c1 = b.0.c1 ∙ a.0.c1;
    c2 = b.0.c2 ∙ a.0.c2;
    c3 = b.0.c3 ∙ a.0.c3;
    c8 = b.0.c8 ∙ a.0.c8;
    c9 = b.0.c9 ∙ a.0.c9;
  },
  frames_on fs gs hs a.1 b.1,
)
frames_on [] (g ∷ gs) hs a b = absurd a
frames_on (f ∷ fs) [] hs a b = absurd a
frames_on [] [] (h ∷ hs) a b = absurd b
frames_on (f ∷ fs) (g ∷ gs) [] a b = absurd b

-- ---- threads

itself : (x : Thread) → SameThread x x
itself x = record { pcc = refl; registers = λ n. refl; frames = same_frames x.frames; posture = refl }

-- with another status alone
with_other : (x : Thread) (k : Status) → SameThread x (with_status x k)
with_other x k = record { pcc = refl; registers = λ n. refl; frames = same_frames x.frames; posture = refl }

onward : (x y z : Thread) → SameThread x y → SameThread y z → SameThread x z
onward x y z a b = record {
  pcc = b.pcc ∙ a.pcc;
  registers = λ n. b.registers n ∙ a.registers n;
  frames = frames_on x.frames y.frames z.frames a.frames b.frames;
  posture = b.posture ∙ a.posture;
}

-- of one event
stays_same : (b : Platform) (s : State) (e : Event) (t : ℕ) → (CarriesOn b s e t → ⊥) → ThreadTouched b s e t → SameThread (thread s t) (thread (happens b s e).0 t)
stays_same b s e t idle (as_before same) = subst (SameThread (thread s t)) (sym same) (itself (thread s t))
stays_same b s e t idle (by_own_step step runs go) = absurd (idle (step, runs))
stays_same b s e t idle (by_wake step h) = elim (ready_thread b s t) [
  | inl stays ↦ subst (SameThread (thread s t)) (sym (h.new_is ∙ ap (λ (x : Thread). with_status x Ready) stays)) (with_other (thread s t) Ready)
  | inr runs ↦ absurd (idle (step, runs))
]
stays_same b s e t idle (by_tick tick is) = subst (SameThread (thread s t)) (sym is) (with_other (thread s t) (after_tick (thread s t).status))
stays_same b s e t idle (by_sweep sweep h lives) = record {
  pcc = filtered_word b s (thread s t).pcc (thread (happens b s e).0 t).pcc h.pcc;
  registers = λ n. filtered_word b s (register (thread s t) n) (register (thread (happens b s e).0 t) n) (h.registers n);
  frames = frames_words b s (thread s t).frames (thread (happens b s e).0 t).frames h.frames;
  posture = h.posture;
}

pub threads_stay : (b : Platform) (s : State) (es : List Event) → Partitioned b.image → Facts b.image → Wired b → Keeps b.image s → ThreadsStay b s es
unfolding run
threads_stay b s [] p facts wired keeps t none = itself (thread s t)
threads_stay b s (e ∷ es) p facts wired keeps t none =
    onward (thread s t) (thread (happens b s e).0 t) (thread (run b (happens b s e).0 es) t) (stays_same b s e t none.0 (threads_kept b s e p keeps t))
    (threads_stay b (happens b s e).0 es p facts wired (event_keeps b s e p facts wired keeps) t none.1)
