-- *Integrity*, of threads: what an event may change of a thread, and what a step does to the frames of its own.
use Rattle.std.specs.Prelude.{ℕ, ◌≡◌, true, List, [], ◌∷◌, Some, None}
use Rattle.def_words.specs.declared.Cap.{Cap}
use Rattle.def_words.specs.Authority.{cap_address}
use Rattle.def_words.specs.Permissions.{load_data}
use Rattle.def_sched.specs.declared.Status.TheVariants.{Ready, Waiting}
use Rattle.def_machine.specs.Platform.{Platform}
use Rattle.def_machine.specs.State.{State, Thread, Frame, thread, register}
use Rattle.def_machine.specs.Threads.{timed}
use Rattle.def_step.specs.declared.Event.{Event}
use Rattle.def_step.specs.declared.Event.TheVariants.{Step, Tick, Sweep}
use Rattle.def_step.specs.Checks.{first_failed}
use Rattle.def_step.specs.Events.{happens}
use Rattle.def_step.specs.Routines.{word_checks}
use Rattle.def_safety.specs.Accesses.{IsUseAt}
use Rattle.def_safety.specs.Each.{ready}
use Rattle.def_integrity.specs.Acting.{Acting, IsAuthority}
use Rattle.def_integrity.specs.Touched.{IsFiltered}

-- The running thread woke it: it waited for the word that c10 of that thread names, which the actor may load through
-- authority of its own; its status is ready, and all else of it is as it was.
pub record IsWoken (b : Platform) (s : State) (u : ℕ) (new : Thread) : Type 0 where
  pub by : Acting s
  pub authority : IsAuthority (register (thread s by.thread_is) 10)
      (cap_address (register (thread s by.thread_is) 10)) 4 load_data
  pub checks : first_failed (word_checks b.image s (register (thread s by.thread_is) 10)) ≡ None
  pub loads : IsUseAt b.image s.objects by.thread_is by.frame.actor
      (register (thread s by.thread_is) 10) (cap_address (register (thread s by.thread_is) 10)) 4
      load_data
  pub waits : (thread s u).status
      ≡ Waiting (cap_address (register (thread s by.thread_is) 10))
  pub new_is : new ≡ record (thread s u) { status = Ready }

-- of what each place of a frame held and holds; all else of it is as it was
pub record FrameFaded (P : Cap → Cap → Type 0) (f h : Frame) : Type 0 where
  pub actor : h.actor ≡ f.actor
  pub export : h.export ≡ f.export
  pub same_top : h.top ≡ f.top
  pub handling : h.handling ≡ f.handling
  pub c1 : P f.c1 h.c1
  pub c2 : P f.c2 h.c2
  pub c3 : P f.c3 h.c3
  pub c8 : P f.c8 h.c8
  pub c9 : P f.c9 h.c9

abbrev pub FramesFaded : (Cap → Cap → Type 0) → List Frame → List Frame → Type 0
FramesFaded P [] [] = Unit {0}
FramesFaded P (f ∷ fs) (h ∷ hs) = FrameFaded P f h × FramesFaded P fs hs
FramesFaded P [] (h ∷ hs) = ⊥
FramesFaded P (f ∷ fs) [] = ⊥

-- the same of a thread
pub record ThreadFaded (P : Cap → Cap → Type 0) (old new : Thread) : Type 0 where
  pub pcc : P old.pcc new.pcc
  pub registers : (n : ℕ) → P (register old n) (register new n)
  pub frames : FramesFaded P old.frames new.frames
  pub status : new.status ≡ old.status
  pub posture : new.posture ≡ old.posture

-- a sweep leaves the registers and the program counter of the running thread as they are
abbrev pub KeepsRegisters : State → ℕ → Thread → Thread → Type 0
KeepsRegisters s u old new =
    s.running ≡ Some u → (new.pcc ≡ old.pcc) × (new.registers ≡ old.registers)

-- ---- the frames of the thread that carries on

-- They are as they were; or a call pushed one; or the innermost is marked, where an error handler is entered; or it
-- ended. What the others saved stays.
pub data FramesGo (old new : List Frame) : Type 0 where
  as_before : new ≡ old → FramesGo old new
  by_call : (g : Frame) → new ≡ g ∷ old → FramesGo old new
  by_handler : (f : Frame) (fs : List Frame) → old ≡ f ∷ fs
      → new ≡ record f { handling = true } ∷ fs → FramesGo old new
  by_end : (f : Frame) (fs : List Frame) → old ≡ f ∷ fs → new ≡ fs → FramesGo old new

abbrev pub OwnFrames : Platform → State → Event → Type 0
OwnFrames b s e =
    (t : ℕ) → e ≡ Step → (ready b s).running ≡ Some t
    → FramesGo (thread s t).frames (thread (happens b s e).0 t).frames

-- ---- whole

-- A thread is as it was before an event; or it carried on, and of its frames its own step pushed, marked or ended one
-- alone; or the running thread woke it; or a tick came, which changes its status alone; or a sweep passed it, by
-- which tags go for marks.
pub data ThreadTouched (b : Platform) (s : State) (e : Event) (u : ℕ) : Type 0 where
  as_before : thread (happens b s e).0 u ≡ thread s u → ThreadTouched b s e u
  by_own_step : e ≡ Step → (ready b s).running ≡ Some u
      → FramesGo (thread s u).frames (thread (happens b s e).0 u).frames → ThreadTouched b s e u
  by_wake : e ≡ Step → IsWoken b (ready b s) u (thread (happens b s e).0 u)
      → ThreadTouched b s e u
  by_tick : e ≡ Tick → thread (happens b s e).0 u ≡ timed (thread s u) → ThreadTouched b s e u
  by_sweep : e ≡ Sweep → ThreadFaded (IsFiltered b s) (thread s u) (thread (happens b s e).0 u)
      → KeepsRegisters s u (thread s u) (thread (happens b s e).0 u) → ThreadTouched b s e u

abbrev pub ThreadsKept : Platform → State → Event → Type 0
ThreadsKept b s e = (u : ℕ) → ThreadTouched b s e u
