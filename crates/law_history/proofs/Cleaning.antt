-- *Clean calls*, of one event.
use Rattle.std.proofs.Common.{ℕ, ◌≡◌, true, false, List, [], ◌∷◌, Option, Some, None, refl, sym, ap, ◌∙◌, subst}
use Rattle.law_lists.proofs.Tests.{chosen}
use Rattle.ct_entry.specs.declared.acts.Act.{Act}
use Rattle.ct_entry.specs.declared.acts.Act.TheVariants as acts
use Rattle.ct_entry.specs.declared.acts.Deed.{Deed}
use Rattle.def_machine.specs.Image.{Image, stack_base}
use Rattle.def_words.specs.declared.Trap.{Trap}
use Rattle.def_step.specs.Handlers.{is_handled, handler_entered, trap_taken}
use Rattle.def_safety.specs.Handlers.{HandlerBegins}
use Rattle.law_events.proofs.Whole.{handler_begins}
use Rattle.def_machine.specs.State.{State, Thread, Frame, Counts, thread, nobody}
use Rattle.def_machine.specs.Frames.{unwound}
use Rattle.def_confined.specs.Keeps.{Keeps}
use Rattle.def_confined.specs.Partitioned.{Partitioned}
use Rattle.def_confined.specs.Facts.{Facts}
use Rattle.def_step.specs.declared.Event.{Event}
use Rattle.def_step.specs.declared.Event.TheVariants.{Step, Tick, Sweep, Input}
use Rattle.def_step.specs.Events.{noted, with_deed, stepped}
use Rattle.def_step.specs.Instructions.{executed}
use Rattle.def_machine.specs.Platform.{Platform}
use Rattle.def_safety.specs.Clean.{AnswersNumber, CleanEntry, CleanReturn, minus_one}
use Rattle.law_events.proofs.Cleans.{enters_clean, unwind_clean, switched_thread}
use Rattle.law_events.proofs.Events.{ready_keeps}
use Rattle.def_safety.specs.Each.{ready}
use Rattle.def_safety.specs.Calls.{CleanEvent, enters_handler}
use Rattle.def_events.specs.Entering.{LastEnds}
use Rattle.law_history.proofs.Steps.{none_told, step_case}
use Rattle.law_history.proofs.Telling.{ToldBy, Tells, executed_tells}
use Rattle.law_history.proofs.Ending.{Left, executed_ends}
use Rattle.law_history.proofs.Returning.{counted_return, step_answers, step_hands}

-- counts don't matter
counted_entry : (i : Image) (s : State) (t export : ℕ) (z : State) (c : Counts) → CleanEntry i s t export z → CleanEntry i s t export (record z { counts = c })
counted_entry i s t export z c h = record {
  code = h.code;
  back = h.back;
  stack = h.stack;
  globals = h.globals;
  arguments = h.arguments;
  zero = h.zero;
  tagged = h.tagged;
  frames = h.frames;
  end_is = h.end_is;
  asked = h.asked;
  below = h.below;
  posture = h.posture;
}

-- ---- a step

step_enters : (b : Platform) (s : State) (d : Deed) (export : ℕ) → Partitioned b.image → Facts b.image → Keeps b.image s → d.act ≡ acts.Call export → (stepped b s).1 ≡ Some d → CleanEntry b.image (ready b s) d.thread export (stepped b s).0
step_enters b s d export parts facts k act = step_case (λ (r : State × Option Deed). r.1 ≡ Some d → CleanEntry b.image (ready b s) d.thread export r.0) b s
    (λ idle e. none_told d e)
    (λ t runs e. at t runs (executed_tells b (ready b s) t d e))
  where
    at : (t : ℕ) → (ready b s).running ≡ Some t → Tells b (ready b s) t (executed b (ready b s) t).0 d → CleanEntry b.image (ready b s) d.thread export (noted (executed b (ready b s) t)).0
    at t runs told =
        let by : ToldBy b (ready b s) t (executed b (ready b s) t).0 d.entry (acts.Call export) = subst (λ (a : Act). ToldBy b (ready b s) t (executed b (ready b s) t).0 d.entry a) act told.by in
        let clean = enters_clean b.image (ready b s) (executed b (ready b s) t).0 t d.entry export parts facts (ready_keeps b s parts k) runs by in
        counted_entry b.image (ready b s) d.thread export (executed b (ready b s) t).0 (with_deed (executed b (ready b s) t).0.counts (executed b (ready b s) t).1)
        (subst (λ u. CleanEntry b.image (ready b s) u export (executed b (ready b s) t).0) (sym told.thread) clean)

step_leaves : (b : Platform) (s : State) (t : ℕ) (f g : Frame) (gs : List Frame) → (ready b s).running ≡ Some t → (thread (ready b s) t).frames ≡ f ∷ g ∷ gs → (thread (stepped b s).0 t).frames ≡ g ∷ gs → Left b (ready b s) t f (g ∷ gs) (stepped b s).0
step_leaves b s t f g gs runs before = step_case (λ (r : State × Option Deed). (thread r.0 t).frames ≡ g ∷ gs → Left b (ready b s) t f (g ∷ gs) r.0) b s
    (λ idle after. absurd (let clash : None ≡ Some t = sym idle ∙ runs in cc))
    (λ u is. (let both : Some t ≡ Some u = sym runs ∙ is in let same : t ≡ u = cc in subst (λ n. (thread (noted (executed b (ready b s) n)).0 t).frames ≡ g ∷ gs → Left b (ready b s) t f (g ∷ gs) (noted (executed b (ready b s) n)).0) same own))
  where
    own : (thread (noted (executed b (ready b s) t)).0 t).frames ≡ g ∷ gs → Left b (ready b s) t f (g ∷ gs) (noted (executed b (ready b s) t)).0
    own after = (let clean = executed_ends b (ready b s) t f g gs before after in
        (counted_return b.image (ready b s) t f (g ∷ gs) (executed b (ready b s) t).0 (with_deed (executed b (ready b s) t).0.counts (executed b (ready b s) t).1) clean.0, clean.1))

-- a trap's state, by whether it enters a handler
unwound_case : (i : Image) (s : State) (t : ℕ) (why : Trap) (f : Frame) (fs : List Frame) → is_handled i (stack_base i t) (thread s t) f ≡ false → trap_taken i s t why (f ∷ fs) ≡ unwound i s t (f ∷ fs)
unwound_case i s t why f fs not = chosen (λ z. z ≡ unwound i s t (f ∷ fs)) (is_handled i (stack_base i t) (thread s t) f) (handler_entered i s t why f fs) (unwound i s t (f ∷ fs))
    (λ is. absurd (let clash : true ≡ false = sym is ∙ not in cc)) (λ no. refl)

entered_case : (i : Image) (s : State) (t : ℕ) (why : Trap) (f : Frame) (fs : List Frame) → is_handled i (stack_base i t) (thread s t) f ≡ true → trap_taken i s t why (f ∷ fs) ≡ handler_entered i s t why f fs
entered_case i s t why f fs is = chosen (λ z. z ≡ handler_entered i s t why f fs) (is_handled i (stack_base i t) (thread s t) f) (handler_entered i s t why f fs) (unwound i s t (f ∷ fs))
    (λ yes. refl) (λ no. absurd (let clash : true ≡ false = sym is ∙ no in cc))

counted_begin : (i : Image) (s : State) (t : ℕ) (why : Trap) (f : Frame) (fs : List Frame) (z : State) (c : Counts) → HandlerBegins i s t why f fs z → HandlerBegins i s t why f fs (record z { counts = c })
counted_begin i s t why f fs z c h = record {
  at = h.at;
  place = h.place;
  pcc = h.pcc;
  back = h.back;
  stack = h.stack;
  globals = h.globals;
  c10 = h.c10;
  c11 = h.c11;
  c12 = h.c12;
  zero = h.zero;
  posture = h.posture;
  frames = h.frames;
  words = record { registers = h.words.registers; cause = h.words.cause; code = h.words.code; untagged = h.words.untagged };
  marks = h.marks;
  rest = h.rest;
}

-- what is so of the state that a trap led to is so of what the step left
step_trap : (P : State → Type 0) (b : Platform) (s : State) (d : Deed) (cause code register : ℕ) → d.act ≡ acts.Trap cause code register → (stepped b s).1 ≡ Some d
    → ((z : State) (c : Counts) → P z → P (record z { counts = c }))
    → P (trap_taken b.image (ready b s) d.thread (record { cause = cause; code = code; register = register }) (thread (ready b s) d.thread).frames) → P (stepped b s).0
step_trap P b s d cause code register act told counted h = step_case (λ (r : State × Option Deed). r.1 ≡ Some d → P r.0) b s
    (λ idle e. none_told d e)
    (λ t runs e. at t (executed_tells b (ready b s) t d e))
    told
  where
    at : (t : ℕ) → Tells b (ready b s) t (executed b (ready b s) t).0 d → P (noted (executed b (ready b s) t)).0
    at t tells =
        let by : (executed b (ready b s) t).0 ≡ trap_taken b.image (ready b s) t (record { cause = cause; code = code; register = register }) (thread (ready b s) t).frames = subst (λ (a : Act). ToldBy b (ready b s) t (executed b (ready b s) t).0 d.entry a) act tells.by in
        let here : P (trap_taken b.image (ready b s) t (record { cause = cause; code = code; register = register }) (thread (ready b s) t).frames) = subst (λ u. P (trap_taken b.image (ready b s) u (record { cause = cause; code = code; register = register }) (thread (ready b s) u).frames)) tells.thread h in
        counted (executed b (ready b s) t).0 (with_deed (executed b (ready b s) t).0.counts (executed b (ready b s) t).1) (subst (λ (z : State). P z) (sym by) here)

step_unwinds : (b : Platform) (s : State) (d : Deed) (cause code register : ℕ) (f g : Frame) (gs : List Frame) → d.act ≡ acts.Trap cause code register → (thread (ready b s) d.thread).frames ≡ f ∷ g ∷ gs → enters_handler b (ready b s) d.thread f ≡ false → (stepped b s).1 ≡ Some d
    → CleanReturn b.image (ready b s) d.thread f (g ∷ gs) (stepped b s).0 × AnswersNumber (stepped b s).0 d.thread minus_one
step_unwinds b s d cause code register f g gs act frames not told = step_trap Unwinds b s d cause code register act told (λ z c h. (counted_return b.image (ready b s) d.thread f (g ∷ gs) z c h.0, h.1))
    (subst (λ (fs : List Frame). Unwinds (trap_taken b.image (ready b s) d.thread (record { cause = cause; code = code; register = register }) fs)) (sym frames)
    (subst Unwinds (sym (unwound_case b.image (ready b s) d.thread (record { cause = cause; code = code; register = register }) f (g ∷ gs) not))
    (unwind_clean b.image (ready b s) d.thread f g gs frames)))
  where
    Unwinds : State → Type 0
    Unwinds z = CleanReturn b.image (ready b s) d.thread f (g ∷ gs) z × AnswersNumber z d.thread minus_one

step_handles : (b : Platform) (s : State) (d : Deed) (cause code register : ℕ) (f : Frame) (fs : List Frame) → Partitioned b.image → Facts b.image → Keeps b.image s → d.act ≡ acts.Trap cause code register → (thread (ready b s) d.thread).frames ≡ f ∷ fs → enters_handler b (ready b s) d.thread f ≡ true → (stepped b s).1 ≡ Some d
    → HandlerBegins b.image (ready b s) d.thread (record { cause = cause; code = code; register = register }) f fs (stepped b s).0
step_handles b s d cause code register f fs parts facts k act frames is told =
    step_trap (HandlerBegins b.image (ready b s) d.thread (record { cause = cause; code = code; register = register }) f fs) b s d cause code register act told (counted_begin b.image (ready b s) d.thread (record { cause = cause; code = code; register = register }) f fs)
    (subst (λ (gs : List Frame). HandlerBegins b.image (ready b s) d.thread (record { cause = cause; code = code; register = register }) f fs (trap_taken b.image (ready b s) d.thread (record { cause = cause; code = code; register = register }) gs)) (sym frames)
    (subst (λ (z : State). HandlerBegins b.image (ready b s) d.thread (record { cause = cause; code = code; register = register }) f fs z) (sym (entered_case b.image (ready b s) d.thread (record { cause = cause; code = code; register = register }) f fs is))
    (handler_begins b.image (ready b s) d.thread (record { cause = cause; code = code; register = register }) f fs parts facts (ready_keeps b s parts k) frames is)))

-- ---- an event

pub clean_event : (b : Platform) (s : State) (e : Event) → Partitioned b.image → Facts b.image → Keeps b.image s → CleanEvent b s e
clean_event b s Step parts facts k = record {
  enters = λ d export is act. step_enters b s d export parts facts k act is;
  returns = λ t f g gs step r before not. step_hands b s t f g gs r before not;
  answers = λ t f g gs step r before handles. step_answers b s t f g gs r before handles;
  leaves = λ t f g gs step runs before after. step_leaves b s t f g gs runs before after;
  unwinds = λ d cause code register f g gs is act frames not. step_unwinds b s d cause code register f g gs act frames not is;
  handles = λ d cause code register f fs is act frames enters. step_handles b s d cause code register f fs parts facts k act frames enters is;
}
clean_event b s Tick parts facts k = record {
  enters = λ d export is act. none_told d is;
  returns = λ t f g gs step. absurd (let clash : Tick ≡ Step = step in cc);
  answers = λ t f g gs step. absurd (let clash : Tick ≡ Step = step in cc);
  leaves = λ t f g gs step. absurd (let clash : Tick ≡ Step = step in cc);
  unwinds = λ d cause code register f g gs is act frames not. none_told d is;
  handles = λ d cause code register f fs is act frames enters. none_told d is;
}
clean_event b s Sweep parts facts k = record {
  enters = λ d export is act. none_told d is;
  returns = λ t f g gs step. absurd (let clash : Sweep ≡ Step = step in cc);
  answers = λ t f g gs step. absurd (let clash : Sweep ≡ Step = step in cc);
  leaves = λ t f g gs step. absurd (let clash : Sweep ≡ Step = step in cc);
  unwinds = λ d cause code register f g gs is act frames not. none_told d is;
  handles = λ d cause code register f fs is act frames enters. none_told d is;
}
clean_event b s (Input n byte) parts facts k = record {
  enters = λ d export is act. none_told d is;
  returns = λ t f g gs step. absurd (let clash : Input n byte ≡ Step = step in cc);
  answers = λ t f g gs step. absurd (let clash : Input n byte ≡ Step = step in cc);
  leaves = λ t f g gs step. absurd (let clash : Input n byte ≡ Step = step in cc);
  unwinds = λ d cause code register f g gs is act frames not. none_told d is;
  handles = λ d cause code register f fs is act frames enters. none_told d is;
}

-- ---- a trap of a thread's only frame

step_ends : (b : Platform) (s : State) (d : Deed) (cause code register : ℕ) (f : Frame) → d.act ≡ acts.Trap cause code register → (thread (ready b s) d.thread).frames ≡ f ∷ [] → enters_handler b (ready b s) d.thread f ≡ false → (stepped b s).1 ≡ Some d → (thread (stepped b s).0 d.thread).frames ≡ []
step_ends b s d cause code register f act frames not told = step_trap (λ z. (thread z d.thread).frames ≡ []) b s d cause code register act told (λ z c h. h)
    (subst (λ (fs : List Frame). (thread (trap_taken b.image (ready b s) d.thread (record { cause = cause; code = code; register = register }) fs) d.thread).frames ≡ []) (sym frames)
    (subst (λ (z : State). (thread z d.thread).frames ≡ []) (sym (unwound_case b.image (ready b s) d.thread (record { cause = cause; code = code; register = register }) f [] not))
    (ap (λ (u : Thread). u.frames) (switched_thread b.image (ready b s) d.thread f.top nobody None f [] frames))))

pub last_ends : (b : Platform) (s : State) (e : Event) → LastEnds b s e
last_ends b s Step = λ d cause code register f is act frames not. step_ends b s d cause code register f act frames not is
last_ends b s Tick = λ d cause code register f is act frames not. none_told d is
last_ends b s Sweep = λ d cause code register f is act frames not. none_told d is
last_ends b s (Input n byte) = λ d cause code register f is act frames not. none_told d is
