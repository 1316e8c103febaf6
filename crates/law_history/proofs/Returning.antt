-- A step at the native return: the innermost frame ends, and its caller goes on clean.
use Rattle.std.proofs.Common.{ℕ, ◌≡◌, Bool, true, false, cond, List, ◌∷◌, Option, None, sym, ap, ◌∙◌, subst, inl, inr}
use Rattle.law_lists.proofs.Tests.{chosen, eq_tells}
use Rattle.ct_entry.specs.declared.acts.Deed.{Deed}
use Rattle.def_words.specs.Authority.{cap_address}
use Rattle.def_machine.specs.Image.{Image}
use Rattle.def_machine.specs.Platform.{Platform}
use Rattle.def_machine.specs.State.{State, Frame, Counts, thread, register}
use Rattle.def_machine.specs.Frames.{ended_with, returned}
use Rattle.def_profile.specs.declared.answers.TheConstants.{UNWOUND}
use Rattle.def_step.specs.Events.{continued, noted, stepped, with_deed}
use Rattle.def_step.specs.Handlers.{handler_value, return_taken}
use Rattle.def_step.specs.Instructions.{after_fetch, executed, goes_on}
use Rattle.def_safety.specs.Clean.{AnswersNumber, AnswersHandled, CleanReturn, HandsBack}
use Rattle.def_safety.specs.Each.{ready}
use Rattle.def_safety.specs.Routine.{RunsReturn}
use Rattle.law_events.proofs.Cleans.{back_clean, value_clean}

pub counted_return : (i : Image) (s : State) (t : ℕ) (f : Frame) (fs : List Frame) (z : State) (c : Counts) → CleanReturn i s t f fs z → CleanReturn i s t f fs (record z { counts = c })
counted_return i s t f fs z c h = record {
  frames = h.frames;
  pcc = h.pcc;
  c2 = h.c2;
  c3 = h.c3;
  c8 = h.c8;
  c9 = h.c9;
  zero = h.zero;
  stack = h.stack;
  posture = h.posture;
  disabled = h.disabled;
  enabled = h.enabled;
}

-- ---- what the step comes to

executed_returns : (b : Platform) (s : State) (t : ℕ) → RunsReturn b s t → executed b s t ≡ (return_taken b.image s t (thread s t).frames, None)
unfolding executed
executed_returns b s t r = ap (after_fetch b s t) r.fetched ∙ ap (goes_on b s t) r.returns

step_returns : (P : State → Type 0) (b : Platform) (s : State) (t : ℕ) (f : Frame) (fs : List Frame) → RunsReturn b (ready b s) t → (thread (ready b s) t).frames ≡ f ∷ fs
    → ((z : State) (c : Counts) → P z → P (record z { counts = c })) → P (return_taken b.image (ready b s) t (f ∷ fs)) → P (stepped b s).0
step_returns P b s t f fs r frames counted h =
    let path : continued b (ready b s) (ready b s).running ≡ noted (return_taken b.image (ready b s) t (thread (ready b s) t).frames, None) = ap (continued b (ready b s)) r.runs ∙ ap noted (executed_returns b (ready b s) t r) in
    subst (λ (x : State × Option Deed). P x.0) (sym path)
    (counted (return_taken b.image (ready b s) t (thread (ready b s) t).frames) (with_deed (return_taken b.image (ready b s) t (thread (ready b s) t).frames).counts None)
    (subst (λ hs. P (return_taken b.image (ready b s) t hs)) (sym frames) h))

-- ---- by whether the frame is handling

pub step_hands : (b : Platform) (s : State) (t : ℕ) (f g : Frame) (gs : List Frame) → RunsReturn b (ready b s) t → (thread (ready b s) t).frames ≡ f ∷ g ∷ gs → f.handling ≡ false
    → CleanReturn b.image (ready b s) t f (g ∷ gs) (stepped b s).0 × HandsBack b.image (ready b s) t f (stepped b s).0
step_hands b s t f g gs r frames not = step_returns (λ x. CleanReturn b.image (ready b s) t f (g ∷ gs) x × HandsBack b.image (ready b s) t f x) b s t f (g ∷ gs) r frames
    (λ x c h. (counted_return b.image (ready b s) t f (g ∷ gs) x c h.0, h.1))
    (chosen (λ x. CleanReturn b.image (ready b s) t f (g ∷ gs) x × HandsBack b.image (ready b s) t f x) f.handling (ended_with b.image (ready b s) t (handler_value (thread (ready b s) t)) (f ∷ g ∷ gs)) (returned b.image (ready b s) t (f ∷ g ∷ gs))
    (λ is. absurd (let clash : true ≡ false = sym is ∙ not in cc))
    (λ other. back_clean b.image (ready b s) t f g gs frames))

-- what a handler answers, said by its c10
handled_answers : (s z : State) (t : ℕ) → AnswersNumber z t (handler_value (thread s t)) → AnswersHandled s t z
handled_answers s z t h = elim (eq_tells (cap_address (register (thread s t) 10)) 1) [
  | inl one ↦ (
    (λ is. subst (λ (x : Bool). AnswersNumber z t (cond x (cap_address (register (thread s t) 11)) UNWOUND)) one.0 h),
    (λ other. absurd (other one.1)),
  )
  | inr other ↦ (
    (λ is. absurd (other.1 is)),
    (λ not. subst (λ (x : Bool). AnswersNumber z t (cond x (cap_address (register (thread s t) 11)) UNWOUND)) other.0 h),
  )
]

pub step_answers : (b : Platform) (s : State) (t : ℕ) (f g : Frame) (gs : List Frame) → RunsReturn b (ready b s) t → (thread (ready b s) t).frames ≡ f ∷ g ∷ gs → f.handling ≡ true
    → CleanReturn b.image (ready b s) t f (g ∷ gs) (stepped b s).0 × AnswersHandled (ready b s) t (stepped b s).0
step_answers b s t f g gs r frames is = step_returns (λ x. CleanReturn b.image (ready b s) t f (g ∷ gs) x × AnswersHandled (ready b s) t x) b s t f (g ∷ gs) r frames
    (λ x c h. (counted_return b.image (ready b s) t f (g ∷ gs) x c h.0, h.1))
    (chosen (λ x. CleanReturn b.image (ready b s) t f (g ∷ gs) x × AnswersHandled (ready b s) t x) f.handling (ended_with b.image (ready b s) t (handler_value (thread (ready b s) t)) (f ∷ g ∷ gs)) (returned b.image (ready b s) t (f ∷ g ∷ gs))
    (λ yes. (let both = value_clean b.image (ready b s) t (handler_value (thread (ready b s) t)) f g gs frames in (both.0, handled_answers (ready b s) (ended_with b.image (ready b s) t (handler_value (thread (ready b s) t)) (f ∷ g ∷ gs)) t both.1)))
    (λ no. absurd (let clash : true ≡ false = sym is ∙ no in cc)))
