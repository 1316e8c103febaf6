-- Which frames a step ends: by a return or an unwind alone, and then its caller goes on clean.
use Rattle.std.proofs.Common.{ℕ, zero, suc, ◌≡◌, ◌≤◌, true, false, inl, inr, ◌∙◌, List, [], ◌∷◌, length, map, Result, Ok, Err, sym, ap, subst, arith, slice_set}
use Rattle.std.proofs.Math.ListN.{get_or}
use Rattle.law_lists.proofs.Sets.{after_set}
use Rattle.def_words.specs.declared.Trap.{Trap}
use Rattle.def_sched.specs.declared.Status.{Status}
use Rattle.def_machine.specs.Image.{Image, root}
use Rattle.def_words.specs.declared.Cap.{Cap}
use Rattle.def_words.specs.Capability.{integer}
use Rattle.def_machine.specs.Memory.{filtered}
use Rattle.def_machine.specs.State.{State, Thread, Frame, Object, register, thread, nobody}
use Rattle.def_machine.specs.Frames.{returned, ended_with}
use Rattle.def_machine.specs.Threads.{jumped, with_statuses}
use Rattle.def_machine.specs.Heap.{with_object, quarantined}
use Rattle.def_step.specs.Instructions.{Effect, put_done, executed}
use Rattle.def_machine.specs.Platform.{Platform}
use Rattle.def_step.specs.Quotas.{let_go}
use Rattle.def_step.specs.Tokens.{with_row}
use Rattle.def_step.specs.Routines.{answers}
use Rattle.law_routines.proofs.Leaving.{Moves}
use Rattle.law_routines.proofs.Stepping.{Steps, IfDone, carried, executed_left}
use Rattle.def_step.specs.Handlers.{handled, handler_entered}
use Rattle.def_safety.specs.Calls.{HandsPlain}
use Rattle.def_safety.specs.Clean.{AnswersNumber, AnswersPlainly, CleanReturn, HandsBack, LetsThrough, plainly, whole}
use Rattle.law_events.proofs.Cleans.{back_clean, value_clean}

-- the thread has at least so many frames
abbrev pub Deep : ℕ → ℕ → State → Type 0
Deep n t z = n ≤ length (thread z t).frames

-- a thread that changes, where its new self has as many frames
set_deep : (s : State) (t : ℕ) (new : Thread) → length (thread s t).frames ≤ length new.frames → length (thread s t).frames ≤ length (get_or (slice_set s.threads t new) t nobody).frames
set_deep s t new many = after_set (λ (th : Thread). length (thread s t).frames ≤ length th.frames) s.threads t t new nobody many (omega arith)

given_deep : (n : ℕ) (ts : List Thread) (ss : List Status) (t : ℕ) → n ≤ length (get_or ts t nobody).frames → n ≤ length (get_or (with_statuses ts ss) t nobody).frames
given_deep n [] ss t h = h
given_deep n (x ∷ xs) [] t h = h
given_deep n (x ∷ xs) (y ∷ ys) zero h = h
given_deep n (x ∷ xs) (y ∷ ys) (suc t) h = given_deep n xs ys t h

moves_deep : (i : Image) (s : State) (t : ℕ) → Moves (λ z told. Deep (length (thread s t).frames) t z) i s t
moves_deep i s t = record {
  tells = λ n. set_deep s t _ (omega arith);
  enters = λ high. set_deep s t _ (omega arith);
  stops = λ status. set_deep s t _ (omega arith);
  wakes = λ address most. given_deep (length (thread s t).frames) _ _ t (set_deep s t _ (omega arith));
  hands = λ size r is. set_deep (with_object s r) t _ (omega arith);
  gives = λ r c is. gone_deep r;
  seals = λ size key r is k. set_deep (with_object (with_row s r key) r) t _ (omega arith);
  opens = λ key r is. set_deep s t _ (omega arith);
}
  where
    gone_deep : (r : Object) → Deep (length (thread s t).frames) t (answers (let_go i s t r) t (integer 0))
    gone_deep r =
        let before : length (thread s t).frames ≤ length (thread (let_go i s t r) t).frames = set_deep s t (record (thread s t) { registers = map (filtered i (quarantined i s r)) (thread s t).registers }) (omega arith) in
        let after : length (thread (let_go i s t r) t).frames ≤ length (thread (answers (let_go i s t r) t (integer 0)) t).frames = set_deep (let_go i s t r) t _ (omega arith) in
        omega (arith, before, after)

-- the innermost frame ended, and its caller goes on
record Ended (s : State) (t : ℕ) (f g : Frame) (gs : List Frame) (z : State) : Type 0 where
  pub before : (thread s t).frames ≡ f ∷ g ∷ gs
  pub after : (thread z t).frames ≡ g ∷ gs

-- its caller goes on clean, with untagged results where the frame hands back plain values
abbrev pub Left : Platform → State → ℕ → Frame → List Frame → State → Type 0
Left b s t f fs z = CleanReturn b.image s t f fs z × (HandsPlain b f → AnswersPlainly z t)

abbrev EndsClean : Platform → State → ℕ → State → Type 0
EndsClean b s t z = (f g : Frame) (gs : List Frame) → Ended s t f g gs z → Left b s t f (g ∷ gs) z

-- none ended
deep_ends : (b : Platform) (s : State) (t : ℕ) (z : State) → Deep (length (thread s t).frames) t z → EndsClean b s t z
deep_ends b s t z deep f g gs ended =
    let before = ap (λ (fs : List Frame). length fs) ended.before in
    let after = ap (λ (fs : List Frame). length fs) ended.after in
    absurd (omega (arith, deep, before, after))

-- an integer and 0 are untagged
answered : (b : Platform) (s : State) (t value : ℕ) (f g : Frame) (gs : List Frame) (z : State) → CleanReturn b.image s t f (g ∷ gs) z × AnswersNumber z t value → Left b s t f (g ∷ gs) z
answered b s t value f g gs z h = (h.0, λ plain_one. (ap (λ (c : Cap). c.tag) h.1.0, ap (λ (c : Cap). c.tag) h.1.1))

-- what an export lets through that passes plain values is untagged
let_plainly : (i : Image) (export : ℕ) (from to : Cap) → (root i export).passes ≡ false → LetsThrough i export from to → to.tag ≡ false
let_plainly i export from to not (whole is same) = absurd (let clash : true ≡ false = sym is ∙ not in cc)
let_plainly i export from to not (plainly none same) = ap (λ (c : Cap). c.tag) same

ended_ends : (b : Platform) (s : State) (t value : ℕ) → EndsClean b s t (ended_with b.image s t value (thread s t).frames)
ended_ends b s t value f g gs ended = subst (λ (fs : List Frame). Left b s t f (g ∷ gs) (ended_with b.image s t value fs)) (sym ended.before)
    (answered b s t value f g gs (ended_with b.image s t value (f ∷ g ∷ gs)) (value_clean b.image s t value f g gs ended.before))

returned_ends : (b : Platform) (s : State) (t : ℕ) → ((f : Frame) (fs : List Frame) → (thread s t).frames ≡ f ∷ fs → f.handling ≡ false) → EndsClean b s t (returned b.image s t (thread s t).frames)
returned_ends b s t unmarked f g gs ended = subst (λ (fs : List Frame). Left b s t f (g ∷ gs) (returned b.image s t fs)) (sym ended.before) (both.0, results)
  where
    both : CleanReturn b.image s t f (g ∷ gs) (returned b.image s t (f ∷ g ∷ gs)) × HandsBack b.image s t f (returned b.image s t (f ∷ g ∷ gs))
    both = back_clean b.image s t f g gs ended.before

    results : HandsPlain b f → AnswersPlainly (returned b.image s t (f ∷ g ∷ gs)) t
    results (inl plain_one) = (
      let_plainly b.image f.export (register (thread s t) 10) (register (thread (returned b.image s t (f ∷ g ∷ gs)) t) 10) plain_one both.1.0,
      let_plainly b.image f.export (register (thread s t) 11) (register (thread (returned b.image s t (f ∷ g ∷ gs)) t) 11) plain_one both.1.1,
    )
    results (inr marked) = absurd (let clash : true ≡ false = sym marked ∙ unmarked f (g ∷ gs) ended.before in cc)

done_ends : (b : Platform) (s : State) (t : ℕ) (r : Result Effect Trap) → IfDone (EndsClean b s t) s t r
done_ends b s t (Err why) = tt
done_ends b s t (Ok d) = deep_ends b s t (put_done s t d) (set_deep s t (jumped (thread s t) d.pcc d.posture d.to d.value) (omega arith))

-- a handler that is entered ends no frame
handles_deep : (i : Image) (s : State) (t : ℕ) (why : Trap) (f : Frame) (fs : List Frame) → (thread s t).frames ≡ f ∷ fs → Deep (length (thread s t).frames) t (handler_entered i s t why f fs)
handles_deep i s t why f fs frames = let many = ap (λ (gs : List Frame). length gs) frames in set_deep s t (handled i (thread s t) why f fs) (omega (arith, many))

steps_end : (b : Platform) (s : State) (t : ℕ) → Steps (EndsClean b s t) b s t
steps_end b s t =
    let m = moves_deep b.image s t in
    record {
      handles = λ why f fs frames is. deep_ends b s t (handler_entered b.image s t why f fs) (handles_deep b.image s t why f fs frames);
      ends = λ value. ended_ends b s t value;
      back = λ unmarked. returned_ends b s t unmarked;
      done = λ k. done_ends b s t (carried b s t k);
      moves = record {
        tells = λ n. deep_ends b s t _ (m.tells n);
        enters = λ high. deep_ends b s t _ (m.enters high);
        stops = λ status. deep_ends b s t _ (m.stops status);
        wakes = λ address most. deep_ends b s t _ (m.wakes address most);
        hands = λ size r is. deep_ends b s t _ (m.hands size r is);
        gives = λ r c is. deep_ends b s t _ (m.gives r c is);
        seals = λ size key r is k. deep_ends b s t _ (m.seals size key r is k);
        opens = λ key r is. deep_ends b s t _ (m.opens key r is);
      };
    }

pub executed_ends : (b : Platform) (s : State) (t : ℕ) (f g : Frame) (gs : List Frame) → (thread s t).frames ≡ f ∷ g ∷ gs → (thread (executed b s t).0 t).frames ≡ g ∷ gs → Left b s t f (g ∷ gs) (executed b s t).0
executed_ends b s t f g gs before after = executed_left (EndsClean b s t) b s t (steps_end b s t) f g gs (record { before = before; after = after })
