-- What ends a frame, or pushes one, leaves it; and where a trap enters an error handler, which stays in its frame,
-- both states agree again.
use Rattle.std.proofs.Common.{ℕ, ◌≡◌, ◌+◌, ◌-◌, ◌/◌, inl, inr, Bool, true, List, [], ◌∷◌, length, map, Some, refl, sym, ap, ◌∙◌, subst, arith, slice_index_or}
use Rattle.std.proofs.lemmas.List.{get_or-set_same}
use Rattle.law_lists.proofs.Tests.{chosen}
use Rattle.def_profile.specs.declared.answers.TheConstants.{UNWOUND}
use Rattle.def_words.specs.declared.Cap.{Cap}
use Rattle.def_words.specs.declared.Trap.{Trap}
use Rattle.def_words.specs.Authority.{cap_address}
use Rattle.def_memory.specs.declared.Granule.{Granule}
use Rattle.def_memory.specs.Granules.{plain, granule_at, holding, holding_all}
use Rattle.def_machine.specs.Platform.{Platform}
use Rattle.def_machine.specs.Image.{Image, stack_base, handler_entry}
use Rattle.def_machine.specs.State.{State, Thread, Frame, nobody, thread, register}
use Rattle.def_machine.specs.Frames.{returned, ended_with, unwound}
use Rattle.def_confined.specs.Places.{WithinRun}
use Rattle.def_step.specs.declared.TheConstants.{TRAP_RECORD}
use Rattle.def_step.specs.Handlers.{is_handled, is_handled_by, handed, handled, handler_entered, handler_registers, handler_stack, handler_value, record_by, record_end, return_taken, trap_taken, words_written}
use Rattle.def_secrecy.specs.View.{Sees, InView, SeesDevice}
use Rattle.def_secrecy.specs.Agreeing.{SameMemory, AgreeingThread, Shape, frame_shape, Agree}
use Rattle.def_secrecy.specs.Secrecy.{StaysIn}
use Rattle.law_events.proofs.Cleans.{framed_there}
use Rattle.law_secrecy.proofs.Puts.{put_agree, public_with, same_status}
use Rattle.law_secrecy.proofs.Secrets.{set_same}
use Rattle.law_secrecy.proofs.Shapes.{head_of}
use Rattle.law_secrecy.proofs.Two.{two_choices}

-- ---- less is seen

pub less_seen : (i : Image) (sees fewer : ℕ → Type 0) (gs hs : List Granule) → ((x : ℕ) → fewer x → sees x) → SameMemory i sees gs hs → SameMemory i fewer gs hs
less_seen i sees fewer gs hs so same = record {
  size = same.size;
  bytes = λ x above seen. same.bytes x above (so x seen);
  whole = λ k seen. same.whole k (λ n lt. so _ (seen n lt));
}

-- a frame that is marked as handling a trap sees what it saw
abbrev marked : Frame → Frame
marked f = record f { handling = true }

run_marked : (i : Image) (f : Frame) (fs : List Frame) (x : ℕ) → WithinRun i (marked f ∷ fs) x → WithinRun i (f ∷ fs) x
run_marked i f [] x h = h
run_marked i f (g ∷ gs) x h = h

marked_sees : (b : Platform) (s : State) (t : ℕ) (f : Frame) (fs : List Frame) (x : ℕ) → Sees b.image s.objects t (marked f ∷ fs) x → Sees b.image s.objects t (f ∷ fs) x
marked_sees b s t f fs x (inl entry) = inl entry
marked_sees b s t f fs x (inr (inl object)) = inr (inl object)
marked_sees b s t f fs x (inr (inr own)) = inr (inr (own.0, run_marked b.image f fs (x + 1) own.1))

marked_device : (b : Platform) (f : Frame) (fs : List Frame) (m : ℕ) → SeesDevice b (marked f ∷ fs) m → SeesDevice b (f ∷ fs) m
marked_device b f fs m seen = record { entry = seen.entry; address = seen.address; reads = seen.reads; is_device = seen.is_device; here = seen.here }

-- ---- shapes

-- the innermost frame is marked
abbrev first_marked : List Shape → List Shape
first_marked [] = []
first_marked (x ∷ xs) = record x { handling = true } ∷ xs

no_shapes : (f : Frame) (fs : List Frame) → map frame_shape [] ≡ map frame_shape (f ∷ fs) → ⊥
no_shapes f fs e = omega (arith, ap (λ (xs : List Shape). length xs) e)

-- ---- what leaves a frame

module _ (i : Image) (s : State) (t : ℕ) (f : Frame) (fs : List Frame) (frames : (thread s t).frames ≡ f ∷ fs) where
  -- a thread's new self with more frames or fewer doesn't stay
  pub moved : (new : Thread) (after : State) → thread after t ≡ new → StaysIn s after t → length new.frames ≡ length (f ∷ fs)
  moved new after put stays = sym (ap (λ (x : Thread). length x.frames) put) ∙ stays ∙ ap (λ (gs : List Frame). length gs) frames

  ended_leaves : (value : ℕ) (gs : List Frame) → fs ≡ gs → StaysIn s (ended_with i s t value (f ∷ gs)) t → ⊥
  ended_leaves value [] e stays = omega (arith, moved nobody (ended_with i s t value (f ∷ [])) (get_or-set_same s.threads t nobody nobody (framed_there s t f fs frames)) stays)
  ended_leaves value (g ∷ gs) e stays = omega (arith, moved _ (ended_with i s t value (f ∷ g ∷ gs)) (get_or-set_same s.threads t _ nobody (framed_there s t f fs frames)) stays, ap (λ (hs : List Frame). length hs) e)

  returned_leaves : (gs : List Frame) → fs ≡ gs → StaysIn s (returned i s t (f ∷ gs)) t → ⊥
  returned_leaves [] e stays = omega (arith, moved nobody (returned i s t (f ∷ [])) (get_or-set_same s.threads t nobody nobody (framed_there s t f fs frames)) stays)
  returned_leaves (g ∷ gs) e stays = omega (arith, moved _ (returned i s t (f ∷ g ∷ gs)) (get_or-set_same s.threads t _ nobody (framed_there s t f fs frames)) stays, ap (λ (hs : List Frame). length hs) e)

  pub unwound_leaves : StaysIn s (unwound i s t (f ∷ fs)) t → ⊥
  unwound_leaves = ended_leaves UNWOUND fs refl

  return_leaves : StaysIn s (return_taken i s t (f ∷ fs)) t → ⊥
  return_leaves = chosen (λ (a : State). StaysIn s a t → ⊥) f.handling (ended_with i s t (handler_value (thread s t)) (f ∷ fs)) (returned i s t (f ∷ fs))
      (λ is. ended_leaves (handler_value (thread s t)) fs refl)
      (λ not. returned_leaves fs refl)

-- ---- an error handler

-- the same words are written to both
same_written : (i : Image) (sees : ℕ → Type 0) (cs : List Cap) (k : ℕ) (gs hs : List Granule) → SameMemory i sees gs hs → SameMemory i sees (holding_all gs k cs) (holding_all hs k cs)
same_written i sees [] k gs hs same = same
same_written i sees (c ∷ cs) k gs hs same =
    same_written i sees cs (k + 1) (holding gs k c) (holding hs k c)
    (set_same i sees gs hs same k (record { cap = c; mark = (granule_at gs k).mark }) (record { cap = c; mark = (granule_at hs k).mark }) (λ m e. refl) (λ e. refl))

module _ (b : Platform) (s z : State) (t : ℕ) (runs : s.running ≡ Some t) (agree : Agree b t s z) (why : Trap) where
  -- where the record of a trap is written, and what is
  abbrev place_of_record : List Cap → ℕ
  place_of_record rs = (record_end (slice_index_or rs 2 (plain 0)) - TRAP_RECORD - b.image.ram) / 8

  abbrev recorded : List Granule → List Cap → Cap → List Granule
  recorded gs rs pcc = words_written gs (place_of_record rs) (record_by rs (cap_address pcc) why)

  module _ (f g : Frame) (fs gs : List Frame) (one : (thread s t).frames ≡ f ∷ fs) (two : (thread z t).frames ≡ g ∷ gs) where
    shaped : map frame_shape (f ∷ fs) ≡ map frame_shape (g ∷ gs)
    shaped = sym (ap (λ hs. map frame_shape hs) one) ∙ agree.self.frames ∙ ap (λ hs. map frame_shape hs) two

    same_head : frame_shape f ≡ frame_shape g
    same_head = ap (head_of (frame_shape f)) shaped

    same_registers : (thread s t).registers ≡ (thread z t).registers
    same_registers = agree.self.registers

    pub same_handled : is_handled b.image (stack_base b.image t) (thread s t) f ≡ is_handled b.image (stack_base b.image t) (thread z t) g
    same_handled =
        let by : Shape → List Cap → Bool = λ h rs. is_handled_by (handler_entry b.image h.actor) (stack_base b.image t) (record (thread s t) { registers = rs }) (record f { actor = h.actor; export = h.export; top = h.top; handling = h.handling }) in
        ap (λ h. by h (thread s t).registers) same_head ∙ ap (λ rs. by (frame_shape g) rs) same_registers

    memory_same : SameMemory b.image (Sees b.image s.objects t (marked f ∷ fs)) (recorded s.granules (thread s t).registers (thread s t).pcc) (recorded z.granules (thread z t).registers (thread z t).pcc)
    memory_same =
        less_seen b.image (InView b.image s t) (Sees b.image s.objects t (marked f ∷ fs)) _ _
        (λ x seen. subst (λ hs. Sees b.image s.objects t hs x) (sym one) (marked_sees b s t f fs x seen))
        (subst (λ rs. SameMemory b.image (InView b.image s t) (recorded s.granules (thread s t).registers (thread s t).pcc) (recorded z.granules rs (thread z t).pcc)) same_registers
        (subst (λ c. SameMemory b.image (InView b.image s t) (recorded s.granules (thread s t).registers (thread s t).pcc) (recorded z.granules (thread s t).registers c)) agree.self.pcc
        (same_written b.image (InView b.image s t) (map plain (record_by (thread s t).registers (cap_address (thread s t).pcc) why)) (place_of_record (thread s t).registers) s.granules z.granules agree.memory)))

    self_same : AgreeingThread (handled b.image (thread s t) why f fs) (handled b.image (thread z t) why g gs)
    self_same = record {
      pcc = ap (λ h. (handed b.image (Shape.actor h)).pcc) same_head;
      registers = ap (λ h. handler_registers (handed b.image (Shape.actor h)).back (handler_stack (register (thread s t) 2)) (handed b.image (Shape.actor h)).globals why) same_head
          ∙ ap (λ rs. handler_registers (handed b.image g.actor).back (handler_stack (slice_index_or rs 2 (plain 0))) (handed b.image g.actor).globals why) same_registers;
      posture = refl;
      frames = ap first_marked shaped;
    }

    pub handler_agree : Agree b t (handler_entered b.image s t why f fs) (handler_entered b.image z t why g gs)
    handler_agree =
        put_agree b t (record s { granules = recorded s.granules (thread s t).registers (thread s t).pcc; devices = s.devices }) (record z { granules = recorded z.granules (thread z t).registers (thread z t).pcc; devices = z.devices })
        (handled b.image (thread s t) why f fs) (handled b.image (thread z t) why g gs)
        (framed_there s t f fs one) (framed_there z t g gs two)
        (public_with s z _ _ s.devices z.devices agree.public) runs (same_status s z t agree.public)
        self_same memory_same (λ m seen. agree.devices m (subst (λ hs. SeesDevice b hs m) (sym one) (marked_device b f fs m seen))) agree.banks

  -- ---- a trap, and a return

  pub trap_left : (fs gs : List Frame) → (thread s t).frames ≡ fs → (thread z t).frames ≡ gs → StaysIn s (trap_taken b.image s t why fs) t → Agree b t (trap_taken b.image s t why fs) (trap_taken b.image z t why gs)
  trap_left [] [] e u = λ stays. agree
  trap_left [] (g ∷ gs) e u = absurd (no_shapes g gs (sym (ap (λ xs. map frame_shape xs) e) ∙ agree.self.frames ∙ ap (λ xs. map frame_shape xs) u))
  trap_left (f ∷ fs) [] e u = absurd (no_shapes f fs (sym (ap (λ xs. map frame_shape xs) u) ∙ sym agree.self.frames ∙ ap (λ xs. map frame_shape xs) e))
  trap_left (f ∷ fs) (g ∷ gs) e u =
      two_choices (λ (a c : State). StaysIn s a t → Agree b t a c) (is_handled b.image (stack_base b.image t) (thread s t) f) (is_handled b.image (stack_base b.image t) (thread z t) g)
      (handler_entered b.image s t why f fs) (unwound b.image s t (f ∷ fs)) (handler_entered b.image z t why g gs) (unwound b.image z t (g ∷ gs))
      (same_handled f g fs gs e u)
      (λ is stays. handler_agree f g fs gs e u)
      (λ not stays. absurd (unwound_leaves b.image s t f fs e stays))

pub return_left : (b : Platform) (s z : State) (t : ℕ) → Agree b t s z → (fs gs : List Frame) → (thread s t).frames ≡ fs → (thread z t).frames ≡ gs → StaysIn s (return_taken b.image s t fs) t → Agree b t (return_taken b.image s t fs) (return_taken b.image z t gs)
return_left b s z t agree [] [] e u stays = agree
return_left b s z t agree [] (g ∷ gs) e u stays = absurd (no_shapes g gs (sym (ap (λ xs. map frame_shape xs) e) ∙ agree.self.frames ∙ ap (λ xs. map frame_shape xs) u))
return_left b s z t agree (f ∷ fs) gs e u stays = absurd (return_leaves b.image s t f fs e stays)
