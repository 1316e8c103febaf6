-- A return, an unwind, and the end of a thread.
use Rattle.std.proofs.Common.{ℕ, ◌≡◌, ◌≤◌, inl, inr, true, false, List, [], ◌∷◌, Some, None, refl, sym, ap, ◌∙◌, subst, arith}
use Rattle.def_profile.specs.declared.answers.TheConstants.{UNWOUND}
use Rattle.law_lists.proofs.Tests.{lt_tells}
use Rattle.def_words.specs.declared.Cap.{Cap}
use Rattle.def_words.specs.Capability.{untagged}
use Rattle.def_words.specs.Permissions.{has, execute}
use Rattle.def_words.specs.Jumped.{opened}
use Rattle.def_words.specs.Seals.{cap_seal, posture_through}
use Rattle.def_memory.specs.Granules.{plain}
use Rattle.def_machine.specs.Image.{Image, root}
use Rattle.def_machine.specs.State.{State, Thread, Frame, Object, thread, register, nobody}
use Rattle.def_machine.specs.Memory.{filtered}
use Rattle.def_machine.specs.Objects.{Each}
use Rattle.def_machine.specs.Frames.{switched, answer, left_by, returned, ended_with, unwound}
use Rattle.def_confined.specs.Capabilities.{Rooted, Kept, heap_cap}
use Rattle.def_confined.specs.Places.{InFrames, HasLive, outer}
use Rattle.def_confined.specs.Confined.{Confined, FramesHold, SavedKept}
use Rattle.def_confined.specs.Partitioned.{Partitioned}
use Rattle.law_moves.proofs.Places.{carry, Joins, plain_in, within_head, all_of}
use Rattle.law_moves.proofs.Puts.{plain_kept}
use Rattle.law_moves.proofs.Switches.{switched_confined}
use Rattle.law_moves.proofs.Filters.{filter_case, filter_in, filter_kept, filter_live, in_object}
use Rattle.law_moves.proofs.Targets.{opened_in, opened_runs, opened_opens}
use Rattle.law_moves.proofs.Turns.{fits_as}
use Rattle.law_moves.proofs.JumpsMoves.{return_fits, in_rooted}
use Rattle.law_moves.proofs.Pushes.{passed_case}

-- what an ending frame held comes into its caller's registers where the export passes it
popped_joins : (i : Image) (objects : List Object) (t : ℕ) (f g : Frame) (gs : List Frame) → FramesHold i objects t (f ∷ g ∷ gs) → (root i f.export).passes ≡ true → Joins i (f ∷ g ∷ gs) (g ∷ gs)
popped_joins i objects t f g gs h passes =
    (h.0.passes passes, λ x within. elim within [ inl le ↦ within_head i g gs x (omega (arith, le, h.0.under)) | inr more ↦ more.1 ])

outer_less : (f : Frame) (fs : List Frame) (x : ℕ) → f.top ≤ x → outer fs x ≡ outer (f ∷ fs) x
outer_less f fs x le = elim (lt_tells x f.top) [ inl e ↦ absurd (omega (arith, e.1, le)) | inr e ↦ rw e.0 refl ]

-- the two results, as the caller may have them
pub record Results (i : Image) (s : State) (t : ℕ) (g : Frame) (gs : List Frame) (first second : Cap) : Type 0 where
  pub first_in : InFrames i s.objects t (g ∷ gs) first
  pub second_in : InFrames i s.objects t (g ∷ gs) second
  pub first_kept : Kept i first
  pub second_kept : Kept i second
  pub first_live : s.running ≡ Some t → HasLive i s.objects first
  pub second_live : s.running ≡ Some t → HasLive i s.objects second

left_confined : (i : Image) (s : State) (t : ℕ) (f g : Frame) (gs : List Frame) (first second : Cap) → Partitioned i → Confined i s → (thread s t).frames ≡ f ∷ g ∷ gs → Results i s t g gs first second
    → Confined i (switched i s t f.top (left_by i s (thread s t) f (g ∷ gs) first second) s.running)
left_confined i s t f g gs first second p h frames r =
    let below : FramesHold i s.objects t (f ∷ g ∷ gs) = subst (λ (fs : List Frame). FramesHold i s.objects t fs) frames (h.frames t) in
    let saved = subst (λ (fs : List Frame). Each (SavedKept i) fs) frames (h.kept.frames t) in
    let none : InFrames i s.objects t (g ∷ gs) (plain 0) = plain_in i s.objects t (g ∷ gs) (plain 0) refl in
    let none_kept : Kept i (plain 0) = plain_kept i (plain 0) refl in
    let none_live : HasLive i s.objects (plain 0) = λ tagged. absurd (let clash : false ≡ true = tagged in cc) in
    let back : Rooted i f.c1 = in_rooted i s.objects t (g ∷ gs) f.c1 below.0.c1 below.0.returns.0 in
    let says = back.returns below.0.returns.1 in
    let back_in : InFrames i s.objects t (g ∷ gs) (filtered i s f.c1) = filter_in i s s.objects t (g ∷ gs) f.c1 below.0.c1 in
    let back_is : (filtered i s f.c1).tag ≡ true → (heap_cap i (filtered i s f.c1) ≡ false) × (has (filtered i s f.c1) execute ≡ true) =
    filter_case (λ (z : Cap). z.tag ≡ true → (heap_cap i z ≡ false) × (has z execute ≡ true)) i s f.c1 (λ tagged. absurd (let clash : false ≡ true = tagged in cc)) (λ not tagged. (says.2, says.1)) in
    switched_confined i s t f.top (left_by i s (thread s t) f (g ∷ gs) first second) s.running p h (record {
      stack = below.0.stack;
      inside = below.0.high;
      outers = λ x le. outer_less f (g ∷ gs) x le ∙ ap (λ (fs : List Frame). outer fs x) (sym frames);
      pcc = opened_in i s.objects t (g ∷ gs) (filtered i s f.c1) (opened (filtered i s f.c1)) (opened_opens (filtered i s f.c1)) (λ tagged. (back_is tagged).0) back_in;
      registers = all_of (λ c. InFrames i s.objects t (g ∷ gs) c) (left_by i s (thread s t) f (g ∷ gs) first second).registers (plain 0) none (
        none,
        (
          none,
          (
            filter_in i s s.objects t (g ∷ gs) f.c2 below.0.c2,
            (
              filter_in i s s.objects t (g ∷ gs) f.c3 below.0.c3,
              (
                none,
                (
                  none,
                  (
                    none,
                    (
                      none,
                      (filter_in i s s.objects t (g ∷ gs) f.c8 below.0.c8, (filter_in i s s.objects t (g ∷ gs) f.c9 below.0.c9, (r.first_in, (r.second_in, (none, (none, (none, (none, tt)))))))),
                    ),
                  ),
                ),
              ),
            ),
          ),
        ),
      );
      frames = below.1;
      kept = all_of (Kept i) (left_by i s (thread s t) f (g ∷ gs) first second).registers (plain 0) none_kept (
        none_kept,
        (
          none_kept,
          (
            filter_kept i s f.c2 saved.0.c2,
            (
              filter_kept i s f.c3 saved.0.c3,
              (
                none_kept,
                (
                  none_kept,
                  (
                    none_kept,
                    (
                      none_kept,
                      (filter_kept i s f.c8 saved.0.c8, (filter_kept i s f.c9 saved.0.c9, (r.first_kept, (r.second_kept, (none_kept, (none_kept, (none_kept, (none_kept, tt)))))))),
                    ),
                  ),
                ),
              ),
            ),
          ),
        ),
      );
      kept_frames = saved.1;
      posture = fits_as i (record (thread s t) { posture = posture_through (thread s t).posture (cap_seal f.c1) 0 f.c1.shadow.source }) (left_by i s (thread s t) f (g ∷ gs) first second) (g ∷ gs) refl
          (return_fits i s.objects t (thread s t) (g ∷ gs) f.c1 0 below.0.c1 below.0.returns.0 below.0.returns.1);
      runs = λ tagged. opened_runs i (filtered i s f.c1) (opened (filtered i s f.c1)) p (opened_opens (filtered i s f.c1) tagged) (back_is tagged).0 (back_is tagged).1 (in_rooted i s.objects t (g ∷ gs) (filtered i s f.c1) back_in tagged);
      live = λ runs. all_of (HasLive i s.objects) (left_by i s (thread s t) f (g ∷ gs) first second).registers (plain 0) none_live (
        none_live,
        (
          none_live,
          (
            filter_live i s f.c2 p h (in_object i s.objects t (g ∷ gs) f.c2 below.0.c2),
            (
              filter_live i s f.c3 p h (in_object i s.objects t (g ∷ gs) f.c3 below.0.c3),
              (
                none_live,
                (
                  none_live,
                  (
                    none_live,
                    (
                      none_live,
                      (filter_live i s f.c8 p h (in_object i s.objects t (g ∷ gs) f.c8 below.0.c8), (filter_live i s f.c9 p h (in_object i s.objects t (g ∷ gs) f.c9 below.0.c9), (r.first_live runs, (r.second_live runs, (none_live, (none_live, (none_live, (none_live, tt)))))))),
                    ),
                  ),
                ),
              ),
            ),
          ),
        ),
      );
      stays = λ u is. is;
    })

answer_case : (P : Cap → Type 0) (i : Image) (old : Thread) (f : Frame) (n : ℕ) → P (untagged (register old n)) → ((root i f.export).passes ≡ true → P (register old n)) → P (answer i old f n)
answer_case P i old f n gone stays = passed_case P i f.export (register old n) gone stays

pub return_confined : (i : Image) (s : State) (t : ℕ) (f g : Frame) (gs : List Frame) → Partitioned i → Confined i s → (thread s t).frames ≡ f ∷ g ∷ gs
    → Confined i (switched i s t f.top (left_by i s (thread s t) f (g ∷ gs) (answer i (thread s t) f 10) (answer i (thread s t) f 11)) s.running)
return_confined i s t f g gs p h frames =
    let below : FramesHold i s.objects t (f ∷ g ∷ gs) = subst (λ (fs : List Frame). FramesHold i s.objects t fs) frames (h.frames t) in
    let answer_in : (n : ℕ) → InFrames i s.objects t (g ∷ gs) (answer i (thread s t) f n) = λ n. answer_case (λ c. InFrames i s.objects t (g ∷ gs) c) i (thread s t) f n
    (plain_in i s.objects t (g ∷ gs) (untagged (register (thread s t) n)) refl)
    (λ passes. carry i s.objects t (f ∷ g ∷ gs) (g ∷ gs) (register (thread s t) n) (popped_joins i s.objects t f g gs below passes) (subst (λ (fs : List Frame). InFrames i s.objects t fs (register (thread s t) n)) frames (h.registers t n))) in
    let answer_kept : (n : ℕ) → Kept i (answer i (thread s t) f n) = λ n. answer_case (Kept i) i (thread s t) f n (plain_kept i (untagged (register (thread s t) n)) refl) (λ passes. h.kept.registers t n) in
    let answer_live : s.running ≡ Some t → (n : ℕ) → HasLive i s.objects (answer i (thread s t) f n) = λ runs n. answer_case (HasLive i s.objects) i (thread s t) f n (λ tagged. absurd (let clash : false ≡ true = tagged in cc)) (λ passes. h.live t runs n) in
    left_confined i s t f g gs (answer i (thread s t) f 10) (answer i (thread s t) f 11) p h frames (record {
      first_in = answer_in 10;
      second_in = answer_in 11;
      first_kept = answer_kept 10;
      second_kept = answer_kept 11;
      first_live = λ runs. answer_live runs 10;
      second_live = λ runs. answer_live runs 11;
    })

pub value_confined : (i : Image) (s : State) (t value : ℕ) (f g : Frame) (gs : List Frame) → Partitioned i → Confined i s → (thread s t).frames ≡ f ∷ g ∷ gs
    → Confined i (switched i s t f.top (left_by i s (thread s t) f (g ∷ gs) (plain value) (plain 0)) s.running)
value_confined i s t value f g gs p h frames = left_confined i s t f g gs (plain value) (plain 0) p h frames (record {
  first_in = plain_in i s.objects t (g ∷ gs) (plain value) refl;
  second_in = plain_in i s.objects t (g ∷ gs) (plain 0) refl;
  first_kept = plain_kept i (plain value) refl;
  second_kept = plain_kept i (plain 0) refl;
  first_live = λ runs tagged. absurd (let clash : false ≡ true = tagged in cc);
  second_live = λ runs tagged. absurd (let clash : false ≡ true = tagged in cc);
})

pub end_confined : (i : Image) (s : State) (t : ℕ) (f : Frame) → Partitioned i → Confined i s → (thread s t).frames ≡ f ∷ [] → Confined i (switched i s t f.top nobody None)
end_confined i s t f p h frames =
    let below : FramesHold i s.objects t (f ∷ []) = subst (λ (fs : List Frame). FramesHold i s.objects t fs) frames (h.frames t) in
    switched_confined i s t f.top nobody None p h (record {
      stack = below.0.stack;
      inside = below.0.high;
      outers = λ x le. outer_less f [] x le ∙ ap (λ (fs : List Frame). outer fs x) (sym frames);
      pcc = refl;
      registers = λ n. refl;
      frames = tt;
      kept = λ n. plain_kept i (plain 0) refl;
      kept_frames = tt;
      posture = tt;
      runs = λ tagged. absurd (let clash : false ≡ true = tagged in cc);
      live = λ runs. absurd (let clash : None ≡ Some t = runs in cc);
      stays = λ u runs. absurd (let clash : None ≡ Some u = runs in cc);
    })

pub returned_confined : (i : Image) (s : State) (t : ℕ) (fs : List Frame) → Partitioned i → Confined i s → (thread s t).frames ≡ fs → Confined i (returned i s t fs)
returned_confined i s t [] p h frames = h
returned_confined i s t (f ∷ []) p h frames = end_confined i s t f p h frames
returned_confined i s t (f ∷ g ∷ gs) p h frames = return_confined i s t f g gs p h frames

pub ended_confined : (i : Image) (s : State) (t value : ℕ) (fs : List Frame) → Partitioned i → Confined i s → (thread s t).frames ≡ fs → Confined i (ended_with i s t value fs)
ended_confined i s t value [] p h frames = h
ended_confined i s t value (f ∷ []) p h frames = end_confined i s t f p h frames
ended_confined i s t value (f ∷ g ∷ gs) p h frames = value_confined i s t value f g gs p h frames

pub unwound_confined : (i : Image) (s : State) (t : ℕ) (fs : List Frame) → Partitioned i → Confined i s → (thread s t).frames ≡ fs → Confined i (unwound i s t fs)
unwound_confined i s t fs p h frames = ended_confined i s t UNWOUND fs p h frames
