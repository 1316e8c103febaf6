-- A call that enters its callee, whole.
use Rattle.std.proofs.Common.{ℕ, ◌≡◌, ◌+◌, ◌≤◌, inl, inr, true, false, nat_lt, List, ◌∷◌, Some, refl, sym, ap, subst, arith}
use Rattle.law_lists.proofs.Tests.{chosen, lt_tells}
use Rattle.def_words.specs.declared.Cap.{Cap}
use Rattle.def_words.specs.declared.Posture.{Posture}
use Rattle.def_words.specs.Capability.{untagged}
use Rattle.def_memory.specs.Granules.{plain}
use Rattle.ct_entry.specs.declared.rows.Owner.{Owner}
use Rattle.ct_entry.specs.declared.rows.Owner.TheVariants.{Compartment}
use Rattle.ct_entry.specs.declared.rows.Kind.TheVariants as kind
use Rattle.def_reach.specs.Roots.{TrustedPart, Listing, is_owned, gate_for}
use Rattle.def_reach.specs.Sharing.{Calls, Joined, Reaches}
use Rattle.def_machine.specs.Image.{Image, root}
use Rattle.def_machine.specs.State.{State, Thread, Frame, Object, thread, register, interrupts_on}
use Rattle.def_machine.specs.Frames.{switched, Given, pushed_frame, cap_passed, argument, posture_of_call, entered}
use Rattle.def_confined.specs.Capabilities.{Kept}
use Rattle.def_confined.specs.Places.{Placed, InFrames, OwnStack, HasLive, outer}
use Rattle.def_confined.specs.Confined.{Confined, FramesHold, PostureFits}
use Rattle.def_confined.specs.Partitioned.{Partitioned}
use Rattle.def_confined.specs.Made.{IsReturnSentry, IsStackUpTo}
use Rattle.def_confined.specs.Changes.{Enters}
use Rattle.law_reach.proofs.Joins.{own_joined, joined_sym, joined_trans, joined_edge, joined_is, reaches_own}
use Rattle.law_moves.proofs.Places.{carry, Joins, plain_in, all_of}
use Rattle.law_moves.proofs.Puts.{plain_kept}
use Rattle.law_moves.proofs.Switches.{switched_confined}
use Rattle.law_moves.proofs.Givens.{own_placed, own_live, own_kept, sentry_placed, sentry_kept, stack_placed, stack_kept, no_live_of}

-- an export that passes capabilities joins its compartment to the caller
gate_joins : (i : Image) (s : State) (t : ℕ) (g : Frame) (gs : List Frame) (callee export high : ℕ) (w : Given) → Partitioned i → Confined i s → Enters i s t g gs callee export high w → (root i export).passes ≡ true → Joined i.entries g.actor callee
gate_joins i s t g gs callee export high w p h e passes =
    let gate : Placed i s.objects (λ d. d ≡ g.actor) (OwnStack i t (g ∷ gs)) (register (thread s t) 6) =
    (subst (λ (fs : List Frame). InFrames i s.objects t fs (register (thread s t) 6)) e.call.caller (h.registers t 6)) e.call.gate_tagged in
    let kind_is : (root i (register (thread s t) 6).shadow.root).origin ≡ Listing kind.Call = gate.rooted.calls e.call.gate_sealed in
    let a = p.calls (register (thread s t) 6).shadow.root kind_is in
    let owner_is : (root i (register (thread s t) 6).shadow.root).owner ≡ Compartment a.0 = a.1 in
    let P : Owner → Type 0 = λ o. Reaches i.entries o g.actor in
    let near : Joined i.entries a.0 g.actor = own_joined i.entries a.0 g.actor (subst P owner_is (gate.owner (ap is_owned kind_is) g.actor refl)) in
    let Q : ℕ → Type 0 = λ n. (root i n).owner ≡ Compartment callee in
    let R : ℕ → Type 0 = λ n. (root i n).passes ≡ true in
    let edge : Calls i.entries a.0 callee = record {
      import = (register (thread s t) 6).shadow.root;
      kind_is = kind_is;
      caller = owner_is;
      callee = subst Q (sym e.call.gate) e.call.callee_is;
      passes = subst R (sym e.call.gate) passes;
    } in
    joined_trans i.entries g.actor a.0 callee (joined_sym i.entries a.0 g.actor near) (joined_edge i.entries a.0 callee (inl edge))

-- what passes is untagged, or joins the two
pub passed_case : (P : Cap → Type 0) (i : Image) (export : ℕ) (c : Cap) → P (untagged c) → ((root i export).passes ≡ true → P c) → P (cap_passed i export c)
passed_case P i export c gone stays = chosen P (root i export).passes c (untagged c) stays (λ not. gone)

pub argument_case : (P : Cap → Type 0) (i : Image) (old : Thread) (export n : ℕ) → P (plain 0) → P (untagged (register old (10 + n))) → ((root i export).passes ≡ true → P (register old (10 + n))) → P (argument i old export n)
argument_case P i old export n zeroed gone stays = chosen P (nat_lt n (gate_for i.entries.gates export).args) (cap_passed i export (register old (10 + n))) (plain 0)
    (λ there. passed_case P i export (register old (10 + n)) gone stays) (λ past. zeroed)

outer_same : (f : Frame) (fs : List Frame) (high x : ℕ) → f.top ≡ high → high ≤ x → outer (f ∷ fs) x ≡ outer fs x
outer_same f fs high x top le = elim (lt_tells x f.top) [ inl e ↦ absurd (omega (arith, e.1, top, le)) | inr e ↦ rw e.0 refl ]

posture_in : (i : Image) (new : Thread) (f : Frame) (fs : List Frame) (callee export : ℕ) → (root i export).owner ≡ Compartment callee → f.actor ≡ callee → new.posture ≡ posture_of_call i export → PostureFits i new (f ∷ fs)
posture_in i new f fs callee export owner actor is =
    let P : Posture → Type 0 = λ p. p.off ≡ true → ((root i p.source).disabled ≡ true) × Reaches i.entries (root i p.source).owner f.actor in
    let Q : Owner → Type 0 = λ o. Reaches i.entries o f.actor in
    let reach : Reaches i.entries (root i export).owner f.actor = subst Q (sym owner) (reaches_own i.entries callee f.actor (joined_is i.entries callee f.actor (sym actor))) in
    subst P (sym is) (chosen P (root i export).disabled (record { off = true; source = export }) interrupts_on (λ disabled off. (disabled, reach)) (λ enabled off. absurd (let clash : false ≡ true = off in cc)))

sentry_live : (i : Image) (objects : List Object) (c : Cap) → (c.tag ≡ true → IsReturnSentry i c) → HasLive i objects c
sentry_live i objects c h = λ tagged. no_live_of i objects c TrustedPart (h tagged).kind refl tagged

stack_live : (i : Image) (objects : List Object) (t high : ℕ) (c : Cap) → (c.tag ≡ true → IsStackUpTo i t high c) → HasLive i objects c
stack_live i objects t high c h = λ tagged. no_live_of i objects c (Listing kind.Stack) (h tagged).kind refl tagged

pub push_confined : (i : Image) (s : State) (t : ℕ) (g : Frame) (gs : List Frame) (callee export high : ℕ) (w : Given) → Partitioned i → Confined i s → Enters i s t g gs callee export high w
    → Confined i (switched i s t high (entered i (thread s t) callee export high w) s.running)
push_confined i s t g gs callee export high w p h e =
    let none_kept : Kept i (plain 0) = plain_kept i (plain 0) refl in
    let f : Frame = pushed_frame (thread s t) callee export high in
    let below : FramesHold i s.objects t (g ∷ gs) = subst (λ (fs : List Frame). FramesHold i s.objects t fs) e.call.caller (h.frames t) in
    let saved : (n : ℕ) → InFrames i s.objects t (g ∷ gs) (register (thread s t) n) = λ n. subst (λ (fs : List Frame). InFrames i s.objects t fs (register (thread s t) n)) e.call.caller (h.registers t n) in
    let joins : (root i export).passes ≡ true → Joins i (g ∷ gs) (pushed_frame (thread s t) callee export high ∷ g ∷ gs) = λ passes.
    let j : Joined i.entries g.actor callee = gate_joins i s t g gs callee export high w p h e passes in
    (j, λ x within. inr (joined_sym i.entries g.actor callee j, within)) in
    let whole : InFrames i s.objects t (pushed_frame (thread s t) callee export high ∷ g ∷ gs) (plain 0) = plain_in i s.objects t (pushed_frame (thread s t) callee export high ∷ g ∷ gs) (plain 0) refl in
    let into : (c : Cap) → InFrames i s.objects t (pushed_frame (thread s t) callee export high ∷ g ∷ gs) c → InFrames i s.objects t (pushed_frame (thread s t) callee export high ∷ (thread s t).frames) c =
    λ c k. subst (λ (fs : List Frame). InFrames i s.objects t (pushed_frame (thread s t) callee export high ∷ fs) c) (sym e.call.caller) k in
    let given_in : (n : ℕ) → InFrames i s.objects t (pushed_frame (thread s t) callee export high ∷ g ∷ gs) (argument i (thread s t) export n) = λ n.
    argument_case (λ c. InFrames i s.objects t (pushed_frame (thread s t) callee export high ∷ g ∷ gs) c) i (thread s t) export n whole
    (plain_in i s.objects t (pushed_frame (thread s t) callee export high ∷ g ∷ gs) (untagged (register (thread s t) (10 + n))) refl)
    (λ passes. carry i s.objects t (g ∷ gs) (pushed_frame (thread s t) callee export high ∷ g ∷ gs) (register (thread s t) (10 + n)) (joins passes) (saved (10 + n))) in
    let given_kept : (n : ℕ) → Kept i (argument i (thread s t) export n) = λ n.
    argument_case (Kept i) i (thread s t) export n (plain_kept i (plain 0) refl) (plain_kept i (untagged (register (thread s t) (10 + n))) refl) (λ passes. h.kept.registers t (10 + n)) in
    let nothing_live : HasLive i s.objects (plain 0) = λ tagged. absurd (let clash : false ≡ true = tagged in cc) in
    let given_live : s.running ≡ Some t → (n : ℕ) → HasLive i s.objects (argument i (thread s t) export n) = λ runs n.
    argument_case (HasLive i s.objects) i (thread s t) export n nothing_live (λ tagged. absurd (let clash : false ≡ true = tagged in cc)) (λ passes. h.live t runs (10 + n)) in
    let back_in : InFrames i s.objects t (pushed_frame (thread s t) callee export high ∷ g ∷ gs) w.back = λ tagged. sentry_placed i s.objects (λ d. d ≡ callee) (OwnStack i t (pushed_frame (thread s t) callee export high ∷ g ∷ gs)) w.back (e.back tagged) in
    let stack_in : InFrames i s.objects t (pushed_frame (thread s t) callee export high ∷ g ∷ gs) w.stack = λ tagged. stack_placed i s.objects t high (pushed_frame (thread s t) callee export high) (g ∷ gs) w.stack refl (e.stack tagged) in
    let globals_in : InFrames i s.objects t (pushed_frame (thread s t) callee export high ∷ g ∷ gs) w.globals = λ tagged. own_placed i s.objects t callee (pushed_frame (thread s t) callee export high ∷ g ∷ gs) w.globals (e.globals tagged) in
    let pcc_in : InFrames i s.objects t (pushed_frame (thread s t) callee export high ∷ g ∷ gs) w.pcc = λ tagged. own_placed i s.objects t callee (pushed_frame (thread s t) callee export high ∷ g ∷ gs) w.pcc (e.pcc tagged).0 in
    switched_confined i s t high (entered i (thread s t) callee export high w) s.running p h (record {
      stack = below.0.stack;
      inside = omega (arith, e.call.under, below.0.high);
      outers = λ x le. outer_same (pushed_frame (thread s t) callee export high) (thread s t).frames high x refl le;
      pcc = into w.pcc pcc_in;
      registers = λ n. into (register (entered i (thread s t) callee export high w) n)
          (all_of (λ c. InFrames i s.objects t (pushed_frame (thread s t) callee export high ∷ g ∷ gs) c) (entered i (thread s t) callee export high w).registers (plain 0) whole
          (whole, (back_in, (stack_in, (globals_in, (whole, (whole, (whole, (whole, (whole, (whole, (given_in 0, (given_in 1, (given_in 2, (given_in 3, (given_in 4, (given_in 5, tt)))))))))))))))) n);
      frames = subst (λ (fs : List Frame). FramesHold i s.objects t (pushed_frame (thread s t) callee export high ∷ fs)) (sym e.call.caller) (
        record {
          stack = below.0.stack;
          even = e.call.even;
          low = e.call.low;
          high = omega (arith, e.call.under, below.0.high);
          under = e.call.under;
          passes = λ passes. joined_sym i.entries g.actor callee (gate_joins i s t g gs callee export high w p h e passes);
          returns = (e.call.return_tagged, e.call.return_sealed);
          c1 = saved 1;
          c2 = saved 2;
          c3 = saved 3;
          c8 = saved 8;
          c9 = saved 9;
        },
        below,
      );
      kept = all_of (Kept i) (entered i (thread s t) callee export high w).registers (plain 0) (plain_kept i (plain 0) refl)
          (none_kept, (sentry_kept i w.back e.back, (stack_kept i t high w.stack e.stack, (own_kept i callee w.globals e.globals, (none_kept, (none_kept, (none_kept, (none_kept, (none_kept, (none_kept, (given_kept 0, (given_kept 1, (given_kept 2, (given_kept 3, (given_kept 4, (given_kept 5, tt))))))))))))))));
      kept_frames = (record { c1 = h.kept.registers t 1; c2 = h.kept.registers t 2; c3 = h.kept.registers t 3; c8 = h.kept.registers t 8; c9 = h.kept.registers t 9 }, h.kept.frames t);
      posture = posture_in i (entered i (thread s t) callee export high w) f (thread s t).frames callee export e.call.callee_is refl refl;
      runs = λ tagged. (e.pcc tagged).1;
      live = λ runs. all_of (HasLive i s.objects) (entered i (thread s t) callee export high w).registers (plain 0) nothing_live (
        nothing_live,
        (
          sentry_live i s.objects w.back e.back,
          (
            stack_live i s.objects t high w.stack e.stack,
            (
              own_live i s.objects callee w.globals e.globals,
              (
                nothing_live,
                (
                  nothing_live,
                  (
                    nothing_live,
                    (
                      nothing_live,
                      (
                        nothing_live,
                        (
                          nothing_live,
                          (given_live runs 0, (given_live runs 1, (given_live runs 2, (given_live runs 3, (given_live runs 4, (given_live runs 5, tt)))))),
                        ),
                      ),
                    ),
                  ),
                ),
              ),
            ),
          ),
        ),
      );
      stays = λ u is. is;
    })
