-- What the switch comes to where it tells a call: its checks passed, and it entered the export.
use Rattle.std.proofs.Common.{ℕ, ◌≡◌, ◌-◌, ◌==◌, ◌≤◌, true, inl, inr, nat_le, nat_lt, List, ◌∷◌, length, Option, Some, None, refl, sym, ap, ◌∙◌, subst, arith}
use Rattle.std.proofs.lemmas.Bool.{eqb-true, eqb-false, leb-true, ltb-false, and_parts, cases_eq}
use Rattle.std.specs.Int.{is_in_range}
use Rattle.law_lists.proofs.Tests.{chosen}
use Rattle.ct_entry.specs.declared.acts.Act.{Act}
use Rattle.ct_entry.specs.declared.acts.Act.TheVariants.{Call}
use Rattle.ct_entry.specs.declared.rows.Owner.TheVariants.{Compartment}
use Rattle.ct_entry.specs.declared.rows.Kind.TheVariants as kind
use Rattle.def_words.specs.declared.Cap.{Cap}
use Rattle.def_words.specs.declared.Trap.{Trap}
use Rattle.def_words.specs.Authority.{cap_address, cap_base}
use Rattle.def_words.specs.Permissions.{has, store_local}
use Rattle.def_words.specs.Seals.{cap_seal}
use Rattle.def_reach.specs.Roots.{Listing, compartment_of, gate_for}
use Rattle.def_machine.specs.Image.{Image, root, stack_base, frames_most}
use Rattle.def_machine.specs.State.{State, Frame, thread, register}
use Rattle.def_machine.specs.Frames.{switched, callee_start, entered}
use Rattle.def_confined.specs.Capabilities.{IsReturnType, Rooted}
use Rattle.def_confined.specs.Confined.{Confined, FramesHold}
use Rattle.def_confined.specs.Facts.{Facts}
use Rattle.def_step.specs.Checks.{first_failed}
use Rattle.def_step.specs.Switch.{Switched, TooDeep, NoStack, Enters, switch_checks, called, with_room, past_checks, frame_top}
use Rattle.def_step.specs.Routines.{Ran, Traps, Leaves, tells, code, enters, switched_to, switch}
use Rattle.law_moves.proofs.Checks.{AllPass, all_pass}
use Rattle.law_moves.proofs.JumpsMoves.{in_rooted}
use Rattle.law_moves.proofs.Authorities.{headed}
use Rattle.def_safety.specs.Clean.{callee_of, high_of}

abbrev pub entered_state : Image → State → ℕ → ℕ → State
entered_state i s t export = switched i s t (high_of i s t) (entered i (thread s t) (callee_of i export) export (high_of i s t) (callee_start i (thread s t) t (callee_of i export) export (high_of i s t))) s.running

-- the switch told a call
pub record Told (i : Image) (s : State) (t entry export : ℕ) (after : State) : Type 0 where
  pub passes : first_failed (switch_checks (stack_base i t) (frame_top (thread s t).frames) (thread s t)) ≡ None
  pub room : length (thread s t).frames ≡ frames_most i t → ⊥
  pub enough : (gate_for i.entries.gates export).stack ≤ high_of i s t - stack_base i t
  pub export_is : export ≡ called i.entries (thread s t)
  pub entry_is : entry ≡ (register (thread s t) 6).shadow.root
  pub after_is : after ≡ entered_state i s t export

abbrev state_of : State → Ran → State
state_of s (Traps w) = s
state_of s (Leaves z o) = z

abbrev told_by : Ran → Option (ℕ × Act)
told_by (Traps w) = None
told_by (Leaves z o) = o

-- a routine that told a call told no answer
none_told : (s after : State) (t : ℕ) (value : Cap) (d : ℕ × Act) → tells s t value ≡ Leaves after (Some d) → ⊥
none_told s after t value d e = let clash : None ≡ Some d = ap told_by e in cc

abbrev entry_told : ℕ → Option (ℕ × Act) → ℕ
entry_told n None = n
entry_told n (Some d) = d.0

abbrev export_in : ℕ → Act → ℕ
export_in n (Call export) = export
export_in n _ = n

abbrev export_told : ℕ → Option (ℕ × Act) → ℕ
export_told n None = n
export_told n (Some d) = export_in n d.1

pub switch_told : (i : Image) (s after : State) (t entry export : ℕ) → switch i s t ≡ Leaves after (Some (entry, Call export)) → Told i s t entry export after
switch_told i s after t entry export e = by_failed (first_failed (switch_checks (stack_base i t) (frame_top (thread s t).frames) (thread s t))) refl e
  where
    entering : (x : ℕ) (high : ℕ) → x ≡ called i.entries (thread s t) → high ≡ high_of i s t → first_failed (switch_checks (stack_base i t) (frame_top (thread s t).frames) (thread s t)) ≡ None
        → (length (thread s t).frames ≡ frames_most i t → ⊥) → (gate_for i.entries.gates x).stack ≤ high - stack_base i t → enters i s t (callee_of i x) x high ≡ Leaves after (Some (entry, Call export)) → Told i s t entry export after
    entering x high x_is high_is none room enough same =
        let deeds : Some ((register (thread s t) 6).shadow.root, Call x) ≡ Some (entry, Call export) = ap told_by same in
        let exports : x ≡ export = ap (export_told 0) deeds in
        let entries : (register (thread s t) 6).shadow.root ≡ entry = ap (entry_told 0) deeds in
        let P : ℕ → Type 0 = λ h. after ≡ switched i s t h (entered i (thread s t) (callee_of i x) x h (callee_start i (thread s t) t (callee_of i x) x h)) s.running in
        let Q : ℕ → Type 0 = λ z. after ≡ entered_state i s t z in
        record {
          passes = none;
          room = room;
          enough = subst (λ h. (gate_for i.entries.gates export).stack ≤ h - stack_base i t) high_is (subst (λ z. (gate_for i.entries.gates z).stack ≤ high - stack_base i t) exports enough);
          export_is = sym exports ∙ x_is;
          entry_is = sym entries;
          after_is = subst Q exports (subst P high_is (sym (ap (state_of s) same)));
        }

    by_failed : (o : Option Trap) → first_failed (switch_checks (stack_base i t) (frame_top (thread s t).frames) (thread s t)) ≡ o
        → switched_to i s t (past_checks i.entries (stack_base i t) (frames_most i t) (thread s t) o) ≡ Leaves after (Some (entry, Call export)) → Told i s t entry export after
    by_failed (Some why) none same = absurd (let clash : None ≡ Some (entry, Call export) = ap told_by same in cc)
    by_failed None none same =
        chosen (λ (z : Switched). switched_to i s t z ≡ Leaves after (Some (entry, Call export)) → Told i s t entry export after) (length (thread s t).frames == frames_most i t)
        TooDeep (with_room i.entries (stack_base i t) (high_of i s t) (called i.entries (thread s t)))
        (λ is told. absurd (none_told s after t (code 12) (entry, Call export) told))
        (λ not told. chosen (λ (z : Switched). switched_to i s t z ≡ Leaves after (Some (entry, Call export)) → Told i s t entry export after)
        (nat_lt (high_of i s t - stack_base i t) (gate_for i.entries.gates (called i.entries (thread s t))).stack)
        NoStack (Enters (called i.entries (thread s t)) (high_of i s t))
        (λ is told. absurd (none_told s after t (code 11) (entry, Call export) told))
        (λ fits told. entering (called i.entries (thread s t)) (high_of i s t) refl refl none (eqb-false (length (thread s t).frames) (frames_most i t) not) (ltb-false (high_of i s t - stack_base i t) (gate_for i.entries.gates (called i.entries (thread s t))).stack fits) told)
        told)
        same

-- ---- what the checks say

pub record Passed (i : Image) (s : State) (t : ℕ) : Type 0 where
  pub return_tagged : (register (thread s t) 1).tag ≡ true
  pub return_sealed : IsReturnType (cap_seal (register (thread s t) 1))
  pub gate_tagged : (register (thread s t) 6).tag ≡ true
  pub gate_sealed : cap_seal (register (thread s t) 6) ≡ 9
  pub stack_tagged : (register (thread s t) 2).tag ≡ true
  pub stack_local : has (register (thread s t) 2) store_local ≡ true
  pub stack_low : stack_base i t ≤ cap_address (register (thread s t) 2)
  pub stack_high : cap_address (register (thread s t) 2) ≤ frame_top (thread s t).frames

four_from : (k : ℕ) → 4 ≤ k → k ≤ 5 → IsReturnType k
four_from k low high = elim (cases_eq k 4) [ inl e ↦ inl e | inr n ↦ inr (omega (arith, low, high, n)) ]

pub four_or_five : (k : ℕ) → is_in_range 4 5 k ≡ true → IsReturnType k
four_or_five k h = let ends = and_parts (nat_le 4 k) (nat_le k 5) h in four_from k (leb-true 4 k ends.0) (leb-true k 5 ends.1)

pub checks_say : (i : Image) (s : State) (t : ℕ) → first_failed (switch_checks (stack_base i t) (frame_top (thread s t).frames) (thread s t)) ≡ None → Passed i s t
checks_say i s t none =
    let all : AllPass (switch_checks (stack_base i t) (frame_top (thread s t).frames) (thread s t)) = all_pass (switch_checks (stack_base i t) (frame_top (thread s t).frames) (thread s t)) none in
    let stack = all.1.1.1.1 in
    let range = and_parts (cap_base (register (thread s t) 2) == stack_base i t) (is_in_range (stack_base i t) (frame_top (thread s t).frames) (cap_address (register (thread s t) 2))) stack.1.1.1.0 in
    let ends = and_parts (nat_le (stack_base i t) (cap_address (register (thread s t) 2))) (nat_le (cap_address (register (thread s t) 2)) (frame_top (thread s t).frames)) range.1 in
    record {
      return_tagged = all.0;
      return_sealed = four_or_five (cap_seal (register (thread s t) 1)) all.1.0;
      gate_tagged = all.1.1.0;
      gate_sealed = eqb-true (cap_seal (register (thread s t) 6)) 9 all.1.1.1.0;
      stack_tagged = stack.0;
      stack_local = stack.1.1.0;
      stack_low = leb-true (stack_base i t) (cap_address (register (thread s t) 2)) ends.0;
      stack_high = leb-true (cap_address (register (thread s t) 2)) (frame_top (thread s t).frames) ends.1;
    }

-- ---- who calls, and what

-- the caller's frame, and the compartment of the export that the gate is of
pub record Caller (i : Image) (s : State) (t : ℕ) : Type 0 where
  pub frame : Frame
  pub below : List Frame
  pub frames : (thread s t).frames ≡ frame ∷ below
  pub holds : FramesHold i s.objects t (frame ∷ below)
  pub top : frame_top (thread s t).frames ≡ frame.top
  pub call_is : (root i (register (thread s t) 6).shadow.root).origin ≡ Listing kind.Call
  pub callee : ℕ
  pub owner_is : (root i (called i.entries (thread s t))).owner ≡ Compartment callee
  pub callee_is : callee ≡ callee_of i (called i.entries (thread s t))

pub caller_of : (i : Image) (s : State) (t : ℕ) → Facts i → Confined i s → Passed i s t → Caller i s t
caller_of i s t facts h says =
    let head = headed i s.objects t (thread s t).frames (register (thread s t) 1) (h.registers t 1) says.return_tagged in
    let frames : (thread s t).frames ≡ head.0 ∷ head.1.0 = head.1.1 in
    let gate : Rooted i (register (thread s t) 6) = in_rooted i s.objects t (thread s t).frames (register (thread s t) 6) (h.registers t 6) says.gate_tagged in
    let call_is : (root i (register (thread s t) 6).shadow.root).origin ≡ Listing kind.Call = gate.calls says.gate_sealed in
    let owner = (facts.called (register (thread s t) 6).shadow.root call_is).owner_is in
    record {
      frame = head.0;
      below = head.1.0;
      frames = frames;
      holds = subst (λ (fs : List Frame). FramesHold i s.objects t fs) frames (h.frames t);
      top = ap frame_top frames;
      call_is = call_is;
      callee = owner.0;
      owner_is = owner.1;
      callee_is = ap compartment_of (sym owner.1);
    }
