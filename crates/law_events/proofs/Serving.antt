-- What the switch, yield and sleep come to stands.
use Rattle.std.proofs.Common.{ℕ, zero, suc, ◌≡◌, ◌+◌, ◌-◌, ◌*◌, ◌/◌, ◌%◌, ◌^◌, ◌==◌, ◌≤◌, Bool, true, inl, inr, nat_le, nat_lt, List, ◌∷◌, length, Option, Some, None, refl, sym, ap, ◌∙◌, subst, arith}
use Rattle.std.specs.Prelude.{find, unwrap_or}
use Rattle.std.specs.List.{range_with_len}
use Rattle.std.proofs.Math.Nat.{mul_assoc, mul-mod_left, div-mul-le_self}
use Rattle.std.proofs.lemmas.Nat.{pow-add}
use Rattle.std.proofs.lemmas.Bool.{eqb-false}
use Rattle.law_lists.proofs.Tests.{chosen}
use Rattle.ct_entry.specs.declared.rows.Owner.TheVariants.{Compartment}
use Rattle.def_words.specs.declared.Trap.{Trap}
use Rattle.def_words.specs.Authority.{cap_address}
use Rattle.def_words.specs.Capability.{integer}
use Rattle.def_words.specs.Seals.{cap_seal}
use Rattle.def_reach.specs.Roots.{gate_for}
use Rattle.def_sched.specs.declared.Status.{Status}
use Rattle.def_sched.specs.declared.Status.TheVariants.{Ready, Sleeping, Ended}
use Rattle.def_sched.specs.Statuses.{asleep}
use Rattle.def_machine.specs.Image.{Image, root, stack_entry, stack_base, frames_most}
use Rattle.def_machine.specs.State.{State, Thread, Frame, thread, register}
use Rattle.def_machine.specs.Frames.{callee_start}
use Rattle.def_confined.specs.Keeps.{Keeps}
use Rattle.def_confined.specs.Partitioned.{Partitioned}
use Rattle.def_confined.specs.Facts.{Facts}
use Rattle.def_profile.specs.declared.traps.TheConstants.{TAG_CODE, SEAL_CODE, STORE_CODE, BOUNDS_CODE}
use Rattle.ct_entry.specs.declared.acts.Act.TheVariants as acts
use Rattle.def_confined.specs.Licensed.{Licensed}
use Rattle.law_moves.proofs.Checks.{AllTell, register_tells}
use Rattle.law_moves.proofs.Deeds.{call_licensed}
use Rattle.def_step.specs.Instructions.{actor_of, deed_told}
use Rattle.def_step.specs.Checks.{first_failed}
use Rattle.def_step.specs.Switch.{Switched, TooDeep, NoStack, Enters, return_checks, switch_checks, room_exponent, room_of, called, with_room, past_checks, frame_top}
use Rattle.def_step.specs.Routines.{tells, code, switched_to, switch, stops, yield, sleep}
use Rattle.law_moves.proofs.Moves.{untagged_puts}
use Rattle.law_moves.proofs.Entering.{given_enters}
use Rattle.law_moves.proofs.Threads.{push_keeps}
use Rattle.def_safety.specs.Clean.{callee_of, high_of}
use Rattle.def_events.specs.Stands.{RoutineKeeps}
use Rattle.law_events.proofs.Switching.{checks_say, caller_of}
use Rattle.law_events.proofs.Answering.{Returning, return_says, return_tells, failed_tells, checked_stands, answers_keeps, stops_keeps}

-- ---- the room of a callee's stack

least_of_range : (P : ℕ → Bool) (low n k d : ℕ) → k ≤ low → k ≤ d → k ≤ unwrap_or (find P (range_with_len low n)) d
least_of_range P low zero k d from past = past
least_of_range P low (suc n) k d from past = chosen (λ (o : Option ℕ). k ≤ unwrap_or o d) (P low) (Some low) (find P (range_with_len (low + 1) n))
    (λ is. from)
    (λ not. least_of_range P (low + 1) n k d (omega (arith, from)) past)

room_even : (n : ℕ) → room_of n % 16 ≡ 0
room_even n =
    let e : 4 ≤ room_exponent n = least_of_range (λ k. nat_le (n / 2 ^ k) 511) 4 11 4 14 (omega arith) (omega arith) in
    sixteens (n / 2 ^ room_exponent n) (room_exponent n) e
  where
    sixteens : (q e : ℕ) → 4 ≤ e → q * 2 ^ e % 16 ≡ 0
    sixteens q e le =
        let sum : e ≡ (e - 4) + 4 = omega (arith, le) in
        let power : 2 ^ e ≡ 2 ^ (e - 4) * 16 = ap (λ k. 2 ^ k) sum ∙ pow-add 2 (e - 4) 4 in
        let P : ℕ → Type 0 = λ k. q * k % 16 ≡ 0 in
        subst P (sym power) (ap (λ k. k % 16) (sym (mul_assoc q (2 ^ (e - 4)) 16)) ∙ mul-mod_left (q * 2 ^ (e - 4)) 16)

room_within : (n : ℕ) → room_of n ≤ n
room_within n = div-mul-le_self n (2 ^ room_exponent n)

-- ---- the switch

-- the traps of the switch's checks
switch_tells : (base top : ℕ) (caller : Thread) → AllTell (switch_checks base top caller)
switch_tells base top caller = (
  register_tells TAG_CODE 1 (omega arith) (inr (inl refl)),
  (
    register_tells SEAL_CODE 1 (omega arith) (inr (inr (inl refl))),
    (
      register_tells TAG_CODE 6 (omega arith) (inr (inl refl)),
      (
        register_tells SEAL_CODE 6 (omega arith) (inr (inr (inl refl))),
        (
          register_tells TAG_CODE 2 (omega arith) (inr (inl refl)),
          (
            register_tells SEAL_CODE 2 (omega arith) (inr (inr (inl refl))),
            (
              register_tells STORE_CODE 2 (omega arith) (inr (inr (inr (inr (inr (inl refl)))))),
              (register_tells BOUNDS_CODE 2 (omega arith) (inl refl), tt),
            ),
          ),
        ),
      ),
    ),
  ),
)

pub switch_stands : (i : Image) (s : State) (t : ℕ) → Partitioned i → Facts i → Keeps i s → s.running ≡ Some t → RoutineKeeps i s t (switch i s t)
switch_stands i s t parts facts k runs = by_failed (first_failed (switch_checks (stack_base i t) (frame_top (thread s t).frames) (thread s t))) refl
  where
    answer : first_failed (switch_checks (stack_base i t) (frame_top (thread s t).frames) (thread s t)) ≡ None → (n : ℕ) → RoutineKeeps i s t (tells s t (code n))
    answer none n =
        let says = checks_say i s t none in
        (answers_keeps i s t (code n) (record { parts = parts; keeps = k; runs = runs; tagged = says.return_tagged; sealed = says.return_sealed }) (untagged_puts i s t (code n) refl), tt)

    licensed : (f : Frame) (fs : List Frame) → (thread s t).frames ≡ f ∷ fs → (register (thread s t) 6).tag ≡ true → cap_seal (register (thread s t) 6) ≡ 9 → Licensed i.entries (deed_told s t ((register (thread s t) 6).shadow.root, acts.Call (called i.entries (thread s t))))
    licensed f fs frames tagged sealed =
        let P : List Frame → Type 0 = λ gs. Licensed i.entries (record { thread = t; actor = actor_of gs; entry = (register (thread s t) 6).shadow.root; act = acts.Call (called i.entries (thread s t)) }) in
        subst P (sym frames) (call_licensed i s t 6 f fs k.confined frames tagged sealed)

    entering : first_failed (switch_checks (stack_base i t) (frame_top (thread s t).frames) (thread s t)) ≡ None → (length (thread s t).frames ≡ frames_most i t → ⊥) → RoutineKeeps i s t (switched_to i s t (Enters (called i.entries (thread s t)) (high_of i s t)))
    entering none room =
        let says = checks_say i s t none in
        let caller = caller_of i s t facts k.confined says in
        let callee : (root i (called i.entries (thread s t))).owner ≡ Compartment (callee_of i (called i.entries (thread s t))) = caller.owner_is ∙ ap (λ b. Compartment b) caller.callee_is in
        let even : high_of i s t % 16 ≡ 0 = (let base = (facts.stacks (stack_entry i t) caller.holds.0.stack).even in let more = room_even (cap_address (register (thread s t) 2) - stack_base i t) in omega (arith, base, more)) in
        let within = room_within (cap_address (register (thread s t) 2) - stack_base i t) in
        let under : high_of i s t ≤ caller.frame.top = (let top = caller.top in let low = says.stack_low in let high = says.stack_high in omega (arith, within, top, low, high)) in (
          push_keeps i s t caller.frame caller.below (callee_of i (called i.entries (thread s t))) (called i.entries (thread s t)) (high_of i s t)
              (callee_start i (thread s t) t (callee_of i (called i.entries (thread s t))) (called i.entries (thread s t)) (high_of i s t)) parts k
              (record {
                enters = given_enters i s t caller.frame caller.below (callee_of i (called i.entries (thread s t))) (called i.entries (thread s t)) (high_of i s t) parts k.confined
                    (record {
                      call = record {
                        running = runs;
                        caller = caller.frames;
                        return_tagged = says.return_tagged;
                        return_sealed = says.return_sealed;
                        gate_tagged = says.gate_tagged;
                        gate_sealed = says.gate_sealed;
                        gate = refl;
                        callee_is = callee;
                        even = even;
                        low = omega arith;
                        under = under;
                      };
                      stack_tagged = says.stack_tagged;
                      stack_local = says.stack_local;
                    });
                room = (let deep = k.beside.bounded.deep t in omega (arith, deep, room));
              }),
          licensed caller.frame caller.below caller.frames says.gate_tagged says.gate_sealed,
        )

    by_failed : (o : Option Trap) → first_failed (switch_checks (stack_base i t) (frame_top (thread s t).frames) (thread s t)) ≡ o → RoutineKeeps i s t (switched_to i s t (past_checks i.entries (stack_base i t) (frames_most i t) (thread s t) o))
    by_failed (Some why) none = failed_tells (switch_checks (stack_base i t) (frame_top (thread s t).frames) (thread s t)) why (switch_tells (stack_base i t) (frame_top (thread s t).frames) (thread s t)) none
    by_failed None none = chosen (λ (z : Switched). RoutineKeeps i s t (switched_to i s t z)) (length (thread s t).frames == frames_most i t) TooDeep (with_room i.entries (stack_base i t) (high_of i s t) (called i.entries (thread s t)))
        (λ is. answer none 12)
        (λ not. chosen (λ (z : Switched). RoutineKeeps i s t (switched_to i s t z)) (nat_lt (high_of i s t - stack_base i t) (gate_for i.entries.gates (called i.entries (thread s t))).stack) NoStack (Enters (called i.entries (thread s t)) (high_of i s t))
        (λ is. answer none 11)
        (λ fits. entering none (eqb-false (length (thread s t).frames) (frames_most i t) not)))

-- ---- yield and sleep

asleep_goes_on : (n : ℕ) → asleep n ≡ Ended → ⊥
asleep_goes_on n = chosen (λ (z : Status). z ≡ Ended → ⊥) (n == 0) Ready (Sleeping n) (λ is e. (let clash : Ready ≡ Ended = e in cc)) (λ not e. (let clash : Sleeping n ≡ Ended = e in cc))

pub rests_stands : (i : Image) (s : State) (t : ℕ) → Partitioned i → Keeps i s → s.running ≡ Some t → RoutineKeeps i s t (yield s t) × RoutineKeeps i s t (sleep s t)
rests_stands i s t parts k runs = (
  checked_stands i s t (return_checks (register (thread s t) 1)) (stops s t (asleep 0)) (return_tells (register (thread s t) 1)) (λ none. (stops_keeps i s t (integer 0) (asleep 0) (returning none) (untagged_puts i s t (integer 0) refl) (asleep_goes_on 0), tt)),
  checked_stands i s t (return_checks (register (thread s t) 1)) (stops s t (asleep (cap_address (register (thread s t) 10)))) (return_tells (register (thread s t) 1)) (λ none. (stops_keeps i s t (integer 0) (asleep (cap_address (register (thread s t) 10))) (returning none) (untagged_puts i s t (integer 0) refl) (asleep_goes_on (cap_address (register (thread s t) 10))), tt)),
)
  where
    returning : first_failed (return_checks (register (thread s t) 1)) ≡ None → Returning i s t
    returning none = let says = return_says (register (thread s t) 1) none in record { parts = parts; keeps = k; runs = runs; tagged = says.tagged; sealed = says.sealed }
