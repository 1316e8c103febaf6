-- A native routine of the running thread answers: c10 and c11 get values, and the thread goes on where c1 leads.
use Rattle.std.proofs.Common.{ℕ, ◌≡◌, ◌≤◌, true, false, inl, inr, List, [], ◌∷◌, length, Option, Some, None, refl, sym, ◌∙◌, subst, arith}
use Rattle.def_words.specs.declared.Cap.{Cap}
use Rattle.def_words.specs.declared.Trap.{Trap}
use Rattle.def_words.specs.Jumped.{opened}
use Rattle.def_words.specs.Seals.{cap_seal, posture_through}
use Rattle.def_memory.specs.Granules.{plain}
use Rattle.def_sched.specs.declared.Status.{Status}
use Rattle.def_sched.specs.declared.Status.TheVariants.{Ended}
use Rattle.def_machine.specs.Image.{Image}
use Rattle.def_machine.specs.State.{State, Thread, thread, register}
use Rattle.def_machine.specs.Registers.{written}
use Rattle.def_machine.specs.Threads.{with_status, changed}
use Rattle.def_confined.specs.Capabilities.{IsReturnType, Kept}
use Rattle.def_confined.specs.Changes.{Changes, Puts}
use Rattle.def_confined.specs.Keeps.{Keeps}
use Rattle.def_confined.specs.Partitioned.{Partitioned}
use Rattle.def_confined.specs.Places.{InFrames, HasLive}
use Rattle.def_confined.specs.Swept.{HasUnpainted}
use Rattle.def_profile.specs.declared.traps.TheConstants.{TAG_CODE, SEAL_CODE}
use Rattle.def_step.specs.Checks.{Check, first_failed}
use Rattle.def_step.specs.Switch.{return_checks}
use Rattle.def_step.specs.Routines.{Ran, answered, answers, checked}
use Rattle.law_moves.proofs.Turns.{changed_confined, clock_of, after_written, fits_as}
use Rattle.law_moves.proofs.Moves.{untagged_puts}
use Rattle.def_confined.specs.Jumping.{Lands}
use Rattle.law_moves.proofs.JumpsMoves.{return_fits, opened_lands, in_rooted}
use Rattle.law_moves.proofs.Targets.{opened_opens}
use Rattle.law_moves.proofs.Slices.{live_unpainted}
use Rattle.law_moves.proofs.SweepsMoves.{ram_same, moved_beside}
use Rattle.law_moves.proofs.Threads.{written_length}
use Rattle.law_moves.proofs.Checks.{MayTell, AllTell, AllPass, by_checks, all_pass, register_tells}
use Rattle.law_moves.proofs.Authorities.{headed}
use Rattle.def_events.specs.Stands.{RoutineKeeps}
use Rattle.law_events.proofs.Switching.{four_or_five}
use Rattle.law_routines.proofs.Leaving.{option_tells}

-- the running thread's c1 is a return sentry
pub record Returning (i : Image) (s : State) (t : ℕ) : Type 0 where
  pub parts : Partitioned i
  pub keeps : Keeps i s
  pub runs : s.running ≡ Some t
  pub tagged : (register (thread s t) 1).tag ≡ true
  pub sealed : IsReturnType (cap_seal (register (thread s t) 1))

pub record OfReturn (c : Cap) : Type 0 where
  pub tagged : c.tag ≡ true
  pub sealed : IsReturnType (cap_seal c)

pub return_says : (c : Cap) → first_failed (return_checks c) ≡ None → OfReturn c
return_says c none = let all : AllPass (return_checks c) = all_pass (return_checks c) none in record { tagged = all.0; sealed = four_or_five (cap_seal c) all.1.0 }

pub failed_tells : (cs : List Check) (why : Trap) → AllTell cs → first_failed cs ≡ Some why → MayTell why
failed_tells cs why tells = by_checks (λ (o : Option Trap). o ≡ Some why → MayTell why) cs tells
    (λ w may e. (let same : w ≡ why = cc in subst MayTell same may))
    (λ passes e. absurd (let clash : None ≡ Some why = e in cc))

-- what comes after checks stands where what comes does where they passed
pub checked_stands : (i : Image) (s : State) (t : ℕ) (cs : List Check) (ran : Ran) → AllTell cs → (first_failed cs ≡ None → RoutineKeeps i s t ran) → RoutineKeeps i s t (checked cs ran)
checked_stands i s t cs ran tells h = elim (option_tells (first_failed cs)) [
  | inl none ↦ rw none (h none)
  | inr failed ↦ rw failed.1 (failed_tells cs failed.0 tells failed.1)
]

-- ---- the traps of checks

pub return_tells : (c : Cap) → AllTell (return_checks c)
return_tells c = (register_tells TAG_CODE 1 (omega arith) (inr (inl refl)), (register_tells SEAL_CODE 1 (omega arith) (inr (inr (inl refl))), tt))

answered_lands : (i : Image) (s : State) (t : ℕ) → Returning i s t → Lands i s.objects t (thread s t).frames (opened (register (thread s t) 1))
answered_lands i s t r =
    let here = in_rooted i s.objects t (thread s t).frames (register (thread s t) 1) (r.keeps.confined.registers t 1) r.tagged in
    let says = here.returns r.sealed in
    opened_lands i s.objects t (thread s t).frames (register (thread s t) 1) (opened (register (thread s t) 1)) r.parts
    (record { there = r.keeps.confined.registers t 1; tagged = r.tagged; executes = says.1 })
    (opened_opens (register (thread s t) 1))

-- what holds of the value, of zero and of the registers as they were holds of the registers after
answered_holds : (P : Cap → Type 0) (old : Thread) (v : Cap) (n : ℕ) → P v → P (plain 0) → P (register old n) → P (register (answered old v) n)
answered_holds P old v n value zero before = after_written P (written old.registers 10 v) 11 n (plain 0) zero (after_written P old.registers 10 n v value before)

answered_changes : (i : Image) (s : State) (t : ℕ) (v : Cap) (status : Status) (run : Option ℕ) → Returning i s t → Puts i s t v → ((u : ℕ) → run ≡ Some u → s.running ≡ Some u) → Changes i s t (with_status (answered (thread s t) v) status) run
answered_changes i s t v status run r puts stays =
    let h = r.keeps.confined in
    let lands = answered_lands i s t r in
    let zero : Puts i s t (plain 0) = untagged_puts i s t (plain 0) refl in
    record {
      frames = refl;
      pcc = lands.there;
      registers = λ n. answered_holds (λ c. InFrames i s.objects t (thread s t).frames c) (thread s t) v n puts.there zero.there (h.registers t n);
      kept = λ n. answered_holds (Kept i) (thread s t) v n puts.kept zero.kept (h.kept.registers t n);
      posture = fits_as i (record (thread s t) { posture = posture_through (thread s t).posture (cap_seal (register (thread s t) 1)) 0 (register (thread s t) 1).shadow.source })
          (with_status (answered (thread s t) v) status) (thread s t).frames refl
          (return_fits i s.objects t (thread s t) (thread s t).frames (register (thread s t) 1) 0 (h.registers t 1) r.tagged r.sealed);
      runs = lands.runs;
      live = λ is n. answered_holds (HasLive i s.objects) (thread s t) v n puts.live zero.live (h.live t r.runs n);
      others = λ u other is. stays u is;
    }

answered_few : (old : Thread) (v : Cap) → length old.registers ≤ 16 → length (answered old v).registers ≤ 16
answered_few old v few = omega (arith, few, written_length old.registers 10 v, written_length (written old.registers 10 v) 11 (plain 0))

framed : (i : Image) (s : State) (t : ℕ) → Returning i s t → (thread s t).frames ≡ [] → ⊥
framed i s t r e =
    let head = headed i s.objects t (thread s t).frames (register (thread s t) 1) (r.keeps.confined.registers t 1) r.tagged in
    let clash : (head.0 ∷ head.1.0) ≡ [] = sym head.1.1 ∙ e in cc

-- the thread goes on with an answer
pub answers_keeps : (i : Image) (s : State) (t : ℕ) (v : Cap) → Returning i s t → Puts i s t v → Keeps i (answers s t v)
answers_keeps i s t v r puts = record {
  confined = changed_confined i s t (answered (thread s t) v) s.running (clock_of s) r.keeps.confined (answered_changes i s t v (thread s t).status s.running r puts (λ u is. is));
  beside = moved_beside i s t s.granules (answered (thread s t) v) s.running (clock_of s) (ram_same i s)
      (record {
        sweeps = λ w. record {
          frames = w.frames t;
          registers = λ idle. absurd (idle r.runs);
          others = λ u other idle is. idle is;
        };
        deep = r.keeps.beside.bounded.deep t;
        few = answered_few (thread s t) v (r.keeps.beside.bounded.few t);
        ends = λ e. record { over = e.over; none = λ none. absurd (framed i s t r none) };
      })
      r.keeps.beside;
}

-- it stops with an answer
pub stops_keeps : (i : Image) (s : State) (t : ℕ) (v : Cap) (status : Status) → Returning i s t → Puts i s t v → (status ≡ Ended → ⊥) → Keeps i (changed s t (with_status (answered (thread s t) v) status) None (clock_of s))
stops_keeps i s t v status r puts goes_on = record {
  confined = changed_confined i s t (with_status (answered (thread s t) v) status) None (clock_of s) r.keeps.confined
      (answered_changes i s t v status None r puts (λ u is. absurd (let clash : None ≡ Some u = is in cc)));
  beside = moved_beside i s t s.granules (with_status (answered (thread s t) v) status) None (clock_of s) (ram_same i s)
      (record {
        sweeps = λ w. record {
          frames = w.frames t;
          registers = λ idle n. answered_holds (HasUnpainted i s.objects) (thread s t) v n (unpainted v puts.live) (λ tagged. absurd (let clash : false ≡ true = tagged in cc)) (unpainted (register (thread s t) n) (r.keeps.confined.live t r.runs n));
          others = λ u other idle is. other (let same : Some t ≡ Some u = sym r.runs ∙ is in cc);
        };
        deep = r.keeps.beside.bounded.deep t;
        few = answered_few (thread s t) v (r.keeps.beside.bounded.few t);
        ends = λ e. record { over = λ is. absurd (goes_on is); none = λ none. absurd (framed i s t r none) };
      })
      r.keeps.beside;
}
  where
    unpainted : (c : Cap) → HasLive i s.objects c → HasUnpainted i s.objects c
    unpainted c live tagged heap some = live_unpainted i s.next s.objects c r.keeps.confined.fits (live tagged heap some)
