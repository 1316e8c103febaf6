-- What a thread's stop and a wake come to, in each state of the machine that holds what is seen.
use Rattle.std.proofs.Common.{ℕ, ◌≡◌, List, length, Option, Some, None, inl, inr, refl, sym, ap, ◌∙◌, arith}
use Rattle.std.proofs.Math.ListN.{set}
use Rattle.std.proofs.lemmas.List.{length-set, get_or_past}
use Rattle.std.proofs.lemmas.List.FromFn.{get_or-map-range_with_len, length-map-range_with_len}
use Rattle.law_lists.proofs.Tests.{chosen, lt_tells}
use Rattle.def_words.specs.Capability.{integer}
use Rattle.def_sched.specs.declared.Status.{Status}
use Rattle.def_sched.specs.declared.Status.TheVariants.{Ready, Ended}
use Rattle.def_sched.specs.Statuses.{status_of, woken, woken_count, after_wake, wakes as is_woken}
use Rattle.def_machine.specs.Image.{Image}
use Rattle.def_machine.specs.State.{State, Thread}
use Rattle.def_machine.specs.Threads.{with_statuses}
use Rattle.def_step.specs.Routines.{Leaves, answered, stops, threads_woken}
use Rattle.ct_engine.specs.Seen.{EngineRow, thread, with_thread, with_running}
use Rattle.ct_engine.specs.Written.{HasLayout, state_with}
use Rattle.ct_execute.specs.declared.ran.Ran.TheVariants.{Went}
use Rattle.ct_services.specs.Answering.{answered_in, rested}
use Rattle.ct_services.specs.Serves.{Routine, RunsReady, IsServed}
use Rattle.ct_engine.proofs.Freeing.{changed_with}
use Rattle.ct_execute.proofs.Statuses.{like_with, set_both, twice_with, statuses_with}

-- ---- whom a wake leaves ready

woken_many : (address most : ℕ) (ss : List Status) → length (woken address most ss) ≡ length ss
woken_many address most ss = length-map-range_with_len (after_wake address most ss) 0 (length ss)

woken_ready : (address most : ℕ) (ss : List Status) (t : ℕ) → status_of ss t ≡ Ready
    → status_of (woken address most ss) t ≡ Ready
woken_ready address most ss t is = elim (lt_tells t (length ss)) [
  | inl within ↦
      get_or-map-range_with_len (after_wake address most ss) 0 (length ss) t t Ended within.1 (omega arith)
      ∙ chosen (λ (x : Status). x ≡ Ready) (is_woken address most ss t) Ready (status_of ss t) (λ yes. refl) (λ no. is)
  | inr past ↦ absurd (let clash : Ended ≡ Ready = sym (get_or_past ss t Ended past.1) ∙ is in cc)
]

module _ (s : EngineRow) (ss : List Status) (t : ℕ) where
  -- the thread becomes this, this one runs, and these are the statuses
  abbrev becomes : Thread → Option ℕ → EngineRow
  becomes u run = with_running (with_thread s t u) run

  serves_went : (u : Thread) (run : Option ℕ) (after : List Status) (x : Routine)
      → ((i : Image) (m : State) → HasLayout i s ss
      → x i (state_with m s ss) ≡ Leaves (state_with m (becomes u run) after) None)
      → length after ≡ length ss → (RunsReady s ss → RunsReady (becomes u run) after)
      → IsServed s ss (becomes u run) after (Went None) x
  serves_went u run after x is many ready = record {
    comes = is;
    same = tt;
    beside = record { same = refl; size = refl; threads = length-set s.state.threads t u };
    made = omega arith;
    many = many;
    ready = ready;
  }

  -- ---- it stops

  pub serves_stops : (status : Status)
      → IsServed s ss (rested s t) (set ss t status) (Went None) (λ i m. stops m t status)
  serves_stops status =
      serves_went (answered (thread s t) (integer 0)) None (set ss t status) (λ i m. stops m t status)
      (λ i m h.
      ap (λ (us : List Thread). Leaves (record (state_with m s ss) { threads = us; running = None }) None)
      (ap (λ (u : Thread). set (with_statuses s.state.threads ss) t (answered u (integer 0)))
      (like_with s.state.threads ss t status)
      ∙ sym (set_both s.state.threads ss t (answered (thread s t) (integer 0)) status h.statuses)))
      (length-set ss t status) (λ ready u runs. absurd (let clash : None ≡ Some u = runs in cc))

  -- ---- it wakes others

  pub serves_woken : (address most : ℕ)
      → IsServed s ss (answered_in s t (integer (woken_count address most ss))) (woken address most ss) (Went None)
      (λ i m. Leaves (threads_woken m t address most) None)
  serves_woken address most =
      let gives : Thread → Thread = λ u. answered u (integer (woken_count address most ss)) in
      let after : List Status = woken address most ss in
      let ts : List Thread = set s.state.threads t (gives (thread s t)) in
      serves_went (gives (thread s t)) s.state.running after (λ i m. Leaves (threads_woken m t address most) None)
      (λ i m h.
      let long : length ss ≡ length ts = h.statuses ∙ sym (length-set s.state.threads t (gives (thread s t))) in
      rw (statuses_with s.state.threads ss h.statuses, changed_with gives (λ u q. refl) s.state.threads ss t)
      (rw (twice_with ts ss after long (woken_many address most ss ∙ long)) refl))
      (woken_many address most ss) (λ ready u runs. woken_ready address most ss u (ready u runs))
