-- What wait and wake come to stands.
use Rattle.std.proofs.Common.{ℕ, zero, suc, ◌≡◌, ◌-◌, ◌==◌, ◌≤◌, ◌<◌, true, false, nat_lt, inl, inr, ◌⊎◌, List, [], ◌∷◌, length, Some, None, refl, sym, ap, ◌∙◌, subst, arith}
use Rattle.std.proofs.Math.ListN.{get_or}
use Rattle.std.proofs.lemmas.Bool.{and_parts}
use Rattle.std.proofs.lemmas.List.{length-map, length-set, get_or_past}
use Rattle.std.proofs.lemmas.List.FromFn.{get_or-map-range_with_len, length-map-range_with_len}
use Rattle.law_lists.proofs.Tests.{chosen, bool_tells, lt_tells}
use Rattle.law_lists.proofs.Sets.{after_set_at}
use Rattle.def_profile.specs.declared.traps.TheConstants.{TAG_CODE, SEAL_CODE, LOAD_CODE, BOUNDS_CODE, MISALIGNED_LOAD}
use Rattle.def_words.specs.declared.Cap.{Cap}
use Rattle.def_words.specs.Authority.{cap_address}
use Rattle.def_words.specs.Capability.{integer}
use Rattle.def_memory.specs.Accesses.{loaded}
use Rattle.def_sched.specs.declared.Status.{Status}
use Rattle.def_sched.specs.declared.Status.TheVariants.{Ready, Waiting, Ended}
use Rattle.def_sched.specs.Statuses.{awaiting, waits_for, status_of, wakes as is_woken, waiting_below, after_wake, woken, woken_count}
use Rattle.def_machine.specs.Image.{Image}
use Rattle.def_machine.specs.State.{State, Thread, thread, register, nobody}
use Rattle.def_machine.specs.Threads.{with_status, statuses_of, with_statuses}
use Rattle.def_confined.specs.Holding.{EndFits}
use Rattle.def_confined.specs.Keeps.{Keeps}
use Rattle.def_confined.specs.Partitioned.{Partitioned}
use Rattle.def_step.specs.Switch.{return_checks}
use Rattle.def_step.specs.Routines.{Leaves, answered, answers, tells, code, checked, word_checks, stops, waits, wait, threads_woken, wake}
use Rattle.law_moves.proofs.Moves.{untagged_puts}
use Rattle.law_moves.proofs.Ticks.{restatused_keeps}
use Rattle.law_moves.proofs.Checks.{AllTell, register_tells, plain_tells}
use Rattle.def_events.specs.Stands.{RoutineKeeps}
use Rattle.law_events.proofs.Answering.{Returning, return_says, return_tells, checked_stands, answers_keeps, stops_keeps}

word_tells : (i : Image) (s : State) (c : Cap) → AllTell (word_checks i s c)
word_tells i s c = (
  register_tells TAG_CODE 10 (omega arith) (inr (inl refl)),
  (
    register_tells SEAL_CODE 10 (omega arith) (inr (inr (inl refl))),
    (
      register_tells LOAD_CODE 10 (omega arith) (inr (inr (inr (inr (inl refl))))),
      (
        register_tells BOUNDS_CODE 10 (omega arith) (inl refl),
        (plain_tells MISALIGNED_LOAD (inr (inr (inr (inl refl)))), tt),
      ),
    ),
  ),
)

-- ---- wait

awaiting_goes_on : (address held wanted : ℕ) → awaiting address held wanted ≡ Ended → ⊥
awaiting_goes_on address held wanted = chosen (λ (z : Status). z ≡ Ended → ⊥) (held == wanted) (Waiting address) Ready (λ is e. (let clash : Waiting address ≡ Ended = e in cc)) (λ not e. (let clash : Ready ≡ Ended = e in cc))

waits_stands : (i : Image) (s : State) (t address held wanted : ℕ) → Returning i s t → RoutineKeeps i s t (waits s t address held wanted)
waits_stands i s t address held wanted r = chosen (RoutineKeeps i s t) (held == wanted) (stops s t (awaiting address held wanted)) (tells s t (code 21))
    (λ is. (stops_keeps i s t (integer 0) (awaiting address held wanted) r (untagged_puts i s t (integer 0) refl) (awaiting_goes_on address held wanted), tt))
    (λ not. (answers_keeps i s t (code 21) r (untagged_puts i s t (code 21) refl), tt))

pub wait_stands : (i : Image) (s : State) (t : ℕ) → Partitioned i → Keeps i s → s.running ≡ Some t → RoutineKeeps i s t (wait i s t)
wait_stands i s t parts k runs =
    checked_stands i s t (return_checks (register (thread s t) 1)) (checked (word_checks i s (register (thread s t) 10)) (waits s t (cap_address (register (thread s t) 10)) (loaded s.granules (cap_address (register (thread s t) 10) - i.ram) 4) (cap_address (register (thread s t) 11))))
    (return_tells (register (thread s t) 1))
    (λ none.
    let says = return_says (register (thread s t) 1) none in
    checked_stands i s t (word_checks i s (register (thread s t) 10)) (waits s t (cap_address (register (thread s t) 10)) (loaded s.granules (cap_address (register (thread s t) 10) - i.ram) 4) (cap_address (register (thread s t) 11)))
    (word_tells i s (register (thread s t) 10))
    (λ passes. waits_stands i s t (cap_address (register (thread s t) 10)) (loaded s.granules (cap_address (register (thread s t) 10) - i.ram) 4) (cap_address (register (thread s t) 11)) (record { parts = parts; keeps = k; runs = runs; tagged = says.tagged; sealed = says.sealed })))

-- ---- wake

-- a status of a list that is as long as the threads
pub given_status : (ts : List Thread) (ss : List Status) (t : ℕ) → length ss ≡ length ts → get_or (with_statuses ts ss) t nobody ≡ with_status (get_or ts t nobody) (get_or ss t Ended)
given_status [] [] t e = refl
given_status [] (x ∷ xs) t e = absurd (omega (arith, e))
given_status (t ∷ ts) [] k e = absurd (omega (arith, e))
given_status (t ∷ ts) (x ∷ xs) zero e = refl
given_status (t ∷ ts) (x ∷ xs) (suc k) e = given_status ts xs k (omega (arith, e))

pub given_length : (ts : List Thread) (ss : List Status) → length (with_statuses ts ss) ≡ length ts
given_length [] ss = refl
given_length (t ∷ ts) [] = refl
given_length (t ∷ ts) (x ∷ xs) = ap suc (given_length ts xs)

pub status_at : (ts : List Thread) (t : ℕ) → status_of (statuses_of ts) t ≡ (get_or ts t nobody).status
status_at [] t = refl
status_at (x ∷ xs) zero = refl
status_at (x ∷ xs) (suc t) = status_at xs t

-- what is woken waited
woken_waits : (address most : ℕ) (ss : List Status) (t : ℕ) → is_woken address most ss t ≡ true → status_of ss t ≡ Ended → ⊥
woken_waits address most ss t is ended =
    let waits_now = (and_parts (waits_for address (status_of ss t)) (nat_lt (waiting_below address ss t) most) is).0 in
    let clash : true ≡ false = sym waits_now ∙ ap (waits_for address) ended in
    cc

-- a thread that fits its status fits that which a wake leaves
woken_fits : (address most : ℕ) (ss : List Status) (t : ℕ) (th : Thread) → th.status ≡ status_of ss t → EndFits th → EndFits (with_status th (after_wake address most ss t))
woken_fits address most ss t th is h = elim (bool_tells (is_woken address most ss t)) [
  | inl wakes_now ↦ rw wakes_now (record {
    over = λ e. absurd (let clash : Ready ≡ Ended = e in cc);
    none = λ e. absurd (woken_waits address most ss t wakes_now (sym is ∙ (h.none e).0));
  })
  | inr stays ↦ rw stays (record {
    over = λ e. h.over (is ∙ e);
    none = λ e. (sym is ∙ (h.none e).0, (h.none e).1);
  })
]

woken_at : (address most : ℕ) (ss : List Status) (t : ℕ) → ((get_or (woken address most ss) t Ended ≡ after_wake address most ss t) × (t < length ss)) ⊎ ((get_or (woken address most ss) t Ended ≡ Ended) × (length ss ≤ t))
woken_at address most ss t = elim (lt_tells t (length ss)) [
  | inl is ↦ inl (get_or-map-range_with_len (after_wake address most ss) 0 (length ss) t t Ended is.1 (omega arith), is.1)
  | inr past ↦ inr (get_or_past (woken address most ss) t Ended (omega (arith, past.1, length-map-range_with_len (after_wake address most ss) 0 (length ss))), past.1)
]

-- threads whose statuses are those of a list, each of which fits its status
pub record StatusesAre (s : State) (ss : List Status) : Type 0 where
  pub many : length ss ≡ length s.threads
  pub each : (t : ℕ) → (thread s t).status ≡ status_of ss t

pub woken_keeps : (i : Image) (s : State) (address most : ℕ) (ss : List Status) → StatusesAre s ss → Keeps i s → Keeps i (record s { threads = with_statuses s.threads (woken address most ss) })
woken_keeps i s address most ss are k = restatused_keeps i s (with_statuses s.threads (woken address most ss))
    (record {
      each = λ t. (get_or (woken address most ss) t Ended, given_status s.threads (woken address most ss) t long);
      ends = λ t. subst EndFits (sym (given_status s.threads (woken address most ss) t long)) (ends_at t (woken_at address most ss t));
      many = given_length s.threads (woken address most ss);
    })
    k
  where
    long : length (woken address most ss) ≡ length s.threads
    long = length-map-range_with_len (after_wake address most ss) 0 (length ss) ∙ are.many

    ends_at : (t : ℕ) → ((get_or (woken address most ss) t Ended ≡ after_wake address most ss t) × (t < length ss)) ⊎ ((get_or (woken address most ss) t Ended ≡ Ended) × (length ss ≤ t)) → EndFits (with_status (thread s t) (get_or (woken address most ss) t Ended))
    ends_at t (inl is) = subst (λ (x : Status). EndFits (with_status (thread s t) x)) (sym is.0) (woken_fits address most ss t (thread s t) (are.each t) (k.beside.ends t))
    ends_at t (inr past) =
        let none : thread s t ≡ nobody = get_or_past s.threads t nobody (omega (arith, past.1, are.many)) in
        let P : Thread → Type 0 = λ th. EndFits (with_status th Ended) in
        subst (λ (x : Status). EndFits (with_status (thread s t) x)) (sym past.0) (subst P (sym none) (record { over = λ e. refl; none = λ e. (refl, refl) }))

answers_statuses : (s : State) (t : ℕ) (v : Cap) → StatusesAre (answers s t v) (statuses_of s.threads)
answers_statuses s t v = record {
  many = length-map s.threads (λ (th : Thread). th.status) ∙ sym (length-set s.threads t (answered (thread s t) v));
  each = λ u. after_set_at (λ n (th : Thread). th.status ≡ status_of (statuses_of s.threads) n) s.threads t u (answered (thread s t) v) nobody (sym (status_at s.threads t)) (sym (status_at s.threads u));
}

pub wake_stands : (i : Image) (s : State) (t : ℕ) → Partitioned i → Keeps i s → s.running ≡ Some t → RoutineKeeps i s t (wake i s t)
wake_stands i s t parts k runs =
    checked_stands i s t (return_checks (register (thread s t) 1)) (checked (word_checks i s (register (thread s t) 10)) (Leaves (threads_woken s t (cap_address (register (thread s t) 10)) (cap_address (register (thread s t) 11))) None))
    (return_tells (register (thread s t) 1))
    (λ none.
    let says = return_says (register (thread s t) 1) none in
    let returning : Returning i s t = record { parts = parts; keeps = k; runs = runs; tagged = says.tagged; sealed = says.sealed } in
    checked_stands i s t (word_checks i s (register (thread s t) 10)) (Leaves (threads_woken s t (cap_address (register (thread s t) 10)) (cap_address (register (thread s t) 11))) None)
    (word_tells i s (register (thread s t) 10))
    (λ passes. (wakes_keeps (cap_address (register (thread s t) 10)) (cap_address (register (thread s t) 11)) returning, tt)))
  where
    wakes_keeps : (address most : ℕ) → Returning i s t → Keeps i (threads_woken s t address most)
    wakes_keeps address most r =
        woken_keeps i (answers s t (integer (woken_count address most (statuses_of s.threads)))) address most (statuses_of s.threads) (answers_statuses s t (integer (woken_count address most (statuses_of s.threads))))
        (answers_keeps i s t (integer (woken_count address most (statuses_of s.threads))) r (untagged_puts i s t (integer (woken_count address most (statuses_of s.threads))) refl))
