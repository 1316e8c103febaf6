-- What a step of a thread changes of the others: statuses of those that it wakes.
use Rattle.std.proofs.Common.{ℕ, zero, suc, ◌≡◌, ◌+◌, ◌<◌, ◌⊎◌, inl, inr, true, false, nat_lt, List, [], ◌∷◌, length, map, Option, Some, None, Result, Ok, Err, refl, sym, ap, ◌∙◌, arith, slice_set}
use Rattle.std.proofs.Math.ListN.{get_or}
use Rattle.std.proofs.lemmas.Bool.{cases_eq, eqb-true}
use Rattle.std.specs.List.{range_with_len}
use Rattle.law_lists.proofs.Sets.{after_set_split}
use Rattle.law_lists.proofs.Tests.{chosen, both_left}
use Rattle.ct_entry.specs.declared.acts.Deed.{Deed}
use Rattle.def_words.specs.Authority.{cap_address}
use Rattle.def_words.specs.Capability.{integer}
use Rattle.def_words.specs.declared.Cap.{Cap}
use Rattle.def_words.specs.declared.Trap.{Trap}
use Rattle.def_sched.specs.declared.Status.{Status}
use Rattle.def_sched.specs.declared.Status.TheVariants.{Ready, Sleeping, Waiting, Ended}
use Rattle.def_sched.specs.Statuses.{status_of, waiting_below, waits_for, wakes as does_wake, after_wake, woken_count}
use Rattle.def_machine.specs.Platform.{Platform}
use Rattle.def_machine.specs.Image.{Image}
use Rattle.def_machine.specs.State.{State, Thread, Frame, nobody, thread, register}
use Rattle.def_machine.specs.Threads.{with_status, statuses_of, with_statuses}
use Rattle.def_machine.specs.Frames.{returned, ended_with}
use Rattle.def_confined.specs.Confined.{Confined}
use Rattle.def_step.specs.Checks.{first_failed}
use Rattle.def_step.specs.Instructions.{Effect, executed, operand}
use Rattle.def_step.specs.Operands.{operands_of}
use Rattle.def_step.specs.Quotas.{let_go}
use Rattle.def_step.specs.Routines.{answered, threads_woken, word_checks}
use Rattle.def_safety.specs.Accesses.{IsUseAt}
use Rattle.def_words.specs.Permissions.{load_data}
use Rattle.def_integrity.specs.Threads.{IsWoken}
use Rattle.law_routines.proofs.Stepping.{carried}
use Rattle.law_integrity.proofs.Accesses.{word_says}
use Rattle.law_integrity.proofs.Cases.{executed_case}
use Rattle.law_integrity.proofs.Granules.{acting, head_of}
use Rattle.law_events.proofs.Waiting.{status_at}
use Rattle.law_history.proofs.Routines.{IfEffect, Both, MayFetch}

-- ---- lists of threads

-- a number of a range
at_range : (f : ℕ → Status) (from n u : ℕ) → u < n → get_or (map f (range_with_len from n)) u Ended ≡ f (from + u)
at_range f from zero u lt = absurd (omega (arith, lt))
at_range f from (suc n) zero lt = ap f (let e : from ≡ from + 0 = omega arith in e)
at_range f from (suc n) (suc u) lt = at_range f (from + 1) n u (omega (arith, lt)) ∙ ap f (let e : from + 1 + u ≡ from + suc u = omega arith in e)

-- a thread as it was, or with the status of its number
statuses_at : (ts : List Thread) (f : ℕ → Status) (from n u : ℕ)
    → (get_or (with_statuses ts (map f (range_with_len from n))) u nobody ≡ get_or ts u nobody) ⊎ (get_or (with_statuses ts (map f (range_with_len from n))) u nobody ≡ with_status (get_or ts u nobody) (f (from + u)))
statuses_at [] f from n u = inl refl
statuses_at (x ∷ xs) f from zero u = inl refl
statuses_at (x ∷ xs) f from (suc n) zero = inr (ap (λ k. with_status x (f k)) (let e : from ≡ from + 0 = omega arith in e))
statuses_at (x ∷ xs) f from (suc n) (suc u) = elim (statuses_at xs f (from + 1) n u) [
  | inl same ↦ inl same
  | inr put ↦ inr (put ∙ ap (λ k. with_status (get_or xs u nobody) (f k)) (let e : from + 1 + u ≡ from + suc u = omega arith in e))
]

waits_at : (address : ℕ) (s : Status) → waits_for address s ≡ true → s ≡ Waiting address
waits_at address Ready e = absurd (let clash : false ≡ true = e in cc)
waits_at address (Sleeping n) e = absurd (let clash : false ≡ true = e in cc)
waits_at address (Waiting word) e = ap (λ n. Waiting n) (eqb-true word address e)
waits_at address Ended e = absurd (let clash : false ≡ true = e in cc)

-- what a wake makes of a thread: it is as it was, or it waited for the word, and is ready
woken_at : (address most : ℕ) (ss : List Status) (u : ℕ) (x : Thread) → status_of ss u ≡ x.status
    → (with_status x (after_wake address most ss u) ≡ x) ⊎ ((x.status ≡ Waiting address) × (with_status x (after_wake address most ss u) ≡ with_status x Ready))
woken_at address most ss u x is = chosen (λ (z : Status). (with_status x z ≡ x) ⊎ ((x.status ≡ Waiting address) × (with_status x z ≡ with_status x Ready))) (does_wake address most ss u) Ready (status_of ss u)
    (λ threads_woken. inr (sym is ∙ waits_at address (status_of ss u) (both_left (waits_for address (status_of ss u)) (nat_lt (waiting_below address ss u) most) threads_woken), refl))
    (λ not. inl (ap (λ z. with_status x z) is))

-- ---- what another thread may be after a step of a thread

pub data Self (b : Platform) (s : State) (t u : ℕ) (x : Thread) : Type 0 where
  same : x ≡ thread s u → Self b s t u x
  own : t ≡ u → Self b s t u x
  of_wake : IsWoken b s u x → Self b s t u x

abbrev pub AllSelves : Platform → State → ℕ → State → Option Deed → Type 0
AllSelves b s t z told = (u : ℕ) → Self b s t u (thread z u)

-- what c10 of the running thread is a use of, where it waits or wakes
abbrev pub UsesWord : Platform → State → ℕ → Type 0
UsesWord b s t =
    (f : Frame) (fs : List Frame) → (thread s t).frames ≡ f ∷ fs → first_failed (word_checks b.image s (register (thread s t) 10)) ≡ None
    → IsUseAt b.image s.objects t f.actor (register (thread s t) 10) (cap_address (register (thread s t) 10)) 4 load_data

module _ (b : Platform) (s : State) (t : ℕ) (held : Confined b.image s) (runs : s.running ≡ Some t) (uses : UsesWord b s t) where
  -- one thread changes
  set_self : (ts : List Thread) (new : Thread) (u : ℕ) → Self b s t u (get_or ts u nobody) → Self b s t u (get_or (slice_set ts t new) u nobody)
  set_self ts new u h = after_set_split (Self b s t u) ts t u new nobody (λ is. own is) (λ is none. own is) (λ other. h)

  one_self : (new : Thread) (u : ℕ) → Self b s t u (get_or (slice_set s.threads t new) u nobody)
  one_self new u = set_self s.threads new u (same refl)

  ended_self : (i : Image) (value : ℕ) (told : Option Deed) (fs : List Frame) → AllSelves b s t (ended_with i s t value fs) told
  ended_self i value told [] u = same refl
  ended_self i value told (f ∷ []) u = one_self nobody u
  ended_self i value told (f ∷ g ∷ gs) u = one_self _ u

  returned_self : (i : Image) (fs : List Frame) → AllSelves b s t (returned i s t fs) None
  returned_self i [] u = same refl
  returned_self i (f ∷ []) u = one_self nobody u
  returned_self i (f ∷ g ∷ gs) u = one_self _ u

  woken_self : MayFetch s t → first_failed (word_checks b.image s (register (thread s t) 10)) ≡ None
      → AllSelves b s t (threads_woken s t (cap_address (register (thread s t) 10)) (cap_address (register (thread s t) 11))) None
  woken_self fetched none u = elim (cases_eq t u) [
    | inl is ↦ own is
    | inr other ↦
        let head = head_of b s t held fetched in
        let address : ℕ = cap_address (register (thread s t) 10) in
        let most : ℕ = cap_address (register (thread s t) 11) in
        let ss : List Status = statuses_of s.threads in
        let new : Thread = answered (thread s t) (integer (woken_count (cap_address (register (thread s t) 10)) (cap_address (register (thread s t) 11)) (statuses_of s.threads))) in
        let kept : get_or (slice_set s.threads t new) u nobody ≡ thread s u = after_set_split (λ (z : Thread). z ≡ thread s u) s.threads t u new nobody (λ is. absurd (other is)) (λ is gone. absurd (other is)) (λ not. refl) in
        elim (statuses_at (slice_set s.threads t new) (after_wake address most ss) 0 (length ss) u) [
          | inl left ↦ same (left ∙ kept)
          | inr put ↦
              let is : thread (threads_woken s t address most) u ≡ with_status (thread s u) (after_wake address most ss u) =
              put ∙ ap (λ (z : Thread). with_status z (after_wake address most ss (0 + u))) kept ∙ ap (λ n. with_status (thread s u) (after_wake address most ss n)) (let e : 0 + u ≡ u = omega arith in e) in
              elim (woken_at address most ss u (thread s u) (status_at s.threads u)) [
                | inl stays ↦ same (is ∙ stays)
                | inr woke ↦ of_wake (record { by = acting s t head.0 head.1.0 runs head.1.1; authority = word_says b.image s (register (thread s t) 10) none; checks = none; loads = uses head.0 head.1.0 head.1.1 none; waits = woke.0; new_is = is ∙ woke.1 })
              ]
        ]
  ]

  done_self : (x : Cap) (r : Result Effect Trap) → IfEffect (AllSelves b s t) s t x r
  done_self x (Err why) = tt
  done_self x (Ok d) = λ u. one_self _ u

  pub executed_threads : Both (AllSelves b s t) (executed b s t)
  executed_threads = executed_case (AllSelves b s t) b s t (record {
    handles = λ why f fs frames is u. one_self _ u;
    ends = λ value told. ended_self b.image value told (thread s t).frames;
    back = returned_self b.image (thread s t).frames;
    done = λ fetched k stands. done_self (operand s t (operands_of k).first) (carried b s t k);
    routines = λ fetched. record {
      tells = λ n u. one_self _ u;
      enters = λ none u. one_self _ u;
      stops = λ status u. one_self _ u;
      wakes = λ none. woken_self fetched none;
      hands = λ size o is u. one_self _ u;
      gives = λ o c found u. set_self (let_go b.image s t o).threads _ u (one_self _ u);
      seals = λ size key o is named u. one_self _ u;
      opens = λ key o is u. one_self _ u;
    };
  })
