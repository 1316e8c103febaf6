-- What the routines of the heap and of the scheduler answer.
use Rattle.std.proofs.Common.{ℕ, ◌≡◌, ◌+◌, ◌-◌, ◌==◌, ◌&&◌, inl, inr, true, false, List, [], ◌∷◌, Some, None, refl, sym, ap, ◌∙◌, min, count_by, if◌then◌else◌}
use Rattle.std.specs.Prelude.{find}
use Rattle.std.specs.Int.{is_in_range}
use Rattle.std.proofs.lemmas.Bool.{and_from, and_parts, eq-eqb, eqb-true}
use Rattle.law_lists.proofs.Tests.{bool_tells, chosen, eq_tells}
use Rattle.def_events.specs.Causes.{HasQuota, IsWholeOf, MayReturn, NamesObject}
use Rattle.def_machine.specs.Image.{Image}
use Rattle.def_machine.specs.Objects.{Any}
use Rattle.def_machine.specs.State.{Object, State, register, thread}
use Rattle.def_memory.specs.Accesses.{loaded}
use Rattle.def_profile.specs.declared.seals.TheConstants.{QUOTA_TYPE, RETURN_DISABLE, RETURN_ENABLE}
use Rattle.def_sched.specs.declared.Status.TheVariants.{Waiting, Ready}
use Rattle.def_machine.specs.Threads.{statuses_of, with_statuses}
use Rattle.def_sched.specs.Statuses.{asleep, awaiting, waits_for, woken}
use Rattle.def_step.specs.Checks.{Check, first_failed}
use Rattle.def_step.specs.Quotas.{Allocation, allocate, allocated, allocation, by_quota, free, freed_as, gives_back, is_quota_cap, is_whole, quota_in, whole_of}
use Rattle.def_step.specs.Routines.{Ran, Leaves, answers, checked, code, sleep, stops, tells, wait, waits, wake, word_checks, yield}
use Rattle.def_words.specs.Capability.{integer}
use Rattle.def_step.specs.Switch.{return_checks}
use Rattle.def_words.specs.declared.Cap.{Cap}
use Rattle.def_words.specs.Authority.{cap_address, cap_base, cap_top}
use Rattle.def_words.specs.Seals.{cap_seal, is_unsealed}
use Rattle.def_confined.specs.Capabilities.{IsReturnType}

-- ---- checks that pass

checks_pass : (cs : List Check) (ran : Ran) → first_failed cs ≡ None → checked cs ran ≡ ran
checks_pass cs ran none = rw none refl

in_range : (k : ℕ) → IsReturnType k → is_in_range RETURN_DISABLE RETURN_ENABLE k ≡ true
in_range k (inl four) = ap (is_in_range RETURN_DISABLE RETURN_ENABLE) four
in_range k (inr five) = ap (is_in_range RETURN_DISABLE RETURN_ENABLE) five

returns_pass : (s : State) (t : ℕ) → MayReturn s t → first_failed (return_checks (register (thread s t) 1)) ≡ None
returns_pass s t may = rw (may.0, in_range (cap_seal (register (thread s t) 1)) may.1) refl

may_return : (s : State) (t : ℕ) (ran : Ran) → MayReturn s t → checked (return_checks (register (thread s t) 1)) ran ≡ ran
may_return s t ran may = checks_pass (return_checks (register (thread s t) 1)) ran (returns_pass s t may)

-- ---- a quota

quota_tells : (c : Cap) → ((c.tag ≡ true) × (cap_seal c ≡ QUOTA_TYPE) → ⊥) → is_quota_cap c ≡ false
quota_tells c none = elim (bool_tells (is_quota_cap c)) [
  | inl is ↦ let parts = and_parts c.tag (cap_seal c == QUOTA_TYPE) is in absurd (none (parts.0, eqb-true (cap_seal c) QUOTA_TYPE parts.1))
  | inr is ↦ is
]

quota_is : (c : Cap) → (c.tag ≡ true) × (cap_seal c ≡ QUOTA_TYPE) → is_quota_cap c ≡ true
quota_is c h = and_from c.tag (cap_seal c == QUOTA_TYPE) h.0 (eq-eqb (cap_seal c) QUOTA_TYPE h.1)

pub without_quota : (s : State) (t : ℕ) (ran : Ran) → MayReturn s t → (HasQuota s t → ⊥) → by_quota s t ran ≡ tells s t (code 1)
without_quota s t ran may none = may_return s t _ may ∙ ap (λ b. if b then ran else tells s t (code 1)) (quota_tells (register (thread s t) 10) none)

pub with_quota : (s : State) (t : ℕ) (ran : Ran) → MayReturn s t → HasQuota s t → by_quota s t ran ≡ ran
with_quota s t ran may has = may_return s t _ may ∙ ap (λ b. if b then ran else tells s t (code 1)) (quota_is (register (thread s t) 10) has)

pub allocate_answers : (i : Image) (s : State) (t : ℕ) (a : Allocation) → MayReturn s t → HasQuota s t → allocation i s (quota_in s t) (cap_address (register (thread s t) 11)) ≡ a → allocate i s t ≡ allocated s t a
allocate_answers i s t a may has is = with_quota s t _ may has ∙ ap (allocated s t) is

-- ---- a free

whole_says : (quota : ℕ) (c : Cap) (r : Object) → is_whole quota c r ≡ true → IsWholeOf quota c r
whole_says quota c r is =
    let a = and_parts (r.live && (r.quota == quota) && (r.base == cap_base c)) (r.base + r.length == cap_top c) is in
    let b = and_parts (r.live && (r.quota == quota)) (r.base == cap_base c) a.0 in
    let d = and_parts r.live (r.quota == quota) b.0 in
    record { live = d.0; quota_is = eqb-true r.quota quota d.1; base_is = eqb-true r.base (cap_base c) b.1; top_is = eqb-true (r.base + r.length) (cap_top c) a.1 }

whole_holds : (quota : ℕ) (c : Cap) (r : Object) → IsWholeOf quota c r → is_whole quota c r ≡ true
whole_holds quota c r h =
    and_from (r.live && (r.quota == quota) && (r.base == cap_base c)) (r.base + r.length == cap_top c)
    (and_from (r.live && (r.quota == quota)) (r.base == cap_base c)
    (and_from r.live (r.quota == quota) h.live (eq-eqb r.quota quota h.quota_is))
    (eq-eqb r.base (cap_base c) h.base_is))
    (eq-eqb (r.base + r.length) (cap_top c) h.top_is)

-- the first object that passes, among those that are there
pub record FirstWhole (quota : ℕ) (c : Cap) (objects : List Object) : Type 0 where
  pub object : Object
  pub there : Any (λ q. q ≡ object) objects
  pub whole : IsWholeOf quota c object
  pub found : find (is_whole quota c) objects ≡ Some object

first_whole : (quota : ℕ) (c : Cap) (objects : List Object) → Any (IsWholeOf quota c) objects → FirstWhole quota c objects
first_whole quota c [] any = absurd any
first_whole quota c (r ∷ rs) any = elim (bool_tells (is_whole quota c r)) [
  | inl is ↦ record { object = r; there = inl refl; whole = whole_says quota c r is; found = ap (λ b. if b then Some r else find (is_whole quota c) rs) is }
  | inr none ↦
      let more = first_whole quota c rs (elim any [ inl whole ↦ absurd (let clash : false ≡ true = sym none ∙ whole_holds quota c r whole in cc) | inr rest ↦ rest ]) in
      record { object = more.object; there = inr more.there; whole = more.whole; found = ap (λ b. if b then Some r else find (is_whole quota c) rs) none ∙ more.found }
]

none_whole : (quota : ℕ) (c : Cap) (objects : List Object) → (Any (IsWholeOf quota c) objects → ⊥) → find (is_whole quota c) objects ≡ None
none_whole quota c [] none = refl
none_whole quota c (r ∷ rs) none = elim (bool_tells (is_whole quota c r)) [
  | inl is ↦ absurd (none (inl (whole_says quota c r is)))
  | inr other ↦ ap (λ b. if b then Some r else find (is_whole quota c) rs) other ∙ none_whole quota c rs (λ any. none (inr any))
]

names_none : (s : State) (quota : ℕ) (c : Cap) → (NamesObject s quota c → ⊥) → whole_of s.objects quota c ≡ None
names_none s quota c none = chosen (λ o. o ≡ None) (c.tag && is_unsealed c) (find (is_whole quota c) s.objects) None
    (λ is. let parts = and_parts c.tag (is_unsealed c) is in none_whole quota c s.objects (λ any. none (record { tagged = parts.0; unsealed = eqb-true (cap_seal c) 0 parts.1; object = any })))
    (λ other. refl)

names_one : (s : State) (quota : ℕ) (c : Cap) (h : NamesObject s quota c) → whole_of s.objects quota c ≡ Some (first_whole quota c s.objects h.object).object
names_one s quota c h = ap (λ b. if b then find (is_whole quota c) s.objects else None) (and_from c.tag (is_unsealed c) h.tagged (eq-eqb (cap_seal c) 0 h.unsealed)) ∙ (first_whole quota c s.objects h.object).found

pub free_refused : (i : Image) (s : State) (t : ℕ) → MayReturn s t → HasQuota s t → (NamesObject s (quota_in s t) (register (thread s t) 11) → ⊥) → free i s t ≡ tells s t (code 6)
free_refused i s t may has none = with_quota s t _ may has ∙ ap (freed_as i s t) (names_none s (quota_in s t) (register (thread s t) 11) none)

pub free_given : (i : Image) (s : State) (t : ℕ) → MayReturn s t → HasQuota s t → NamesObject s (quota_in s t) (register (thread s t) 11)
    → (r : Object) × Any (λ q. q ≡ r) s.objects × IsWholeOf (quota_in s t) (register (thread s t) 11) r × (free i s t ≡ gives_back i s t r)
free_given i s t may has h =
    let one = first_whole (quota_in s t) (register (thread s t) 11) s.objects h.object in
    (one.object, one.there, one.whole, with_quota s t _ may has ∙ ap (freed_as i s t) (names_one s (quota_in s t) (register (thread s t) 11) h))

-- ---- sleep and wait

pub yield_stops : (s : State) (t : ℕ) → MayReturn s t → yield s t ≡ stops s t Ready
yield_stops s t may = may_return s t _ may

pub sleep_stops : (s : State) (t : ℕ) → MayReturn s t → sleep s t ≡ stops s t (asleep (cap_address (register (thread s t) 10)))
sleep_stops s t may = may_return s t _ may

wait_on : (i : Image) (s : State) (t : ℕ) → MayReturn s t → first_failed (word_checks i s (register (thread s t) 10)) ≡ None
    → wait i s t ≡ waits s t (cap_address (register (thread s t) 10)) (loaded s.granules (cap_address (register (thread s t) 10) - i.ram) 4) (cap_address (register (thread s t) 11))
wait_on i s t may passes = may_return s t _ may ∙ checks_pass (word_checks i s (register (thread s t) 10)) _ passes

pub wait_differs : (i : Image) (s : State) (t : ℕ) → MayReturn s t → first_failed (word_checks i s (register (thread s t) 10)) ≡ None
    → (loaded s.granules (cap_address (register (thread s t) 10) - i.ram) 4 ≡ cap_address (register (thread s t) 11) → ⊥) → wait i s t ≡ tells s t (code 21)
wait_differs i s t may passes other = wait_on i s t may passes ∙ by (loaded s.granules (cap_address (register (thread s t) 10) - i.ram) 4) (cap_address (register (thread s t) 11)) other
  where
    by : (held wanted : ℕ) → (held ≡ wanted → ⊥) → waits s t (cap_address (register (thread s t) 10)) held wanted ≡ tells s t (code 21)
    by held wanted apart = elim (eq_tells held wanted) [ inl is ↦ absurd (apart is.1) | inr none ↦ ap (λ b. if b then stops s t (awaiting (cap_address (register (thread s t) 10)) held wanted) else tells s t (code 21)) none.0 ]

pub wait_stops : (i : Image) (s : State) (t : ℕ) → MayReturn s t → first_failed (word_checks i s (register (thread s t) 10)) ≡ None
    → loaded s.granules (cap_address (register (thread s t) 10) - i.ram) 4 ≡ cap_address (register (thread s t) 11) → wait i s t ≡ stops s t (Waiting (cap_address (register (thread s t) 10)))
wait_stops i s t may passes same = wait_on i s t may passes ∙ by (loaded s.granules (cap_address (register (thread s t) 10) - i.ram) 4) (cap_address (register (thread s t) 11)) same
  where
    by : (held wanted : ℕ) → held ≡ wanted → waits s t (cap_address (register (thread s t) 10)) held wanted ≡ stops s t (Waiting (cap_address (register (thread s t) 10)))
    by held wanted is =
        let test : (held == wanted) ≡ true = eq-eqb held wanted is in
        ap (λ b. if b then stops s t (if b then Waiting (cap_address (register (thread s t) 10)) else Ready) else tells s t (code 21)) test

-- ---- wake

pub wake_answers : (i : Image) (s x : State) (t n : ℕ) → MayReturn s t → first_failed (word_checks i s (register (thread s t) 10)) ≡ None
    → n ≡ min (cap_address (register (thread s t) 11)) (count_by (waits_for (cap_address (register (thread s t) 10))) (statuses_of s.threads))
    → x ≡ answers s t (integer n)
    → wake i s t ≡ Leaves (record x { threads = with_statuses x.threads (woken (cap_address (register (thread s t) 10)) (cap_address (register (thread s t) 11)) (statuses_of s.threads)) }) None
wake_answers i s x t n may passes count is =
    may_return s t _ may ∙ checks_pass (word_checks i s (register (thread s t) 10)) _ passes
    ∙ ap (λ (y : State). Leaves (record y { threads = with_statuses y.threads (woken (cap_address (register (thread s t) 10)) (cap_address (register (thread s t) 11)) (statuses_of s.threads)) }) None)
    (ap (λ m. answers s t (integer m)) (sym count) ∙ sym is)
