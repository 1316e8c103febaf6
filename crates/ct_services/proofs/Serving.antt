-- What routines share, in each state of the machine that holds what is seen: an answer, and a trap.
use Rattle.std.proofs.Common.{ℕ, ◌+◌, ◌≡◌, ◌≤◌, ◌∙◌, List, length, Option, Some, None, refl, sym, ap, subst, arith}
use Rattle.std.specs.Prelude.{option_map}
use Rattle.std.proofs.lemmas.List.{length-set}
use Rattle.ct_entry.specs.Listed.{Listed}
use Rattle.def_words.specs.declared.Cap.{Cap}
use Rattle.def_words.specs.declared.Trap.{Trap}
use Rattle.def_sched.specs.declared.Status.{Status}
use Rattle.def_sched.specs.declared.Status.TheVariants.{Ended}
use Rattle.def_machine.specs.Image.{Image}
use Rattle.def_machine.specs.State as state
use Rattle.def_machine.specs.State.{State, Thread, register}
use Rattle.def_step.specs.Checks.{first_failed}
use Rattle.def_step.specs.Quotas.{by_quota}
use Rattle.def_step.specs.Routines as routine
use Rattle.def_step.specs.Routines.{Traps, Leaves, answered, answers, tells, checked, code}
use Rattle.def_step.specs.Switch.{return_checks}
use Rattle.def_step.specs.Tokens.{as_key, by_key, key_of, sealed_object}
use Rattle.def_profile.specs.declared.answers.TheConstants.{NO_KEY}
use Rattle.ct_engine.specs.Seen.{EngineRow, thread}
use Rattle.ct_engine.specs.Written.{HasLayout, state_with}
use Rattle.ct_execute.specs.declared.ran.ActBy.{ActBy}
use Rattle.ct_execute.specs.declared.ran.Ran.{Ran}
use Rattle.ct_execute.specs.declared.ran.Ran.TheVariants.{Went, Trapped}
use Rattle.ct_services.specs.Answering.{answered_in}
use Rattle.ct_services.specs.Arguments.{NamesThisQuota, NamesThisKey}
use Rattle.ct_services.specs.Serves.{ComesTo, Routine, IsServed, IsServedOf, HoldsRoutine, ServesAlone, act_row}
use Rattle.ct_engine.proofs.Freeing.{changed_with}
use Rattle.ct_execute.proofs.Statuses.{like_with}

-- ---- the running thread in a state that holds what is seen

pub register_alike : (m : State) (s : EngineRow) (ss : List Status) (t n : ℕ)
    → register (thread s t) n ≡ register (state.thread (state_with m s ss) t) n
register_alike m s ss t n = ap (λ (u : Thread). register u n) (sym (like_with s.state.threads ss t Ended))

pub registers_alike : (m : State) (s : EngineRow) (ss : List Status) (t : ℕ)
    → (state.thread (state_with m s ss) t).registers ≡ (thread s t).registers
registers_alike m s ss t = ap (λ (u : Thread). u.registers) (like_with s.state.threads ss t Ended)

pub answers_alike : (m : State) (s : EngineRow) (ss : List Status) (t : ℕ) (v : Cap)
    → answers (state_with m s ss) t v ≡ state_with m (answered_in s t v) ss
answers_alike m s ss t v =
    ap (λ (ts : List Thread). record (state_with m s ss) { threads = ts })
    (changed_with (λ (u : Thread). answered u v) (λ u q. refl) s.state.threads ss t)

-- ---- an answer

-- what a routine makes of an engine before it answers
pub record Becomes (s u : EngineRow) : Type 0 where
  pub size : length u.state.granules ≡ length s.state.granules
  pub threads : length u.state.threads ≡ length s.state.threads
  pub made : u.state.next ≤ s.state.next + 1
  pub same : u
      ≡ record s { state = record s.state { granules = u.state.granules; threads = u.state.threads; objects = u.state.objects; tokens = u.state.tokens; next = u.state.next } }

-- of an engine that became this
pub serves_answer : (s u : EngineRow) (t : ℕ) (v : Cap) (done : Option ActBy) (x : Routine) → Becomes s u
    → ((i : Image) (m : State) (ss : List Status) → HasLayout i s ss
    → x i (state_with m s ss) ≡ Leaves (answers (state_with m u ss) t v) (option_map act_row done))
    → ServesAlone s (answered_in u t v) (Went done) x
serves_answer s u t v done x became comes ss = record {
  comes = λ i m h. comes i m ss h ∙ ap (λ (y : State). Leaves y (option_map act_row done)) (answers_alike m u ss t v);
  same = tt;
  beside = record {
    same = ap (λ (y : EngineRow). record y { state = (answered_in u t v).state }) became.same;
    size = became.size;
    threads = length-set u.state.threads t _ ∙ became.threads;
  };
  made = became.made;
  many = refl;
  ready = λ ready n runs. ready n (sym (ap (λ (y : EngineRow). y.state.running) became.same) ∙ runs);
}

pub serves_tell : (s new : EngineRow) (t : ℕ) (v : Cap) → new ≡ answered_in s t v
    → ServesAlone s new (Went None) (λ i m. tells m t v)
serves_tell s new t v is =
    rw is
    (serves_answer s s t v None (λ i m. tells m t v)
    (record { size = refl; threads = refl; made = omega arith; same = refl }) (λ i m ss h. refl))

-- ---- what comes to the same

-- of images of which less holds
pub serves_of : {A B : Image → Type 0} {s new : EngineRow} {ss after : List Status} {ran : Ran} {x y : Routine}
    → IsServedOf A s ss new after ran x → ((i : Image) → B i → A i)
    → ((i : Image) (m : State) → B i → y i (state_with m s ss) ≡ x i (state_with m s ss))
    → IsServedOf B s ss new after ran y
serves_of {new = new} {after = after} {ran = ran} h of alike = record {
  comes = λ i m holds. subst (ComesTo (state_with m new after) ran) (sym (alike i m holds)) (h.comes i m (of i holds));
  same = h.same;
  beside = h.beside;
  made = h.made;
  many = h.many;
  ready = h.ready;
}

-- of a routine that asks no callee
pub serves_other : {s new : EngineRow} {ss after : List Status} {ran : Ran} {x : Routine} {t number : ℕ} {e : Listed}
    → IsServed s ss new after ran x → IsServedOf (HoldsRoutine s ss t e number) s ss new after ran x
serves_other h = serves_of h (λ i holds. holds.0) (λ i m holds. refl)

pub serves_alike : {s new : EngineRow} {ss after : List Status} {ran : Ran} {x y : Routine}
    → IsServed s ss new after ran x
    → ((i : Image) (m : State) → HasLayout i s ss → y i (state_with m s ss) ≡ x i (state_with m s ss))
    → IsServed s ss new after ran y
serves_alike h alike = serves_of h (λ i holds. holds) alike

pub serves_as : {s new : EngineRow} {ran : Ran} {x y : Routine} → ServesAlone s new ran x
    → ((i : Image) (m : State) (ss : List Status) → HasLayout i s ss → y i (state_with m s ss) ≡ x i (state_with m s ss))
    → ServesAlone s new ran y
serves_as serves alike ss = serves_alike (serves ss) (λ i m h. alike i m ss h)

-- ---- a trap

-- where the routine traps nothing has changed
pub serves_trapped : (s : EngineRow) (ss : List Status) (why : Trap) (x : Routine)
    → ((i : Image) (m : State) → HasLayout i s ss → x i (state_with m s ss) ≡ Traps why)
    → IsServed s ss s ss (Trapped why) x
serves_trapped s ss why x is =
    record {
      comes = is;
      same = (refl, refl);
      beside = record { same = refl; size = refl; threads = refl };
      made = omega arith;
      many = refl;
      ready = λ r. r;
    }

-- as it does where c1 doesn't lead back
pub serves_no_return : {s : EngineRow} {t : ℕ} {c : Cap} {why : Trap} {x : Routine} (ss : List Status) → c ≡ register (thread s t) 1
    → Some why ≡ first_failed (return_checks c)
    → IsServed s ss s ss (Trapped why) (λ i m. checked (return_checks (register (state.thread m t) 1)) (x i m))
serves_no_return {s} {t} {c} {why} {x} ss is fails =
    serves_trapped s ss why _ (λ i m h. rw (registers_alike m s ss t, ← is, ← fails) refl)

-- ---- a quota

pub serves_by_quota : {s u new : EngineRow} {t quota : ℕ} {ran : Ran} {x y : Routine} → NamesThisQuota s u t quota → ServesAlone u new ran x
    → ((i : Image) (m : State) (ss : List Status) → HasLayout i s ss → y i (state_with m s ss) ≡ x i (state_with m s ss))
    → ServesAlone s new ran (λ i m. by_quota m t (y i m))
serves_by_quota {s} {t = t} w serves alike =
    serves_as (rw w.same at serves) (λ i m ss h. rw (registers_alike m s ss t, w.returns, w.is) (alike i m ss h))

-- ---- a key

pub serves_by_key : {s u new : EngineRow} {t n key : ℕ} {ran : Ran} {x : Routine} {y : Image → State → ℕ → routine.Ran} → NamesThisKey s u t n key
    → ServesAlone u new ran x
    → ((i : Image) (m : State) (ss : List Status) → HasLayout i s ss → y i (state_with m s ss) key ≡ x i (state_with m s ss))
    → ServesAlone s new ran (λ i m. by_key m t (key_of m (register (state.thread m t) n)) (y i m))
serves_by_key {s} {t = t} {n = n} w serves alike =
    serves_as (rw w.same at serves) (λ i m ss h. rw (← register_alike m s ss t n, w.is, ← w.number) (alike i m ss h))

pub serves_no_key : {s new : EngineRow} {t n : ℕ} {ran : Ran} → ServesAlone s new ran (λ i m. tells m t (code NO_KEY))
    → as_key s.state.tokens (sealed_object s.state.objects (register (thread s t) n)) ≡ None → (y : Image → State → ℕ → routine.Ran)
    → ServesAlone s new ran (λ i m. by_key m t (key_of m (register (state.thread m t) n)) (y i m))
serves_no_key {s} {t = t} {n = n} serves none y = serves_as serves (λ i m ss h. rw (← register_alike m s ss t n, none) refl)
