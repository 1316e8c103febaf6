-- What is shut stays shut until it is opened, and a key stays a key.
use Rattle.std.proofs.Common.{ℕ, ◌≡◌, ◌+◌, ◌<◌, ◌⊎◌, inl, inr, true, false, List, [], ◌∷◌, Option, Some, None, refl, sym, ◌∙◌, subst, arith}
use Rattle.law_lists.proofs.Tests.{eq_tells}
use Rattle.def_words.specs.Capability.{integer}
use Rattle.def_machine.specs.Platform.{Platform}
use Rattle.def_machine.specs.State.{State, Object, thread, register}
use Rattle.def_machine.specs.Objects.{Any}
use Rattle.def_machine.specs.Heap.{object_cap, with_object}
use Rattle.def_machine.specs.Rows.{RowsFit}
use Rattle.def_safety.specs.Wired.{Wired}
use Rattle.def_confined.specs.Keeps.{Keeps}
use Rattle.def_confined.specs.Partitioned.{Partitioned}
use Rattle.def_confined.specs.Facts.{Facts}
use Rattle.def_step.specs.declared.Event.{Event}
use Rattle.def_step.specs.declared.Event.TheVariants.{Step, Tick, Sweep, Input}
use Rattle.def_step.specs.Events.{preempted, scheduled, continued, one_more_step, received, happens, run}
use Rattle.def_step.specs.Instructions.{executed}
use Rattle.def_step.specs.Quotas.{let_go}
use Rattle.def_step.specs.Routines.{answers}
use Rattle.def_step.specs.Tokens.{key_of, opened_token, sealed_token, token_object, with_row}
use Rattle.def_safety.specs.Everywhere.{Everywhere}
use Rattle.def_safety.specs.Each.{ready}
use Rattle.def_safety.specs.Opening.{MayOpen, OpensObject, StaysShut}
use Rattle.def_safety.specs.Tokened.{IsKeyRow, ShutTo, TokenFits, Tokened}
use Rattle.law_events.proofs.Events.{ready_keeps, event_keeps}
use Rattle.law_history.proofs.Changes.{answers_has, let_go_has}
use Rattle.law_history.proofs.Events.{again, executed_has, ready_regular, ticked_regular}
use Rattle.law_history.proofs.TokensEvents.{event_fit, ready_fit}
use Rattle.law_history.proofs.Keying.{among_row, left_row}
use Rattle.law_history.proofs.Made.{Fresh, fresh, sealed_type}
use Rattle.law_history.proofs.Openings.{leaves_opened, step_tells_none}
use Rattle.law_history.proofs.Naming.{freed_no_key, given_no_key, nothing_held, nothing_kinds, nothing_passes}
use Rattle.law_history.proofs.Passing.{fits_pass, shut_kinds, shut_passes}
use Rattle.law_history.proofs.Shutting.{Standing, opened_object}
use Rattle.law_history.proofs.Sweeps.{swept_has, swept_rows}
use Rattle.law_history.proofs.Whole.{event_tokened, ready_tokened}
use Rattle.law_history.proofs.Deriving.{same_next}

-- ---- an object that is shut

-- token_open opens the token of this object
pub record Opens (b : Platform) (s : State) (t n : ℕ) : Type 0 where
  pub may : MayOpen b s t
  pub key : Object
  pub token : Object
  pub key_found : key_of s (register (thread s t) 10) ≡ Some key
  pub token_found : token_object s key.number (register (thread s t) 11) ≡ Some token
  pub number : token.number ≡ n

module _ (b : Platform) (s : State) (t : ℕ) (g : Standing b s t) (n : ℕ) (below : n < s.next) (h : Everywhere (ShutTo b.image n) s) where
  abbrev Stays : State → Type 0
  Stays z = Opens b s t n ⊎ Everywhere (ShutTo b.image n) z

  handed_stays : (r : Object) → Fresh b.image s r → Stays (answers (with_object s r) t (object_cap r))
  handed_stays r f = inr (answers_has b.image (ShutTo b.image n) (ShutTo b.image n) (shut_passes b.image n) (with_object s r) t (object_cap r) (record { granules = h.granules; threads = h.threads })
      (λ tagged heap some source. (let number = f.number in let from = (f.cap tagged).source in absurd (omega (arith, below, number, from, source)))))

  sealed_stays : (key : Option ℕ) (r : Object) → Fresh b.image s r → Stays (answers (with_object (with_row s r key) r) t (sealed_token r))
  sealed_stays key r f = inr (answers_has b.image (ShutTo b.image n) (ShutTo b.image n) (shut_passes b.image n) (with_object (with_row s r key) r) t (sealed_token r) (record { granules = h.granules; threads = h.threads })
      (λ tagged heap some source. sealed_type b.image s r f tagged))

  gone_stays : (r : Object) → Stays (answers (let_go b.image s t r) t (integer 0))
  gone_stays r = inr (answers_has b.image (ShutTo b.image n) (ShutTo b.image n) (shut_passes b.image n) (let_go b.image s t r) t (integer 0)
      (let_go_has (ShutTo b.image n) (ShutTo b.image n) (shut_passes b.image n).widens b.image s t r h)
      (λ tagged. absurd (let clash : false ≡ true = tagged in cc)))

  opened_stays : MayOpen b s t → (k r : Object) → key_of s (register (thread s t) 10) ≡ Some k → token_object s k.number (register (thread s t) 11) ≡ Some r → Stays (answers s t (opened_token (register (thread s t) 11)))
  opened_stays may k r key token = elim (eq_tells r.number n) [
    | inl same ↦ inl (record { may = may; key = k; token = r; key_found = key; token_found = token; number = same.1 })
    | inr other ↦ inr (answers_has b.image (ShutTo b.image n) (ShutTo b.image n) (shut_passes b.image n) s t (opened_token (register (thread s t) 11)) h
        (λ tagged heap some source. absurd (other.1 (opened_object b s t g n k.number r token heap some source))))
  ]

  executed_stays : Stays (executed b s t).0
  executed_stays = executed_has b (ShutTo b.image n) (ShutTo b.image n) (shut_passes b.image n) (shut_kinds b.image n) s t g.parts g.facts g.held h Stays (λ z r. inr r.has) (record {
    hands = λ quota size r is. handed_stays r (fresh b.image s t size r g.parts g.facts g.held quota is);
    frees = λ r is. gone_stays r;
    gives = λ key r is. gone_stays r;
    seals = λ quota size key r is named. sealed_stays key r (fresh b.image s t size r g.parts g.facts g.held quota is);
    opens = λ may k r key token. opened_stays (may g.runs) k r key token;
  })

continued_stays : (b : Platform) (s : State) (o : Option ℕ) → (ready b s).running ≡ o → Partitioned b.image → Facts b.image → Keeps b.image (ready b s) → RowsFit (ready b s).objects (ready b s).tokens → (n : ℕ) → n < (ready b s).next → Everywhere (ShutTo b.image n) (ready b s)
    → OpensObject b s n ⊎ Everywhere (ShutTo b.image n) (continued b (ready b s) o).0
continued_stays b s None runs parts facts k rows n below h = inr h
continued_stays b s (Some t) runs parts facts k rows n below h =
    elim (executed_stays b (ready b s) t (record { parts = parts; facts = facts; held = k.confined; runs = runs; rows = rows }) n below h) [
      | inl o ↦ inl (record {
        thread_is = t;
        may = o.may;
        key = o.key;
        token = o.token;
        key_found = o.key_found;
        token_found = o.token_found;
        number = o.number;
        after = step_tells_none b s t _ runs (leaves_opened b (ready b s) t o.key o.token o.may o.key_found o.token_found);
      })
      | inr shut ↦ inr (record { granules = shut.granules; threads = shut.threads })
    ]

pub stays_shut : (b : Platform) (s : State) (e : Event) → Partitioned b.image → Facts b.image → Keeps b.image s → RowsFit s.objects s.tokens → StaysShut b s e
stays_shut b s Step parts facts k rows n below h = elim (continued_stays b s (ready b s).running refl parts facts (ready_keeps b s parts k) (ready_fit b s rows) n (rw (same_next b s) below)
    (ready_regular (ShutTo b.image n) (shut_passes b.image n).widens b s h).has) [
      | inl o ↦ inl (refl, o)
      | inr shut ↦ inr shut
    ]
stays_shut b s Tick parts facts k rows n below h = inr (ticked_regular (ShutTo b.image n) (shut_passes b.image n).widens s h).has
stays_shut b s (Input m byte) parts facts k rows n below h = inr (again (ShutTo b.image n) (ShutTo b.image n) (shut_passes b.image n).widens s (received s m byte) refl refl refl refl h).has
stays_shut b s Sweep parts facts k rows n below h = inr (swept_has (ShutTo b.image n) (shut_passes b.image n).widens b.image (record s { counts = record s.counts { sweeps = s.counts.sweeps + 1 } }) (record { granules = h.granules; threads = h.threads }))

-- ---- keys

abbrev HasKey : ℕ → State → Type 0
HasKey n z = Any (IsKeyRow n) z.tokens

executed_lasts : (b : Platform) (s : State) (t n : ℕ) → Standing b s t → Tokened b.image s → HasKey n s → HasKey n (executed b s t).0
executed_lasts b s t n g h key =
    executed_has b (λ c. Unit {0}) (λ c. Unit {0}) (nothing_passes b.image) (nothing_kinds b.image) s t g.parts g.facts g.held (nothing_held s) (HasKey n)
    (λ z r. subst (λ ks. Any (IsKeyRow n) ks) (sym r.tokens) key) (record {
      hands = λ quota size r is. key;
      frees = λ r is. left_row (IsKeyRow n) r.number s.tokens (λ k own same. freed_no_key b s t g h.some h.keys r is (subst (λ m. Any (IsKeyRow m) s.tokens) (sym own.0 ∙ same) key)) key;
      gives = λ key_of_it r is. left_row (IsKeyRow n) r.number s.tokens (λ k own same. given_no_key b s t g h.some key_of_it r is (subst (λ m. Any (IsKeyRow m) s.tokens) (sym own.0 ∙ same) key)) key;
      seals = λ quota size named r is known. among_row (IsKeyRow n) (record { number = r.number; key = named }) s.tokens (inr key);
      opens = λ may k r is token. key;
    })

continued_lasts : (b : Platform) (s : State) (o : Option ℕ) (n : ℕ) → s.running ≡ o → Partitioned b.image → Facts b.image → Keeps b.image s → RowsFit s.objects s.tokens → Tokened b.image s → HasKey n s → HasKey n (continued b s o).0
continued_lasts b s None n runs parts facts k rows h key = key
continued_lasts b s (Some t) n runs parts facts k rows h key = executed_lasts b s t n (record { parts = parts; facts = facts; held = k.confined; runs = runs; rows = rows }) h key

event_lasts : (b : Platform) (s : State) (e : Event) (n : ℕ) → Partitioned b.image → Facts b.image → Keeps b.image s → RowsFit s.objects s.tokens → Tokened b.image s → HasKey n s → HasKey n (happens b s e).0
event_lasts b s Step n parts facts k rows h key =
    continued_lasts b (scheduled b (preempted (one_more_step s))) (scheduled b (preempted (one_more_step s))).running n refl parts facts (ready_keeps b s parts k) (ready_fit b s rows) (ready_tokened b s h)
    (subst (λ ks. Any (IsKeyRow n) ks) (sym (ready_regular (TokenFits b.image s.objects s.tokens) (fits_pass b.image s.objects s.tokens).widens b s h.tokens).tokens) key)
event_lasts b s Tick n parts facts k rows h key =
    subst (λ ks. Any (IsKeyRow n) ks) (sym (ticked_regular (TokenFits b.image s.objects s.tokens) (fits_pass b.image s.objects s.tokens).widens s h.tokens).tokens) key
event_lasts b s (Input m byte) n parts facts k rows h key = key
event_lasts b s Sweep n parts facts k rows h key = subst (λ ks. Any (IsKeyRow n) ks) (sym (swept_rows b.image (record s { counts = record s.counts { sweeps = s.counts.sweeps + 1 } }))) key

pub key_lasts : (b : Platform) (s : State) (es : List Event) (n : ℕ) → Partitioned b.image → Facts b.image → Wired b → Keeps b.image s → RowsFit s.objects s.tokens → Tokened b.image s → HasKey n s → HasKey n (run b s es)
unfolding run
key_lasts b s [] n parts facts wired k rows h key = key
key_lasts b s (e ∷ es) n parts facts wired k rows h key =
    key_lasts b (happens b s e).0 es n parts facts wired (event_keeps b s e parts facts wired k) (event_fit b s e parts k rows) (event_tokened b s e parts facts wired k rows h)
    (event_lasts b s e n parts facts k rows h key)
