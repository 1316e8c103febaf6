-- What token_open comes to.
use Rattle.std.proofs.Common.{ℕ, ◌≡◌, ◌+◌, ◌==◌, ◌<◌, ◌&&◌, inl, inr, true, false, List, [], ◌∷◌, Option, Some, None, refl, sym, ap, ◌∙◌, subst, arith}
use Rattle.std.specs.Prelude.{find}
use Rattle.std.specs.List.{list_any}
use Rattle.std.proofs.lemmas.Bool.{eqb-true, and_parts, eq-eqb, and_from}
use Rattle.law_lists.proofs.Sets.{after_set_split}
use Rattle.law_lists.proofs.Tests.{chosen}
use Rattle.ct_entry.specs.declared.acts.Deed.{Deed}
use Rattle.def_profile.specs.declared.seals.TheConstants.{TOKEN_TYPE}
use Rattle.def_words.specs.declared.Cap.{Cap}
use Rattle.def_words.specs.Authority.{cap_base, cap_top}
use Rattle.def_words.specs.Capability.{word_sealed}
use Rattle.def_words.specs.Seals.{cap_seal}
use Rattle.law_words.proofs.Narrowing.{shadow_kept}
use Rattle.law_words.proofs.Sealed.{WithField, with_field}
use Rattle.def_memory.specs.Granules.{plain}
use Rattle.def_machine.specs.Platform.{Platform}
use Rattle.def_machine.specs.Image.{Image}
use Rattle.def_machine.specs.State.{State, Object, Thread, Token, nobody, thread, register}
use Rattle.def_machine.specs.Objects.{Any, Each}
use Rattle.def_machine.specs.Registers.{written}
use Rattle.def_confined.specs.Confined.{Apart, Confined, AllApart}
use Rattle.def_confined.specs.Keeps.{Keeps}
use Rattle.def_confined.specs.Partitioned.{Partitioned}
use Rattle.def_safety.specs.Each.{ready}
use Rattle.def_step.specs.declared.Event.TheVariants.{Step}
use Rattle.def_step.specs.Events.{continued, happens, noted, with_deed}
use Rattle.def_step.specs.Instructions.{executed, ran}
use Rattle.def_step.specs.Routines.{answered, answers, code}
use Rattle.def_step.specs.Tokens.{is_all_of, is_key_row, is_row_of, as_key, as_token, key_of, opened_token, sealed_object, token_object, token_open}
use Rattle.def_safety.specs.Opening.{FindsSealed, HoldsBoth, IsKeyIn, IsSealedOf, IsTokenIn, IsUnsealedOf, MayOpen, OpensTokens}
use Rattle.def_safety.specs.Tokened.{IsWhole, TokenFits, Tokened}
use Rattle.law_events.proofs.Events.{ready_keeps}
use Rattle.law_moves.proofs.Rows.{each_take, one_at, Holds}
use Rattle.law_moves.proofs.Turns.{after_written}
use Rattle.law_routines.proofs.Leaving.{option_tells}
use Rattle.law_routines.proofs.Tokens.{Sealed, sealed_says, token_says}
use Rattle.law_history.proofs.Keying.{key_there, row_there, there_key, there_row}
use Rattle.law_history.proofs.Whole.{ready_tokened}

-- ---- what is found is what is sealed so

abbrev IsFilled : Object → Type 0
IsFilled r = 0 < r.length

-- the object of what is sealed as a token is the one that has its bounds
sealed_of : (i : Image) (s : State) (c : Cap) (r : Object) → TokenFits i s.objects s.tokens c → Each IsFilled s.objects → AllApart s.objects → Sealed c s.objects r → IsSealedOf s c r
sealed_of i s c r fits some apart x =
    let whole : Any (IsWhole s.tokens c) s.objects = (fits x.tagged x.type).1 in
    let long : 0 < r.length = each_take IsFilled (λ q. q ≡ r) (0 < r.length) s.objects (λ q filled same. subst (λ (z : Object). 0 < z.length) same filled) some x.there in
    let low = x.low in
    let high = x.high in
    let is : (r.number ≡ c.shadow.source) × (r.quota ≡ c.shadow.root) =
    one_at (IsWhole s.tokens c) (λ q. q ≡ r) ((r.number ≡ c.shadow.source) × (r.quota ≡ c.shadow.root)) (cap_base c) s.objects
    (λ q w. let first = w.low in let last = w.high in (omega (arith, first), omega (arith, last, low, high, long)))
    (λ q same. subst (Holds (cap_base c)) (sym same) (omega (arith, low), omega (arith, low, long)))
    (λ q w same. subst (λ (z : Object). (z.number ≡ c.shadow.source) × (z.quota ≡ c.shadow.root)) same (w.covers.number, w.covers.quota))
    apart whole x.there in
    record { tagged = x.tagged; sealed = x.type; there = x.there; live = x.live; number = is.0; quota = is.1; low = sym x.low; high = sym x.high }

as_key_says : (tokens : List Token) (o : Option Object) (k : Object) → as_key tokens o ≡ Some k → (o ≡ Some k) × (list_any (is_key_row k.number) tokens ≡ true)
as_key_says tokens None k e = absurd (let clash : None ≡ Some k = e in cc)
as_key_says tokens (Some q) k e = chosen (λ (o : Option Object). o ≡ Some k → (Some q ≡ Some k) × (list_any (is_key_row k.number) tokens ≡ true)) (list_any (is_key_row q.number) tokens) (Some q) None
    (λ is same. let one : q ≡ k = cc in (ap (λ (z : Object). Some z) one, subst (λ (z : Object). list_any (is_key_row z.number) tokens ≡ true) one is))
    (λ not none. absurd (let clash : None ≡ Some k = none in cc))
    e

-- ---- what is sealed so is found

all_is : (s : State) (c : Cap) (r : Object) → IsSealedOf s c r → is_all_of c r ≡ true
all_is s c r x = and_from (r.live && (r.base == cap_base c)) (r.base + r.length == cap_top c) (and_from r.live (r.base == cap_base c) x.live (eq-eqb r.base (cap_base c) (sym x.low))) (eq-eqb (r.base + r.length) (cap_top c) (sym x.high))

low_of : (c : Cap) (r : Object) → is_all_of c r ≡ true → r.base ≡ cap_base c
low_of c r is = eqb-true r.base (cap_base c) (and_parts r.live (r.base == cap_base c) (and_parts (r.live && (r.base == cap_base c)) (r.base + r.length == cap_top c) is).0).1

-- two with one base, of which one isn't empty, aren't apart
one_base : (c : Cap) (q r : Object) → 0 < q.length → 0 < r.length → is_all_of c q ≡ true → is_all_of c r ≡ true → Apart q r → ⊥
one_base c q r first second a b apart =
    let at = low_of c q a in
    let to = low_of c r b in
    elim apart.1 [ inl below ↦ omega (arith, below, at, to, first, second) | inr above ↦ omega (arith, above, at, to, first, second) ]

found_all : (c : Cap) (objects : List Object) (r : Object) → AllApart objects → Each IsFilled objects → is_all_of c r ≡ true → Any (λ q. q ≡ r) objects → find (is_all_of c) objects ≡ Some r
found_all c [] r apart some is there = absurd there
found_all c (q ∷ qs) r apart some is there = chosen (λ (o : Option Object). o ≡ Some r) (is_all_of c q) (Some q) (find (is_all_of c) qs)
    (λ yes. elim there [
      | inl same ↦ ap (λ (z : Object). Some z) same
      | inr later ↦ absurd (one_base c q r some.0 (each_take IsFilled (λ z. z ≡ r) (0 < r.length) qs (λ z filled same. subst IsFilled same filled) some.1 later) yes is
          (each_take (Apart q) (λ z. z ≡ r) (Apart q r) qs (λ z away same. subst (Apart q) same away) apart.0 later))
    ])
    (λ no. elim there [
      | inl same ↦ absurd (let clash : false ≡ true = sym no ∙ subst (λ (z : Object). is_all_of c z ≡ true) (sym same) is in cc)
      | inr later ↦ found_all c qs r apart.1 some.1 is later
    ])

sealed_found : (s : State) (c : Cap) (r : Object) → AllApart s.objects → Each IsFilled s.objects → IsSealedOf s c r → sealed_object s.objects c ≡ Some r
sealed_found s c r apart some x = chosen (λ (o : Option Object). o ≡ Some r) (c.tag && (cap_seal c == TOKEN_TYPE)) (find (is_all_of c) s.objects) None
    (λ is. found_all c s.objects r apart some (all_is s c r x) x.there)
    (λ not. absurd (let clash : false ≡ true = sym not ∙ and_from c.tag (cap_seal c == TOKEN_TYPE) x.tagged (eq-eqb (cap_seal c) TOKEN_TYPE x.sealed) in cc))

key_found : (s : State) (c : Cap) (r : Object) → AllApart s.objects → Each IsFilled s.objects → IsKeyIn s c r → key_of s c ≡ Some r
key_found s c r apart some x = ap (as_key s.tokens) (sealed_found s c r apart some x.sealed)
    ∙ chosen (λ (o : Option Object). o ≡ Some r) (list_any (is_key_row r.number) s.tokens) (Some r) None
    (λ is. refl)
    (λ not. absurd (let clash : false ≡ true = sym not ∙ there_key r.number s.tokens x.row in cc))

token_is_found : (s : State) (key : ℕ) (c : Cap) (r : Object) → AllApart s.objects → Each IsFilled s.objects → IsTokenIn s key c r → token_object s key c ≡ Some r
token_is_found s key c r apart some x = ap (as_token s.tokens key) (sealed_found s c r apart some x.sealed)
    ∙ chosen (λ (o : Option Object). o ≡ Some r) (list_any (is_row_of key r.number) s.tokens) (Some r) None
    (λ is. refl)
    (λ not. absurd (let clash : false ≡ true = sym not ∙ there_row key r.number s.tokens x.row in cc))

module _ (i : Image) (s : State) (held : Confined i s) (h : Tokened i s) where
  key_in : (t n : ℕ) (k : Object) → key_of s (register (thread s t) n) ≡ Some k → IsKeyIn s (register (thread s t) n) k
  key_in t n k e =
      let says = as_key_says s.tokens (sealed_object s.objects (register (thread s t) n)) k e in
      record {
        sealed = sealed_of i s (register (thread s t) n) k ((h.tokens.threads t).registers n) h.some held.apart (sealed_says s.objects (register (thread s t) n) k says.0);
        row = key_there k.number s.tokens says.1;
      }

  token_in : (t n key : ℕ) (r : Object) → token_object s key (register (thread s t) n) ≡ Some r → IsTokenIn s key (register (thread s t) n) r
  token_in t n key r e =
      let says = token_says s key (register (thread s t) n) r e in
      record {
        sealed = sealed_of i s (register (thread s t) n) r ((h.tokens.threads t).registers n) h.some held.apart says.sealed;
        row = row_there key r.number s.tokens says.row;
      }

  pub finds_sealed : FindsSealed s
  finds_sealed = record {
    keys = λ t n k. (key_in t n k, key_found s (register (thread s t) n) k held.apart h.some);
    tokens = λ t n key r. (token_in t n key r, token_is_found s key (register (thread s t) n) r held.apart h.some);
  }

-- ---- what the routine leaves

unsealed_of : (c : Cap) → c.tag ≡ true → IsUnsealedOf c (opened_token c)
unsealed_of c tagged =
    let w : WithField c (opened_token c) 0 = with_field c (opened_token c) 0 (omega arith) refl in
    record {
      tagged = tagged;
      unsealed = w.kind;
      shadows = shadow_kept c.tag (word_sealed c 0) c.shadow tagged;
      same_base = ap (λ b. b.base) w.bounds;
      same_top = ap (λ b. b.top) w.bounds;
      same_address = w.at;
      same_rights = w.rights;
    }

runs_routine : (b : Platform) (s : State) (t : ℕ) → MayOpen b s t → executed b s t ≡ ran b s t (token_open s t)
unfolding executed
runs_routine b s t m = let fetched = m.routine.fetched in let routine = m.routine.routine in rw (fetched, routine) refl

pub leaves_opened : (b : Platform) (s : State) (t : ℕ) (k r : Object) → MayOpen b s t → key_of s (register (thread s t) 10) ≡ Some k → token_object s k.number (register (thread s t) 11) ≡ Some r → executed b s t ≡ (answers s t (opened_token (register (thread s t) 11)), None)
leaves_opened b s t k r m key token = runs_routine b s t m ∙ here
  where
    here : ran b s t (token_open s t) ≡ (answers s t (opened_token (register (thread s t) 11)), None)
    here = rw (m.returns, key, token) refl

leaves_no_key : (b : Platform) (s : State) (t : ℕ) → MayOpen b s t → key_of s (register (thread s t) 10) ≡ None → executed b s t ≡ (answers s t (code 7), None)
leaves_no_key b s t m key = runs_routine b s t m ∙ here
  where
    here : ran b s t (token_open s t) ≡ (answers s t (code 7), None)
    here = rw (m.returns, key) refl

leaves_no_token : (b : Platform) (s : State) (t : ℕ) (k : Object) → MayOpen b s t → key_of s (register (thread s t) 10) ≡ Some k → token_object s k.number (register (thread s t) 11) ≡ None → executed b s t ≡ (answers s t (code 8), None)
leaves_no_token b s t k m key token = runs_routine b s t m ∙ here
  where
    here : ran b s t (token_open s t) ≡ (answers s t (code 8), None)
    here = rw (m.returns, key, token) refl

-- ---- a step

-- what a step leaves is what its thread leaves, where it tells nothing that is counted
pub step_leaves : (b : Platform) (s : State) (t : ℕ) → (ready b s).running ≡ Some t → with_deed (executed b (ready b s) t).0.counts (executed b (ready b s) t).1 ≡ (executed b (ready b s) t).0.counts → (happens b s Step).0 ≡ (executed b (ready b s) t).0
step_leaves b s t runs same =
    ap (λ (o : Option ℕ). (continued b (ready b s) o).0) runs
    ∙ ap (λ c. record (executed b (ready b s) t).0 { counts = c }) same

pub step_tells_none : (b : Platform) (s : State) (t : ℕ) (z : State) → (ready b s).running ≡ Some t → executed b (ready b s) t ≡ (z, None) → (happens b s Step).0 ≡ z
step_tells_none b s t z runs is =
    ap (λ (o : Option ℕ). (continued b (ready b s) o).0) runs
    ∙ ap (λ (r : State × Option Deed). (noted r).0) is

-- c10 after an answer that is tagged is that answer
answer_tagged : (s : State) (t : ℕ) (v : Cap) → (register (thread (answers s t v) t) 10).tag ≡ true → v.tag ≡ true
answer_tagged s t v = after_set_split (λ (u : Thread). (register u 10).tag ≡ true → v.tag ≡ true) s.threads t t (answered (thread s t) v) nobody
    (λ same. after_written (λ (c : Cap). c.tag ≡ true → v.tag ≡ true) (written (thread s t).registers 10 v) 11 10 (plain 0) (λ tagged. absurd (let clash : false ≡ true = tagged in cc)) inner)
    (λ same out tagged. absurd (let clash : false ≡ true = tagged in cc))
    (λ other. absurd (other refl))
  where
    inner : (register (record (thread s t) { registers = written (thread s t).registers 10 v }) 10).tag ≡ true → v.tag ≡ true
    inner = after_set_split (λ (c : Cap). c.tag ≡ true → v.tag ≡ true) (thread s t).registers 10 10 v (plain 0)
        (λ same tagged. tagged)
        (λ same out tagged. absurd (let clash : false ≡ true = tagged in cc))
        (λ other. absurd (other refl))

pub opens_tokens : (b : Platform) (s : State) → Partitioned b.image → Keeps b.image s → Tokened b.image s → OpensTokens b s
opens_tokens b s parts k tokened t m =
    let held : Confined b.image (ready b s) = (ready_keeps b s parts k).confined in
    let h : Tokened b.image (ready b s) = ready_tokened b s tokened in
    let finds : FindsSealed (ready b s) = finds_sealed b.image (ready b s) held h in
    record {
      opens = λ key token x. (
        step_tells_none b s t _ m.routine.runs (leaves_opened b (ready b s) t key token m ((finds.keys t 10 key).1 x.key_is) ((finds.tokens t 11 key.number token).1 x.token_is)),
        unsealed_of (register (thread (ready b s) t) 11) x.token_is.sealed.tagged,
      );
      only = only_both finds;
      no_key = λ none. elim (option_tells (key_of (ready b s) (register (thread (ready b s) t) 10))) [
        | inl is ↦ step_tells_none b s t _ m.routine.runs (leaves_no_key b (ready b s) t m is)
        | inr some ↦ absurd (none some.0 ((finds.keys t 10 some.0).0 some.1))
      ];
      no_token = λ key is none. elim (option_tells (token_object (ready b s) key.number (register (thread (ready b s) t) 11))) [
        | inl absent ↦ step_tells_none b s t _ m.routine.runs (leaves_no_token b (ready b s) t key m ((finds.keys t 10 key).1 is) absent)
        | inr some ↦ absurd (none some.0 ((finds.tokens t 11 key.number some.0).0 some.1))
      ];
    }
  where
    refused : (n : ℕ) → executed b (ready b s) t ≡ (answers (ready b s) t (code n), None) → (register (thread (happens b s Step).0 t) 10).tag ≡ true → ⊥
    refused n is tagged =
        let clash : false ≡ true = answer_tagged (ready b s) t (code n) (subst (λ (z : State). (register (thread z t) 10).tag ≡ true) (step_tells_none b s t _ m.routine.runs is) tagged) in
        cc

    only_both : FindsSealed (ready b s) → (register (thread (happens b s Step).0 t) 10).tag ≡ true → (key : Object) × ((token : Object) × HoldsBoth (ready b s) t key token)
    only_both finds tagged = elim (option_tells (key_of (ready b s) (register (thread (ready b s) t) 10))) [
      | inl none ↦ absurd (refused 7 (leaves_no_key b (ready b s) t m none) tagged)
      | inr key ↦ elim (option_tells (token_object (ready b s) key.0.number (register (thread (ready b s) t) 11))) [
        | inl none ↦ absurd (refused 8 (leaves_no_token b (ready b s) t key.0 m key.1 none) tagged)
        | inr token ↦ (key.0, (token.0, record { key_is = (finds.keys t 10 key.0).0 key.1; token_is = (finds.tokens t 11 key.0.number token.0).0 token.1 }))
      ]
    ]
