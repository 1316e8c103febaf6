-- The key and the token that a routine finds.
use Rattle.std.proofs.Common.{ℕ, ◌≡◌, ◌+◌, ◌==◌, ◌&&◌, true, inl, inr, List, [], ◌∷◌, Option, Some, None, ap, subst}
use Rattle.std.specs.Prelude.{find}
use Rattle.std.specs.List.{list_any}
use Rattle.std.proofs.lemmas.Bool.{eqb-true, and_parts}
use Rattle.law_lists.proofs.Tests.{chosen}
use Rattle.def_profile.specs.declared.seals.TheConstants.{TOKEN_TYPE}
use Rattle.def_words.specs.declared.Cap.{Cap}
use Rattle.def_words.specs.Authority.{cap_base, cap_top}
use Rattle.def_words.specs.Seals.{cap_seal}
use Rattle.def_machine.specs.State.{State, Object, Token}
use Rattle.def_machine.specs.Objects.{Any}
use Rattle.def_step.specs.Tokens.{is_key_row, is_row_of, is_all_of, sealed_object, as_key, as_token, key_of, token_object}
use Rattle.law_routines.proofs.Objects.{Found}

-- a live object whose bounds are a sealed capability's
pub record Sealed (c : Cap) (objects : List Object) (r : Object) : Type 0 where
  pub there : Any (λ q. q ≡ r) objects
  pub live : r.live ≡ true
  pub low : r.base ≡ cap_base c
  pub high : r.base + r.length ≡ cap_top c
  pub tagged : c.tag ≡ true
  pub type : cap_seal c ≡ TOKEN_TYPE

found : (c : Cap) (objects : List Object) (r : Object) → find (is_all_of c) objects ≡ Some r → Any (λ q. q ≡ r) objects × (is_all_of c r ≡ true)
found c [] r e = absurd (let clash : None ≡ Some r = e in cc)
found c (q ∷ qs) r e = chosen (λ (o : Option Object). o ≡ Some r → Any (λ z. z ≡ r) (q ∷ qs) × (is_all_of c r ≡ true)) (is_all_of c q) (Some q) (find (is_all_of c) qs)
    (λ is same. let one : q ≡ r = cc in (inl one, subst (λ (z : Object). is_all_of c z ≡ true) one is))
    (λ not later. let rest = found c qs r later in (inr rest.0, rest.1))
    e

pub sealed_says : (objects : List Object) (c : Cap) (r : Object) → sealed_object objects c ≡ Some r → Sealed c objects r
sealed_says objects c r e = chosen (λ (o : Option Object). o ≡ Some r → Sealed c objects r) (c.tag && (cap_seal c == TOKEN_TYPE)) (find (is_all_of c) objects) None
    (λ is one.
    let kind = and_parts c.tag (cap_seal c == TOKEN_TYPE) is in
    let at = found c objects r one in
    let first = and_parts (r.live && (r.base == cap_base c)) (r.base + r.length == cap_top c) at.1 in
    let second = and_parts r.live (r.base == cap_base c) first.0 in
    record { there = at.0; live = second.0; low = eqb-true r.base (cap_base c) second.1; high = eqb-true (r.base + r.length) (cap_top c) first.1; tagged = kind.0; type = eqb-true (cap_seal c) TOKEN_TYPE kind.1 })
    (λ not none. absurd (let clash : None ≡ Some r = none in cc))
    e

as_key_says : (tokens : List Token) (o : Option Object) (k : Object) → as_key tokens o ≡ Some k → list_any (is_key_row k.number) tokens ≡ true
as_key_says tokens None k e = absurd (let clash : None ≡ Some k = e in cc)
as_key_says tokens (Some r) k e = chosen (λ (o : Option Object). o ≡ Some k → list_any (is_key_row k.number) tokens ≡ true) (list_any (is_key_row r.number) tokens) (Some r) None
    (λ is same. let one : r ≡ k = cc in subst (λ (z : Object). list_any (is_key_row z.number) tokens ≡ true) one is)
    (λ not none. absurd (let clash : None ≡ Some k = none in cc))
    e

pub key_says : (s : State) (c : Cap) (k : Object) → key_of s c ≡ Some k → list_any (is_key_row k.number) s.tokens ≡ true
key_says s c k e = as_key_says s.tokens (sealed_object s.objects c) k e

-- a token of a key
pub record IsToken (s : State) (key : ℕ) (c : Cap) (r : Object) : Type 0 where
  pub sealed : Sealed c s.objects r
  pub row : list_any (is_row_of key r.number) s.tokens ≡ true

as_token_says : (tokens : List Token) (key : ℕ) (o : Option Object) (r : Object) → as_token tokens key o ≡ Some r → (o ≡ Some r) × (list_any (is_row_of key r.number) tokens ≡ true)
as_token_says tokens key None r e = absurd (let clash : None ≡ Some r = e in cc)
as_token_says tokens key (Some q) r e = chosen (λ (o : Option Object). o ≡ Some r → (Some q ≡ Some r) × (list_any (is_row_of key r.number) tokens ≡ true)) (list_any (is_row_of key q.number) tokens) (Some q) None
    (λ is same. let one : q ≡ r = cc in (ap (λ (z : Object). Some z) one, subst (λ (z : Object). list_any (is_row_of key z.number) tokens ≡ true) one is))
    (λ not none. absurd (let clash : None ≡ Some r = none in cc))
    e

pub token_says : (s : State) (key : ℕ) (c : Cap) (r : Object) → token_object s key c ≡ Some r → IsToken s key c r
token_says s key c r e = let both = as_token_says s.tokens key (sealed_object s.objects c) r e in record { sealed = sealed_says s.objects c r both.0; row = both.1 }

pub token_found : (s : State) (key : ℕ) (c : Cap) (r : Object) (quota : ℕ) → token_object s key c ≡ Some r → r.quota ≡ quota → Found quota c s.objects r
token_found s key c r quota e charged = let t = token_says s key c r e in record { there = t.sealed.there; live = t.sealed.live; charged = charged }
