-- What token_key, token_new and token_free answer.
use Rattle.std.proofs.Common.{ℕ, ◌≡◌, inl, inr, Option, Some, None, ap, ◌∙◌, if◌then◌else◌}
use Rattle.std.proofs.lemmas.Bool.{eq-eqb}
use Rattle.law_lists.proofs.Tests.{eq_tells}
use Rattle.def_events.specs.Causes.{HasQuota, MayReturn}
use Rattle.def_machine.specs.Image.{Image}
use Rattle.def_machine.specs.State.{Object, State, register, thread}
use Rattle.def_step.specs.Quotas.{Allocation, allocation, gives_back, quota_in}
use Rattle.def_step.specs.Routines.{Ran, code, tells}
use Rattle.def_step.specs.Tokens.{by_key, frees_token, key_of, made_token, token_free, token_key, token_new, token_object}
use Rattle.def_safety.specs.Opening.{FindsSealed, IsKeyIn, IsTokenIn}
use Rattle.def_words.specs.Authority.{cap_address}
use Rattle.law_history.proofs.Services.{with_quota}
use Rattle.law_routines.proofs.Leaving.{option_tells}

-- ---- a key in a register, or none

no_key_found : (s : State) (t n : ℕ) → FindsSealed s → ((key : Object) → IsKeyIn s (register (thread s t) n) key → ⊥) → key_of s (register (thread s t) n) ≡ None
no_key_found s t n finds none = elim (option_tells (key_of s (register (thread s t) n))) [
  | inl is ↦ is
  | inr some ↦ absurd (none some.0 ((finds.keys t n some.0).0 some.1))
]

no_token_found : (s : State) (t n key : ℕ) → FindsSealed s → ((token : Object) → IsTokenIn s key (register (thread s t) n) token → ⊥) → token_object s key (register (thread s t) n) ≡ None
no_token_found s t n key finds none = elim (option_tells (token_object s key (register (thread s t) n))) [
  | inl is ↦ is
  | inr some ↦ absurd (none some.0 ((finds.tokens t n key some.0).0 some.1))
]

by_none : (s : State) (t n : ℕ) (ran : ℕ → Ran) → FindsSealed s → ((key : Object) → IsKeyIn s (register (thread s t) n) key → ⊥) → by_key s t (key_of s (register (thread s t) n)) ran ≡ tells s t (code 7)
by_none s t n ran finds none = ap (λ (o : Option Object). by_key s t o ran) (no_key_found s t n finds none)

by_one : (s : State) (t n : ℕ) (ran : ℕ → Ran) (key : Object) → FindsSealed s → IsKeyIn s (register (thread s t) n) key → by_key s t (key_of s (register (thread s t) n)) ran ≡ ran key.number
by_one s t n ran key finds is = ap (λ (o : Option Object). by_key s t o ran) ((finds.keys t n key).1 is)

-- ---- a key and a token that are made

pub key_answers : (i : Image) (s : State) (t : ℕ) (a : Allocation) → MayReturn s t → HasQuota s t → allocation i s (quota_in s t) 8 ≡ a → token_key i s t ≡ made_token s t None a
key_answers i s t a may has is = with_quota s t _ may has ∙ ap (made_token s t None) is

pub new_unkeyed : (i : Image) (s : State) (t : ℕ) → MayReturn s t → HasQuota s t → FindsSealed s → ((key : Object) → IsKeyIn s (register (thread s t) 12) key → ⊥) → token_new i s t ≡ tells s t (code 7)
new_unkeyed i s t may has finds none = with_quota s t _ may has ∙ by_none s t 12 _ finds none

pub new_answers : (i : Image) (s : State) (t : ℕ) (key : Object) (a : Allocation) → MayReturn s t → HasQuota s t → FindsSealed s → IsKeyIn s (register (thread s t) 12) key → allocation i s (quota_in s t) (cap_address (register (thread s t) 11)) ≡ a → token_new i s t ≡ made_token s t (Some key.number) a
new_answers i s t key a may has finds is made = with_quota s t _ may has ∙ by_one s t 12 _ key finds is ∙ ap (made_token s t (Some key.number)) made

-- ---- a token that is freed

pub free_unkeyed : (i : Image) (s : State) (t : ℕ) → MayReturn s t → HasQuota s t → FindsSealed s → ((key : Object) → IsKeyIn s (register (thread s t) 11) key → ⊥) → token_free i s t ≡ tells s t (code 7)
free_unkeyed i s t may has finds none = with_quota s t _ may has ∙ by_none s t 11 _ finds none

free_keyed : (i : Image) (s : State) (t : ℕ) (key : Object) (o : Option Object) → MayReturn s t → HasQuota s t → FindsSealed s → IsKeyIn s (register (thread s t) 11) key → token_object s key.number (register (thread s t) 12) ≡ o → token_free i s t ≡ frees_token i s t (quota_in s t) o
free_keyed i s t key o may has finds is found = with_quota s t _ may has ∙ by_one s t 11 _ key finds is ∙ ap (frees_token i s t (quota_in s t)) found

pub free_untokened : (i : Image) (s : State) (t : ℕ) (key : Object) → MayReturn s t → HasQuota s t → FindsSealed s → IsKeyIn s (register (thread s t) 11) key → ((token : Object) → IsTokenIn s key.number (register (thread s t) 12) token → ⊥) → token_free i s t ≡ tells s t (code 8)
free_untokened i s t key may has finds is none = free_keyed i s t key None may has finds is (no_token_found s t 12 key.number finds none)

pub free_of_other : (i : Image) (s : State) (t : ℕ) (key token : Object) → MayReturn s t → HasQuota s t → FindsSealed s → IsKeyIn s (register (thread s t) 11) key → IsTokenIn s key.number (register (thread s t) 12) token → (token.quota ≡ quota_in s t → ⊥) → token_free i s t ≡ tells s t (code 6)
free_of_other i s t key token may has finds is sealed other = free_keyed i s t key (Some token) may has finds is ((finds.tokens t 12 key.number token).1 sealed)
    ∙ elim (eq_tells token.quota (quota_in s t)) [
      | inl same ↦ absurd (other same.1)
      | inr apart ↦ ap (λ b. if b then gives_back i s t token else tells s t (code 6)) apart.0
    ]

pub free_of_own : (i : Image) (s : State) (t : ℕ) (key token : Object) → MayReturn s t → HasQuota s t → FindsSealed s → IsKeyIn s (register (thread s t) 11) key → IsTokenIn s key.number (register (thread s t) 12) token → token.quota ≡ quota_in s t → token_free i s t ≡ gives_back i s t token
free_of_own i s t key token may has finds is sealed own = free_keyed i s t key (Some token) may has finds is ((finds.tokens t 12 key.number token).1 sealed)
    ∙ ap (λ b. if b then gives_back i s t token else tells s t (code 6)) (eq-eqb token.quota (quota_in s t) own)
