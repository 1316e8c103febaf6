-- What token_open finds and answers, and that nothing else takes a token's seal away.
use Rattle.std.specs.Prelude.{ℕ, ◌≡◌, ◌+◌, ◌<◌, ◌⊎◌, ◌↔◌, true, Some, None}
use Rattle.def_profile.specs.declared.answers.TheConstants.{NO_KEY, NO_TOKEN}
use Rattle.def_native.specs.declared.TheConstants.{TOKEN_OPEN}
use Rattle.def_profile.specs.declared.seals.TheConstants.{TOKEN_TYPE}
use Rattle.def_words.specs.declared.Cap.{Cap}
use Rattle.def_words.specs.Authority.{cap_address, cap_base, cap_top}
use Rattle.def_words.specs.Permissions.{cap_perms}
use Rattle.def_words.specs.Seals.{cap_seal}
use Rattle.def_machine.specs.Platform.{Platform}
use Rattle.def_machine.specs.State.{State, Object, thread, register}
use Rattle.def_machine.specs.Objects.{Any}
use Rattle.def_step.specs.declared.Event.{Event}
use Rattle.def_step.specs.declared.Event.TheVariants.{Step}
use Rattle.def_step.specs.Checks.{first_failed}
use Rattle.def_step.specs.Events.{happens}
use Rattle.def_step.specs.Routines.{answers, code}
use Rattle.def_step.specs.Switch.{return_checks}
use Rattle.def_step.specs.Tokens.{key_of, opened_token, token_object}
use Rattle.def_safety.specs.Each.{ready}
use Rattle.def_safety.specs.Routine.{RunsRoutine}
use Rattle.def_safety.specs.Everywhere.{Everywhere}
use Rattle.def_safety.specs.Tokened.{IsKeyRow, IsTokenRow, ShutTo}

-- thread t is about to run token_open, and its c1 leads back
pub record MayOpen (b : Platform) (s : State) (t : ℕ) : Type 0 where
  pub routine : RunsRoutine b s t TOKEN_OPEN
  pub returns : first_failed (return_checks (register (thread s t) 1)) ≡ None

-- ---- keys and tokens, by what they are

-- a capability that is sealed as a token, of the whole of this object, which is live, and which its source names
pub record IsSealedOf (s : State) (c : Cap) (r : Object) : Type 0 where
  pub tagged : c.tag ≡ true
  pub sealed : cap_seal c ≡ TOKEN_TYPE
  pub there : Any (λ q. q ≡ r) s.objects
  pub live : r.live ≡ true
  pub number : r.number ≡ c.shadow.source
  pub quota : r.quota ≡ c.shadow.root
  pub low : cap_base c ≡ r.base
  pub high : cap_top c ≡ r.base + r.length

-- it is a key: its object has a key's row
pub record IsKeyIn (s : State) (c : Cap) (key : Object) : Type 0 where
  pub sealed : IsSealedOf s c key
  pub row : Any (IsKeyRow key.number) s.tokens

-- it is a token of the key of this number: its object has a row that names it
pub record IsTokenIn (s : State) (key : ℕ) (c : Cap) (token : Object) : Type 0 where
  pub sealed : IsSealedOf s c token
  pub row : Any (IsTokenRow key token.number) s.tokens

-- Of what stands in a register, routines find exactly the key that it is, and exactly the token of a key that it is.
pub record FindsSealed (s : State) : Type 0 where
  pub keys : (t n : ℕ) (key : Object)
      → (key_of s (register (thread s t) n) ≡ Some key)
      ↔ IsKeyIn s (register (thread s t) n) key
  pub tokens : (t n key : ℕ) (token : Object)
      → (token_object s key (register (thread s t) n) ≡ Some token)
      ↔ IsTokenIn s key (register (thread s t) n) token

-- ---- token_open

-- d is c without its seal: root, source, bounds, address and rights stay
pub record IsUnsealedOf (c d : Cap) : Type 0 where
  pub tagged : d.tag ≡ true
  pub unsealed : cap_seal d ≡ 0
  pub shadows : d.shadow ≡ c.shadow
  pub same_base : cap_base d ≡ cap_base c
  pub same_top : cap_top d ≡ cap_top c
  pub same_address : cap_address d ≡ cap_address c
  pub same_rights : cap_perms d ≡ cap_perms c

-- thread t's c10 is a key, and its c11 a token of it
pub record HoldsBoth (s : State) (t : ℕ) (key token : Object) : Type 0 where
  pub key_is : IsKeyIn s (register (thread s t) 10) key
  pub token_is : IsTokenIn s key.number (register (thread s t) 11) token

-- What token_open leaves of a state, where its caller may return: c10 is the token without its seal exactly where the
-- caller holds both, else -7 where it holds no key, and -8 where it holds no token of the key; and no more than an answer
-- changes.
pub record AnswersOpening (s after : State) (t : ℕ) : Type 0 where
  pub opens : (key token : Object) → HoldsBoth s t key token
      → (after ≡ answers s t (opened_token (register (thread s t) 11)))
      × IsUnsealedOf (register (thread s t) 11) (opened_token (register (thread s t) 11))
  pub only : (register (thread after t) 10).tag ≡ true
      → (key : Object) × ((token : Object) × HoldsBoth s t key token)
  pub no_key : ((key : Object) → IsKeyIn s (register (thread s t) 10) key → ⊥)
      → after ≡ answers s t (code NO_KEY)
  pub no_token : (key : Object) → IsKeyIn s (register (thread s t) 10) key
      → ((token : Object) → IsTokenIn s key.number (register (thread s t) 11) token → ⊥)
      → after ≡ answers s t (code NO_TOKEN)

-- a step that carries out token_open answers so
abbrev pub OpensTokens : Platform → State → Type 0
OpensTokens b s =
    (t : ℕ) → MayOpen b (ready b s) t → AnswersOpening (ready b s) (happens b s Step).0 t

-- ---- what stays shut

-- The step of this state carries out token_open, which finds a key in c10, and in c11 the token of it that is the object
-- of number n, and answers that token without its seal.
pub record OpensObject (b : Platform) (s : State) (n : ℕ) : Type 0 where
  pub thread_is : ℕ
  pub may : MayOpen b (ready b s) thread_is
  pub key : Object
  pub token : Object
  pub key_found : key_of (ready b s) (register (thread (ready b s) thread_is) 10) ≡ Some key
  pub token_found : token_object (ready b s) key.number
      (register (thread (ready b s) thread_is) 11) ≡ Some token
  pub number : token.number ≡ n
  pub after : (happens b s Step).0
      ≡ answers (ready b s) thread_is
      (opened_token (register (thread (ready b s) thread_is) 11))

-- An event leaves an object shut that was: nobody comes to hold anything of it but what is sealed as a token, unless
-- the event is the step in which its token is opened.
abbrev pub StaysShut : Platform → State → Event → Type 0
StaysShut b s e =
    (n : ℕ) → n < s.next → Everywhere (ShutTo b.image n) s
    → ((e ≡ Step) × OpensObject b s n) ⊎ Everywhere (ShutTo b.image n) (happens b s e).0
