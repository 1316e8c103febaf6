-- *Tokens*: keys that firmware makes, and the objects that they open. A key and a token are objects of the heap whose
-- capabilities are sealed with a type that no key of an import table opens.
use Rattle.std.specs.Prelude.{ℕ, ◌+◌, ◌==◌, ◌&&◌, ◌∷◌, [], Bool, false, cond, find, nat_lt, List, Option, Some, None, if◌then◌else◌}
use Rattle.std.specs.List.{list_any}
use Rattle.def_profile.specs.declared.answers.TheConstants.{NO_OBJECT, NO_KEY, NO_TOKEN}
use Rattle.def_profile.specs.declared.seals.TheConstants.{TOKEN_TYPE}
use Rattle.def_words.specs.declared.Cap.{Cap}
use Rattle.def_words.specs.Authority.{cap_address, cap_base, cap_top}
use Rattle.def_words.specs.Capability.{cap_of, word_sealed}
use Rattle.def_words.specs.Derive.{sealed_as}
use Rattle.def_words.specs.Seals.{cap_seal}
use Rattle.def_machine.specs.Image.{Image}
use Rattle.def_machine.specs.State.{State, Object, Token, thread, register}
use Rattle.def_machine.specs.Heap.{object_cap}
use Rattle.def_step.specs.Switch.{return_checks}
use Rattle.def_step.specs.Routines.{Ran, tells, checked, code}
use Rattle.def_step.specs.Quotas.{Allocation, Refused, Made, allocation, by_quota, quota_in, hands_out, gives_back}

-- ---- rows

abbrev pub is_key_row : ℕ → Token → Bool
is_key_row n k = (k.number == n) && no_key k.key
  where
    no_key : Option ℕ → Bool
    no_key None = Bool.true
    no_key (Some key) = false

abbrev pub is_row_of : ℕ → ℕ → Token → Bool
is_row_of key n k = (k.number == n) && of_key k.key
  where
    of_key : Option ℕ → Bool
    of_key None = false
    of_key (Some other) = other == key

-- ---- capabilities

abbrev pub sealed_token : Object → Cap
sealed_token r = sealed_as (object_cap r) TOKEN_TYPE

-- without its seal; all other bits, root and source stay
abbrev pub opened_token : Cap → Cap
opened_token c = cap_of c.tag (word_sealed c 0) c.shadow

-- the live object with the bounds of a capability that is sealed so
abbrev pub is_all_of : Cap → Object → Bool
is_all_of c r = r.live && (r.base == cap_base c) && (r.base + r.length == cap_top c)

abbrev pub sealed_object : List Object → Cap → Option Object
sealed_object objects c =
    if c.tag && (cap_seal c == TOKEN_TYPE) then find (is_all_of c) objects else None

-- the live key of a capability, and the live token of it that was made with this key
abbrev pub as_key : List Token → Option Object → Option Object
as_key tokens None = None
as_key tokens (Some r) = if list_any (is_key_row r.number) tokens then Some r else None

abbrev pub as_token : List Token → ℕ → Option Object → Option Object
as_token tokens key None = None
as_token tokens key (Some r) = if list_any (is_row_of key r.number) tokens then Some r else None

abbrev pub key_of : State → Cap → Option Object
key_of s c = as_key s.tokens (sealed_object s.objects c)

abbrev pub token_object : State → ℕ → Cap → Option Object
token_object s key c = as_token s.tokens key (sealed_object s.objects c)

-- ---- 9 and 10, a key and a token

-- a row among those that stand by their numbers
abbrev pub row_among : Token → List Token → List Token
row_among k [] = k ∷ []
row_among k (q ∷ qs) = cond (nat_lt k.number q.number) (k ∷ q ∷ qs) (q ∷ row_among k qs)

-- a new object with a row: a key's has none, a token's its key
abbrev pub with_row : State → Object → Option ℕ → State
with_row s r key =
    record s { tokens = row_among (record { number = r.number; key = key }) s.tokens }

abbrev pub made_token : State → ℕ → Option ℕ → Allocation → Ran
made_token s t key (Refused n) = tells s t (code n)
made_token s t key (Made r) = hands_out (with_row s r key) t r (sealed_token r)

abbrev pub token_key : Image → State → ℕ → Ran
token_key i s t = by_quota s t (made_token s t None (allocation i s (quota_in s t) 8))

-- -7 where the argument is no live key
abbrev pub by_key : State → ℕ → Option Object → (ℕ → Ran) → Ran
by_key s t None ran = tells s t (code NO_KEY)
by_key s t (Some key) ran = ran key.number

abbrev pub token_new : Image → State → ℕ → Ran
token_new i s t = by_quota s t (by_key s t (key_of s (register (thread s t) 12))
    (λ key.
    made_token s t (Some key)
    (allocation i s (quota_in s t) (cap_address (register (thread s t) 11)))))

-- ---- 11, token_open

-- -8 where the argument is no live token of the key
abbrev pub opens : State → ℕ → Cap → Option Object → Ran
opens s t c None = tells s t (code NO_TOKEN)
opens s t c (Some r) = tells s t (opened_token c)

abbrev pub token_open : State → ℕ → Ran
token_open s t =
    checked (return_checks (register (thread s t) 1))
    (by_key s t (key_of s (register (thread s t) 10))
    (λ key. opens s t (register (thread s t) 11) (token_object s key (register (thread s t) 11))))

-- ---- 12, token_free

-- -6 where the token isn't charged to this quota
abbrev pub frees_token : Image → State → ℕ → ℕ → Option Object → Ran
frees_token i s t quota None = tells s t (code NO_TOKEN)
frees_token i s t quota (Some r) =
    if r.quota == quota then gives_back i s t r else tells s t (code NO_OBJECT)

abbrev pub token_free : Image → State → ℕ → Ran
token_free i s t = by_quota s t (by_key s t (key_of s (register (thread s t) 11))
    (λ key. frees_token i s t (quota_in s t) (token_object s key (register (thread s t) 12))))
