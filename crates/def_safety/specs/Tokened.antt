-- *Tokens*: what holds of keys and tokens in every state that a machine comes to.
use Rattle.std.specs.Prelude.{ℕ, ◌≡◌, ◌+◌, ◌<◌, true, List, Some, None}
use Rattle.def_profile.specs.declared.seals.TheConstants.{TOKEN_TYPE}
use Rattle.def_words.specs.declared.Cap.{Cap}
use Rattle.def_words.specs.Authority.{cap_base, cap_top}
use Rattle.def_words.specs.Seals.{cap_seal}
use Rattle.def_machine.specs.Image.{Image}
use Rattle.def_machine.specs.State.{State, Object, Token}
use Rattle.def_machine.specs.Objects.{Any, Each}
use Rattle.def_confined.specs.Capabilities.{heap_cap}
use Rattle.def_confined.specs.Places.{Covers}
use Rattle.def_safety.specs.Everywhere.{Everywhere}

-- ---- rows

-- the row of the object of this number
abbrev pub HasNumber : ℕ → Token → Type 0
HasNumber n k = k.number ≡ n

-- that object is a key
abbrev pub IsKeyRow : ℕ → Token → Type 0
IsKeyRow n k = (k.number ≡ n) × (k.key ≡ None)

-- that object is a token of the key of another number
abbrev pub IsTokenRow : ℕ → ℕ → Token → Type 0
IsTokenRow key n k = (k.number ≡ n) × (k.key ≡ Some key)

-- a key has a row as long as a token's row names it
abbrev pub KeysNamed : List Token → Type 0
KeysNamed tokens = (key n : ℕ) → Any (IsTokenRow key n) tokens → Any (IsKeyRow key) tokens

-- ---- capabilities

-- r is the whole object of a capability that is sealed as a token; if it is live it has a row
pub record IsWhole (tokens : List Token) (c : Cap) (r : Object) : Type 0 where
  pub covers : Covers c r
  pub low : cap_base c ≡ r.base
  pub high : cap_top c ≡ r.base + r.length
  pub row : r.live ≡ true → Any (HasNumber r.number) tokens

-- what is sealed as a token is of a whole object, live or quarantined
abbrev pub TokenFits : Image → List Object → List Token → Cap → Type 0
TokenFits i objects tokens c =
    c.tag ≡ true → cap_seal c ≡ TOKEN_TYPE → (heap_cap i c ≡ true) × Any (IsWhole tokens c) objects

-- what isn't empty of the object of this number is sealed as a token
abbrev pub ShutTo : Image → ℕ → Cap → Type 0
ShutTo i n c =
    c.tag ≡ true → heap_cap i c ≡ true → cap_base c < cap_top c → c.shadow.source ≡ n
    → cap_seal c ≡ TOKEN_TYPE

-- so is what isn't empty of each key
abbrev pub KeysShut : Image → List Token → Cap → Type 0
KeysShut i tokens c = (n : ℕ) → Any (IsKeyRow n) tokens → ShutTo i n c

-- ---- a state

-- No object is empty; a key that a token's row names has a row; each tagged capability that is sealed as a token is of a
-- whole object, and of a live one's row; and of a key nobody holds anything but what is sealed so.
pub record Tokened (i : Image) (s : State) : Type 0 where
  pub some : Each (λ (r : Object). 0 < r.length) s.objects
  pub named : KeysNamed s.tokens
  pub tokens : Everywhere (TokenFits i s.objects s.tokens) s
  pub keys : Everywhere (KeysShut i s.tokens) s
