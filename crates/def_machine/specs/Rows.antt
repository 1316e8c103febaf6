-- How rows of keys and tokens stand to the objects of the heap.
use Rattle.std.specs.Prelude.{ℕ, ◌≡◌, true, List, [], ◌∷◌}
use Rattle.def_machine.specs.State.{Object, Token}
use Rattle.def_machine.specs.Objects.{Any, Each}

-- a live object of this number
abbrev pub IsLiveOf : ℕ → Object → Type 0
IsLiveOf n r = (r.live ≡ true) × (r.number ≡ n)

-- a row of another object than the one of this number
abbrev pub IsApart : ℕ → Token → Type 0
IsApart n k = k.number ≡ n → ⊥

-- no two are of one
abbrev pub RowsDiffer : List Token → Type 0
RowsDiffer [] = Unit {0}
RowsDiffer (k ∷ ks) = Each (IsApart k.number) ks × RowsDiffer ks

-- no two rows are of one object; each is of a live one
pub record RowsFit (objects : List Object) (tokens : List Token) : Type 0 where
  pub differ : RowsDiffer tokens
  pub live : Each (λ (k : Token). Any (IsLiveOf k.number) objects) tokens
