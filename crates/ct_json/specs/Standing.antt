-- What nodes stand for, whatever nodes follow them, and what is read from tokens.
use Rattle.std.specs.Prelude.{◌≡◌, ℕ, ◌*◌, ◌<◌, ◌≤◌, List, ◌++◌, length, Option, Some}
use Rattle.json.specs.Json.{items, members, value}
use Rattle.json.specs.Token.{Token}
use Rattle.serde_json.specs.Data.{Data, Items, Members, no_members}
use Rattle.serde_json.specs.Read.{converted, of_items, of_json, of_members}
use Rattle.ct_json.specs.Rows.{Row, put_all, span, value_in, items_in, pairs_in}

-- the nodes are the value, and no more
pub record AreValue (rows : List Row) (d : Data) : Type 0 where
  pub some : 0 < length rows
  pub span : (more : List Row) → span (rows ++ more) ≡ length rows
  pub value : (turns : ℕ) (more : List Row) → 2 * length rows ≤ turns
      → value_in turns (rows ++ more) ≡ d

-- the nodes are the items
abbrev pub AreItems : List Row → Items → Type 0
AreItems rows ds = (turns : ℕ) (more : List Row) → 2 * length rows < turns
    → items_in turns (length rows) (rows ++ more) ≡ ds

-- the nodes are the members
abbrev pub AreMembers : List Row → Members → Type 0
AreMembers rows ms = (turns : ℕ) (more : List Row) → 2 * length rows < turns
    → put_all (pairs_in turns (length rows) (rows ++ more)) no_members ≡ ms

-- the value that tokens begin with, and what follows it
abbrev pub value_read : ℕ → List Token → Option (Data × List Token)
value_read depth ts = converted of_json (value depth ts)

-- the items up to the bracket that closes their list
abbrev pub items_read : ℕ → List Token → Option (Items × List Token)
items_read depth ts = converted of_items (items (value depth) (length ts) ts)

-- the members up to the brace that closes their object
abbrev pub members_read : ℕ → List Token → Option (Members × List Token)
members_read depth ts =
    converted (λ ms. of_members ms no_members) (members (value depth) (length ts) ts)

-- The nodes that were added stand for what was read, and the rest of the tokens is still to come.
pub record Adds {A : Type 0} (Are : List Row → A → Type 0) (outcome : Option (A × List Token))
    (old new : List Row) (rest : List Token) : Type 0 where
  pub rows : List Row
  pub content : A
  pub are : Are rows content
  pub answer : outcome ≡ Some (content, rest)
  pub growth : new ≡ old ++ rows
