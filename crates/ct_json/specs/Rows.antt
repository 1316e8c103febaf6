-- The value that a list of nodes begins with.
use Rattle.std.specs.Prelude.{ℕ, zero, suc, ◌+◌, ◌-◌, ◌*◌, List, [], ◌∷◌, Bool, length, drop, option_map, unwrap_or}
use Rattle.serde_json.specs.Data as value
use Rattle.serde_json.specs.Data.{Data, Items, Members, put}
use Rattle.serde_json.specs.Read.{number_of}
use Rattle.ct_json.specs.declared.node.Node.{Node}
use Rattle.ct_json.specs.declared.node.Node.TheVariants as node

-- a node, with the bytes of its text
pub data Row : Type 0 where
  null : Row
  boolean : Bool → Row
  number : List ℕ → Row
  text : List ℕ → Row
  list : ℕ → Row
  object : ℕ → Row
  key : List ℕ → Row

abbrev pub row : Node → Row
row node.Null = null
row (node.Bool b) = boolean b
row (node.Number s) = number s.now
row (node.Text s) = text s.now
row (node.List n) = list n
row (node.Object n) = object n
row (node.Key s) = key s.now

-- how many nodes stand inside a node
abbrev pub inside : Row → ℕ
inside (list n) = n
inside (object n) = n
inside x = 0

-- how many nodes the first value takes
abbrev pub span : List Row → ℕ
span [] = 0
span (x ∷ xs) = suc (inside x)

-- the members go in one after another, so the last value of a key stays
abbrev pub put_all : List (List ℕ × Data) → Members → Members
put_all [] before = before
put_all (p ∷ ps) before = put_all ps (put p.0 p.1 before)

-- the value that a node begins, by the items or the members that stand inside it
abbrev pub value_holding : Row → Items → List (List ℕ × Data) → Data
value_holding null ds ps = value.null
value_holding (boolean b) ds ps = value.boolean b
value_holding (number s) ds ps =
    unwrap_or (option_map value.number (number_of s)) value.null
value_holding (text s) ds ps = value.string s
value_holding (list n) ds ps = value.array ds
value_holding (object n) ds ps = value.object (put_all ps value.no_members)
value_holding (key s) ds ps = value.null

-- The first number bounds the turns; twice the count of the nodes is always enough. The second is how
-- many nodes are left of the list or object.
abbrev mutual
  pub value_in : ℕ → List Row → Data
  value_in zero xs = value.null
  value_in (suc f) [] = value.null
  value_in (suc f) (x ∷ xs) =
      value_holding x (items_in f (inside x) xs) (pairs_in f (inside x) xs)

  pub items_in : ℕ → ℕ → List Row → Items
  items_in zero n xs = value.no_items
  items_in (suc f) zero xs = value.no_items
  items_in (suc f) (suc n) [] = value.no_items
  items_in (suc f) (suc n) (x ∷ xs) =
      value.item (value_in f (x ∷ xs)) (items_in f (n - inside x) (drop (inside x) xs))

  -- the members, each with its key, in the order of the text
  pub pairs_in : ℕ → ℕ → List Row → List (List ℕ × Data)
  pairs_in zero n xs = []
  pairs_in (suc f) zero xs = []
  pairs_in (suc f) (suc n) [] = []
  pairs_in (suc f) (suc n) (key s ∷ xs) =
      (s, value_in f xs) ∷ pairs_in f (n - span xs) (drop (span xs) xs)
  pairs_in (suc f) (suc n) (x ∷ xs) = []

-- the value that a list of nodes begins with; null where there is none
unfoldable pub value_of : List Row → Data
value_of xs = value_in (2 * length xs) xs

-- the items that n nodes are
unfoldable pub items_of : ℕ → List Row → Items
items_of n xs = items_in (2 * length xs + 1) n xs

-- the members that n nodes are, each with its key, in the order of the text
unfoldable pub pairs_of : ℕ → List Row → List (List ℕ × Data)
pairs_of n xs = pairs_in (2 * length xs + 1) n xs

-- the value that a node begins, with the nodes that follow it
abbrev pub value_at : Row → List Row → Data
value_at x xs = value_holding x (items_of (inside x) xs) (pairs_of (inside x) xs)
