-- The owners of a graph: compartments and libraries that own a row, each once and in order.
use Rattle.std.specs.Prelude.{ℕ, ◌≡◌, ◌<◌, ◌≤◌, ◌++◌, ◌||◌, ◌⊎◌, Bool, true, false, List, [], ◌∷◌, map, length, take, drop, if◌then◌else◌, slice_index_or}
use Rattle.std.specs.List.{list_any}
use Rattle.ct_entry.specs.declared.rows.Owner.{Owner}
use Rattle.ct_entry.specs.declared.rows.Owner.TheVariants.{Trusted}
use Rattle.ct_entry.specs.Kinds.{is_compartment, is_library}
use Rattle.ct_entry.specs.Listed.{Listed}
use Rattle.def_reach.specs.Reach.{same_owner}
use Rattle.def_reach.specs.Route.{precedes}
use Rattle.ct_graph.specs.declared.links.Link.{Link}
use Rattle.ct_graph.specs.Links.{links_of, goes, steps}
use Rattle.ct_graph.specs.Cells.{cell, far, Walks, IsDistance}

abbrev pub is_node : Owner → Bool
is_node o = is_compartment o || is_library o

abbrev pub with_node : Owner → List Owner → List Owner
with_node o [] = o ∷ []
with_node o (n ∷ ns) =
    if precedes n o then n ∷ with_node o ns else (if same_owner n o then n ∷ ns else o ∷ n ∷ ns)

abbrev pub nodes_of : List Link → List Owner
nodes_of [] = []
nodes_of (l ∷ ls) = if is_node l.owner then with_node l.owner (nodes_of ls) else nodes_of ls

-- where an owner belongs: before it stand exactly those that precede it
pub record IsPlaceFor (o : Owner) (ns : List Owner) (i : ℕ) : Type 0 where
  pub inside : i ≤ length ns
  pub split : with_node o ns ≡ take i ns ++ with_node o (drop i ns)
  pub stops : (z : Owner) → i < length ns → precedes (slice_index_or ns i z) o ≡ false

-- where an owner stands
pub record IsNode (ns : List Owner) (o : Owner) (i : ℕ) : Type 0 where
  pub inside : i < length ns
  pub here : (z : Owner) → slice_index_or ns i z ≡ o

abbrev pub node : List Owner → ℕ → Owner
node ns i = slice_index_or ns i Trusted

-- the same row by row, over the nodes and the links of each
abbrev pub row_of : Owner → List Link → List Owner → List (List Link) → List Bool
row_of a from [] ls = []
row_of a from (b ∷ bs) [] = []
row_of a from (b ∷ bs) (to ∷ ls) = steps a from b to ∷ row_of a from bs ls

abbrev pub rows_of : List Owner → List (List Link) → List Owner → List (List Link)
    → List (List Bool)
rows_of ns all [] ls = []
rows_of ns all (a ∷ rest) [] = []
rows_of ns all (a ∷ rest) (from ∷ ls) = row_of a from ns all ∷ rows_of ns all rest ls

-- who has a step to whom
unfoldable pub matrix_of : Listed → List Owner → List (List Bool)
matrix_of e ns = map (λ a. map (goes e a) ns) ns

-- for each place, how far each is from it
pub record AllDistances (steps : List (List Bool)) (all : List (List ℕ)) : Type 0 where
  pub rows : length all ≡ length steps
  pub each : (b : ℕ) → b < length steps
      → IsDistance (cell steps) (length steps) b (slice_index_or all b [])

-- what a graph keeps of its entries
pub record IsGraph (e : Listed) (ns : List Owner) (steps : List (List Bool))
    (far : List (List ℕ)) : Type 0 where
  pub few : length ns < 4294967296
  pub nodes : ns ≡ nodes_of (links_of e)
  pub steps_are : steps ≡ matrix_of e ns
  pub distances : AllDistances steps far

-- each place has a row of so many distances
abbrev pub HasRows : ℕ → List (List ℕ) → Type 0
HasRows n far = (length far ≡ n) × ((b : ℕ) → b < n → length (slice_index_or far b []) ≡ n)

-- an owner and a target stand at these places, and the first has a distance to the second
pub record IsNear (ns : List Owner) (all : List (List ℕ)) (o target : Owner) (i k : ℕ) : Type 0
  where
    pub start : IsNode ns o i
    pub end : IsNode ns target k
    pub known : far (length ns) (slice_index_or all k []) i < length ns

-- they stand at these places, and the first has no distance to the second
pub record IsFarOff (ns : List Owner) (all : List (List ℕ)) (o target : Owner) : Type 0 where
  pub i : ℕ
  pub k : ℕ
  pub start : IsNode ns o i
  pub end : IsNode ns target k
  pub never : length ns ≤ far (length ns) (slice_index_or all k []) i

abbrev pub stands_among : List Owner → Owner → Bool
stands_among ns o = list_any (λ (n : Owner). same_owner n o) ns

-- one of them doesn't stand among the nodes, or there is no distance
abbrev pub NotNear : List Owner → List (List ℕ) → Owner → Owner → Type 0
NotNear ns all o target =
    (stands_among ns o ≡ false) ⊎ (stands_among ns target ≡ false) ⊎ IsFarOff ns all o target

-- the owners on a walk from o to the target
pub record IsRoute (ns : List Owner) (steps : List (List Bool)) (all : List (List ℕ))
    (o target : Owner) (owners : List Owner) : Type 0 where
  pub i : ℕ
  pub k : ℕ
  pub places : List ℕ
  pub near : IsNear ns all o target i k
  pub walks : Walks (cell steps) (length ns) (slice_index_or all k []) i places k
  pub named : owners ≡ o ∷ map (node ns) places

-- two owners stand at these places, and the first has a step to the second
pub record HasStep (ns : List Owner) (steps : List (List Bool)) (a b : Owner) : Type 0 where
  pub i : ℕ
  pub k : ℕ
  pub start : IsNode ns a i
  pub end : IsNode ns b k
  pub goes : cell steps i k ≡ true

-- they stand at these places, and the first has no step to the second
pub record StaysOff (ns : List Owner) (steps : List (List Bool)) (a b : Owner) : Type 0 where
  pub i : ℕ
  pub k : ℕ
  pub start : IsNode ns a i
  pub end : IsNode ns b k
  pub stays : cell steps i k ≡ false

-- one of them doesn't stand among the nodes, or there is no step
abbrev pub NoStep : List Owner → List (List Bool) → Owner → Owner → Type 0
NoStep ns steps a b =
    (stands_among ns a ≡ false) ⊎ (stands_among ns b ≡ false) ⊎ StaysOff ns steps a b
