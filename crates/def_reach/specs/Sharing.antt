-- *Sharing graph* and *Reach*. Compartments are named by their index. That one reaches another is the
-- existence of a list of edges.
use Rattle.std.specs.Prelude.{ℕ, ◌≡◌, ◌⊎◌, true, List, [], ◌∷◌}
use Rattle.ct_entry.specs.declared.rows.Owner.{Owner}
use Rattle.ct_entry.specs.declared.rows.Owner.TheVariants.{Compartment, Library}
use Rattle.ct_entry.specs.declared.rows.Kind.TheVariants.{Shared, Call}
use Rattle.ct_entry.specs.declared.rows.Kind.TheVariants as kind
use Rattle.ct_entry.specs.Listed.{Listed}
use Rattle.def_words.specs.Permissions.{bit, memory_capability}
use Rattle.def_reach.specs.Roots.{Listing, root_of}

-- compartment a imports an export of compartment b that passes capabilities
pub record Calls (e : Listed) (a b : ℕ) : Type 0 where
  pub import : ℕ
  pub kind_is : (root_of e import).origin ≡ Listing Call
  pub caller : (root_of e import).owner ≡ Compartment a
  pub callee : (root_of e (root_of e import).of).owner ≡ Compartment b
  pub passes : (root_of e (root_of e import).of).passes ≡ true

-- compartment a imports this shared object with letter C
pub record SharesC (e : Listed) (object a : ℕ) : Type 0 where
  pub import : ℕ
  pub kind_is : (root_of e import).origin ≡ Listing Shared
  pub importer : (root_of e import).owner ≡ Compartment a
  pub object_is : (root_of e import).of ≡ object
  pub capabilities : bit (root_of e import).rights memory_capability ≡ true

-- an edge, from either end
abbrev pub Edge : Listed → ℕ → ℕ → Type 0
Edge e a b = Calls e a b ⊎ Calls e b a ⊎ ((object : ℕ) × SharesC e object a × SharesC e object b)

-- the members after a are a list of edges from a to b
abbrev pub IsEdgeList : Listed → ℕ → List ℕ → ℕ → Type 0
IsEdgeList e a [] b = a ≡ b
IsEdgeList e a (x ∷ xs) b = Edge e a x × IsEdgeList e x xs b

-- compartment a reaches compartment b
pub record Joined (e : Listed) (a b : ℕ) : Type 0 where
  pub members : List ℕ
  pub leads : IsEdgeList e a members b

abbrev pub IsLibrary : Owner → Type 0
IsLibrary (Library l) = Unit {0}
IsLibrary _ = ⊥

-- an owner imports a library
pub record Brings (e : Listed) (o library : Owner) : Type 0 where
  pub is_library : IsLibrary library
  pub import : ℕ
  pub kind_is : (root_of e import).origin ≡ Listing kind.Library
  pub importer : (root_of e import).owner ≡ o
  pub library_is : (root_of e (root_of e import).of).owner ≡ library

-- a list of imports leads from one owner to another
abbrev pub Imports : Listed → Owner → List Owner → Owner → Type 0
Imports e o [] library = o ≡ library
Imports e o (x ∷ xs) library = Brings e o x × Imports e x xs library

-- *Reach*: a compartment that an owner is, or that imports a library on the way to it, reaches the compartment
pub record Reaches (e : Listed) (o : Owner) (b : ℕ) : Type 0 where
  pub by : ℕ
  pub through : List Owner
  pub imports : Imports e (Compartment by) through o
  pub joined : Joined e by b
