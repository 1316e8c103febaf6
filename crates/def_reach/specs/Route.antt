-- The certificate of reach: a path that a reader checks against the report.
use Rattle.std.specs.Prelude.{ℕ, ◌≡◌, ◌≢◌, ◌<◌, ◌⊎◌, Bool, true, false, nat_lt, List, [], ◌∷◌, length}
use Rattle.ct_entry.specs.declared.rows.Owner.{Owner}
use Rattle.ct_entry.specs.declared.rows.Owner.TheVariants.{Compartment, Library}
use Rattle.ct_entry.specs.Listed.{Listed}
use Rattle.def_reach.specs.Sharing.{Edge, Brings}

-- two different compartments with an edge
abbrev pub Neighbours : Listed → Owner → Owner → Type 0
Neighbours e (Compartment a) (Compartment b) = (a ≢ b) × Edge e a b
Neighbours e _ _ = ⊥

-- a step of a path: from a library to what imports it, or along an edge
abbrev pub Step : Listed → Owner → Owner → Type 0
Step e a b = Brings e b a ⊎ Neighbours e a b

-- from a to b by steps: these are the members after a, and the last of them is b
abbrev pub IsWay : Listed → Owner → List Owner → Owner → Type 0
IsWay e a [] b = a ≡ b
IsWay e a (x ∷ xs) b = Step e a x × IsWay e x xs b

-- the order in which the least path is least: compartments by number, and after them libraries by number
abbrev pub precedes : Owner → Owner → Bool
precedes (Compartment a) (Compartment b) = nat_lt a b
precedes (Compartment a) (Library b) = true
precedes (Library a) (Library b) = nat_lt a b
precedes _ _ = false

abbrev pub IsLeft : List Owner → List Owner → Type 0
IsLeft [] ys = Unit {0}
IsLeft (x ∷ xs) [] = ⊥
IsLeft (x ∷ xs) (y ∷ ys) = (precedes x y ≡ true) ⊎ ((x ≡ y) × IsLeft xs ys)

-- fewer members, or as many and the least from the left
abbrev pub Before : List Owner → List Owner → Type 0
Before xs ys = (length xs < length ys) ⊎ ((length xs ≡ length ys) × IsLeft xs ys)

-- the list of owners from o to the compartment b that comes before all others
pub record IsPath (e : Listed) (o : Owner) (b : ℕ) (owners : List Owner) : Type 0 where
  pub members : List Owner
  pub starts : owners ≡ o ∷ members
  pub leads : IsWay e o members (Compartment b)
  pub first : (ys : List Owner) → IsWay e o ys (Compartment b) → Before members ys
