-- Reach among compartments is an equivalence, and what an owner reaches is a union of its classes.
use Rattle.std.specs.Prelude.{ℕ, ◌≡◌, true}
use Rattle.ct_entry.specs.declared.rows.Owner.{Owner}
use Rattle.ct_entry.specs.declared.rows.Owner.TheVariants.{Compartment}
use Rattle.ct_entry.specs.Listed.{Listed}
use Rattle.def_reach.specs.Reach.{has_entry, Reached}

abbrev pub IsReflexive : Listed → Type 0
IsReflexive e = (a : ℕ) → has_entry e.rows (Compartment a) ≡ true → Reached e (Compartment a) a

abbrev pub IsSymmetric : Listed → Type 0
IsSymmetric e = (a b : ℕ) → Reached e (Compartment a) b → Reached e (Compartment b) a

abbrev pub IsTransitive : Listed → Type 0
IsTransitive e =
    (a b c : ℕ) → Reached e (Compartment a) b → Reached e (Compartment b) c
    → Reached e (Compartment a) c

-- whoever reaches a compartment reaches its whole component
abbrev pub ReachesComponents : Listed → Type 0
ReachesComponents e =
    (o : Owner) (a b : ℕ) → Reached e o a → Reached e (Compartment a) b → Reached e o b
