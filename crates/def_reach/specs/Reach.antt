-- Whom each owner reaches, the trusted part and threads included.
use Rattle.std.specs.Prelude.{ℕ, ◌≡◌, ◌==◌, Bool, true, false, List}
use Rattle.std.specs.List.{list_any}
use Rattle.ct_entry.specs.declared.rows.Entry.{Entry}
use Rattle.ct_entry.specs.declared.rows.Owner.{Owner}
use Rattle.ct_entry.specs.declared.rows.Owner.TheVariants.{Trusted, Compartment, Library, Thread}
use Rattle.ct_entry.specs.Listed.{Listed}
use Rattle.def_reach.specs.Sharing.{Reaches}

abbrev pub same_owner : Owner → Owner → Bool
same_owner Trusted Trusted = true
same_owner (Compartment a) (Compartment b) = a == b
same_owner (Library a) (Library b) = a == b
same_owner (Thread a) (Thread b) = a == b
same_owner _ _ = false

abbrev pub has_entry : List Entry → Owner → Bool
has_entry rows o = list_any (λ (r : Entry). same_owner r.owner o) rows

-- A compartment or a library reaches what a list of imports and edges joins it to; the trusted part reaches
-- every compartment, a thread by itself none. Neither an owner nor a compartment without an entry counts.
abbrev pub Reached : Listed → Owner → ℕ → Type 0
Reached e Trusted b = has_entry e.rows (Compartment b) ≡ true
Reached e (Compartment a) b =
    (has_entry e.rows (Compartment a) ≡ true) × (has_entry e.rows (Compartment b) ≡ true)
    × Reaches e (Compartment a) b
Reached e (Library l) b =
    (has_entry e.rows (Library l) ≡ true) × (has_entry e.rows (Compartment b) ≡ true)
    × Reaches e (Library l) b
Reached e (Thread t) b = ⊥
