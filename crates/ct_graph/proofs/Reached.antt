-- Who owns a row reaches, among compartments that have entries, what the definitions of reach say.
use Rattle.std.proofs.Common.{◌≡◌, ℕ, true, false, List, [], ◌∷◌, refl, ap, sym, subst}
use Rattle.std.proofs.lemmas.Bool.{both_ways}
use Rattle.ct_entry.specs.declared.rows.Owner.{Owner}
use Rattle.ct_entry.specs.declared.rows.Owner.TheVariants.{Trusted, Compartment, Library, Thread}
use Rattle.ct_entry.specs.Listed.{Listed}
use Rattle.def_reach.specs.Sharing.{Imports, IsLibrary, IsEdgeList, Reaches}
use Rattle.def_reach.specs.Reach.{has_entry, Reached}
use Rattle.ct_graph.proofs.Transfer.{owner_listed}
use Rattle.ct_graph.proofs.Graphs.{ends_listed}

-- a list of edges ends in a compartment with entries where it begins in one
end_listed : (e : Listed) (a : ℕ) (xs : List ℕ) (b : ℕ) → IsEdgeList e a xs b → has_entry e.rows (Compartment a) ≡ true → has_entry e.rows (Compartment b) ≡ true
end_listed e a [] b h has = subst (λ n. has_entry e.rows (Compartment n) ≡ true) h has
end_listed e a (x ∷ xs) b h has = end_listed e x xs b h.1 (ends_listed e a x h.0).1

-- who imports on the way to an owner with entries has entries
start_listed : (e : Listed) (a : ℕ) (xs : List Owner) (o : Owner) → Imports e (Compartment a) xs o → has_entry e.rows o ≡ true → has_entry e.rows (Compartment a) ≡ true
start_listed e a [] o h has = subst (λ p. has_entry e.rows p ≡ true) (sym h) has
start_listed e a (x ∷ xs) o h has = owner_listed e h.0.import (Compartment a) refl h.0.importer

reached_listed : (e : Listed) (o : Owner) (b : ℕ) → has_entry e.rows o ≡ true → Reaches e o b → has_entry e.rows (Compartment b) ≡ true
reached_listed e o b has r = end_listed e r.by r.joined.members b r.joined.leads (start_listed e r.by r.through o r.imports has)

-- imports lead from a compartment to it itself or to libraries
only_libraries : (e : Listed) (a : Owner) (xs : List Owner) (o : Owner) → Imports e a xs o → IsLibrary a → IsLibrary o
only_libraries e a [] o h lib = subst IsLibrary h lib
only_libraries e a (x ∷ xs) o h lib = only_libraries e x xs o h.1 h.0.is_library

pub trusted_reaches_none : (e : Listed) (b : ℕ) → Reaches e Trusted b → ⊥
trusted_reaches_none e b r = from r.by r.through r.imports
  where
    from : (a : ℕ) (xs : List Owner) → Imports e (Compartment a) xs Trusted → ⊥
    from a [] h = cc
    from a (x ∷ xs) h = only_libraries e x xs Trusted h.1 h.0.is_library

pub thread_reaches_none : (e : Listed) (t b : ℕ) → Reaches e (Thread t) b → ⊥
thread_reaches_none e t b r = from r.by r.through r.imports
  where
    from : (a : ℕ) (xs : List Owner) → Imports e (Compartment a) xs (Thread t) → ⊥
    from a [] h = cc
    from a (x ∷ xs) h = only_libraries e x xs (Thread t) h.1 h.0.is_library

-- what the graph answers of a compartment or a library
pub reaches_of : (e : Listed) (o : Owner) (b : ℕ) → (o ≡ Trusted → ⊥) → Reached e o b → Reaches e o b
reaches_of e (Compartment a) b n r = r.2
reaches_of e (Library l) b n r = r.2
reaches_of e Trusted b n r = absurd (n refl)
reaches_of e (Thread t) b n r = absurd r

pub reached_of : (e : Listed) (o : Owner) (b : ℕ) → has_entry e.rows o ≡ true → Reaches e o b → Reached e o b
reached_of e (Compartment a) b has r = (has, reached_listed e (Compartment a) b has r, r)
reached_of e (Library l) b has r = (has, reached_listed e (Library l) b has r, r)
reached_of e Trusted b has r = absurd (trusted_reaches_none e b r)
reached_of e (Thread t) b has r = absurd (thread_reaches_none e t b r)
