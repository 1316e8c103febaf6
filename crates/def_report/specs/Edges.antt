-- The edges of the *Sharing graph*, by a test of the entries.
use Rattle.std.specs.Prelude.{ℕ, ◌+◌, ◌-◌, ◌==◌, ◌&&◌, ◌||◌, Bool, not, List, [], ◌∷◌, if◌then◌else◌}
use Rattle.std.specs.List.{list_any, flat_map, range_with_len}
use Rattle.ct_entry.specs.declared.rows.Entry.{Entry}
use Rattle.ct_entry.specs.declared.rows.Owner.TheVariants.{Compartment}
use Rattle.ct_entry.specs.Kinds.{is_call, is_shared}
use Rattle.ct_entry.specs.Listed.{Listed}
use Rattle.def_words.specs.Permissions.{bit, memory_capability}
use Rattle.def_reach.specs.Roots.{root_of}
use Rattle.def_reach.specs.Reach.{same_owner}

abbrev pub is_owned_by : ℕ → Entry → Bool
is_owned_by a r = same_owner r.owner (Compartment a)

-- an import of an export of compartment b that passes capabilities
abbrev pub passes_to : Listed → ℕ → Entry → Bool
passes_to e b r =
    is_call r.kind && (same_owner (root_of e r.of).owner (Compartment b) && (root_of e r.of).passes)

abbrev pub calls : Listed → ℕ → ℕ → Bool
calls e a b = list_any (λ (r : Entry). is_owned_by a r && passes_to e b r) e.rows

-- an import of a shared object with letter C
abbrev pub carries : Entry → Bool
carries r = is_shared r.kind && bit r.rights memory_capability

abbrev pub holds_object : Listed → ℕ → ℕ → Bool
holds_object e b object = list_any (λ (r : Entry). is_owned_by b r && (carries r && (r.of == object))) e.rows

abbrev pub share : Listed → ℕ → ℕ → Bool
share e a b = list_any (λ (r : Entry). is_owned_by a r && (carries r && holds_object e b r.of)) e.rows

-- two different compartments with an edge: one calls the other so that capabilities pass, or both import one shared
-- object with letter C
unfoldable pub are_joined : Listed → ℕ → ℕ → Bool
are_joined e a b = not (a == b) && (calls e a b || (calls e b a || share e a b))

-- the edge of two compartments, where there is one
abbrev pub edge_of : Listed → ℕ → ℕ → List (ℕ × ℕ)
edge_of e a b = if are_joined e a b then (a, b) ∷ [] else []

-- those among the first n compartments: each once, the lesser index first, in ascending order
abbrev pub edges_from : Listed → ℕ → ℕ → List (ℕ × ℕ)
edges_from e n a = flat_map (edge_of e a) (range_with_len (a + 1) (n - (a + 1)))

unfoldable pub edges : Listed → ℕ → List (ℕ × ℕ)
edges e n = flat_map (edges_from e n) (range_with_len 0 n)
