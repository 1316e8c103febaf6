-- A path that comes before all others leads to each compartment that is reached.
use Rattle.std.proofs.Common.{◌≡◌, ◌≢◌, ℕ, ◌^◌, ◌<◌, ◌⊎◌, inl, inr, Bool, true, List, [], ◌∷◌, length, map, slice_index_or, refl, arith}
use Rattle.std.proofs.lemmas.Bool.{cases_lt, cases_Bool}
use Rattle.ct_entry.specs.declared.rows.Owner.{Owner}
use Rattle.ct_entry.specs.declared.rows.Owner.TheVariants.{Trusted, Compartment}
use Rattle.ct_entry.specs.Listed.{Listed}
use Rattle.ct_graph.specs.Cells.{cell, far, IsDistance}
use Rattle.ct_graph.specs.Links.{links_of}
use Rattle.ct_graph.specs.Nodes.{is_node, nodes_of, node, matrix_of, stands_among, IsNode, IsGraph, IsNear, IsRoute, NotNear}
use Rattle.ct_graph.proofs.Orders.{stands_at}
use Rattle.ct_graph.proofs.Graphs.{nodes_fit, distances_to, not_reached, route_path, others_reach_none}
use Rattle.def_reach.specs.There.{Leads, LeadsOrNot}
use Rattle.law_paths.proofs.Falling.{Everywhere, everywhere, Way, walk}

-- ---- the graph

abbrev nodes : Listed → List Owner
nodes e = nodes_of (links_of e)

abbrev steps : Listed → List (List Bool)
steps e = matrix_of e (nodes e)

graph_of : (e : Listed) → length e.rows < 2 ^ 32 → (f : Everywhere (steps e)) → IsGraph e (nodes e) (steps e) f.all
graph_of e few f = record {
  few = (let fit = nodes_fit e in omega (arith, fit, few));
  nodes = refl;
  steps_are = refl;
  distances = f.distances;
}

-- ---- near or not

record Near (ns : List Owner) (all : List (List ℕ)) (o target : Owner) : Type 0 where
  i : ℕ
  k : ℕ
  near : IsNear ns all o target i k

near_or_not : (ns : List Owner) (all : List (List ℕ)) (o target : Owner) → Near ns all o target ⊎ NotNear ns all o target
near_or_not ns all o target = elim (cases_Bool (stands_among ns o)) [
  | inr none ↦ inr (inl none)
  | inl start ↦ elim (cases_Bool (stands_among ns target)) [
    | inr none ↦ inr (inr (inl none))
    | inl end ↦ at (stands_at ns o start) (stands_at ns target end)
  ]
]
  where
    at : (i : ℕ) × IsNode ns o i → (k : ℕ) × IsNode ns target k → Near ns all o target ⊎ NotNear ns all o target
    at x y = elim (cases_lt (far (length ns) (slice_index_or all y.0 []) x.0) (length ns)) [
      | inl known ↦ inl (record { i = x.0; k = y.0; near = record { start = x.1; end = y.1; known = known } })
      | inr never ↦ inr (inr (inr (record { i = x.0; k = y.0; start = x.1; end = y.1; never = never })))
    ]

-- ---- the path

by_near : (e : Listed) (all : List (List ℕ)) (o : Owner) (c : ℕ) → IsGraph e (nodes e) (steps e) all → is_node o ≡ true → Near (nodes e) all o (Compartment c) → Leads e o c
by_near e all o c g part x =
    let ns : List Owner = nodes e in
    let ds : List ℕ = slice_index_or all x.k [] in
    let right : IsDistance (cell (steps e)) (length ns) x.k ds = distances_to e ns (steps e) all g x.k x.near.end.inside in
    let way : Way (cell (steps e)) (length ns) x.k ds x.i = walk (cell (steps e)) (length ns) x.k ds right (far (length ns) ds x.i) x.i refl x.near.known in
    let route : IsRoute ns (steps e) all o (Compartment c) (o ∷ map (node ns) way.places) = record {
      i = x.i;
      k = x.k;
      places = way.places;
      near = x.near;
      walks = way.walks;
      named = refl;
    } in
    let there = route_path e ns (steps e) all o c (o ∷ map (node ns) way.places) g part route in
    record { owners = o ∷ map (node ns) way.places; reached = there.0; path = there.1 }

pub there : (e : Listed) (o : Owner) (c : ℕ) → length e.rows < 2 ^ 32 → o ≢ Trusted → LeadsOrNot e o c
there e o c few other =
    let f : Everywhere (steps e) = everywhere (steps e) in
    let g : IsGraph e (nodes e) (steps e) f.all = graph_of e few f in
    elim (cases_Bool (is_node o)) [
      | inr off ↦ inr (others_reach_none e o c off other)
      | inl part ↦ elim (near_or_not (nodes e) f.all o (Compartment c)) [
        | inl near ↦ inl (by_near e f.all o c g part near)
        | inr not ↦ inr (not_reached e (nodes e) (steps e) f.all o c g part not)
      ]
    ]
