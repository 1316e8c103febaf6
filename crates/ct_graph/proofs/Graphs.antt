-- What a graph's distances say of reach.
use Rattle.std.proofs.Common.{◌≡◌, ◌≢◌, ℕ, ◌+◌, ◌<◌, ◌≤◌, Bool, true, false, List, [], ◌∷◌, map, length, refl, ap, sym, ◌∙◌, subst, arith, slice_index_or, inl, inr}
use Rattle.std.specs.List.{list_any}
use Rattle.std.proofs.lemmas.Bool.{both_ways, cases_Bool}
use Rattle.ct_entry.specs.declared.rows.Owner.{Owner}
use Rattle.ct_entry.specs.declared.rows.Owner.TheVariants.{Trusted, Compartment, Library, Thread}
use Rattle.ct_entry.specs.Listed.{Listed}
use Rattle.def_reach.specs.Roots.{root_of}
use Rattle.def_reach.specs.Sharing.{Edge, Reaches}
use Rattle.def_reach.specs.Reach.{same_owner, has_entry, Reached}
use Rattle.def_reach.specs.Route.{IsPath, Neighbours, Step, precedes}
use Rattle.ct_graph.specs.Cells.{cell, far, IsDistance, Walks}
use Rattle.ct_graph.specs.Links.{links_of, link_of, own, goes}
use Rattle.ct_graph.specs.Nodes.{is_node, nodes_of, with_node, node, matrix_of, IsNode, AllDistances, HasRows, IsGraph, IsNear, IsRoute, HasStep, NoStep, NotNear, stands_among, row_of, rows_of}
use Rattle.ct_graph.specs.declared.links.Link.{Link}
use Rattle.ct_graph.proofs.Orders.{nodes_have, among}
use Rattle.ct_graph.proofs.Steps.{step_found, step_made}
use Rattle.ct_graph.proofs.Transfer.{cell_is, owner_listed, path_is, near_reaches, reaches_near}
use Rattle.std.proofs.lemmas.List.{length-map}

pub steps_size : (e : Listed) (ns : List Owner) → length (matrix_of e ns) ≡ length ns
unfolding matrix_of
steps_size e ns = length-map ns _

pub rows_of_graph : (e : Listed) (ns : List Owner) (steps : List (List Bool)) (all : List (List ℕ)) → IsGraph e ns steps all → HasRows (length ns) all
rows_of_graph e ns steps all g =
    let size : length steps ≡ length ns = ap length g.steps_are ∙ steps_size e ns in
    (g.distances.rows ∙ size, λ b lt. (g.distances.each b (omega (arith, lt, size))).size ∙ size)

-- the distances to a place
pub distances_to : (e : Listed) (ns : List Owner) (steps : List (List Bool)) (all : List (List ℕ)) → IsGraph e ns steps all → (k : ℕ) → k < length ns → IsDistance (cell (matrix_of e ns)) (length ns) k (slice_index_or all k [])
distances_to e ns steps all g k lt =
    let size : length steps ≡ length ns = ap length g.steps_are ∙ steps_size e ns in
    let here : IsDistance (cell steps) (length steps) k (slice_index_or all k []) = g.distances.each k (omega (arith, lt, size)) in
    subst (λ m. IsDistance (cell m) (length ns) k (slice_index_or all k [])) g.steps_are (subst (λ n. IsDistance (cell steps) n k (slice_index_or all k [])) size here)

listed : (e : Listed) (ns : List Owner) (o : Owner) (i : ℕ) → ns ≡ nodes_of (links_of e) → is_node o ≡ true → IsNode ns o i → has_entry e.rows o ≡ true
listed e ns o i is part stands =
    let there : list_any (λ (n : Owner). same_owner n o) ns ≡ true = subst (λ p. list_any (λ (n : Owner). same_owner n p) ns ≡ true) (stands.here Trusted) (among ns i stands.inside) in
    sym (nodes_have e o part) ∙ subst (λ l. list_any (λ (n : Owner). same_owner n o) l ≡ true) is there

reached_of : (e : Listed) (o : Owner) (c : ℕ) → is_node o ≡ true → has_entry e.rows o ≡ true → has_entry e.rows (Compartment c) ≡ true → Reaches e o c → Reached e o c
reached_of e (Compartment a) c part x y r = (x, y, r)
reached_of e (Library l) c part x y r = (x, y, r)
reached_of e Trusted c part x y r = absurd (both_ways false refl part)
reached_of e (Thread t) c part x y r = absurd (both_ways false refl part)

pub near_reached : (e : Listed) (ns : List Owner) (steps : List (List Bool)) (all : List (List ℕ)) (o : Owner) (c i k : ℕ) → IsGraph e ns steps all → is_node o ≡ true → IsNear ns all o (Compartment c) i k → Reached e o c
near_reached e ns steps all o c i k g part near =
    let reaches : Reaches e (node ns i) c = near_reaches e ns c k (length ns) (slice_index_or all k []) (near.end.here Trusted) (distances_to e ns steps all g k near.end.inside) i near.known in
    reached_of e o c part (listed e ns o i g.nodes part near.start) (listed e ns (Compartment c) k g.nodes refl near.end) (subst (λ x. Reaches e x c) (near.start.here Trusted) reaches)

pub record Both (e : Listed) (o : Owner) (c : ℕ) : Type 0 where
  pub start : has_entry e.rows o ≡ true
  pub end : has_entry e.rows (Compartment c) ≡ true
  pub reaches : Reaches e o c

both_of : (e : Listed) (o : Owner) (c : ℕ) → is_node o ≡ true → Reached e o c → Both e o c
both_of e (Compartment a) c part r = record { start = r.0; end = r.1; reaches = r.2 }
both_of e (Library l) c part r = record { start = r.0; end = r.1; reaches = r.2 }
both_of e Trusted c part r = absurd (both_ways false refl part)
both_of e (Thread t) c part r = absurd (both_ways false refl part)

pub not_reached : (e : Listed) (ns : List Owner) (steps : List (List Bool)) (all : List (List ℕ)) (o : Owner) (c : ℕ) → IsGraph e ns steps all → is_node o ≡ true → NotNear ns all o (Compartment c) → Reached e o c → ⊥
not_reached e ns steps all o c g part (inl none) reached =
    let both : Both e o c = both_of e o c part reached in
    both_ways (stands_among ns o) none (subst (λ l. stands_among l o ≡ true) (sym g.nodes) (nodes_have e o part ∙ both.start))
not_reached e ns steps all o c g part (inr (inl none)) reached =
    let both : Both e o c = both_of e o c part reached in
    both_ways (stands_among ns (Compartment c)) none (subst (λ l. stands_among l (Compartment c) ≡ true) (sym g.nodes) (nodes_have e (Compartment c) refl ∙ both.end))
not_reached e ns steps all o c g part (inr (inr off)) reached =
    let both : Both e o c = both_of e o c part reached in
    let near : far (length ns) (slice_index_or all off.k []) off.i < length ns =
    reaches_near e ns c off.k (length ns) (slice_index_or all off.k []) g.nodes off.end.inside (off.end.here Trusted) (distances_to e ns steps all g off.k off.end.inside) off.i off.start.inside
    (subst (λ x. Reaches e x c) (sym (off.start.here Trusted)) both.reaches) in
    absurd (omega (arith, near, off.never))

pub walked_path : (e : Listed) (ns : List Owner) (steps : List (List Bool)) (all : List (List ℕ)) (o : Owner) (c i k : ℕ) (xs : List ℕ) → IsGraph e ns steps all → IsNear ns all o (Compartment c) i k
    → Walks (cell steps) (length ns) (slice_index_or all k []) i xs k → IsPath e o c (o ∷ map (node ns) xs)
walked_path e ns steps all o c i k xs g near walks =
    let along : Walks (cell (matrix_of e ns)) (length ns) (slice_index_or all k []) i xs k = subst (λ m. Walks (cell m) (length ns) (slice_index_or all k []) i xs k) g.steps_are walks in
    subst (λ x. IsPath e x c (x ∷ map (node ns) xs)) (near.start.here Trusted)
    (path_is e ns c k (length ns) (slice_index_or all k []) g.nodes near.end.inside (near.end.here Trusted) (distances_to e ns steps all g k near.end.inside) i xs near.start.inside along)

-- ---- there are no more nodes than rows

with_more : (o : Owner) (ns : List Owner) → length (with_node o ns) ≤ length ns + 1
with_more o [] = omega arith
with_more o (n ∷ ns) = elim (cases_Bool (precedes n o)) [
  | inl t ↦ let later : length (with_node o ns) ≤ length ns + 1 = with_more o ns in rw t (omega (arith, later))
  | inr f ↦ elim (cases_Bool (same_owner n o)) [
    | inl same ↦ rw (f, same) (omega arith)
    | inr other ↦ rw (f, other) (omega arith)
  ]
]

few_nodes : (ls : List Link) → length (nodes_of ls) ≤ length ls
few_nodes [] = omega arith
few_nodes (l ∷ ls) = elim (cases_Bool (is_node l.owner)) [
  | inl t ↦ let more : length (with_node l.owner (nodes_of ls)) ≤ length (nodes_of ls) + 1 = with_more l.owner (nodes_of ls) in let later : length (nodes_of ls) ≤ length ls = few_nodes ls in rw t (omega (arith, more, later))
  | inr f ↦ let later : length (nodes_of ls) ≤ length ls = few_nodes ls in rw f (omega (arith, later))
]

pub nodes_fit : (e : Listed) → length (nodes_of (links_of e)) ≤ length e.rows
nodes_fit e = let few : length (nodes_of (links_of e)) ≤ length (links_of e) = few_nodes (links_of e) in let size : length (links_of e) ≡ length e.rows = length-map e.rows (link_of e) in omega (arith, few, size)

-- ---- the rows that the code makes are the matrix

row_same : (e : Listed) (a : Owner) (ns : List Owner) → row_of a (own (links_of e) a) ns (map (own (links_of e)) ns) ≡ map (goes e a) ns
row_same e a [] = refl
row_same e a (b ∷ bs) = ap (λ r. goes e a b ∷ r) (row_same e a bs)

rows_same : (e : Listed) (all ms : List Owner) → rows_of all (map (own (links_of e)) all) ms (map (own (links_of e)) ms) ≡ map (λ a. map (goes e a) all) ms
rows_same e all [] = refl
rows_same e all (a ∷ ms) = rw (row_same e a all, rows_same e all ms) refl

pub matrix_is : (e : Listed) (ns : List Owner) → rows_of ns (map (own (links_of e)) ns) ns (map (own (links_of e)) ns) ≡ matrix_of e ns
unfolding matrix_of
matrix_is e ns = rows_same e ns ns

pub route_path : (e : Listed) (ns : List Owner) (steps : List (List Bool)) (all : List (List ℕ)) (o : Owner) (c : ℕ) (owners : List Owner) → IsGraph e ns steps all → is_node o ≡ true → IsRoute ns steps all o (Compartment c) owners → Reached e o c × IsPath e o c owners
route_path e ns steps all o c owners g part r =
    (near_reached e ns steps all o c r.i r.k g part r.near, subst (λ l. IsPath e o c l) (sym r.named) (walked_path e ns steps all o c r.i r.k r.places g r.near r.walks))

-- the trusted part reaches what stands among the nodes
pub trusted_reaches : (e : Listed) (ns : List Owner) (c : ℕ) → ns ≡ nodes_of (links_of e) → stands_among ns (Compartment c) ≡ has_entry e.rows (Compartment c)
trusted_reaches e ns c is = subst (λ l. stands_among l (Compartment c) ≡ has_entry e.rows (Compartment c)) (sym is) (nodes_have e (Compartment c) refl)

-- the distances of a graph, in the code's words
pub row_size : (n : ℕ) (all : List (List ℕ)) (b : ℕ) → HasRows n all → b < n → length (slice_index_or all b []) ≡ n
row_size n all b h lt = h.1 b lt

pub all_sizes : (steps : List (List Bool)) (all : List (List ℕ)) (n : ℕ) → length steps ≡ n → AllDistances steps all → HasRows n all
all_sizes steps all n size h = (h.rows ∙ size, λ b lt. (h.each b (omega (arith, lt, size))).size ∙ size)

-- who has no slots and isn't the trusted part reaches none
pub others_reach_none : (e : Listed) (o : Owner) (c : ℕ) → is_node o ≡ false → o ≢ Trusted → Reached e o c → ⊥
others_reach_none e (Compartment a) c h n r = both_ways true h refl
others_reach_none e (Library l) c h n r = both_ways true h refl
others_reach_none e Trusted c h n r = n refl
others_reach_none e (Thread t) c h n r = r

-- ---- edges

pub neighbours_of : (e : Listed) (a b : ℕ) → Step e (Compartment a) (Compartment b) → Neighbours e (Compartment a) (Compartment b)
neighbours_of e a b (inl brings) = absurd brings.is_library
neighbours_of e a b (inr n) = n

-- what stands in the matrix at two owners' places
cell_goes : (e : Listed) (ns : List Owner) (steps : List (List Bool)) (all : List (List ℕ)) (a b : Owner) (i k : ℕ) → IsGraph e ns steps all → IsNode ns a i → IsNode ns b k → cell steps i k ≡ goes e a b
cell_goes e ns steps all a b i k g start end =
    ap (λ m. cell m i k) g.steps_are ∙ cell_is e ns i k start.inside end.inside ∙ ap (λ o. goes e o (node ns k)) (start.here Trusted) ∙ ap (λ o. goes e a o) (end.here Trusted)

pub step_joins : (e : Listed) (ns : List Owner) (steps : List (List Bool)) (all : List (List ℕ)) (a b : ℕ) → IsGraph e ns steps all → HasStep ns steps (Compartment a) (Compartment b) → Neighbours e (Compartment a) (Compartment b)
step_joins e ns steps all a b g h =
    neighbours_of e a b (step_found e (Compartment a) (Compartment b) (sym (cell_goes e ns steps all (Compartment a) (Compartment b) h.i h.k g h.start h.end) ∙ h.goes))

-- both ends of an edge have entries
pub ends_listed : (e : Listed) (a b : ℕ) → Edge e a b → (has_entry e.rows (Compartment a) ≡ true) × (has_entry e.rows (Compartment b) ≡ true)
ends_listed e a b (inl c) = (owner_listed e c.import (Compartment a) refl c.caller, owner_listed e (root_of e c.import).of (Compartment b) refl c.callee)
ends_listed e a b (inr (inl c)) = (owner_listed e (root_of e c.import).of (Compartment a) refl c.callee, owner_listed e c.import (Compartment b) refl c.caller)
ends_listed e a b (inr (inr (object, x, y))) = (owner_listed e x.import (Compartment a) refl x.importer, owner_listed e y.import (Compartment b) refl y.importer)

pub no_step_apart : (e : Listed) (ns : List Owner) (steps : List (List Bool)) (all : List (List ℕ)) (a b : ℕ) → IsGraph e ns steps all → NoStep ns steps (Compartment a) (Compartment b) → Neighbours e (Compartment a) (Compartment b) → ⊥
no_step_apart e ns steps all a b g (inl none) n =
    both_ways (stands_among ns (Compartment a)) none (subst (λ l. stands_among l (Compartment a) ≡ true) (sym g.nodes) (nodes_have e (Compartment a) refl ∙ (ends_listed e a b n.1).0))
no_step_apart e ns steps all a b g (inr (inl none)) n =
    both_ways (stands_among ns (Compartment b)) none (subst (λ l. stands_among l (Compartment b) ≡ true) (sym g.nodes) (nodes_have e (Compartment b) refl ∙ (ends_listed e a b n.1).1))
no_step_apart e ns steps all a b g (inr (inr off)) n =
    both_ways (goes e (Compartment a) (Compartment b)) (sym (cell_goes e ns steps all (Compartment a) (Compartment b) off.i off.k g off.start off.end) ∙ off.stays) (step_made e (Compartment a) (Compartment b) (inr n))
