-- From places to owners and back.
use Rattle.std.proofs.Common.{◌≡◌, ℕ, zero, suc, ◌<◌, ◌≤◌, Bool, true, false, List, [], ◌∷◌, map, length, Option, Some, None, refl, ap, sym, ◌∙◌, subst, arith, inl, inr, slice_index_or, slice_get}
use Rattle.std.specs.List.{list_any}
use Rattle.std.proofs.lemmas.Bool.{both_ways}
use Rattle.std.proofs.lemmas.List.{length-map, get_or-map}
use Rattle.ct_entry.specs.declared.rows.Entry.{Entry}
use Rattle.ct_entry.specs.declared.rows.Owner.{Owner}
use Rattle.ct_entry.specs.declared.rows.Owner.TheVariants.{Trusted, Compartment, Library, Thread}
use Rattle.ct_entry.specs.Listed.{Listed}
use Rattle.def_reach.specs.Roots.{root_of, listed_root, gate_for}
use Rattle.def_reach.specs.Sharing.{Edge, Reaches}
use Rattle.def_reach.specs.Reach.{same_owner, has_entry}
use Rattle.def_reach.specs.Route.{Step, IsWay, IsLeft, Before, IsPath}
use Rattle.ct_graph.specs.Cells.{cell, Links, LowLeft, Shorter, far, IsDistance, Walks}
use Rattle.ct_graph.specs.Links.{links_of, goes}
use Rattle.ct_graph.specs.Nodes.{is_node, nodes_of, node, matrix_of, IsNode}
use Rattle.ct_graph.proofs.Owners.{same_of, any_at}
use Rattle.ct_graph.proofs.Steps.{step_found, step_made}
use Rattle.ct_graph.proofs.Connects.{Way, way_of, reaches_by}
use Rattle.ct_graph.proofs.Orders.{Ordered, ordered_nodes, nodes_have, stands_at, once, in_order}
use Rattle.ct_graph.proofs.Paths.{at_least, walk_leads, walk_first}

-- ---- cells

past : {A : Type 0} (xs : List A) (i : ℕ) (d : A) → length xs ≤ i → slice_index_or xs i d ≡ d
past [] i d le = refl
past (x ∷ xs) zero d le = absurd (omega (arith, le))
past (x ∷ xs) (suc i) d le = past xs i d (omega (arith, le))

within : (f : Owner → Bool) (ns : List Owner) (k : ℕ) → slice_index_or (map f ns) k false ≡ true → k < length ns
within f [] k h = absurd (both_ways false refl h)
within f (n ∷ ns) zero h = omega arith
within f (n ∷ ns) (suc k) h = let later : k < length ns = within f ns k h in omega (arith, later)

-- a row of the matrix
row_is : (e : Listed) (ns ms : List Owner) (i : ℕ) → i < length ms → slice_index_or (map (λ a. map (goes e a) ns) ms) i [] ≡ map (goes e (node ms i)) ns
row_is e ns [] i lt = absurd (omega (arith, lt))
row_is e ns (m ∷ ms) zero lt = refl
row_is e ns (m ∷ ms) (suc i) lt = row_is e ns ms i (omega (arith, lt))

no_row : (e : Listed) (ns ms : List Owner) (i k : ℕ) → slice_index_or (slice_index_or (map (λ a. map (goes e a) ns) ms) i []) k false ≡ true → i < length ms
no_row e ns [] i k h = absurd (nothing k h)
  where
    nothing : (k : ℕ) → slice_index_or [] k false ≡ true → ⊥
    nothing k h = cc
no_row e ns (m ∷ ms) zero k h = omega arith
no_row e ns (m ∷ ms) (suc i) k h = let later : i < length ms = no_row e ns ms i k h in omega (arith, later)

pub cell_inside : (e : Listed) (ns : List Owner) (i k : ℕ) → cell (matrix_of e ns) i k ≡ true → (i < length ns) × (k < length ns)
unfolding matrix_of
cell_inside e ns i k h =
    let left : i < length ns = no_row e ns ns i k h in
    let row : slice_index_or (map (goes e (node ns i)) ns) k false ≡ true = ap (λ (r : List Bool). slice_index_or r k false) (sym (row_is e ns ns i left)) ∙ h in
    (left, within (goes e (node ns i)) ns k row)

pub cell_is : (e : Listed) (ns : List Owner) (i k : ℕ) → i < length ns → k < length ns → cell (matrix_of e ns) i k ≡ goes e (node ns i) (node ns k)
unfolding matrix_of
cell_is e ns i k hi hk = ap (λ (r : List Bool). slice_index_or r k false) (row_is e ns ns i hi) ∙ get_or-map (goes e (node ns i)) ns k Trusted false hk

-- ---- up

pub up : (e : Listed) (ns : List Owner) (i : ℕ) (xs : List ℕ) (k : ℕ) → Links (cell (matrix_of e ns)) i xs k → IsWay e (node ns i) (map (node ns) xs) (node ns k)
up e ns i [] k h = ap (λ n. node ns n) h
up e ns i (x ∷ xs) k h =
    let inside : (i < length ns) × (x < length ns) = cell_inside e ns i x h.0 in
    (step_found e (node ns i) (node ns x) (sym (cell_is e ns i x inside.0 inside.1) ∙ h.0), up e ns x xs k h.1)

-- ---- down

owner_row : (e : Listed) (n : ℕ) (o : Owner) (r : Option Entry) → slice_get e.rows n ≡ r → is_node o ≡ true → (listed_root r (gate_for e.gates (suc n))).owner ≡ o → has_entry e.rows o ≡ true
owner_row e n o None at h is = let bad : is_node Trusted ≡ true = subst (λ x. is_node x ≡ true) (sym is) h in absurd (both_ways false refl bad)
owner_row e n o (Some r) at h is = any_at (λ (s : Entry). same_owner s.owner o) e.rows n r at (same_of r.owner o is)

pub owner_listed : (e : Listed) (n : ℕ) (o : Owner) → is_node o ≡ true → (root_of e n).owner ≡ o → has_entry e.rows o ≡ true
unfolding root_of
owner_listed e zero o h is = let bad : is_node Trusted ≡ true = subst (λ x. is_node x ≡ true) (sym is) h in absurd (both_ways false refl bad)
owner_listed e (suc n) o h is = owner_row e n o (slice_get e.rows n) refl h is

edge_listed : (e : Listed) (a b : ℕ) → Edge e a b → has_entry e.rows (Compartment b) ≡ true
edge_listed e a b (inl c) = owner_listed e (root_of e c.import).of (Compartment b) refl c.callee
edge_listed e a b (inr (inl c)) = owner_listed e c.import (Compartment b) refl c.caller
edge_listed e a b (inr (inr (object, x, y))) = owner_listed e y.import (Compartment b) refl y.importer

pub step_listed : (e : Listed) (o y : Owner) → is_node y ≡ true → Step e o y → has_entry e.rows y ≡ true
step_listed e o y h (inl b) = owner_listed e b.import y h b.importer
step_listed e (Compartment a) (Compartment b) h (inr n) = edge_listed e a b n.1
step_listed e (Compartment a) (Library b) h (inr n) = absurd n
step_listed e (Compartment a) Trusted h (inr n) = absurd n
step_listed e (Compartment a) (Thread b) h (inr n) = absurd n
step_listed e Trusted y h (inr n) = absurd n
step_listed e (Library l) y h (inr n) = absurd n
step_listed e (Thread t) y h (inr n) = absurd n

starts_node : (e : Listed) (o y : Owner) → Step e o y → is_node o ≡ true
starts_node e (Library l) y h = refl
starts_node e (Compartment a) y h = refl
starts_node e Trusted y (inl b) = absurd b.is_library
starts_node e Trusted y (inr n) = absurd n
starts_node e (Thread t) y (inl b) = absurd b.is_library
starts_node e (Thread t) y (inr n) = absurd n

leads_node : (e : Listed) (y : Owner) (ys : List Owner) (b : ℕ) → IsWay e y ys (Compartment b) → is_node y ≡ true
leads_node e y [] b h = rw h refl
leads_node e y (z ∷ ys) b h = starts_node e y z h.0

pub record Down (e : Listed) (ns : List Owner) (i : ℕ) (ys : List Owner) (k : ℕ) : Type 0 where
  pub places : List ℕ
  pub named : ys ≡ map (node ns) places
  pub links : Links (cell (matrix_of e ns)) i places k

pub down : (e : Listed) (ns : List Owner) (b k : ℕ) → ns ≡ nodes_of (links_of e) → k < length ns → node ns k ≡ Compartment b → (i : ℕ) (ys : List Owner) → i < length ns → IsWay e (node ns i) ys (Compartment b) → Down e ns i ys k
down e ns b k is hk end i [] hi h =
    let ordered : Ordered ns = rw is (ordered_nodes (links_of e)) in
    record { places = []; named = refl; links = once ns i k ordered hi hk (h ∙ sym end) }
down e ns b k is hk end i (y ∷ ys) hi h =
    let part : is_node y ≡ true = leads_node e y ys b h.1 in
    let listed : has_entry e.rows y ≡ true = step_listed e (node ns i) y part h.0 in
    let there : list_any (λ (n : Owner). same_owner n y) ns ≡ true = rw is (nodes_have e y part ∙ listed) in
    let place : (j : ℕ) × IsNode ns y j = stands_at ns y there in
    let here : node ns place.0 ≡ y = place.1.here Trusted in
    let rest : Down e ns place.0 ys k = down e ns b k is hk end place.0 ys place.1.inside (subst (λ o. IsWay e o ys (Compartment b)) (sym here) h.1) in
    let joins : cell (matrix_of e ns) i place.0 ≡ true = cell_is e ns i place.0 hi place.1.inside ∙ ap (λ o. goes e (node ns i) o) here ∙ step_made e (node ns i) y h.0 in
    record { places = place.0 ∷ rest.places; named = both (sym here) rest.named; links = (joins, rest.links) }
  where
    both : {o p : Owner} {os ps : List Owner} → o ≡ p → os ≡ ps → (o ∷ os) ≡ (p ∷ ps)
    both x y = cc

-- ---- the least

low_is_left : (e : Listed) (ns : List Owner) (xs zs : List ℕ) (i k : ℕ) → Ordered ns → Links (cell (matrix_of e ns)) i zs k → LowLeft xs zs → IsLeft (map (node ns) xs) (map (node ns) zs)
low_is_left e ns [] zs i k ordered links low = tt
low_is_left e ns (x ∷ xs) [] i k ordered links low = absurd low
low_is_left e ns (x ∷ xs) (z ∷ zs) i k ordered links (inl lt) = inl (in_order ns x z ordered lt (cell_inside e ns i z links.0).1)
low_is_left e ns (x ∷ xs) (z ∷ zs) i k ordered links (inr (same, low)) = inr (ap (λ n. node ns n) same, low_is_left e ns xs zs z k ordered links.1 low)

shorter_is_before : (e : Listed) (ns : List Owner) (xs zs : List ℕ) (i k : ℕ) → Ordered ns → Links (cell (matrix_of e ns)) i zs k → Shorter xs zs → Before (map (node ns) xs) (map (node ns) zs)
shorter_is_before e ns xs zs i k ordered links (inl lt) = inl (rw (length-map xs (node ns), length-map zs (node ns)) lt)
shorter_is_before e ns xs zs i k ordered links (inr (same, low)) = inr (rw (length-map xs (node ns), length-map zs (node ns)) same, low_is_left e ns xs zs i k ordered links low)

-- a walk along the distances is the path
pub path_is : (e : Listed) (ns : List Owner) (b k n : ℕ) (ds : List ℕ) → ns ≡ nodes_of (links_of e) → k < length ns → node ns k ≡ Compartment b → IsDistance (cell (matrix_of e ns)) n k ds
    → (i : ℕ) (xs : List ℕ) → i < length ns → Walks (cell (matrix_of e ns)) n ds i xs k → IsPath e (node ns i) b (node ns i ∷ map (node ns) xs)
path_is e ns b k n ds is hk end h i xs hi walks = record {
  members = map (node ns) xs;
  starts = refl;
  leads = subst (λ o. IsWay e (node ns i) (map (node ns) xs) o) end (up e ns i xs k (walk_leads (cell (matrix_of e ns)) n k ds i xs walks));
  first = λ ys leads. first_of ys (down e ns b k is hk end i ys hi leads);
}
  where
    first_of : (ys : List Owner) → Down e ns i ys k → Before (map (node ns) xs) ys
    first_of ys d =
        let ordered : Ordered ns = rw is (ordered_nodes (links_of e)) in
        subst (λ l. Before (map (node ns) xs) l) (sym d.named)
        (shorter_is_before e ns xs d.places i k ordered d.links (walk_first (cell (matrix_of e ns)) n k ds h i xs walks d.places d.links))

-- a distance says that an owner reaches a compartment, and where it does there is one
pub near_reaches : (e : Listed) (ns : List Owner) (b k n : ℕ) (ds : List ℕ) → node ns k ≡ Compartment b → IsDistance (cell (matrix_of e ns)) n k ds → (i : ℕ) → far n ds i < n → Reaches e (node ns i) b
near_reaches e ns b k n ds end h i near =
    let way : (xs : List ℕ) × (Links (cell (matrix_of e ns)) i xs k × (length xs ≡ far n ds i)) = h.sound i near in
    reaches_by e (node ns i) b (record { members = map (node ns) way.0; leads = subst (λ o. IsWay e (node ns i) (map (node ns) way.0) o) end (up e ns i way.0 k way.1.0) })

pub reaches_near : (e : Listed) (ns : List Owner) (b k n : ℕ) (ds : List ℕ) → ns ≡ nodes_of (links_of e) → k < length ns → node ns k ≡ Compartment b → IsDistance (cell (matrix_of e ns)) n k ds → (i : ℕ) → i < length ns → Reaches e (node ns i) b → far n ds i < n
reaches_near e ns b k n ds is hk end h i hi reaches =
    let way : Way e (node ns i) b = way_of e (node ns i) b reaches in
    let d : Down e ns i way.members k = down e ns b k is hk end i way.members hi way.leads in
    (at_least (cell (matrix_of e ns)) n k ds h i d.places d.links).0
