-- Distances that fall until no edge is loose, and a walk along them.
use Rattle.std.proofs.Common.{◌≡◌, ℕ, zero, suc, ◌+◌, ◌<◌, ◌≤◌, ◌⊎◌, inl, inr, Bool, true, List, [], ◌∷◌, ◌++◌, length, sum, slice_index_or, slice_set, replicate, refl, sym, ap, ◌∙◌, subst, arith}
use Rattle.std.proofs.lemmas.Bool.{cases_lt, cases_eq, cases_Bool, both_ways}
use Rattle.std.proofs.lemmas.List.{length-append, get_or_append_left}
use Rattle.std.proofs.Math.Seq.{get_or-append_seam}
use Rattle.std.proofs.lemmas.List.Sums.{sum_by-set}
use Rattle.ct_graph.specs.Cells.{cell, far, IsDistance, Relaxed, IsLoose, NoneLoose, IsNext, Walks}
use Rattle.ct_graph.specs.Nodes.{AllDistances}
use Rattle.ct_graph.proofs.Lists.{goes_inside, reached_inside}
use Rattle.ct_graph.proofs.Paths.{nearer_one, at_end}
use Rattle.ct_graph.proofs.Relaxing.{relax_one, closed_now, at_start}
use Rattle.law_paths.proofs.Searching.{IsLeast, NoneBelow, Tells, search}

-- ---- loose edges

-- v can come nearer over x
record Edge (rows : List (List Bool)) (n : ℕ) (ds : List ℕ) (v x : ℕ) : Type 0 where
  joins : cell rows v x ≡ true
  there : far n ds x < n
  nearer : far n ds x + 1 < far n ds v

edge_tells : (rows : List (List Bool)) (n : ℕ) (ds : List ℕ) (v : ℕ) → Tells (Edge rows n ds v)
edge_tells rows n ds v x = elim (cases_Bool (cell rows v x)) [
  | inr off ↦ inr (λ (h : Edge rows n ds v x). both_ways (cell rows v x) off h.joins)
  | inl joins ↦ elim (cases_lt (far n ds x) n) [
    | inr past ↦ inr (λ (h : Edge rows n ds v x). absurd (let there = h.there in omega (arith, there, past)))
    | inl there ↦ elim (cases_lt (far n ds x + 1) (far n ds v)) [
      | inl nearer ↦ inl (record { joins = joins; there = there; nearer = nearer })
      | inr near ↦ inr (λ (h : Edge rows n ds v x). absurd (let nearer = h.nearer in omega (arith, near, nearer)))
    ]
  ]
]

abbrev HasEdge : List (List Bool) → ℕ → List ℕ → ℕ → Type 0
HasEdge rows n ds v = IsLeast (Edge rows n ds v) (length ds)

has_tells : (rows : List (List Bool)) (n : ℕ) (ds : List ℕ) → Tells (HasEdge rows n ds)
has_tells rows n ds v = elim (search (Edge rows n ds v) (edge_tells rows n ds v) (length ds)) [
  | inl found ↦ inl found
  | inr none ↦ inr (λ (h : HasEdge rows n ds v). none h.at h.inside h.holds)
]

record Found (rows : List (List Bool)) (n : ℕ) (ds : List ℕ) : Type 0 where
  v : ℕ
  value : ℕ
  loose : IsLoose (cell rows) n ds v value

none_loose : (rows : List (List Bool)) (n : ℕ) (ds : List ℕ) → length rows ≡ n → NoneBelow (HasEdge rows n ds) n → NoneLoose (cell rows) n ds
none_loose rows n ds size none v x joins there = elim (cases_lt (far n ds x + 1) (far n ds v)) [
  | inr near ↦ near
  | inl nearer ↦ absurd (has (search (Edge rows n ds v) (edge_tells rows n ds v) (length ds)) nearer)
]
  where
    inside : v < n
    inside = let lt = goes_inside rows v x joins in omega (arith, lt, size)

    has : IsLeast (Edge rows n ds v) (length ds) ⊎ NoneBelow (Edge rows n ds v) (length ds) → far n ds x + 1 < far n ds v → ⊥
    has (inl found) nearer = none v inside found
    has (inr not) nearer = not x (reached_inside n ds x there) (record { joins = joins; there = there; nearer = nearer })

loose_or_none : (rows : List (List Bool)) (n : ℕ) (ds : List ℕ) → length rows ≡ n → Found rows n ds ⊎ NoneLoose (cell rows) n ds
loose_or_none rows n ds size = elim (search (HasEdge rows n ds) (has_tells rows n ds) n) [
  | inr none ↦ inr (none_loose rows n ds size none)
  | inl found ↦
      inl (record {
        v = found.at;
        value = far n ds found.holds.at + 1;
        loose = record {
          inside = found.inside;
          by = found.holds.at;
          joins = found.holds.holds.joins;
          there = found.holds.holds.there;
          is = refl;
          nearer = found.holds.holds.nearer;
        };
      })
]

-- ---- distances

-- a distance that falls makes the sum less
falls : (n : ℕ) (ds : List ℕ) (v value : ℕ) → v < length ds → value < far n ds v → sum (slice_set ds v value) < sum ds
falls n ds v value inside less =
    let after = sum_by-set (λ d. d) ds v value n inside in
    omega (arith, after, less)

pub record Distances (rows : List (List Bool)) (n b : ℕ) : Type 0 where
  pub far_from : List ℕ
  pub right : IsDistance (cell rows) n b far_from

module _ (rows : List (List Bool)) (n b : ℕ) (size : length rows ≡ n) where
  inside_rows : (v x : ℕ) → cell rows v x ≡ true → v < n
  inside_rows v x joins = let lt = goes_inside rows v x joins in omega (arith, lt, size)

  settle : (fuel : ℕ) (ds : List ℕ) → sum ds ≤ fuel → Relaxed (cell rows) n b ds → Distances rows n b
  settle zero ds short h = elim (loose_or_none rows n ds size) [
    | inr none ↦ record { far_from = ds; right = closed_now (cell rows) n b ds inside_rows h none }
    | inl l ↦
        let length_is = h.size in
        let inside = l.loose.inside in
        let less : sum (slice_set ds l.v l.value) < sum ds = falls n ds l.v l.value (omega (arith, length_is, inside)) l.loose.nearer in
        absurd (omega (arith, less, short))
  ]
  settle (suc fuel) ds short h = elim (loose_or_none rows n ds size) [
    | inr none ↦ record { far_from = ds; right = closed_now (cell rows) n b ds inside_rows h none }
    | inl l ↦
        let length_is = h.size in
        let inside = l.loose.inside in
        let less : sum (slice_set ds l.v l.value) < sum ds = falls n ds l.v l.value (omega (arith, length_is, inside)) l.loose.nearer in
        settle fuel (slice_set ds l.v l.value) (omega (arith, less, short)) (relax_one (cell rows) n b ds l.v l.value h l.loose)
  ]

  distances_to : b < n → Distances rows n b
  distances_to lt = settle (sum (slice_set (replicate n n) b 0)) (slice_set (replicate n n) b 0) (omega arith) (at_start (cell rows) n b (slice_set (replicate n n) b 0) lt refl)

-- ---- to each place

record Settled (rows : List (List Bool)) (n k : ℕ) : Type 0 where
  all : List (List ℕ)
  size : length all ≡ k
  each : (b : ℕ) → b < k → IsDistance (cell rows) n b (slice_index_or all b [])

some_of : (rows : List (List Bool)) (n : ℕ) → length rows ≡ n → (k : ℕ) → k ≤ n → Settled rows n k
some_of rows n size zero few = record { all = []; size = refl; each = λ b lt. absurd (omega (arith, lt)) }
some_of rows n size (suc k) few =
    let before : Settled rows n k = some_of rows n size k (omega (arith, few)) in
    let last : Distances rows n k = distances_to rows n k size (omega (arith, few)) in
    record {
      all = before.all ++ last.far_from ∷ [];
      size = (let more = length-append before.all (last.far_from ∷ []) in let so = before.size in omega (arith, more, so));
      each = each before last;
    }
  where
    each : (before : Settled rows n k) (last : Distances rows n k) (b : ℕ) → b < suc k → IsDistance (cell rows) n b (slice_index_or (before.all ++ last.far_from ∷ []) b [])
    each before last b lt = elim (cases_lt b k) [
      | inl low ↦
          let inside : b < length before.all = (let so = before.size in omega (arith, low, so)) in
          subst (λ ds. IsDistance (cell rows) n b ds) (sym (get_or_append_left before.all (last.far_from ∷ []) [] b inside)) (before.each b low)
      | inr high ↦
          let same : length before.all ≡ b = (let so = before.size in omega (arith, so, high, lt)) in
          let there : slice_index_or (before.all ++ last.far_from ∷ []) b [] ≡ last.far_from =
          ap (λ i. slice_index_or (before.all ++ last.far_from ∷ []) i []) (sym same) ∙ get_or-append_seam before.all last.far_from [] [] in
          let end : k ≡ b = omega (arith, high, lt) in
          subst (λ ds. IsDistance (cell rows) n b ds) (sym there) (subst (λ i. IsDistance (cell rows) n i last.far_from) end last.right)
    ]

pub record Everywhere (rows : List (List Bool)) : Type 0 where
  pub all : List (List ℕ)
  pub distances : AllDistances rows all

pub everywhere : (rows : List (List Bool)) → Everywhere rows
everywhere rows =
    let so : Settled rows (length rows) (length rows) = some_of rows (length rows) refl (length rows) (omega arith) in
    record { all = so.all; distances = record { rows = so.size; each = so.each } }

-- ---- a walk

-- y is nearer by one
record Nearer (j : ℕ → ℕ → Bool) (n : ℕ) (ds : List ℕ) (v y : ℕ) : Type 0 where
  joins : j v y ≡ true
  nearer : far n ds v ≡ far n ds y + 1

nearer_tells : (j : ℕ → ℕ → Bool) (n : ℕ) (ds : List ℕ) (v : ℕ) → Tells (Nearer j n ds v)
nearer_tells j n ds v y = elim (cases_Bool (j v y)) [
  | inr off ↦ inr (λ (h : Nearer j n ds v y). both_ways (j v y) off h.joins)
  | inl joins ↦ elim (cases_eq (far n ds v) (far n ds y + 1)) [
    | inl nearer ↦ inl (record { joins = joins; nearer = nearer })
    | inr other ↦ inr (λ (h : Nearer j n ds v y). other h.nearer)
  ]
]

pub record Way (j : ℕ → ℕ → Bool) (n b : ℕ) (ds : List ℕ) (v : ℕ) : Type 0 where
  pub places : List ℕ
  pub walks : Walks j n ds v places b

pub walk : (j : ℕ → ℕ → Bool) (n b : ℕ) (ds : List ℕ) → IsDistance j n b ds → (k v : ℕ) → far n ds v ≡ k → k < n → Way j n b ds v
walk j n b ds h zero v is lt = record { places = []; walks = at_end j n b ds h v is }
walk j n b ds h (suc k) v is lt =
    let near = nearer_one j n b ds h v (omega (arith, is, lt)) (omega (arith, is)) in
    let low : far n ds near.0 < n = (let by = near.1.1 in omega (arith, by, is, lt)) in
    elim (search (Nearer j n ds v) (nearer_tells j n ds v) (length ds)) [
      | inr none ↦ absurd (none near.0 (reached_inside n ds near.0 low) (record { joins = near.1.0; nearer = near.1.1 }))
      | inl next ↦
          let by : far n ds v ≡ far n ds next.at + 1 = next.holds.nearer in
          let rest : Way j n b ds next.at = walk j n b ds h k next.at (omega (arith, by, is)) (omega (arith, lt)) in
          let here : IsNext j n ds v next.at = record {
            inside = next.inside;
            joins = next.holds.joins;
            nearer = by;
            least = λ z less joins nearer. next.least z less (record { joins = joins; nearer = nearer });
          } in
          record { places = next.at ∷ rest.places; walks = (here, rest.walks) }
    ]
