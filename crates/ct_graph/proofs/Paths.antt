-- A walk that takes the least nearer place each time is the path that comes before all others.
use Rattle.std.proofs.Common.{◌≡◌, ℕ, ◌+◌, ◌<◌, ◌≤◌, Bool, true, List, [], ◌∷◌, ◌++◌, length, refl, sym, arith, inl, inr}
use Rattle.std.proofs.lemmas.Bool.{cases_order, cases_lt}
use Rattle.ct_graph.specs.Cells.{Links, LowLeft, Shorter, far, IsDistance, IsNext, Walks}

-- no list that leads there is shorter than the distance
pub at_least : (j : ℕ → ℕ → Bool) (n b : ℕ) (ds : List ℕ) → IsDistance j n b ds → (v : ℕ) (ys : List ℕ) → Links j v ys b → (far n ds v < n) × (far n ds v ≤ length ys)
at_least j n b ds h v [] leads =
    let none : far n ds v ≡ 0 = rw leads h.end in
    (omega (arith, none, h.some), omega (arith, none))
at_least j n b ds h v (y ∷ ys) leads =
    let later : (far n ds y < n) × (far n ds y ≤ length ys) = at_least j n b ds h y ys leads.1 in
    (h.known v y leads.0 later.0, omega (arith, h.closed v y leads.0 later.0, later.1))

pub walk_leads : (j : ℕ → ℕ → Bool) (n b : ℕ) (ds : List ℕ) (v : ℕ) (xs : List ℕ) → Walks j n ds v xs b → Links j v xs b
walk_leads j n b ds v [] walks = walks
walk_leads j n b ds v (x ∷ xs) walks = (walks.0.joins, walk_leads j n b ds x xs walks.1)

pub walk_length : (j : ℕ → ℕ → Bool) (n b : ℕ) (ds : List ℕ) → IsDistance j n b ds → (v : ℕ) (xs : List ℕ) → Walks j n ds v xs b → far n ds v ≡ length xs
walk_length j n b ds h v [] walks = rw walks h.end
walk_length j n b ds h v (x ∷ xs) walks =
    let later : far n ds x ≡ length xs = walk_length j n b ds h x xs walks.1 in
    omega (arith, walks.0.nearer, later)

low_left : (j : ℕ → ℕ → Bool) (n b : ℕ) (ds : List ℕ) → IsDistance j n b ds → (v : ℕ) (xs ys : List ℕ) → Walks j n ds v xs b → Links j v ys b → length ys ≡ length xs → LowLeft xs ys
low_left j n b ds h v [] ys walks leads same = tt
low_left j n b ds h v (x ∷ xs) [] walks leads same = absurd (omega (arith, same))
low_left j n b ds h v (x ∷ xs) (y ∷ ys) walks leads same =
    let here : far n ds v ≡ length xs + 1 = omega (arith, walk_length j n b ds h v (x ∷ xs) walks) in
    let rest : (far n ds y < n) × (far n ds y ≤ length ys) = at_least j n b ds h y ys leads.1 in
    let nearer : far n ds v ≡ far n ds y + 1 = omega (arith, here, rest.1, same, h.closed v y leads.0 rest.0) in
    elim (cases_order x y) [
      | inl e ↦ let from : Links j x ys b = rw e leads.1 in inr (e, low_left j n b ds h x xs ys walks.1 from (omega (arith, same)))
      | inr (inl lt) ↦ inl lt
      | inr (inr gt) ↦ absurd (walks.0.least y gt leads.0 nearer)
    ]

pub walk_first : (j : ℕ → ℕ → Bool) (n b : ℕ) (ds : List ℕ) → IsDistance j n b ds → (v : ℕ) (xs : List ℕ) → Walks j n ds v xs b → (ys : List ℕ) → Links j v ys b → Shorter xs ys
walk_first j n b ds h v xs walks ys leads =
    let long : far n ds v ≡ length xs = walk_length j n b ds h v xs walks in
    let least : (far n ds v < n) × (far n ds v ≤ length ys) = at_least j n b ds h v ys leads in
    elim (cases_lt (length xs) (length ys)) [
      | inl lt ↦ inl lt
      | inr ge ↦ let same : length ys ≡ length xs = omega (arith, ge, long, least.1) in inr (sym same, low_left j n b ds h v xs ys walks leads same)
    ]

-- a walk goes on by the next place
pub walk_on : (j : ℕ → ℕ → Bool) (n : ℕ) (ds : List ℕ) (v : ℕ) (xs : List ℕ) (w y : ℕ) → Walks j n ds v xs w → IsNext j n ds w y → Walks j n ds v (xs ++ y ∷ []) y
walk_on j n ds v [] w y walks next = let here : IsNext j n ds v y = rw walks next in (here, refl)
walk_on j n ds v (x ∷ xs) w y walks next = (walks.0, walk_on j n ds x xs w y walks.1 next)

-- a place that is known and isn't the end has a next one
pub nearer_one : (j : ℕ → ℕ → Bool) (n b : ℕ) (ds : List ℕ) → IsDistance j n b ds → (v : ℕ) → far n ds v < n → 0 < far n ds v → (x : ℕ) × ((j v x ≡ true) × (far n ds v ≡ far n ds x + 1))
nearer_one j n b ds h v lt some = let way : (xs : List ℕ) × (Links j v xs b × (length xs ≡ far n ds v)) = h.sound v lt in by_list way.0 way.1.0 way.1.1
  where
    by_list : (xs : List ℕ) → Links j v xs b → length xs ≡ far n ds v → (x : ℕ) × ((j v x ≡ true) × (far n ds v ≡ far n ds x + 1))
    by_list [] leads is = absurd (omega (arith, is, some))
    by_list (x ∷ xs) leads is =
        let rest : (far n ds x < n) × (far n ds x ≤ length xs) = at_least j n b ds h x xs leads.1 in
        (x, (leads.0, omega (arith, is, rest.1, h.closed v x leads.0 rest.0)))

-- a place at distance 0 is the end
pub at_end : (j : ℕ → ℕ → Bool) (n b : ℕ) (ds : List ℕ) → IsDistance j n b ds → (v : ℕ) → far n ds v ≡ 0 → v ≡ b
at_end j n b ds h v zero_far = let way : (xs : List ℕ) × (Links j v xs b × (length xs ≡ far n ds v)) = h.sound v (omega (arith, zero_far, h.some)) in by_list way.0 way.1.0 way.1.1
  where
    by_list : (xs : List ℕ) → Links j v xs b → length xs ≡ far n ds v → v ≡ b
    by_list [] leads is = leads
    by_list (x ∷ xs) leads is = absurd (omega (arith, is, zero_far))
