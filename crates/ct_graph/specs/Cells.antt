-- The graph by places: place i stands for the i-th owner, a row of Bools says where it goes.
use Rattle.std.specs.Prelude.{ℕ, ◌≡◌, ◌+◌, ◌<◌, ◌≤◌, ◌⊎◌, Bool, true, false, nat_eq, cond, List, [], ◌∷◌, length, slice_index_or}

abbrev pub cell : List (List Bool) → ℕ → ℕ → Bool
cell rows v x = slice_index_or (slice_index_or rows v []) x false

-- from v to b over the places xs after v
abbrev pub Links : (ℕ → ℕ → Bool) → ℕ → List ℕ → ℕ → Type 0
Links joined v [] b = v ≡ b
Links joined v (x ∷ xs) b = (joined v x ≡ true) × Links joined x xs b

abbrev pub LowLeft : List ℕ → List ℕ → Type 0
LowLeft [] ys = Unit {0}
LowLeft (x ∷ xs) [] = ⊥
LowLeft (x ∷ xs) (y ∷ ys) = (x < y) ⊎ ((x ≡ y) × LowLeft xs ys)

abbrev pub Shorter : List ℕ → List ℕ → Type 0
Shorter xs ys = (length xs < length ys) ⊎ ((length xs ≡ length ys) × LowLeft xs ys)

-- how far each place is from b; n stands for never
abbrev pub far : ℕ → List ℕ → ℕ → ℕ
far n ds v = slice_index_or ds v n

-- what the walk of a path needs of the distances
pub record IsDistance (joined : ℕ → ℕ → Bool) (n b : ℕ) (ds : List ℕ) : Type 0 where
  pub some : b < n
  pub size : length ds ≡ n
  pub end : far n ds b ≡ 0
  pub most : (v : ℕ) → far n ds v ≤ n
  pub sound : (v : ℕ) → far n ds v < n
      → (xs : List ℕ) × (Links joined v xs b × (length xs ≡ far n ds v))
  pub closed : (v x : ℕ) → joined v x ≡ true → far n ds x < n → far n ds v ≤ far n ds x + 1
  pub known : (v x : ℕ) → joined v x ≡ true → far n ds x < n → far n ds v < n

-- the least place that is nearer by one
pub record IsNext (joined : ℕ → ℕ → Bool) (n : ℕ) (ds : List ℕ) (v y : ℕ) : Type 0 where
  pub inside : y < length ds
  pub joins : joined v y ≡ true
  pub nearer : far n ds v ≡ far n ds y + 1
  pub least : (z : ℕ) → z < y → joined v z ≡ true → far n ds v ≡ far n ds z + 1 → ⊥

abbrev pub NoneNext : (ℕ → ℕ → Bool) → ℕ → List ℕ → ℕ → Type 0
NoneNext joined n ds v =
    (z : ℕ) → z < length ds → joined v z ≡ true → far n ds v ≡ far n ds z + 1 → ⊥

-- a walk that takes the next place each time
abbrev pub Walks : (ℕ → ℕ → Bool) → ℕ → List ℕ → ℕ → List ℕ → ℕ → Type 0
Walks joined n ds v [] w = v ≡ w
Walks joined n ds v (y ∷ ys) w = IsNext joined n ds v y × Walks joined n ds y ys w

-- how many places are never reached so far
abbrev pub unknown : ℕ → List ℕ → ℕ
unknown n [] = 0
unknown n (d ∷ ds) = cond (nat_eq d n) 1 0 + unknown n ds

-- distances that may still fall
pub record Relaxed (joined : ℕ → ℕ → Bool) (n b : ℕ) (ds : List ℕ) : Type 0 where
  pub some : b < n
  pub size : length ds ≡ n
  pub end : far n ds b ≡ 0
  pub most : (v : ℕ) → far n ds v ≤ n
  pub sound : (v : ℕ) → far n ds v < n
      → (xs : List ℕ) × (Links joined v xs b × (length xs ≡ far n ds v))
  pub bound : (v : ℕ) → far n ds v < n → far n ds v + unknown n ds < n

-- an edge over which v can come nearer
pub record IsLoose (joined : ℕ → ℕ → Bool) (n : ℕ) (ds : List ℕ) (v value : ℕ) : Type 0 where
  pub inside : v < n
  pub by : ℕ
  pub joins : joined v by ≡ true
  pub there : far n ds by < n
  pub is : value ≡ far n ds by + 1
  pub nearer : value < far n ds v

abbrev pub NoneLoose : (ℕ → ℕ → Bool) → ℕ → List ℕ → Type 0
NoneLoose joined n ds = (v x : ℕ) → joined v x ≡ true → far n ds x < n → far n ds v ≤ far n ds x + 1

-- the places that are reached are at most `near` far, and each that is nearer has told those that
-- have a step to it
pub record HasLevels (joined : ℕ → ℕ → Bool) (n b near : ℕ) (ds : List ℕ) : Type 0 where
  pub relaxed : Relaxed joined n b ds
  pub known : (v : ℕ) → far n ds v < n → far n ds v ≤ near
  pub closed : (v x : ℕ) → joined v x ≡ true → far n ds x < near → far n ds v ≤ far n ds x + 1

-- the same in the midst of a level: those below a place that are just so far have told them too
pub record IsLevel (joined : ℕ → ℕ → Bool) (n b near place : ℕ) (ds : List ℕ) : Type 0 where
  pub relaxed : Relaxed joined n b ds
  pub known : (v : ℕ) → far n ds v < n → far n ds v ≤ near + 1
  pub closed : (v x : ℕ) → joined v x ≡ true → far n ds x < near → far n ds v ≤ far n ds x + 1
  pub told : (v x : ℕ) → x < place → joined v x ≡ true → far n ds x ≡ near
      → far n ds v ≤ near + 1

-- of the places below a limit, those that weren't reached and have a step to x, which is `near` far,
-- are one farther; the others stay as they were
pub record IsSpread (joined : ℕ → ℕ → Bool) (n b x near limit : ℕ) (old new : List ℕ) : Type 0
  where
    pub relaxed : Relaxed joined n b new
    pub kept : (v : ℕ) → far n old v < n → far n new v ≡ far n old v
    pub fresh : (v : ℕ) → far n old v ≡ n → far n new v < n → far n new v ≡ near + 1
    pub reached : (v : ℕ) → v < limit → joined v x ≡ true → far n new v < n

-- the least place of one row that is nearer by one
pub record IsNextIn (row : List Bool) (n : ℕ) (ds : List ℕ) (own y : ℕ) : Type 0 where
  pub inside : y < length ds
  pub joins : slice_index_or row y false ≡ true
  pub nearer : own ≡ far n ds y + 1
  pub least : (z : ℕ) → z < y → slice_index_or row z false ≡ true → own ≡ far n ds z + 1 → ⊥

abbrev pub NoneNextIn : List Bool → ℕ → List ℕ → ℕ → Type 0
NoneNextIn row n ds own =
    (z : ℕ) → z < length ds → slice_index_or row z false ≡ true → own ≡ far n ds z + 1 → ⊥
