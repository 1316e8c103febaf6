-- Changes of whole ranges: what is zeroed, what is marked, and the least tagged granule.
use Rattle.std.specs.Prelude.{ℕ, ◌≡◌, ◌+◌, ◌*◌, ◌/◌, ◌%◌, ◌<◌, ◌≤◌, ◌⊎◌, Bool, true, false, cond, ◌&&◌, nat_le, nat_lt, List, [], ◌∷◌, length}
use Rattle.def_memory.specs.declared.Granule.{Granule}
use Rattle.def_memory.specs.Granules.{granule_at, blank}

-- whole granules from one offset to another
pub record IsRange (size from to : ℕ) : Type 0 where
  pub start : from % 8 ≡ 0
  pub finish : to % 8 ≡ 0
  pub order : from ≤ to
  pub inside : to ≤ size

-- granule k lies in the range from one offset to another
abbrev pub InsideRange : ℕ → ℕ → ℕ → Type 0
InsideRange from to k = (from ≤ 8 * k) × (8 * k < to)

abbrev pub Outside : ℕ → ℕ → ℕ → Type 0
Outside from to k = (8 * k < from) ⊎ (to ≤ 8 * k)

-- the range reads as zero and holds no tag; marks, and all other granules, are as they were
pub record IsZeroed (from to : ℕ) (old new : List Granule) : Type 0 where
  pub size : length new ≡ length old
  pub zero : (k : ℕ) → InsideRange from to k → granule_at new k ≡ blank (granule_at old k)
  pub rest : (k : ℕ) → Outside from to k → granule_at new k ≡ granule_at old k

-- the range is marked, or not; bytes, tags and shadows, and all other granules, are as they were
pub record IsMarked (from to : ℕ) (on : Bool) (old new : List Granule) : Type 0 where
  pub size : length new ≡ length old
  pub marks : (k : ℕ) → k < length old → InsideRange from to k
      → granule_at new k ≡ record (granule_at old k) { mark = on }
  pub rest : (k : ℕ) → Outside from to k → granule_at new k ≡ granule_at old k

abbrev pub is_tagged : List Granule → ℕ → Bool
is_tagged gs k = (granule_at gs k).cap.tag

-- the least tagged granule at or after an offset
pub record IsNextTagged (gs : List Granule) (from at : ℕ) : Type 0 where
  pub aligned : at % 8 ≡ 0
  pub later : from ≤ at
  pub inside : at < 8 * length gs
  pub tagged : is_tagged gs (at / 8) ≡ true
  pub least : (k : ℕ) → from ≤ 8 * k → 8 * k < at → is_tagged gs k ≡ false

abbrev pub NoneTagged : List Granule → ℕ → Type 0
NoneTagged gs from = (k : ℕ) → from ≤ 8 * k → is_tagged gs k ≡ false

-- the same changes as functions, for definitions that compute: the first granule stands at `place`
abbrev pub zeroed_from : ℕ → ℕ → ℕ → List Granule → List Granule
zeroed_from from to place [] = []
zeroed_from from to place (g ∷ gs) =
    cond (nat_le from place && nat_lt place to) (blank g) g ∷ zeroed_from from to (place + 8) gs

abbrev pub zeroed : ℕ → ℕ → List Granule → List Granule
zeroed from to gs = zeroed_from from to 0 gs

abbrev pub marked_from : ℕ → ℕ → Bool → ℕ → List Granule → List Granule
marked_from from to on place [] = []
marked_from from to on place (g ∷ gs) =
    cond (nat_le from place && nat_lt place to) (record g { mark = on }) g
    ∷ marked_from from to on (place + 8) gs

abbrev pub mark_range : ℕ → ℕ → Bool → List Granule → List Granule
mark_range from to on gs = marked_from from to on 0 gs
