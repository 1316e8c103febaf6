-- What a slice of a sweep leaves of memory.
use Rattle.std.specs.Prelude.{ℕ, ◌≡◌, true, false, List, length}
use Rattle.def_words.specs.Authority.{cap_base}
use Rattle.def_memory.specs.declared.Granule.{Granule}
use Rattle.def_memory.specs.Granules.{granule_at}
use Rattle.def_memory.specs.Ranges.{InsideRange, Outside, is_tagged}
use Rattle.def_machine.specs.Image.{Image}
use Rattle.def_machine.specs.State.{State}
use Rattle.def_machine.specs.Heap.{sliced}
use Rattle.def_machine.specs.Slices.{kept_granules}
use Rattle.def_machine.specs.Memory.{filtered_in, is_marked_in}

-- *Heap*'s slice from one offset to another, of every image and state that have this RAM
abbrev pub SlicesHeap : ℕ → ℕ → ℕ → List Granule → List Granule → Type 0
SlicesHeap ram low high old new =
    (i : Image) (s : State) → i.ram ≡ ram → s.granules ≡ old
    → new ≡ kept_granules (sliced i s low high) 0 old

-- no tagged granule from one offset to another has its base in a marked one
abbrev pub CleanFrom : ℕ → ℕ → ℕ → List Granule → Type 0
CleanFrom ram low high gs =
    (k : ℕ) → InsideRange low high k → is_tagged gs k ≡ true
    → is_marked_in ram gs (cap_base (granule_at gs k).cap) ≡ false

-- granule by granule: those from one offset to another passed the load filter, by the marks as they stood, and
-- all others are as they were
pub record IsSliced (ram low high : ℕ) (old new : List Granule) : Type 0 where
  pub size : length new ≡ length old
  pub passed : (k : ℕ) → InsideRange low high k
      → granule_at new k
      ≡ record (granule_at old k) { cap = filtered_in ram old (granule_at old k).cap }
  pub rest : (k : ℕ) → Outside low high k → granule_at new k ≡ granule_at old k
