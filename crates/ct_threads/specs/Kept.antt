-- What is kept of a thread's row and of its area.
use Rattle.std.specs.Prelude.{ℕ, ◌+◌, ◌-◌, ◌*◌, ◌%◌, ◌≡◌, ◌≤◌, ◌<◌, ◌⊎◌, Bool, true, false, List, length}
use Rattle.def_words.specs.declared.Cap.{Cap}
use Rattle.def_memory.specs.declared.Granule.{Granule}
use Rattle.def_memory.specs.Granules.{plain, cap_in}
use Rattle.def_areas.specs.Areas.{frame_place}
use Rattle.ct_areas.specs.declared.thread.Thread as row
use Rattle.ct_areas.specs.Threads.{HasArea, area_begin, area_end, frames_most}
use Rattle.ct_areas.specs.Parts.{register_in}

abbrev pub IsPlain : Cap → Type 0
IsPlain c = c ≡ plain c.word

-- Granule k of a thread's area holds a capability that was saved: the program counter capability or a register of a
-- thread that doesn't stand in its row, or one of the five registers with which a frame begins.
abbrev pub IsSaved : Bool → row.Thread → ℕ → Type 0
IsSaved runs t k =
    ((runs ≡ false) × (0 < t.depth) × (k < area_begin t.area + 16))
    ⊎ (
    (area_begin t.area + 20 ≤ k) × (k < frame_place (area_begin t.area) t.depth)
    × ((k - (area_begin t.area + 20)) % 8 < 5)
    )

-- A row, and the area's granules: it lies in RAM and has room for the frames; register 0 is zero; who
-- stands in its row hasn't ended; and where nothing is saved a plain word stands.
pub record IsKept (gs : List Granule) (runs : Bool) (t : row.Thread) : Type 0 where
  pub area : HasArea (8 * length gs) t.area
  pub room : t.depth ≤ frames_most t.area
  pub zero : register_in t 0 ≡ plain 0
  pub alive : runs ≡ true → 0 < t.depth
  pub clean : (k : ℕ) → area_begin t.area ≤ k → k < area_end t.area
      → IsSaved runs t k ⊎ IsPlain (cap_in gs k)
