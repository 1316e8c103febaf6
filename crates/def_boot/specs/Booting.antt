-- RAM while an image boots: what was written is as boot makes it, and the other granules read as
-- zero.
use Rattle.std.specs.Prelude.{ℕ, ◌+◌, ◌*◌, ◌/◌, ◌%◌, ◌≡◌, ◌<◌, ◌≤◌, ◌⊎◌, List, length, replicate}
use Rattle.def_profile.specs.declared.layout.TheConstants.{GRANULE}
use Rattle.def_words.specs.declared.Cap.{Cap}
use Rattle.def_memory.specs.declared.Granule.{Granule}
use Rattle.def_memory.specs.Granules.{plain, granule_at, nothing}
use Rattle.def_image.specs.Parts.{PartsRow}
use Rattle.def_boot.specs.Contents.{boot_cap, boot_granule, granules_in, word_from_bytes}

-- boot puts this at the granule of RAM that begins at an address
pub record BootPuts (p : PartsRow) (x : ℕ) (c : Cap) : Type 0 where
  pub low : p.ram ≤ x
  pub high : x + GRANULE ≤ p.ram + p.size
  pub even : x % GRANULE ≡ 0
  pub is : c ≡ boot_cap p x

-- boot puts these bytes from an address on, eight a granule, the last filled up with zeros
abbrev pub PutsBytes : PartsRow → ℕ → List ℕ → Type 0
PutsBytes p base bytes =
    (w : ℕ) → GRANULE * w < length bytes
    → BootPuts p (base + GRANULE * w) (plain (word_from_bytes bytes (GRANULE * w)))

-- RAM before boot: every granule reads as zero and isn't marked
abbrev pub empty_granules : PartsRow → List Granule
empty_granules p = replicate (granules_in p) nothing

-- granule k is as boot makes it
abbrev pub IsDone : PartsRow → List Granule → ℕ → Type 0
IsDone p gs k = granule_at gs k ≡ boot_granule p (p.ram + GRANULE * k)

pub record Booting (p : PartsRow) (gs : List Granule) : Type 0 where
  pub ram : p.ram % GRANULE ≡ 0
  pub size : length gs ≡ granules_in p
  pub each : (k : ℕ) → IsDone p gs k ⊎ (granule_at gs k ≡ nothing)

-- the granules at these addresses are booted, and those that were before
pub record Stage (p : PartsRow) (before now : List Granule) (Of : ℕ → Type 0) : Type 0 where
  pub booting : Booting p now
  pub keeps : (k : ℕ) → IsDone p before k → IsDone p now k
  pub done : (k : ℕ) → Of (p.ram + GRANULE * k) → IsDone p now k

-- addresses from one on and before another
abbrev pub IsFrom : ℕ → ℕ → ℕ → Type 0
IsFrom low high x = (low ≤ x) × (x < high)
