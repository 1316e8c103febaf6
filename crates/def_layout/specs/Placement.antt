-- *Placement*: regions stand one after another, each at the least address that it may have at or after the end of
-- the one before. All numbers count bytes.
use Rattle.std.specs.Prelude.{ℕ, ◌+◌, ◌-◌, ◌*◌, ◌/◌, ◌%◌, ◌≡◌, ◌≤◌, List, [], ◌∷◌, max}
use Rattle.def_profile.specs.declared.layout.TheConstants.{REGION_UNIT}
use Rattle.def_words.specs.LeastBounds.{round_length_of, alignment_of}
use Rattle.def_layout.specs.declared.Region.{Region}

-- the least multiple of a unit at or after an address
abbrev pub least_multiple : ℕ → ℕ → ℕ
least_multiple unit at = (at + unit - 1) / unit * unit

-- a size in whole units, at least one
abbrev pub whole_size : ℕ → ℕ
whole_size size = max REGION_UNIT (least_multiple REGION_UNIT size)

-- then the least length that a word can spell exactly
abbrev pub region_length : ℕ → ℕ
region_length size = round_length_of (whole_size size)

-- what a base is a multiple of: the unit, and that length's alignment. Both are powers of two
abbrev pub region_alignment : ℕ → ℕ
region_alignment size = max REGION_UNIT (alignment_of (whole_size size))

abbrev pub region_base : ℕ → ℕ → ℕ
region_base end size = least_multiple (region_alignment size) end

abbrev pub region_from : ℕ → ℕ → Region
region_from base length = record { base = base; length = length }

-- the regions of these sizes, the first at or after `end`
unfoldable pub placed : ℕ → List ℕ → List Region
placed end [] = []
placed end (n ∷ ns) =
    region_from (region_base end n) (region_length n) ∷ placed (region_base end n + region_length n) ns

-- where the last of them ends
unfoldable pub last_end : ℕ → List ℕ → ℕ
last_end end [] = end
last_end end (n ∷ ns) = last_end (region_base end n + region_length n) ns

-- what they take of RAM, which begins at `base`
abbrev pub needed : ℕ → List ℕ → ℕ
needed base sizes = last_end base sizes - base

-- the heap is the rest of RAM
abbrev pub heap_in : ℕ → ℕ → List ℕ → Region
heap_in base size sizes = region_from (last_end base sizes) (base + size - last_end base sizes)

-- ---- what the laws say of a base

-- the least one at or after an address at which a region of this size may begin
pub record IsLeastBase (end size base : ℕ) : Type 0 where
  pub even : base % REGION_UNIT ≡ 0
  pub aligned : base % alignment_of (whole_size size) ≡ 0
  pub after : end ≤ base
  pub least : (b : ℕ) → end ≤ b → b % REGION_UNIT ≡ 0 → b % alignment_of (whole_size size) ≡ 0
      → base ≤ b
