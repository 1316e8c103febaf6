-- Granules: what stands at each eight bytes of RAM.
use Rattle.std.specs.Prelude.{ℕ, zero, suc, ◌+◌, false, List, [], ◌∷◌, slice_index_or, slice_set}
use Rattle.def_words.specs.declared.Cap.{Cap}
use Rattle.def_memory.specs.declared.Granule.{Granule}

-- a plain word: no tag, so no shadow
abbrev pub plain : ℕ → Cap
plain n = record { tag = false; word = n; shadow = record { root = 0; source = 0 } }

-- a granule that reads as zero and isn't marked, as all of RAM is before boot
abbrev pub nothing : Granule
nothing = record { cap = plain 0; mark = false }

-- the granule of this number; past the end of RAM nothing is held
abbrev pub granule_at : List Granule → ℕ → Granule
granule_at gs k = slice_index_or gs k nothing

-- a granule that lost its bytes, its tag and its shadow, and kept its mark
abbrev pub blank : Granule → Granule
blank g = record g { cap = plain 0 }

-- ---- granules one by one

-- what a granule holds
abbrev pub cap_in : List Granule → ℕ → Cap
cap_in gs k = (granule_at gs k).cap

-- so many granules from k on
abbrev pub caps_from : List Granule → ℕ → ℕ → List Cap
caps_from gs k zero = []
caps_from gs k (suc n) = cap_in gs k ∷ caps_from gs (k + 1) n

-- the granule holds this; its mark stays
abbrev pub holding : List Granule → ℕ → Cap → List Granule
holding gs k c = slice_set gs k (record { cap = c; mark = (granule_at gs k).mark })

-- the granules from k on hold these
abbrev pub holding_all : List Granule → ℕ → List Cap → List Granule
holding_all gs k [] = gs
holding_all gs k (c ∷ cs) = holding_all (holding gs k c) (k + 1) cs
