-- The part of a running firmware that never changes.
use Rattle.std.specs.Prelude.{ℕ, ◌+◌, ◌-◌, ◌*◌, ◌/◌, List, [], ◌∷◌, take, slice_index_or}
use Rattle.def_profile.specs.Areas.{area_length}
use Rattle.def_words.specs.declared.Cap.{Cap}
use Rattle.def_memory.specs.declared.Granule.{Granule}
use Rattle.def_memory.specs.Granules.{plain, nothing}
use Rattle.ct_entry.specs.Listed.{Listed}
use Rattle.def_reach.specs.Roots.{Root, root_of}

-- What a granule of RAM is part of. Fixed granules, which hold code of compartments and libraries, export
-- tables or the return sentry, stay as boot made them. Bare ones never hold a capability: sealed objects,
-- the trusted region past its first granule, and what no region covers.
pub data Region : Type 0 where
  Fixed : Region
  Globals : ℕ → Region
  Shared : ℕ → Region
  HeapRam : Region
  Stack : ℕ → Region
  Bare : Region

-- `made` has for each entry's number the capability that boot makes for it, and at 0 the return sentry;
-- `regions` and `boot` go by granule; `codes` and `globals` have by compartment the number of the entry of
-- its code and of its globals, and `handlers` that of its error handler's export, 0 where it has none; `stacks`
-- has by thread that of its stack; `frames` says by thread how many it may have, and `priorities` its priority, greater
-- first; `trusted` is where the threads' areas begin; `sweep` is how many granules a slice passes. Addresses count bytes.
pub record Image : Type 0 where
  pub entries : Listed
  pub made : List Cap
  pub ram : ℕ
  pub regions : List Region
  pub boot : List Granule
  pub codes : List ℕ
  pub globals : List ℕ
  pub handlers : List ℕ
  pub stacks : List ℕ
  pub frames : List ℕ
  pub priorities : List ℕ
  pub trusted : ℕ
  pub sweep : ℕ
  pub heap_base : ℕ
  pub heap_end : ℕ

abbrev pub root : Image → ℕ → Root
root i n = root_of i.entries n

abbrev pub made_cap : Image → ℕ → Cap
made_cap i n = slice_index_or i.made n (plain 0)

abbrev pub region : Image → ℕ → Region
region i k = slice_index_or i.regions k Bare

abbrev pub booted : Image → ℕ → Granule
booted i k = slice_index_or i.boot k nothing

abbrev pub code_entry : Image → ℕ → ℕ
code_entry i b = slice_index_or i.codes b 0

abbrev pub globals_entry : Image → ℕ → ℕ
globals_entry i b = slice_index_or i.globals b 0

-- of a compartment's error handler, its export; 0 where it has none
abbrev pub handler_entry : Image → ℕ → ℕ
handler_entry i b = slice_index_or i.handlers b 0

abbrev pub stack_entry : Image → ℕ → ℕ
stack_entry i t = slice_index_or i.stacks t 0

-- the ends of a thread's stack
abbrev pub stack_base : Image → ℕ → ℕ
stack_base i t = (root i (stack_entry i t)).base

abbrev pub stack_top : Image → ℕ → ℕ
stack_top i t = (root i (stack_entry i t)).top

-- the granule of an address, and the address of a granule
abbrev pub granule_of : Image → ℕ → ℕ
granule_of i x = (x - i.ram) / 8

abbrev pub address_of : Image → ℕ → ℕ
address_of i k = i.ram + 8 * k

-- ---- the threads' areas, each with room for as many frames as its thread may have

abbrev pub areas_size : List ℕ → ℕ
areas_size [] = 0
areas_size (n ∷ ns) = area_length n + areas_size ns

abbrev pub frames_most : Image → ℕ → ℕ
frames_most i t = slice_index_or i.frames t 0

-- where a thread's area begins, and where all of them end
abbrev pub area_of : Image → ℕ → ℕ
area_of i t = i.trusted + areas_size (take t i.frames)

abbrev pub trusted_end : Image → ℕ
trusted_end i = i.trusted + areas_size i.frames
