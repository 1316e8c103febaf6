-- The regions of what is linked, in the order in which they are placed, and the sizes that they are
-- placed for.
use Rattle.std.specs.Prelude.{ℕ, ◌+◌, ◌*◌, List, [], ◌∷◌, ◌++◌, map, length, max}
use Rattle.def_profile.specs.declared.layout.TheConstants.{SLOT_SIZE}
use Rattle.def_layout.specs.declared.Region.{Region}
use Rattle.def_layout.specs.Placement.{region_from}
use Rattle.def_image.specs.Parts.{SharedRow as SharedPart, SealedRow as SealedPart, CodeRow as CodePart, CompartmentRow as CompartmentPart, ThreadRow as ThreadPart, PartsRow}
use Rattle.def_image.specs.Regions.{table_size, table_length, trusted_size, trusted_length}
use Rattle.def_desc.specs.Rows.{DescShared, DescSealed, DescCompartment, DescThread, DescRow}

-- code, export table and globals of each compartment
abbrev pub own_places : List CompartmentPart → List Region
own_places [] = []
own_places (c ∷ cs) =
    region_from c.code.base c.code.length
    ∷ region_from c.table (table_length c)
    ∷ region_from c.globals c.globals_length
    ∷ own_places cs

abbrev pub code_place : CodePart → Region
code_place c = region_from c.base c.length

abbrev pub shared_place : SharedPart → Region
shared_place s = region_from s.base s.length

abbrev pub sealed_place : SealedPart → Region
sealed_place s = region_from s.base s.length

abbrev pub stack_place : ThreadPart → Region
stack_place t = region_from t.stack t.stack_length

-- all regions but the heap
abbrev pub places : PartsRow → List Region
places p =
    own_places p.compartments
    ++ map code_place p.libraries
    ++ map shared_place p.shared
    ++ map sealed_place p.sealed
    ++ map stack_place p.threads
    ++ region_from p.trusted (trusted_length p) ∷ []

-- slots, then text
abbrev pub code_part_size : CodePart → ℕ
code_part_size c = SLOT_SIZE * length c.slots + length c.text

-- globals are of the described size, or have their initial bytes where these are more
abbrev pub own_sizes : List DescCompartment → List CompartmentPart → List ℕ
own_sizes [] cs = []
own_sizes (r ∷ rs) [] = []
own_sizes (r ∷ rs) (c ∷ cs) =
    code_part_size c.code
    ∷ table_size c.code
    ∷ max r.globals (length c.initial)
    ∷ own_sizes rs cs

-- what each region is placed for
abbrev pub sizes : DescRow → PartsRow → List ℕ
sizes d p =
    own_sizes d.compartments p.compartments
    ++ map code_part_size p.libraries
    ++ map (λ (s : DescShared). s.size) d.shared
    ++ map (λ (s : DescSealed). length s.bytes) d.sealed
    ++ map (λ (t : DescThread). t.stack) d.threads
    ++ trusted_size p.threads ∷ []
