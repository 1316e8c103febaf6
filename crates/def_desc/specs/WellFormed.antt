-- The first fault of a description, and when there is none.
use Rattle.std.specs.Prelude.{◌≡◌, ℕ, List, find, not, Bool, Option, Some, None, option_map, IsUtf8, ◌⊎◌}
use Rattle.serde_json.specs.Data.{Data}
use Rattle.serde_json.specs.Read.{read}
use Rattle.def_desc.specs.declared.faults.Place.{Place}
use Rattle.def_desc.specs.declared.faults.Fault.{Fault}
use Rattle.def_desc.specs.declared.faults.PartWord.TheVariants as part
use Rattle.def_desc.specs.Rows.{DescRow}
use Rattle.def_desc.specs.Reading.{description_of}
use Rattle.def_desc.specs.Walk.{Spot, place, spots_of}
use Rattle.def_desc.specs.Kinds.{has_kinds, has_only}
use Rattle.def_desc.specs.Names.{is_well_named, no_names, first_twice}
use Rattle.def_desc.specs.Limits.{keeps_limits}
use Rattle.def_desc.specs.References.{refers_at, rights_fit_at, is_served_at}
use Rattle.def_desc.specs.Addresses.{address_fault}

abbrev pub spot_place : Spot → Place
spot_place s = s.place

-- the first place of the walk at which a test fails
abbrev pub first_failing : (Spot → Bool) → List Spot → Option Place
first_failing test ss = option_map spot_place (find (λ s. not (test s)) ss)

abbrev pub fault : ℕ → Place → Fault
fault number place = record { number = number; place = place }

abbrev pub fault_or : ℕ → Option Place → Option Fault → Option Fault
fault_or number (Some p) rest = Some (fault number p)
fault_or number None rest = rest

-- the least number that holds anywhere, at its first place
unfoldable pub first_fault : Data → DescRow → List Spot → Option Fault
first_fault d rows ss =
    fault_or 2 (first_failing has_kinds ss)
    (fault_or 3 (first_failing has_only ss)
    (fault_or 4 (first_failing is_well_named ss)
    (fault_or 5 (first_twice no_names ss)
    (fault_or 6 (first_failing keeps_limits ss)
    (fault_or 7 (first_failing (refers_at d) ss)
    (fault_or 8 (first_failing rights_fit_at ss)
    (fault_or 9 (first_failing is_served_at ss)
    (fault_or 10 (address_fault rows) None))))))))

abbrev pub fault_of : Data → Option Fault
fault_of d = first_fault d (description_of d) (spots_of d)

-- the bytes are the JSON text of this value
abbrev pub IsText : List ℕ → Data → Type 0
IsText bytes d = IsUtf8 bytes × (read bytes ≡ Some d)

-- the bytes are a well-formed description, which stands for these rows
abbrev pub WellFormed : List ℕ → DescRow → Type 0
WellFormed bytes rows = (d : Data) × (IsText bytes d × (fault_of d ≡ None) × (rows ≡ description_of d))

-- F1: the bytes are no JSON text
abbrev pub json_fault : Fault
json_fault = fault 1 (place part.Firmware 0 0)

abbrev pub IsNoText : List ℕ → Type 0
IsNoText bytes = IsUtf8 bytes → read bytes ≡ None

-- the bytes have this fault: the least number that holds, at its first place
abbrev pub IsFaulty : List ℕ → Fault → Type 0
IsFaulty bytes f =
    ((f ≡ json_fault) × IsNoText bytes) ⊎ ((d : Data) × (IsText bytes d × (fault_of d ≡ Some f)))
