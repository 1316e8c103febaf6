-- What a name stands for in an image: the first of its kind that has the name.
use Rattle.std.specs.Prelude.{ℕ, List, [], ◌∷◌, Option, Some, None, option_map, option_and_then, position, bytes_eq}
use Rattle.ct_entry.specs.Listed.{DeviceRow}
use Rattle.ct_entry.specs.declared.rows.Owner.{Owner}
use Rattle.ct_entry.specs.declared.rows.Owner.TheVariants.{Compartment, Library}
use Rattle.def_image.specs.Parts.{CodeRow, CompartmentRow, GateRow, SharedRow, PartsRow}
use Rattle.def_image.specs.Members.{compartment, library, gate_number}

-- ---- owners

abbrev pub compartment_named : PartsRow → List ℕ → Option ℕ
compartment_named p name =
    position (λ (c : CompartmentRow). bytes_eq name c.code.name) p.compartments

abbrev pub library_named : PartsRow → List ℕ → Option ℕ
library_named p name = position (λ (l : CodeRow). bytes_eq name l.name) p.libraries

-- a compartment, or else a library
abbrev pub or_library : Option ℕ → Option ℕ → Option Owner
or_library (Some c) l = Some (Compartment c)
or_library None l = option_map (λ n. Library n) l

abbrev pub owner_named : PartsRow → List ℕ → Option Owner
owner_named p name = or_library (compartment_named p name) (library_named p name)

abbrev pub also : Option Owner → Option (List Owner) → Option (List Owner)
also None owners = None
also (Some o) owners = option_map (λ os. o ∷ os) owners

-- all of these
abbrev pub owners_named : PartsRow → List (List ℕ) → Option (List Owner)
owners_named p [] = Some []
owners_named p (name ∷ names) = also (owner_named p name) (owners_named p names)

-- ---- devices, shared objects

abbrev pub device_named : PartsRow → List ℕ → Option ℕ
device_named p name = position (λ (d : DeviceRow). bytes_eq name d.name) p.devices

abbrev pub shared_named : PartsRow → List ℕ → Option ℕ
shared_named p name = position (λ (s : SharedRow). bytes_eq name s.name) p.shared

-- ---- exports

abbrev pub export_in : PartsRow → List ℕ → ℕ → Option ℕ
export_in p name b =
    option_map (gate_number p b)
    (position (λ (x : GateRow). bytes_eq name x.name) (compartment p b).code.exports)

-- an export of a compartment, by the number of its entry
abbrev pub export_named : PartsRow → List ℕ → List ℕ → Option ℕ
export_named p owner name = option_and_then (export_in p name) (compartment_named p owner)

-- ---- and back

abbrev pub name_of : PartsRow → Owner → List ℕ
name_of p (Compartment c) = (compartment p c).code.name
name_of p (Library l) = (library p l).name
name_of p _ = []
