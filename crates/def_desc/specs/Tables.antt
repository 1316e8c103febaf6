-- The tables of the members of each part, of its lists, and of the texts that a member may be.
use Rattle.std.specs.Prelude.{ℕ, List, [], Bool, Option, map}
use Rattle.ct_entry.specs.declared.hardware.DeviceKind.{DeviceKind}
use Rattle.ct_entry.specs.declared.hardware.TheConstants.{DEVICE_KINDS}
use Rattle.ct_entry.specs.declared.rows.Mode.{Mode}
use Rattle.def_desc.specs.declared.faults.PartWord.{PartWord}
use Rattle.def_desc.specs.declared.faults.PartWord.TheVariants as part
use Rattle.def_desc.specs.declared.tables.Shape.{Shape}
use Rattle.def_desc.specs.declared.tables.Passes.{Passes}
use Rattle.def_desc.specs.declared.tables.TheConstants.{FIRMWARE, RAM, DEVICE, SHARED, SEALED, COMPARTMENT, IMPORT, QUOTA, EXPORT, LIBRARY, LIMPORT, LEXPORT, THREAD, OUTER, OF_COMPARTMENT, OF_LIBRARY, POSTURES, LIBRARY_POSTURES, PASSES, SERVICES, FORMS, RIGHTED, CODE, DEVICE_RIGHTS, SHARED_RIGHTS}
use Rattle.def_desc.specs.Members.{says}

-- a member of a part: its name, what stands there, and whether it must be there
pub record Member : Type 0 where
  pub name : List ℕ
  pub shape : Shape
  pub needed : Bool

abbrev pub row : List ℕ → Shape → Bool → Member
row name shape needed = record { name = name; shape = shape; needed = needed }

-- a key is a number, and has no members
unfoldable pub members_of : PartWord → List Member
members_of part.Firmware = map (λ r. row r.0.now r.1 r.2) FIRMWARE
members_of part.Ram = map (λ r. row r.0.now r.1 r.2) RAM
members_of part.Device = map (λ r. row r.0.now r.1 r.2) DEVICE
members_of part.Shared = map (λ r. row r.0.now r.1 r.2) SHARED
members_of part.Sealed = map (λ r. row r.0.now r.1 r.2) SEALED
members_of part.Compartment = map (λ r. row r.0.now r.1 r.2) COMPARTMENT
members_of part.Import = map (λ r. row r.0.now r.1 r.2) IMPORT
members_of part.Quota = map (λ r. row r.0.now r.1 r.2) QUOTA
members_of part.Key = []
members_of part.Export = map (λ r. row r.0.now r.1 r.2) EXPORT
members_of part.Library = map (λ r. row r.0.now r.1 r.2) LIBRARY
members_of part.Limport = map (λ r. row r.0.now r.1 r.2) LIMPORT
members_of part.Lexport = map (λ r. row r.0.now r.1 r.2) LEXPORT
members_of part.Thread = map (λ r. row r.0.now r.1 r.2) THREAD

-- a list of a part: what its elements are, and its key
pub record Inner : Type 0 where
  pub part : PartWord
  pub key : List ℕ

abbrev pub inner : PartWord → List ℕ → Inner
inner part key = record { part = part; key = key }

unfoldable pub outer_lists : List Inner
outer_lists = map (λ r. inner r.0 r.1.now) OUTER

unfoldable pub inner_lists : PartWord → List Inner
inner_lists part.Compartment = map (λ r. inner r.0 r.1.now) OF_COMPARTMENT
inner_lists part.Library = map (λ r. inner r.0 r.1.now) OF_LIBRARY
inner_lists _ = []

unfoldable pub device_kind_named : List ℕ → Option DeviceKind
device_kind_named text = says (λ r. r.0.now) (λ r. r.1) text DEVICE_KINDS

unfoldable pub posture_of : List ℕ → Option Mode
posture_of text = says (λ r. r.0.now) (λ r. r.1) text POSTURES

unfoldable pub library_posture_of : List ℕ → Option Mode
library_posture_of text = says (λ r. r.0.now) (λ r. r.1) text LIBRARY_POSTURES

unfoldable pub passes_of : List ℕ → Option Passes
passes_of text = says (λ r. r.0.now) (λ r. r.1) text PASSES

-- the number of a service's native routine
unfoldable pub service_of : List ℕ → Option ℕ
service_of text = says (λ r. r.0.now) (λ r. r.1) text SERVICES

unfoldable pub form_names : List (List ℕ)
form_names = map (λ n. n.now) FORMS

unfoldable pub righted_names : List (List ℕ)
righted_names = map (λ n. n.now) RIGHTED

unfoldable pub code_names : List (List ℕ)
code_names = map (λ n. n.now) CODE

unfoldable pub device_rights : List (List ℕ)
device_rights = map (λ n. n.now) DEVICE_RIGHTS

unfoldable pub shared_rights : List (List ℕ)
shared_rights = map (λ n. n.now) SHARED_RIGHTS
