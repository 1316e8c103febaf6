-- Rows of a lawful description with the objects of their code, as parts of an image ask for them.
use Rattle.std.specs.Prelude.{ℕ, ◌≡◌, ◌+◌, ◌<◌, ◌≤◌, ◌^◌, List, map, length}
use Rattle.std.specs.List.{AllByRecursion}
use Rattle.def_profile.specs.declared.limits.TheConstants as most
use Rattle.def_layout.specs.declared.Region.{Region}
use Rattle.def_image.specs.Parts.{CodeRow as CodePart}
use Rattle.def_desc.specs.Rows.{ExportRow, DescCompartment, LibraryRow, DescRow}
use Rattle.def_link.specs.Slots.{compartment_slots, compartment_gate_rows}
use Rattle.def_link.specs.Linked.{BuiltCompartment, BuiltLibrary, compartments_with, libraries_with, compartment_slot_count}
use Rattle.ct_asm.specs.Labels.{Assembled}
use Rattle.ct_link_objects.specs.Objects.{built_of}
use Rattle.ct_link_slots.specs.Exporters.{AreKeys}

-- an object of a code that is built: each of its stretches is within a section's limit
pub record IsSized (o : Assembled) : Type 0 where
  pub text : length o.text ≤ most.MOST_BYTES
  pub initial : length o.init ≤ most.MOST_BYTES

-- owners with the objects of their code
abbrev pub own_built : List DescCompartment → List Assembled → List BuiltCompartment
own_built cs os = compartments_with cs (map built_of os)

abbrev pub lent_built : List LibraryRow → List Assembled → List BuiltLibrary
lent_built ls os = libraries_with ls (map built_of os)

abbrev pub with_object : DescCompartment → Assembled → BuiltCompartment
with_object c o = record { row = c; built = built_of o }

abbrev pub library_with_object : LibraryRow → Assembled → BuiltLibrary
library_with_object l o = record { row = l; built = built_of o }

-- rows whose lists and numbers are within their limits
pub record IsSmallOwner (c : DescCompartment) : Type 0 where
  pub globals : c.globals ≤ most.MOST_BYTES
  pub imports : length c.imports ≤ most.MOST_IMPORTS
  pub quotas : length c.quotas ≤ most.MOST_QUOTAS
  pub keys : length c.keys ≤ most.MOST_KEYS
  pub exports : length c.exports ≤ most.MOST_EXPORTS
  pub key : AreKeys c.keys
  pub args : AllByRecursion (λ (x : ExportRow). x.args < 256) c.exports

pub record IsSmallLibrary (l : LibraryRow) : Type 0 where
  pub imports : length l.imports ≤ most.MOST_IMPORTS
  pub exports : length l.exports ≤ most.MOST_EXPORTS

-- compartments, each with its object
pub record AreOwn (cs : List DescCompartment) (os : List Assembled) : Type 0 where
  pub rows : AllByRecursion IsSmallOwner cs
  pub objects : AllByRecursion IsSized os
  pub each : length cs ≡ length os
  pub few : length cs ≤ most.MOST_COMPARTMENTS

-- libraries, each with its object
pub record AreLent (ls : List LibraryRow) (os : List Assembled) : Type 0 where
  pub rows : AllByRecursion IsSmallLibrary ls
  pub objects : AllByRecursion IsSized os
  pub each : length ls ≡ length os
  pub few : length ls ≤ most.MOST_LIBRARIES

-- how many entries a compartment's row has: code, globals, slots, exports
abbrev pub row_entries : DescCompartment → ℕ
row_entries c = 2 + compartment_slot_count c + length c.exports

abbrev pub library_row_entries : LibraryRow → ℕ
library_row_entries l = 1 + length l.imports + length l.exports

-- the code of a compartment whose entries begin at `entry`, in its region
abbrev pub code_in : DescRow → BuiltCompartment → ℕ → Region → CodePart
code_in d x entry region = record {
  name = x.row.name;
  base = region.base;
  length = region.length;
  slots = compartment_slots d x.row;
  exports = compartment_gate_rows x.built (entry + 2 + compartment_slot_count x.row) x.row;
  text = x.built.text;
}

-- exports of few arguments, numbered from an entry on, each beginning in a text that 32 bits count
pub record AreGated (o : Assembled) (entry : ℕ) (exports : List ExportRow) : Type 0 where
  pub text : length o.text < 2 ^ 32
  pub few : entry + length exports < 2 ^ 32
  pub args : AllByRecursion (λ (x : ExportRow). x.args < 256) exports
