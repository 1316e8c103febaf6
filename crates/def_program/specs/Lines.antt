-- The lines of refusals (docs/use/errors.md).
use Rattle.std.specs.Prelude.{ℕ, List, [], ◌∷◌, ◌++◌, codes, decimal, option_map, slice_get, unwrap_or}
use Rattle.ct_entry.specs.declared.rows.Owner.{Owner}
use Rattle.ct_entry.specs.declared.rows.Owner.TheVariants.{Compartment, Library}
use Rattle.def_desc.specs.declared.faults.Fault.{Fault}
use Rattle.def_desc.specs.declared.faults.PartWord.{PartWord}
use Rattle.def_desc.specs.declared.faults.PartWord.TheVariants as part
use Rattle.def_desc.specs.Rows.{DescCompartment, LibraryRow, DescRow}
use Rattle.def_link.specs.declared.LinkFault.{LinkFault}
use Rattle.def_link.specs.declared.LinkFault.TheVariants as fault
pub use Rattle.def_policy.specs.Rules.{spaced_words}
use Rattle.def_program.specs.declared.Status.{Status}
use Rattle.def_program.specs.declared.Status.TheVariants as status

abbrev pub refused : List ℕ → List (List ℕ) → List ℕ
refused word words = codes "refused " ++ word ++ spaced_words words

abbrev pub lettered : List ℕ → ℕ → List ℕ
lettered letter n = letter ++ decimal n

-- ---- files

abbrev pub usage_line : List ℕ
usage_line = refused (codes "1") (codes "usage" ∷ [])

abbrev pub read_line : List ℕ → List ℕ
read_line name = refused (codes "2") (codes "read" ∷ name ∷ [])

abbrev pub large_line : List ℕ → List ℕ
large_line name = refused (codes "3") (codes "large" ∷ name ∷ [])

-- ---- descriptions

abbrev pub part_word : PartWord → List ℕ
part_word part.Firmware = codes "firmware"
part_word part.Ram = codes "ram"
part_word part.Device = codes "device"
part_word part.Shared = codes "shared"
part_word part.Sealed = codes "sealed"
part_word part.Compartment = codes "compartment"
part_word part.Import = codes "import"
part_word part.Quota = codes "quota"
part_word part.Key = codes "key"
part_word part.Export = codes "export"
part_word part.Library = codes "library"
part_word part.Limport = codes "limport"
part_word part.Lexport = codes "lexport"
part_word part.Thread = codes "thread"

-- the fault's number, the part's word, and its index in the outer and in the inner list
abbrev pub description_line : Fault → List ℕ
description_line f =
    refused (codes "4")
    (codes "description" ∷ lettered (codes "F") f.number ∷ part_word f.place.part
    ∷ decimal f.place.index ∷ decimal f.place.item ∷ [])

-- ---- linking

abbrev pub described_owner_name : DescRow → Owner → List ℕ
described_owner_name d (Compartment i) =
    unwrap_or (option_map (λ (c : DescCompartment). c.name) (slice_get d.compartments i)) []
described_owner_name d (Library i) =
    unwrap_or (option_map (λ (l : LibraryRow). l.name) (slice_get d.libraries i)) []
described_owner_name d _ = []

abbrev pub link_line : List ℕ → List ℕ → ℕ → List ℕ
link_line rule owner n = refused (codes "6") (codes "link" ∷ rule ∷ owner ∷ decimal n ∷ [])

-- each fault of linking with its status and line; want of memory is none
abbrev pub link_status : LinkFault → Status
link_status (fault.Asm owner number line) = status.Assembly
link_status (fault.Export owner item) = status.Link
link_status (fault.NoRoom needed has) = status.Link
link_status (fault.Import owner line) = status.Link
link_status (fault.Initial owner) = status.Link
link_status fault.NoMemory = status.NoMemory

abbrev pub link_text : DescRow → LinkFault → List ℕ
link_text d (fault.Asm owner number line) =
    refused (codes "5")
    (codes "assembly" ∷ lettered (codes "A") number ∷ described_owner_name d owner ∷ decimal line ∷ [])
link_text d (fault.Export owner item) = link_line (codes "L1") (described_owner_name d owner) item
link_text d (fault.NoRoom needed has) = link_line (codes "L2") (decimal needed) has
link_text d (fault.Import owner line) = link_line (codes "L3") (described_owner_name d owner) line
link_text d (fault.Initial owner) = link_line (codes "L4") (described_owner_name d owner) 0
link_text d fault.NoMemory = []

-- ---- images

-- the fault's number, and the place in bytes
abbrev pub image_line : ℕ → ℕ → List ℕ
image_line number place =
    refused (codes "7") (codes "image" ∷ lettered (codes "I") number ∷ decimal place ∷ [])

-- ---- names

abbrev pub name_line : List ℕ
name_line = refused (codes "11") (codes "name" ∷ [])

-- ---- scripts

-- the fault's number, and the line that is at fault, counted from 1
abbrev pub script_line : ℕ → ℕ → List ℕ
script_line number line =
    refused (codes "8") (codes "script" ∷ lettered (codes "S") number ∷ decimal line ∷ [])

-- ---- policies

-- the fault's number, and the line that is at fault, counted from 1
abbrev pub policy_line : ℕ → ℕ → List ℕ
policy_line number line =
    refused (codes "13") (codes "policy" ∷ lettered (codes "P") number ∷ decimal line ∷ [])

-- no rule is broken
abbrev pub allow_line : List ℕ
allow_line = codes "allow" ++ 10 ∷ []
