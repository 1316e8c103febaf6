-- The compartments and libraries of a description, one after another, each with its text, initial
-- bytes and labels; or the first fault of one.
use Rattle.std.specs.Prelude.{ℕ, ◌+◌, ◌%◌, List, [], ◌∷◌, ◌++◌, map, drop, length, Bool, ◌&&◌, ◌==◌, nat_lt, Option, Some, None, option_and_then, is_none, Result, Ok, Err, if◌then◌else◌}
use Rattle.std.specs.List.{flat_map}
use Rattle.ct_entry.specs.declared.rows.Owner.{Owner}
use Rattle.ct_entry.specs.declared.rows.Owner.TheVariants.{Compartment, Library}
use Rattle.ct_entry.specs.Kinds.{is_library}
use Rattle.def_source.specs.declared.AsmFault.{AsmFault}
use Rattle.def_source.specs.declared.AsmFault.TheVariants as asm
use Rattle.def_source.specs.Source.{Statements, program_of}
use Rattle.def_object.specs.declared.Fault.{Fault}
use Rattle.def_object.specs.declared.Label.{Label}
use Rattle.def_object.specs.Object.{undeclared_in, fault_in, label_in, text_of, text_offset, initial_of, word_bytes}
use Rattle.def_desc.specs.Named.{slot_names, library_slot_names}
use Rattle.def_desc.specs.Rows.{DescCode, AtRow, ExportRow, DescCompartment, LexportRow, LibraryRow, DescRow}
use Rattle.def_link.specs.declared.LinkFault.{LinkFault}
use Rattle.def_link.specs.declared.LinkFault.TheVariants as fault

-- ---- owners

-- what is linked of a compartment or a library: the names of its slots, its code, the places of its exports
pub record Unit : Type 0 where
  pub owner : Owner
  pub slots : List (List ℕ)
  pub code : DescCode
  pub exports : List AtRow

abbrev pub compartment_unit : ℕ → DescCompartment → Unit
compartment_unit i c = record {
  owner = Compartment i;
  slots = slot_names c;
  code = c.code;
  exports = map (λ (e : ExportRow). e.at) c.exports;
}

abbrev pub library_unit : ℕ → LibraryRow → Unit
library_unit i l = record {
  owner = Library i;
  slots = library_slot_names l;
  code = l.code;
  exports = map (λ (e : LexportRow). e.at) l.exports;
}

-- each element by its index, counted on from n
abbrev pub numbered : {A B : Type 0} → (ℕ → A → B) → ℕ → List A → List B
numbered f n [] = []
numbered f n (x ∷ xs) = f n x ∷ numbered f (n + 1) xs

-- compartments first
abbrev pub units_of : DescRow → List Unit
units_of d = numbered compartment_unit 0 d.compartments ++ numbered library_unit 0 d.libraries

-- ---- code

-- what stands for an owner's code; words have no labels and no initial bytes
pub record Built : Type 0 where
  pub text : List ℕ
  pub initial : List ℕ
  pub labels : List ℕ → Option Label

abbrev pub words_built : List ℕ → Built
words_built words = record { text = flat_map word_bytes words; initial = []; labels = λ name. None }

-- of statements: L3, then a fault of the assembly, else the object
abbrev pub assembled_or : Owner → List (List ℕ) → Statements → Option ℕ → Option Fault
    → Result Built LinkFault
assembled_or owner slots ss (Some line) faulty = Err (fault.Import owner line)
assembled_or owner slots ss None (Some f) = Err (fault.Asm owner f.number f.line)
assembled_or owner slots ss None None =
    Ok (record { text = text_of ss slots; initial = initial_of ss slots; labels = label_in ss })

abbrev pub assembled : Owner → List (List ℕ) → Statements → Result Built LinkFault
assembled owner slots ss = assembled_or owner slots ss (undeclared_in slots ss) (fault_in ss)

-- of a text: a fault of its lines first; a text never wants memory
abbrev pub read_or : Owner → List (List ℕ) → Result Statements AsmFault → Result Built LinkFault
read_or owner slots (Ok ss) = assembled owner slots ss
read_or owner slots (Err (asm.At number line)) = Err (fault.Asm owner number line)
read_or owner slots (Err asm.NoMemory) = Err fault.NoMemory

abbrev pub built_by : Owner → List (List ℕ) → List ℕ → List ℕ → Option (List ℕ)
    → Result Built LinkFault
built_by owner slots words source None = Ok (words_built words)
built_by owner slots words source (Some name) = read_or owner slots (program_of source)

abbrev pub built : Owner → List (List ℕ) → DescCode → List ℕ → Result Built LinkFault
built owner slots code source = built_by owner slots code.words source code.file

-- ---- exports

-- the offset that an export's place says: that of a label of the text, or the number itself
abbrev pub label_or : Built → Option (List ℕ) → ℕ → Option ℕ
label_or b None offset = Some offset
label_or b (Some name) offset = text_offset (b.labels name)

-- a multiple of 4 below the text's length
abbrev pub is_begin : Built → ℕ → Bool
is_begin b offset = offset % 4 == 0 && nat_lt offset (length b.text)

abbrev pub begin_of : Built → AtRow → Option ℕ
begin_of b at =
    option_and_then (λ offset. if is_begin b offset then Some offset else None)
    (label_or b at.label at.offset)

-- L1: the first export, counted from n, that has no such place
abbrev pub first_lost : Built → ℕ → List AtRow → Option ℕ
first_lost b n [] = None
first_lost b n (at ∷ ats) = if is_none (begin_of b at) then Some n else first_lost b (n + 1) ats

-- ---- an owner, and all of them

-- L4: a library has no globals, so no initial bytes
abbrev pub has_stray_bytes : Owner → Built → Bool
has_stray_bytes owner b = is_library owner && nat_lt 0 (length b.initial)

abbrev pub placed_or : Owner → Built → Option ℕ → Result Built LinkFault
placed_or owner b (Some n) = Err (fault.Export owner n)
placed_or owner b None = if has_stray_bytes owner b then Err (fault.Initial owner) else Ok b

abbrev pub unit_checked : Unit → Result Built LinkFault → Result Built LinkFault
unit_checked u (Err e) = Err e
unit_checked u (Ok b) = placed_or u.owner b (first_lost b 0 u.exports)

abbrev pub unit_built : Unit → List ℕ → Result Built LinkFault
unit_built u source = unit_checked u (built u.owner u.slots u.code source)

abbrev pub built_before : Result Built LinkFault → Result (List Built) LinkFault
    → Result (List Built) LinkFault
built_before (Err e) rest = Err e
built_before (Ok b) (Err e) = Err e
built_before (Ok b) (Ok bs) = Ok (b ∷ bs)

-- the owners with the texts of their files: one text for each code that is a file, in order
abbrev pub head_or_none : List (List ℕ) → List ℕ
head_or_none [] = []
head_or_none (s ∷ ss) = s

abbrev pub source_for : Option (List ℕ) → List (List ℕ) → List ℕ
source_for None sources = []
source_for (Some name) sources = head_or_none sources

abbrev pub rest_of : Option (List ℕ) → List (List ℕ) → List (List ℕ)
rest_of None sources = sources
rest_of (Some name) sources = drop 1 sources

unfoldable pub all_built : List Unit → List (List ℕ) → Result (List Built) LinkFault
all_built [] sources = Ok []
all_built (u ∷ us) sources =
    built_before (unit_built u (source_for u.code.file sources))
    (all_built us (rest_of u.code.file sources))
