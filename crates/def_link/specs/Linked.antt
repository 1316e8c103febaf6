-- What a description and its sources stand for: the parts of an image, or the first fault. A fault
-- of an owner comes first; L2, that RAM hasn't room for all regions, comes after all of them.
use Rattle.std.specs.Prelude.{ℕ, ◌+◌, ◌*◌, List, [], ◌∷◌, ◌++◌, map, length, max, take, drop, get_or, nat_lt, Result, Ok, Err, if◌then◌else◌}
use Rattle.def_profile.specs.Areas.{area_length}
use Rattle.def_profile.specs.declared.layout.TheConstants.{SLOT_SIZE, TABLE_HEAD, TABLE_ROW, TRUSTED_HEAD}
use Rattle.def_layout.specs.declared.Region.{Region}
use Rattle.def_layout.specs.Placement.{region_from, placed, last_end, needed}
use Rattle.def_image.specs.Sizes.{sum_of}
use Rattle.def_image.specs.Parts.{SharedRow as SharedPart, SealedRow as SealedPart, CodeRow as CodePart, CompartmentRow as CompartmentPart, ThreadRow as ThreadPart, PartsRow}
use Rattle.def_desc.specs.Rows.{DescCompartment, LibraryRow, DescShared, DescSealed, DescThread, DescRow}
use Rattle.def_link.specs.declared.LinkFault.{LinkFault}
use Rattle.def_link.specs.declared.LinkFault.TheVariants as fault
use Rattle.def_link.specs.Owners.{Built, units_of, all_built}
use Rattle.def_link.specs.Slots.{Exported, compartment_export_named, compartment_slots, library_slots, compartment_gate_rows, library_gate_rows}

-- a compartment or library with what stands for its code
pub record BuiltCompartment : Type 0 where
  pub row : DescCompartment
  pub built : Built

pub record BuiltLibrary : Type 0 where
  pub row : LibraryRow
  pub built : Built

abbrev pub compartments_with : List DescCompartment → List Built → List BuiltCompartment
compartments_with [] bs = []
compartments_with (c ∷ cs) [] = []
compartments_with (c ∷ cs) (b ∷ bs) = record { row = c; built = b } ∷ compartments_with cs bs

abbrev pub libraries_with : List LibraryRow → List Built → List BuiltLibrary
libraries_with [] bs = []
libraries_with (l ∷ ls) [] = []
libraries_with (l ∷ ls) (b ∷ bs) = record { row = l; built = b } ∷ libraries_with ls bs

-- ---- sizes, in the order of regions

-- slot 0, imports, quotas and keys
abbrev pub compartment_slot_count : DescCompartment → ℕ
compartment_slot_count c = 1 + length c.imports + length c.quotas + length c.keys

abbrev pub compartment_code_size : BuiltCompartment → ℕ
compartment_code_size x = SLOT_SIZE * compartment_slot_count x.row + length x.built.text

abbrev pub library_code_size : BuiltLibrary → ℕ
library_code_size x = SLOT_SIZE * length x.row.imports + length x.built.text

abbrev pub compartment_sizes : List BuiltCompartment → List ℕ
compartment_sizes [] = []
compartment_sizes (x ∷ xs) =
    compartment_code_size x
    ∷ (TABLE_HEAD + TABLE_ROW * length x.row.exports)
    ∷ max x.row.globals (length x.built.initial)
    ∷ compartment_sizes xs

-- saved registers and frames
abbrev pub saved_area_size : DescThread → ℕ
saved_area_size t = area_length t.frames

abbrev pub sizes_of : DescRow → List BuiltCompartment → List BuiltLibrary → List ℕ
sizes_of d cs ls =
    compartment_sizes cs
    ++ map library_code_size ls
    ++ map (λ (s : DescShared). s.size) d.shared
    ++ map (λ (s : DescSealed). length s.bytes) d.sealed
    ++ map (λ (t : DescThread). t.stack) d.threads
    ++ (TRUSTED_HEAD + sum_of saved_area_size d.threads) ∷ []

-- ---- parts, each with its regions

abbrev pub base_at : List Region → ℕ → ℕ
base_at regions n = (get_or regions n (region_from 0 0)).base

abbrev pub length_at : List Region → ℕ → ℕ
length_at regions n = (get_or regions n (region_from 0 0)).length

-- `entry` is the number of the first entry: code, globals, slots, exports
abbrev pub compartment_part : DescRow → ℕ → List Region → BuiltCompartment → CompartmentPart
compartment_part d entry regions x = record {
  code = record {
    name = x.row.name;
    base = base_at regions 0;
    length = length_at regions 0;
    slots = compartment_slots d x.row;
    exports = compartment_gate_rows x.built (entry + 2 + compartment_slot_count x.row) x.row;
    text = x.built.text;
  };
  table = base_at regions 1;
  globals = base_at regions 2;
  globals_length = length_at regions 2;
  initial = x.built.initial;
}

abbrev pub built_compartment_entries : BuiltCompartment → ℕ
built_compartment_entries x = 2 + compartment_slot_count x.row + length x.row.exports

unfoldable pub compartment_parts : DescRow → ℕ → List Region → List BuiltCompartment
    → List CompartmentPart
compartment_parts d entry regions [] = []
compartment_parts d entry regions (x ∷ xs) =
    compartment_part d entry regions x
    ∷ compartment_parts d (entry + built_compartment_entries x) (drop 3 regions) xs

-- code, slots, exports
abbrev pub library_part : DescRow → ℕ → List Region → BuiltLibrary → CodePart
library_part d entry regions x = record {
  name = x.row.name;
  base = base_at regions 0;
  length = length_at regions 0;
  slots = library_slots d x.row;
  exports = library_gate_rows x.built (entry + 1 + length x.row.imports) x.row;
  text = x.built.text;
}

abbrev pub built_library_entries : BuiltLibrary → ℕ
built_library_entries x = 1 + length x.row.imports + length x.row.exports

unfoldable pub library_parts : DescRow → ℕ → List Region → List BuiltLibrary → List CodePart
library_parts d entry regions [] = []
library_parts d entry regions (x ∷ xs) =
    library_part d entry regions x ∷ library_parts d (entry + built_library_entries x) (drop 1 regions) xs

unfoldable pub shared_parts : List Region → List DescShared → List SharedPart
shared_parts regions [] = []
shared_parts regions (s ∷ ss) =
    record { name = s.name; base = base_at regions 0; length = length_at regions 0 }
    ∷ shared_parts (drop 1 regions) ss

unfoldable pub sealed_parts : List Region → List DescSealed → List SealedPart
sealed_parts regions [] = []
sealed_parts regions (s ∷ ss) =
    record {
      name = s.name;
      base = base_at regions 0;
      length = length_at regions 0;
      seal = s.seal;
      bytes = s.bytes;
    }
    ∷ sealed_parts (drop 1 regions) ss

abbrev pub thread_part : List Region → Exported → DescThread → ThreadPart
thread_part regions x t = record {
  name = t.name;
  stack = base_at regions 0;
  stack_length = length_at regions 0;
  compartment = x.owner;
  export = x.export;
  priority = t.priority;
  frames = t.frames;
}

unfoldable pub thread_parts : DescRow → List Region → List DescThread → List ThreadPart
thread_parts d regions [] = []
thread_parts d regions (t ∷ ts) =
    thread_part regions (compartment_export_named d t.entry) t ∷ thread_parts d (drop 1 regions) ts

-- the parts over all regions: those of compartments stand first, then of libraries, shared and
-- sealed objects, stacks, and the trusted region
unfoldable pub parts_of : DescRow → List BuiltCompartment → List BuiltLibrary → List Region → ℕ
    → PartsRow
parts_of d cs ls regions heap =
    let libraries = 3 * length cs in
    let shared = libraries + length ls in
    let sealed = shared + length d.shared in
    let threads = sealed + length d.sealed in
    let trusted = threads + length d.threads in
    record {
      version = d.version;
      sweep = d.sweep;
      quantum = d.quantum;
      ram = d.ram.base;
      size = d.ram.size;
      trusted = base_at regions trusted;
      heap = heap;
      name = d.firmware;
      devices = d.devices;
      shared = shared_parts (drop shared regions) d.shared;
      sealed = sealed_parts (drop sealed regions) d.sealed;
      compartments = compartment_parts d 1 regions cs;
      libraries = library_parts d (1 + sum_of built_compartment_entries cs) (drop libraries regions) ls;
      threads = thread_parts d (drop threads regions) d.threads;
    }

-- ---- the answer

abbrev pub parts_by_sizes : DescRow → List BuiltCompartment → List BuiltLibrary → List ℕ
    → Result PartsRow LinkFault
parts_by_sizes d cs ls sizes =
    if nat_lt d.ram.size (needed d.ram.base sizes)
    then Err (fault.NoRoom (needed d.ram.base sizes) d.ram.size)
    else Ok (parts_of d cs ls (placed d.ram.base sizes) (last_end d.ram.base sizes))

abbrev pub built_parts : DescRow → List BuiltCompartment → List BuiltLibrary
    → Result PartsRow LinkFault
built_parts d cs ls = parts_by_sizes d cs ls (sizes_of d cs ls)

abbrev pub linked_with : DescRow → Result (List Built) LinkFault → Result PartsRow LinkFault
linked_with d (Err e) = Err e
linked_with d (Ok bs) =
    built_parts d (compartments_with d.compartments (take (length d.compartments) bs))
    (libraries_with d.libraries (drop (length d.compartments) bs))

-- of a well-formed description, with one text for each of its codes that is a file, in owner order
unfoldable pub linked : DescRow → List (List ℕ) → Result PartsRow LinkFault
linked d sources = linked_with d (all_built (units_of d) sources)
