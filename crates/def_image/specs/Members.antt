-- What stands at an index of an image's lists, or nothing; and the numbers of its entries.
use Rattle.std.specs.Prelude.{ℕ, zero, suc, ◌+◌, ◌*◌, Bool, List, [], ◌∷◌, length, option_map, unwrap_or, slice_get, position, codes, bytes_eq}
use Rattle.ct_entry.specs.Listed.{DeviceRow}
use Rattle.def_profile.specs.declared.layout.TheConstants.{SLOT_SIZE, TABLE_HEAD, TABLE_ROW}
use Rattle.def_image.specs.Parts.{GateRow, SharedRow, SealedRow, CodeRow, CompartmentRow, ThreadRow, PartsRow}
use Rattle.def_image.specs.Sizes.{sum_of, compartment_count, library_count}

-- ---- at an index

abbrev pub no_code : CodeRow
no_code = record { name = []; base = 0; length = 0; slots = []; exports = []; text = [] }

abbrev pub no_compartment : CompartmentRow
no_compartment = record { code = no_code; table = 0; globals = 0; globals_length = 0; initial = [] }

abbrev pub compartment : PartsRow → ℕ → CompartmentRow
compartment p b = unwrap_or (slice_get p.compartments b) no_compartment

abbrev pub library : PartsRow → ℕ → CodeRow
library p l = unwrap_or (slice_get p.libraries l) no_code

abbrev pub no_shared : SharedRow
no_shared = record { name = []; base = 0; length = 0 }

abbrev pub shared : PartsRow → ℕ → SharedRow
shared p n = unwrap_or (slice_get p.shared n) no_shared

abbrev pub no_sealed : SealedRow
no_sealed = record { name = []; base = 0; length = 0; seal = 0; bytes = [] }

abbrev pub sealed : PartsRow → ℕ → SealedRow
sealed p n = unwrap_or (slice_get p.sealed n) no_sealed

abbrev pub device_base : PartsRow → ℕ → ℕ
device_base p n = unwrap_or (option_map (λ (d : DeviceRow). d.base) (slice_get p.devices n)) 0

-- the text follows the slots
abbrev pub text_base : CodeRow → ℕ
text_base c = c.base + SLOT_SIZE * length c.slots

-- an export of a compartment is its row in the export table
abbrev pub gate_address : CompartmentRow → ℕ → ℕ
gate_address c j = c.table + TABLE_HEAD + TABLE_ROW * j

-- ---- how many entries each owner has, and the number of its first

abbrev pub compartment_entries : CompartmentRow → ℕ
compartment_entries c = compartment_count c.code.slots c.code.exports

abbrev pub library_entries : CodeRow → ℕ
library_entries c = library_count c.slots c.exports

-- the number of the first entry of member i, where those of the first member begin at n; 0 where there is none
abbrev pub number_in : {A : Type 0} → (A → ℕ) → ℕ → List A → ℕ → ℕ
number_in entries n [] i = 0
number_in entries n (x ∷ xs) zero = n
number_in entries n (x ∷ xs) (suc i) = number_in entries (n + entries x) xs i

abbrev pub first_library : PartsRow → ℕ
first_library p = 1 + sum_of compartment_entries p.compartments

abbrev pub first_stack : PartsRow → ℕ
first_stack p = first_library p + sum_of library_entries p.libraries

abbrev pub code_number : PartsRow → ℕ → ℕ
code_number p b = number_in compartment_entries 1 p.compartments b

-- code comes first, then the globals
abbrev pub globals_number : PartsRow → ℕ → ℕ
globals_number p b = number_in compartment_entries 2 p.compartments b

abbrev pub library_number : PartsRow → ℕ → ℕ
library_number p l = number_in library_entries (first_library p) p.libraries l

abbrev pub stack_number : PartsRow → ℕ → ℕ
stack_number p t = number_in (λ (x : ThreadRow). 1) (first_stack p) p.threads t

-- export j of compartment b, and of library l
abbrev pub gate_number : PartsRow → ℕ → ℕ → ℕ
gate_number p b j = code_number p b + 2 + length (compartment p b).code.slots + j

abbrev pub library_gate_number : PartsRow → ℕ → ℕ → ℕ
library_gate_number p l j = library_number p l + 1 + length (library p l).slots + j

-- ---- error handlers

abbrev pub handler_name : List ℕ
handler_name = codes "handler"

abbrev pub is_handler : GateRow → Bool
is_handler x = bytes_eq x.name handler_name

-- of a compartment's error handler, its first export of this name; 0 where there is none
abbrev pub handler_number : PartsRow → ℕ → ℕ
handler_number p b =
    unwrap_or (option_map (gate_number p b) (position is_handler (compartment p b).code.exports)) 0
