-- I3: limits and forms of an image's fields. An offset beside a part's place is that of the field within the part, as
-- the format has it.
use Rattle.std.specs.Prelude.{ℕ, ◌+◌, ◌*◌, ◌%◌, ◌==◌, ◌&&◌, ◌||◌, Bool, false, not, nat_le, nat_lt, List, [], ◌∷◌, ◌++◌, length, map, take, drop, get_or, if◌then◌else◌, codes, bytes_eq}
use Rattle.std.specs.List.{list_all}
use Rattle.std.specs.Int.{w32, from_le_bytes}
use Rattle.def_profile.specs.declared.layout.TheConstants.{REGION_UNIT, SLOT_SIZE}
use Rattle.def_profile.specs.declared.limits.TheConstants as most
use Rattle.def_profile.specs.declared.limits.TheConstants.{LEAST_RAM, RAM_END, LEAST_STACK}
use Rattle.def_profile.specs.declared.seals.TheConstants.{FIRST_KEY_TYPE, LAST_KEY_TYPE}
use Rattle.def_texts.specs.Names.{is_name, among}
use Rattle.def_image.specs.declared.Check.{Check}
use Rattle.def_image.specs.declared.RawEntry.{RawEntry}
use Rattle.def_image.specs.declared.format.TheConstants.{ROW, ENTRY, DEVICE, SHARED, COMPARTMENT_HEAD, LIBRARY_HEAD, THREAD}
use Rattle.def_image.specs.Raw.{RawDevice, RawShared, RawSealed, RawCode, RawCompartment, RawThread, RawImage}
use Rattle.def_profile.specs.Versions as version
use Rattle.def_image.specs.Profile as profile
use Rattle.def_image.specs.Profile.{outside}
use Rattle.def_image.specs.Sizes.{sum_of, compartment_count, library_count, rate_size, sealed_size, entries_size, tables_size, compartment_size, library_size, devices_at, shared_at, sealed_at, compartments_at, libraries_at, threads_at}
use Rattle.def_image.specs.Checks.{check, walked}

-- ---- names: 32 bytes, of which the name is what stands before the first zero

abbrev pub name_in_field : List ℕ → List ℕ
name_in_field [] = []
name_in_field (b ∷ bs) = if b == 0 then [] else b ∷ name_in_field bs

abbrev pub are_zeros : List ℕ → Bool
are_zeros bytes = list_all (λ b. b == 0) bytes

-- it has the form of a name, isn't repeated, and is what is wanted here; zeros pad it
abbrev pub checks_of_name : ℕ → Bool → Bool → List ℕ → List Check
checks_of_name at repeated unwanted field =
    check at (not (is_name (name_in_field field)) || repeated || unwanted)
    ∷ check (at + length (name_in_field field)) (not (are_zeros (drop (length (name_in_field field)) field)))
    ∷ []

-- it is none of those seen
unfoldable pub name_checks : ℕ → Bool → List (List ℕ) → List ℕ → List Check
name_checks at unwanted seen field = checks_of_name at (among (name_in_field field) seen) unwanted field

-- ---- the header

-- RAM of this base and size, of a version
abbrev pub missized : ℕ → ℕ → ℕ → Bool
missized v ram size =
    outside LEAST_RAM (version.most_ram v) size
    || not (size % REGION_UNIT == 0)
    || nat_lt RAM_END (ram + size)

abbrev pub is_missized : RawImage → Bool
is_missized r = missized r.version r.ram r.size

-- how many members the lists have
abbrev pub count_limits : RawImage → List Check
count_limits r =
    check 8 (nat_lt most.MOST_DEVICES (length r.devices))
    ∷ check 12 (nat_lt most.MOST_OBJECTS (length r.shared))
    ∷ check 16 (nat_lt most.MOST_OBJECTS (length r.sealed))
    ∷ check 20 (nat_lt most.MOST_COMPARTMENTS (length r.compartments))
    ∷ check 24 (nat_lt most.MOST_LIBRARIES (length r.libraries))
    ∷ check 28 (nat_lt (version.most_threads r.version) (length r.threads))
    ∷ []

-- its numbers and the firmware's name
abbrev pub number_limits : RawImage → List Check
number_limits r =
    check 32 (outside 1 most.MOST_QUANTUM r.quantum)
    ∷ check 36 (not (r.ram % REGION_UNIT == 0))
    ∷ check 40 (is_missized r)
    ∷ check 52 (outside (version.least_sweep r.version) (version.most_sweep r.version) r.sweep)
    ∷ name_checks (52 + rate_size r.version) false [] r.name

unfoldable pub header_limits : RawImage → List Check
header_limits r = count_limits r ++ number_limits r

-- ---- devices and objects

abbrev pub raw_device_name : RawDevice → List ℕ
raw_device_name d = name_in_field d.name

unfoldable pub device_limits : ℕ → List RawDevice → RawDevice → List Check
device_limits at earlier d =
    name_checks at false (map raw_device_name earlier) d.name
    ++ check (at + 32) (outside 1 3 d.kind)
    ∷ []

abbrev pub shared_name : RawShared → List ℕ
shared_name s = name_in_field s.name

unfoldable pub shared_limits : ℕ → List RawShared → RawShared → List Check
shared_limits at earlier s =
    name_checks at false (map shared_name earlier) s.name
    ++ check (at + 36) (outside 1 most.MOST_BYTES s.length)
    ∷ []

abbrev pub sealed_name : RawSealed → List ℕ
sealed_name s = name_in_field s.name

-- so many bytes don't fit an object of this length
abbrev pub overfilled : ℕ → ℕ → Bool
overfilled size count = outside 1 most.MOST_BYTES count || nat_lt size count

abbrev pub overfills : RawSealed → Bool
overfills s = overfilled s.length (length s.bytes)

unfoldable pub sealed_limits : ℕ → List RawSealed → RawSealed → List Check
sealed_limits at earlier s =
    name_checks at false (map sealed_name earlier) s.name
    ++ check (at + 36) (outside 1 most.MOST_BYTES s.length)
    ∷ check (at + 40) (outside FIRST_KEY_TYPE LAST_KEY_TYPE s.seal)
    ∷ check (at + 44) (overfills s)
    ∷ check (at + 48 + length s.bytes) (not (are_zeros s.padding))
    ∷ []

-- ---- rows of 16 bytes

abbrev pub byte_in : List ℕ → ℕ → ℕ
byte_in row k = get_or row k 0

abbrev pub number_field : List ℕ → ℕ → ℕ
number_field row k = from_le_bytes w32 (take 4 (drop k row))

-- the first number of an import row, by its kind: a service's number, a quota's limit, a key's type
abbrev pub misnumbered : ℕ → ℕ → Bool
misnumbered kind n =
    if kind == 1 then nat_lt profile.last_service n
    else if kind == 7 then nat_lt most.MOST_QUOTA n
    else if kind == 8 then outside FIRST_KEY_TYPE LAST_KEY_TYPE n
    else false

-- a call or a library
abbrev pub has_second : ℕ → Bool
has_second kind = kind == 5 || kind == 6

-- kind, rights, two zero bytes, three numbers
unfoldable pub row_limits : ℕ → List ℕ → List Check
row_limits at row =
    check at (outside 1 8 (byte_in row 0))
    ∷ check (at + 1) (nat_lt 63 (byte_in row 1))
    ∷ check (at + 2) (not (are_zeros (take 2 (drop 2 row))))
    ∷ check (at + 4) (misnumbered (byte_in row 0) (number_field row 4))
    ∷ check (at + 8) (not (has_second (byte_in row 0)) && not (number_field row 8 == 0))
    ∷ check (at + 12) (not (number_field row 12 == 0))
    ∷ []

-- what an export of a compartment or a library may ask for, at most, and its least posture
pub record Bounds : Type 0 where
  pub stack : ℕ
  pub args : ℕ
  pub posture : ℕ
  pub passes : ℕ

abbrev pub compartment_bounds : Bounds
compartment_bounds = record {
  stack = most.MOST_STACK;
  args = most.MOST_ARGUMENTS;
  posture = 2;
  passes = 2;
}

abbrev pub library_bounds : Bounds
library_bounds = record { stack = 0; args = 0; posture = 1; passes = 1 }

-- offset in the text, stack, arguments, posture, passing, a zero byte, entry number
unfoldable pub gate_limits : Bounds → ℕ → ℕ → ℕ → List ℕ → List Check
gate_limits b text entry at row =
    check at (not (number_field row 0 % 4 == 0) || nat_le text (number_field row 0))
    ∷ check (at + 4) (nat_lt b.stack (number_field row 4))
    ∷ check (at + 8) (nat_lt b.args (byte_in row 8))
    ∷ check (at + 9) (outside b.posture 3 (byte_in row 9))
    ∷ check (at + 10) (outside 1 b.passes (byte_in row 10))
    ∷ check (at + 11) (not (byte_in row 11 == 0))
    ∷ check (at + 12) (not (number_field row 12 == entry))
    ∷ []

-- ---- slots and exports

abbrev pub entry_name : RawEntry → List ℕ
entry_name e = name_in_field e.name

-- the name that a key's slot must have, by the key's type
abbrev pub key_slot_name : ℕ → List ℕ
key_slot_name kind =
    if kind == 13 then codes "key13" else if kind == 14 then codes "key14" else if kind == 15 then codes "key15" else []

abbrev pub is_unnamed_key : RawEntry → Bool
is_unnamed_key s =
    (byte_in s.row 0 == 8) && not (bytes_eq (entry_name s) (key_slot_name (number_field s.row 4)))

abbrev pub switch_name : List ℕ
switch_name = codes "switch"

-- the first slot of a compartment has the switch's name
abbrev pub is_misnamed : List RawEntry → RawEntry → Bool
is_misnamed earlier s =
    if length earlier == 0 then not (bytes_eq (entry_name s) switch_name) else is_unnamed_key s

unfoldable pub own_slot_limits : ℕ → List RawEntry → RawEntry → List Check
own_slot_limits at earlier s =
    row_limits at s.row
    ++ name_checks (at + ROW) (is_misnamed earlier s) (map entry_name earlier) s.name

-- in a library
unfoldable pub slot_limits : ℕ → List RawEntry → RawEntry → List Check
slot_limits at earlier s =
    row_limits at s.row ++ name_checks (at + ROW) (is_unnamed_key s) (map entry_name earlier) s.name

-- `entry` is the number of the first export's entry
unfoldable pub export_limits : Bounds → ℕ → ℕ → ℕ → List RawEntry → RawEntry → List Check
export_limits b text entry at earlier x =
    gate_limits b text (entry + length earlier) at x.row
    ++ name_checks (at + ROW) false (map entry_name earlier) x.name

-- ---- compartments and libraries

abbrev pub compartment_name : RawCompartment → List ℕ
compartment_name c = name_in_field c.code.name

abbrev pub library_name : RawCode → List ℕ
library_name c = name_in_field c.name

abbrev pub raw_compartment_entries : RawCompartment → ℕ
raw_compartment_entries c = compartment_count c.code.slots c.code.exports

abbrev pub raw_library_entries : RawCode → ℕ
raw_library_entries c = library_count c.slots c.exports

-- slots and text fit the region; text is words
abbrev pub code_limits : ℕ → RawCode → List Check
code_limits at c =
    check (at + 36) (nat_lt c.length (SLOT_SIZE * length c.slots + length c.text))
    ∷ check (at + 40) (nat_lt most.MOST_BYTES (length c.text) || not (length c.text % 4 == 0))
    ∷ []

abbrev pub own_slots_limits : ℕ → RawCode → List Check
own_slots_limits at c = walked own_slot_limits (λ s. ENTRY) at [] c.slots

abbrev pub slots_limits : ℕ → RawCode → List Check
slots_limits at c = walked slot_limits (λ s. ENTRY) at [] c.slots

abbrev pub exports_limits : Bounds → ℕ → ℕ → RawCode → List Check
exports_limits b entry at c =
    walked (export_limits b (length c.text) entry) (λ x. ENTRY) at [] c.exports

-- the numbers of a compartment's head
abbrev pub own_numbers : ℕ → RawCompartment → List Check
own_numbers at c =
    check (at + 52) (outside REGION_UNIT most.MOST_BYTES c.globals_length)
    ∷ check (at + 56)
    (nat_lt most.MOST_BYTES (length c.initial) || nat_lt c.globals_length (length c.initial))
    ∷ check (at + 60) (outside 1 most.MOST_SLOTS (length c.code.slots))
    ∷ check (at + 64) (nat_lt most.MOST_EXPORTS (length c.code.exports))
    ∷ []

-- `entry` is the number of its first entry
abbrev pub own_gates : ℕ → ℕ → RawCode → List Check
own_gates entry at c =
    exports_limits compartment_bounds (entry + 2 + length c.slots)
    (at + COMPARTMENT_HEAD + entries_size c.slots) c

abbrev pub dirty_padding : ℕ → RawCompartment → List Check
dirty_padding at c =
    check (at + COMPARTMENT_HEAD + tables_size c.code + length c.initial)
    (not (are_zeros c.padding))
    ∷ []

unfoldable pub compartment_limits_by : ℕ → ℕ → List (List ℕ) → RawCompartment → List Check
compartment_limits_by entry at seen c =
    name_checks at false seen c.code.name
    ++ code_limits at c.code
    ++ own_numbers at c
    ++ own_slots_limits (at + COMPARTMENT_HEAD) c.code
    ++ own_gates entry at c.code
    ++ dirty_padding at c

abbrev pub compartment_limits : ℕ → List RawCompartment → RawCompartment → List Check
compartment_limits at earlier c =
    compartment_limits_by (1 + sum_of raw_compartment_entries earlier) at (map compartment_name earlier)
    c

-- the numbers of a library's head
abbrev pub library_numbers : ℕ → RawCode → List Check
library_numbers at c =
    check (at + 44) (nat_lt most.MOST_IMPORTS (length c.slots))
    ∷ check (at + 48) (nat_lt most.MOST_EXPORTS (length c.exports))
    ∷ []

abbrev pub library_gate_checks : ℕ → ℕ → RawCode → List Check
library_gate_checks entry at c =
    exports_limits library_bounds (entry + 1 + length c.slots)
    (at + LIBRARY_HEAD + entries_size c.slots) c

unfoldable pub library_limits_by : ℕ → ℕ → List (List ℕ) → RawCode → List Check
library_limits_by entry at seen c =
    name_checks at false seen c.name
    ++ code_limits at c
    ++ library_numbers at c
    ++ slots_limits (at + LIBRARY_HEAD) c
    ++ library_gate_checks entry at c

-- the number of the first library's first entry
abbrev pub first_library_entry : RawImage → ℕ
first_library_entry r = 1 + sum_of raw_compartment_entries r.compartments

-- after the compartments, with whose names theirs are one space
abbrev pub library_limits : RawImage → ℕ → List RawCode → RawCode → List Check
library_limits r at earlier c =
    library_limits_by (first_library_entry r + sum_of raw_library_entries earlier) at
    (map compartment_name r.compartments ++ map library_name earlier) c

-- ---- threads

abbrev pub thread_name : RawThread → List ℕ
thread_name t = name_in_field t.name

unfoldable pub thread_limits_by : ℕ → List (List ℕ) → RawThread → List Check
thread_limits_by at seen t =
    name_checks at false seen t.name
    ++ check (at + 36) (outside LEAST_STACK most.MOST_STACK_REGION t.stack_length)
    ∷ check (at + 48) (nat_lt most.MOST_PRIORITY t.priority)
    ∷ check (at + 52) (outside 1 most.MOST_FRAMES t.frames)
    ∷ []

abbrev pub raw_owner_names : RawImage → List (List ℕ)
raw_owner_names r = map compartment_name r.compartments ++ map library_name r.libraries

abbrev pub thread_limits : RawImage → ℕ → List RawThread → RawThread → List Check
thread_limits r at earlier t = thread_limits_by at (raw_owner_names r ++ map thread_name earlier) t

-- ---- all

unfoldable pub limit_checks : RawImage → List Check
limit_checks r =
    header_limits r
    ++ walked device_limits (λ d. DEVICE) (devices_at r) [] r.devices
    ++ walked shared_limits (λ s. SHARED) (shared_at r) [] r.shared
    ++ walked sealed_limits sealed_size (sealed_at r) [] r.sealed
    ++ walked compartment_limits compartment_size (compartments_at r) [] r.compartments
    ++ walked (library_limits r) library_size (libraries_at r) [] r.libraries
    ++ walked (thread_limits r) (λ t. THREAD) (threads_at r) [] r.threads
