-- What stands in RAM at boot, region by region, and what each granule is part of.
use Rattle.std.specs.Prelude.{ℕ, zero, suc, ◌+◌, ◌-◌, ◌*◌, ◌/◌, ◌%◌, ◌^◌, ◌==◌, ◌&&◌, Bool, false, nat_le, nat_lt, List, [], ◌∷◌, length, get_or, slice_get, Option, Some, None, if◌then◌else◌}
use Rattle.ct_entry.specs.declared.rows.Owner.{Owner}
use Rattle.ct_entry.specs.declared.rows.Owner.TheVariants.{Compartment, Library}
use Rattle.def_profile.specs.declared.layout.TheConstants.{GRANULE, SLOT_SIZE, TABLE_HEAD, TABLE_ROW}
use Rattle.def_words.specs.declared.Cap.{Cap}
use Rattle.def_memory.specs.declared.Granule.{Granule}
use Rattle.def_memory.specs.Granules.{plain}
use Rattle.def_machine.specs.Image.{Region, Fixed, Globals, Shared, HeapRam, Stack, Bare}
use Rattle.def_image.specs.Parts.{GateRow, CodeRow, PartsRow}
use Rattle.def_image.specs.Spelling.{export_field}
use Rattle.def_image.specs.Regions.{Holder, CodeOf, TableOf, GlobalsOf, SharedOf, SealedOf, StackOf, TrustedPart, RegionRow, regions_of}
use Rattle.def_image.specs.Members.{compartment, library, sealed, code_number, globals_number, library_number}
use Rattle.def_boot.specs.Made.{boot_cap_of, return_sentry}

-- ---- at an offset of a region, a multiple of 8

-- eight bytes from an offset, as a little-endian number; past the end they read as zero
abbrev pub byte_or_zero : List ℕ → ℕ → ℕ
byte_or_zero bytes at = get_or bytes at 0

abbrev pub word_from_bytes : List ℕ → ℕ → ℕ
word_from_bytes bytes at =
    byte_or_zero bytes at + byte_or_zero bytes (at + 1) * 2 ^ 8 + byte_or_zero bytes (at + 2) * 2 ^ 16
    + byte_or_zero bytes (at + 3) * 2 ^ 24
    + byte_or_zero bytes (at + 4) * 2 ^ 32 + byte_or_zero bytes (at + 5) * 2 ^ 40
    + byte_or_zero bytes (at + 6) * 2 ^ 48 + byte_or_zero bytes (at + 7) * 2 ^ 56

-- the slots, whose entries are numbered from `first`, then the text
abbrev pub code_content : PartsRow → ℕ → CodeRow → ℕ → Cap
code_content p first c k =
    if nat_lt k (SLOT_SIZE * length c.slots)
    then boot_cap_of p (first + k / SLOT_SIZE)
    else plain (word_from_bytes c.text (k - SLOT_SIZE * length c.slots))

abbrev pub gate_word : Option GateRow → ℕ → ℕ
gate_word None k = 0
gate_word (Some x) k = word_from_bytes (export_field x.row) k

-- the head, with the capabilities of code and globals; then the rows of the exports
abbrev pub table_content : PartsRow → ℕ → ℕ → Cap
table_content p b k =
    if k == 0 then boot_cap_of p (code_number p b)
    else if k == GRANULE then boot_cap_of p (globals_number p b)
    else plain
    (gate_word (slice_get (compartment p b).code.exports ((k - TABLE_HEAD) / TABLE_ROW))
    ((k - TABLE_HEAD) % TABLE_ROW))

-- a compartment's slots are numbered after its code and globals, a library's after its code
abbrev pub owned_content : PartsRow → Owner → ℕ → Cap
owned_content p (Compartment b) k = code_content p (code_number p b + 2) (compartment p b).code k
owned_content p (Library l) k = code_content p (library_number p l + 1) (library p l) k
owned_content p _ k = plain 0

abbrev pub content : PartsRow → Holder → ℕ → Cap
content p (CodeOf o) k = owned_content p o k
content p (TableOf b) k = table_content p b k
content p (GlobalsOf b) k = plain (word_from_bytes (compartment p b).initial k)
content p (SharedOf n) k = plain 0
content p (SealedOf n) k = plain (word_from_bytes (sealed p n).bytes k)
content p (StackOf t) k = plain 0
content p TrustedPart k = if k == 0 then return_sentry else plain 0

-- ---- by address

abbrev pub covers : ℕ → RegionRow → Bool
covers x r = nat_le r.base x && nat_lt x (r.base + r.length)

-- the region that an address lies in
abbrev pub region_in : List RegionRow → ℕ → Option RegionRow
region_in [] x = None
region_in (r ∷ rs) x = if covers x r then Some r else region_in rs x

unfoldable pub region_at : PartsRow → ℕ → Option RegionRow
region_at p x = region_in (regions_of p) x

-- between regions, and in the heap, RAM is zero
abbrev pub content_at : PartsRow → Option RegionRow → ℕ → Cap
content_at p None x = plain 0
content_at p (Some r) x = content p r.holder (x - r.base)

unfoldable pub boot_cap : PartsRow → ℕ → Cap
boot_cap p x = content_at p (region_at p x) x

abbrev pub boot_granule : PartsRow → ℕ → Granule
boot_granule p x = record { cap = boot_cap p x; mark = false }

-- n granules from address x on
abbrev pub granules_from : PartsRow → ℕ → ℕ → List Granule
granules_from p x zero = []
granules_from p x (suc n) = boot_granule p x ∷ granules_from p (x + GRANULE) n

abbrev pub granules_in : PartsRow → ℕ
granules_in p = p.size / GRANULE

unfoldable pub boot_granules : PartsRow → List Granule
boot_granules p = granules_from p p.ram (granules_in p)

-- ---- what each granule is part of

abbrev pub is_heap : PartsRow → ℕ → Bool
is_heap p x = nat_le p.heap x && nat_lt x (p.ram + p.size)

-- of the trusted region the first granule alone is as boot made it
abbrev pub region_part : Holder → ℕ → Region
region_part (CodeOf o) k = Fixed
region_part (TableOf b) k = Fixed
region_part (GlobalsOf b) k = Globals b
region_part (SharedOf n) k = Shared n
region_part (SealedOf n) k = Bare
region_part (StackOf t) k = Stack t
region_part TrustedPart k = if k == 0 then Fixed else Bare

abbrev pub part_at : PartsRow → Option RegionRow → ℕ → Region
part_at p None x = if is_heap p x then HeapRam else Bare
part_at p (Some r) x = region_part r.holder (x - r.base)

unfoldable pub part : PartsRow → ℕ → Region
part p x = part_at p (region_at p x) x

abbrev pub parts_from : PartsRow → ℕ → ℕ → List Region
parts_from p x zero = []
parts_from p x (suc n) = part p x ∷ parts_from p (x + GRANULE) n
