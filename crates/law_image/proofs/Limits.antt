-- I3: limits of the last version are no narrower, and the others don't depend on places.
use Rattle.std.proofs.Common.{ℕ, ◌≡◌, ◌+◌, ◌%◌, ◌==◌, ◌≤◌, ◌||◌, not, Bool, false, nat_lt, List, [], ◌++◌, length, map, None, refl, arith}
use Rattle.std.proofs.lemmas.Bool.{le-ltb, ltb-false, le-leb, or_from, or_parts}
use Rattle.def_profile.specs.declared.limits.TheConstants.{RAM_END}
use Rattle.def_image.specs.declared.RawEntry.{RawEntry}
use Rattle.def_image.specs.declared.format.TheConstants.{ENTRY, DEVICE, SHARED, THREAD, COMPARTMENT_HEAD, LIBRARY_HEAD}
use Rattle.def_image.specs.Raw.{RawDevice, RawShared, RawSealed, RawCode, RawCompartment, RawThread}
use Rattle.def_image.specs.Parts.{PartsRow, upgraded}
use Rattle.def_image.specs.Profile.{outside}
use Rattle.def_image.specs.Spelling.{raw_of, raw_thread}
use Rattle.def_image.specs.Sizes.{sum_of, entries_size, sealed_size, compartment_size, library_size, devices_at, shared_at, sealed_at, compartments_at, libraries_at, threads_at}
use Rattle.def_image.specs.Checks.{first, walked}
use Rattle.def_image.specs.Limits.{limit_checks, header_limits, name_checks, device_limits, shared_limits, sealed_limits, row_limits, gate_limits, own_slot_limits, slot_limits, export_limits, code_limits, own_numbers, own_slots_limits, own_gates, dirty_padding, library_numbers, slots_limits, library_gate_checks, compartment_limits_by, compartment_limits, library_limits_by, library_limits, thread_limits_by, thread_limits, Bounds, compartment_bounds, library_bounds, compartment_name, library_name, thread_name, raw_owner_names, raw_compartment_entries, raw_library_entries, first_library_entry}
use Rattle.law_image.proofs.Tells.{within_is}
use Rattle.law_image.proofs.Passing.{all_pass, joined_none}
use Rattle.law_image.proofs.Holding.{limited}
use Rattle.law_image.proofs.Flags.{flags, joined, none_of, none_alike, walks_alike}

-- ---- members

names_alike : (at place : ℕ) (unwanted : Bool) (seen : List (List ℕ)) (field : List ℕ) → flags (name_checks at unwanted seen field) ≡ flags (name_checks place unwanted seen field)
unfolding name_checks
names_alike at place unwanted seen field = refl

devices_alike : (at place : ℕ) (earlier : List RawDevice) (d : RawDevice) → flags (device_limits at earlier d) ≡ flags (device_limits place earlier d)
unfolding device_limits name_checks
devices_alike at place earlier d = refl

shared_alike : (at place : ℕ) (earlier : List RawShared) (s : RawShared) → flags (shared_limits at earlier s) ≡ flags (shared_limits place earlier s)
unfolding shared_limits name_checks
shared_alike at place earlier s = refl

sealed_alike : (at place : ℕ) (earlier : List RawSealed) (s : RawSealed) → flags (sealed_limits at earlier s) ≡ flags (sealed_limits place earlier s)
unfolding sealed_limits name_checks
sealed_alike at place earlier s = refl

own_slots_alike : (at place : ℕ) (earlier : List RawEntry) (s : RawEntry) → flags (own_slot_limits at earlier s) ≡ flags (own_slot_limits place earlier s)
unfolding own_slot_limits row_limits name_checks
own_slots_alike at place earlier s = refl

slots_alike : (at place : ℕ) (earlier : List RawEntry) (s : RawEntry) → flags (slot_limits at earlier s) ≡ flags (slot_limits place earlier s)
unfolding slot_limits row_limits name_checks
slots_alike at place earlier s = refl

exports_alike : (b : Bounds) (text entry at place : ℕ) (earlier : List RawEntry) (x : RawEntry) → flags (export_limits b text entry at earlier x) ≡ flags (export_limits b text entry place earlier x)
unfolding export_limits gate_limits name_checks
exports_alike b text entry at place earlier x = refl

threads_alike : (seen : List (List ℕ)) (at place : ℕ) (t : RawThread) → flags (thread_limits_by at seen t) ≡ flags (thread_limits_by place seen t)
unfolding thread_limits_by name_checks
threads_alike seen at place t = refl

-- ---- owners

compartment_alike : (entry : ℕ) (seen : List (List ℕ)) (at place : ℕ) (c : RawCompartment) → flags (compartment_limits_by entry at seen c) ≡ flags (compartment_limits_by entry place seen c)
unfolding compartment_limits_by
compartment_alike entry seen at place c =
    let k = c.code in
    let names = λ (n : ℕ). name_checks n false seen k.name in
    let front = λ (n : ℕ). names n ++ code_limits n k in
    let head = λ (n : ℕ). front n ++ own_numbers n c in
    let slots = λ (n : ℕ). own_slots_limits (n + COMPARTMENT_HEAD) k in
    let gates = λ (n : ℕ). own_gates entry n k in
    let asked = export_limits compartment_bounds (length k.text) (entry + 2 + length k.slots) in
    let a1 = joined (names at) (code_limits at k) (names place) (code_limits place k) (names_alike at place false seen k.name) refl in
    let a2 = joined (front at) (own_numbers at c) (front place) (own_numbers place c) a1 refl in
    let a3 = joined (head at) (slots at) (head place) (slots place) a2
    (walks_alike own_slot_limits own_slot_limits (λ s. ENTRY) (λ s. ENTRY) own_slots_alike (at + COMPARTMENT_HEAD) (place + COMPARTMENT_HEAD) [] k.slots) in
    let a4 = joined (head at ++ slots at) (gates at) (head place ++ slots place) (gates place) a3
    (walks_alike asked asked (λ x. ENTRY) (λ x. ENTRY) (exports_alike compartment_bounds (length k.text) (entry + 2 + length k.slots))
    (at + COMPARTMENT_HEAD + entries_size k.slots) (place + COMPARTMENT_HEAD + entries_size k.slots) [] k.exports) in
    joined (head at ++ slots at ++ gates at) (dirty_padding at c) (head place ++ slots place ++ gates place) (dirty_padding place c) a4 refl

library_alike : (entry : ℕ) (seen : List (List ℕ)) (at place : ℕ) (c : RawCode) → flags (library_limits_by entry at seen c) ≡ flags (library_limits_by entry place seen c)
unfolding library_limits_by
library_alike entry seen at place c =
    let names = λ (n : ℕ). name_checks n false seen c.name in
    let front = λ (n : ℕ). names n ++ code_limits n c in
    let head = λ (n : ℕ). front n ++ library_numbers n c in
    let slots = λ (n : ℕ). slots_limits (n + LIBRARY_HEAD) c in
    let asked = export_limits library_bounds (length c.text) (entry + 1 + length c.slots) in
    let a1 = joined (names at) (code_limits at c) (names place) (code_limits place c) (names_alike at place false seen c.name) refl in
    let a2 = joined (front at) (library_numbers at c) (front place) (library_numbers place c) a1 refl in
    let a3 = joined (head at) (slots at) (head place) (slots place) a2
    (walks_alike slot_limits slot_limits (λ s. ENTRY) (λ s. ENTRY) slots_alike (at + LIBRARY_HEAD) (place + LIBRARY_HEAD) [] c.slots) in
    joined (head at ++ slots at) (library_gate_checks entry at c) (head place ++ slots place) (library_gate_checks entry place c) a3
    (walks_alike asked asked (λ x. ENTRY) (λ x. ENTRY) (exports_alike library_bounds (length c.text) (entry + 1 + length c.slots))
    (at + LIBRARY_HEAD + entries_size c.slots) (place + LIBRARY_HEAD + entries_size c.slots) [] c.exports)

-- ---- the header, from the first version to the last

not_more : (a b n : ℕ) → a ≤ b → nat_lt a n ≡ false → nat_lt b n ≡ false
not_more a b n le e = le-ltb b n (omega (arith, ltb-false a n e, le))

within_so : (low high n : ℕ) → low ≤ n → n ≤ high → outside low high n ≡ false
within_so low high n a b = rw (le-leb low n a, le-leb n high b) refl

missized : (size ram : ℕ) → (outside 256 8388608 size || not (size % 16 == 0) || nat_lt RAM_END (ram + size)) ≡ false
    → (outside 256 67108864 size || not (size % 16 == 0) || nat_lt RAM_END (ram + size)) ≡ false
missized size ram e =
    let narrow = outside 256 8388608 size in
    let odd = not (size % 16 == 0) in
    let past = nat_lt RAM_END (ram + size) in
    let front = (or_parts (narrow || odd) past e).0 in
    let within = within_is 256 8388608 size (or_parts narrow odd front).0 in
    let low = within.0 in
    let high = within.1 in
    or_from (outside 256 67108864 size || odd) past
    (or_from (outside 256 67108864 size) odd (within_so 256 67108864 size low (omega (arith, high))) (or_parts narrow odd front).1) (or_parts (narrow || odd) past e).1

one_rate : (sweep : ℕ) → outside 64 64 sweep ≡ false → outside 1 65536 sweep ≡ false
one_rate sweep e =
    let within = within_is 64 64 sweep e in
    let low = within.0 in
    let high = within.1 in
    within_so 1 65536 sweep (omega (arith, low)) (omega (arith, high))

-- the same in the first version
abbrev pub the_first : PartsRow → PartsRow
the_first p = record p { version = 1 }

header_stays : (p : PartsRow) → first (header_limits (raw_of (the_first p))) ≡ None → first (header_limits (raw_of (upgraded p))) ≡ None
unfolding header_limits raw_of name_checks
header_stays p e =
    let h = all_pass (header_limits (raw_of (the_first p))) e in
    let t = h.1.1.1.1.1 in
    let n = t.1.1.1.1.1 in
    none_of (header_limits (raw_of (upgraded p))) (
      h.0,
      (
        h.1.0,
        (
          h.1.1.0,
          (
            h.1.1.1.0,
            (
              h.1.1.1.1.0,
              (
                not_more 16 64 (length (map raw_thread p.threads)) (omega arith) t.0,
                (t.1.0, (t.1.1.0, (missized p.size p.ram t.1.1.1.0, (one_rate p.sweep t.1.1.1.1.0, (n.0, (n.1.0, tt)))))),
              ),
            ),
          ),
        ),
      ),
    )

-- ---- all

pub limits_stay : (p : PartsRow) → first (limit_checks (raw_of (the_first p))) ≡ None → first (limit_checks (raw_of (upgraded p))) ≡ None
unfolding limit_checks raw_of
limits_stay p e =
    let old = the_first p in
    let r = raw_of old in
    let q = raw_of (upgraded p) in
    let was = limited r e in
    let h = header_limits q in
    let d = walked device_limits (λ d. DEVICE) (devices_at q) [] q.devices in
    let s = walked shared_limits (λ s. SHARED) (shared_at q) [] q.shared in
    let x = walked sealed_limits sealed_size (sealed_at q) [] q.sealed in
    let c = walked compartment_limits compartment_size (compartments_at q) [] q.compartments in
    let l = walked (library_limits q) library_size (libraries_at q) [] q.libraries in
    let t = walked (thread_limits q) (λ t. THREAD) (threads_at q) [] q.threads in
    let nh : first h ≡ None = header_stays p was.header in
    let nd : first d ≡ None = none_alike (walked device_limits (λ d. DEVICE) (devices_at r) [] r.devices) d
    (walks_alike device_limits device_limits (λ d. DEVICE) (λ d. DEVICE) devices_alike (devices_at r) (devices_at q) [] r.devices) was.devices in
    let ns : first s ≡ None = none_alike (walked shared_limits (λ s. SHARED) (shared_at r) [] r.shared) s
    (walks_alike shared_limits shared_limits (λ s. SHARED) (λ s. SHARED) shared_alike (shared_at r) (shared_at q) [] r.shared) was.shared in
    let nx : first x ≡ None = none_alike (walked sealed_limits sealed_size (sealed_at r) [] r.sealed) x
    (walks_alike sealed_limits sealed_limits sealed_size sealed_size sealed_alike (sealed_at r) (sealed_at q) [] r.sealed) was.sealed in
    let nc : first c ≡ None = none_alike (walked compartment_limits compartment_size (compartments_at r) [] r.compartments) c
    (walks_alike compartment_limits compartment_limits compartment_size compartment_size
    (λ at place earlier k. compartment_alike (1 + sum_of raw_compartment_entries earlier) (map compartment_name earlier) at place k) (compartments_at r) (compartments_at q) [] r.compartments) was.compartments in
    let nl : first l ≡ None = none_alike (walked (library_limits r) library_size (libraries_at r) [] r.libraries) l
    (walks_alike (library_limits r) (library_limits q) library_size library_size
    (λ at place earlier k. library_alike (first_library_entry r + sum_of raw_library_entries earlier) (map compartment_name r.compartments ++ map library_name earlier) at place k)
    (libraries_at r) (libraries_at q) [] r.libraries) was.libraries in
    let nt : first t ≡ None = none_alike (walked (thread_limits r) (λ t. THREAD) (threads_at r) [] r.threads) t
    (walks_alike (thread_limits r) (thread_limits q) (λ t. THREAD) (λ t. THREAD)
    (λ at place earlier k. threads_alike (raw_owner_names r ++ map thread_name earlier) at place k) (threads_at r) (threads_at q) [] r.threads) was.threads in
    joined_none (h ++ d ++ s ++ x ++ c ++ l) t
    (joined_none (h ++ d ++ s ++ x ++ c) l (joined_none (h ++ d ++ s ++ x) c (joined_none (h ++ d ++ s) x (joined_none (h ++ d) s (joined_none h d nh nd) ns) nx) nc) nl) nt
