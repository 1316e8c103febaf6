-- What tests that compute say of fields and parts.
use Rattle.std.proofs.Common.{ℕ, ◌≡◌, ◌<◌, ◌==◌, ◌&&◌, ◌||◌, not, Bool, true, nat_lt, List, [], ◌∷◌, length, subst, arith}
use Rattle.std.specs.List.{list_all, AllByRecursion}
use Rattle.std.proofs.lemmas.Bool.{ltb-true, eqb-true}
use Rattle.law_lists.proofs.Tests.{both_left, both_right}
use Rattle.ct_entry.specs.Listed.{DeviceRow}
use Rattle.def_image.specs.declared.RawEntry.{RawEntry}
use Rattle.def_image.specs.Raw.{RawDevice, RawCode, RawCompartment, RawThread, RawImage}
use Rattle.def_image.specs.Parts.{SlotRow, GateRow, SharedRow, SealedRow, CodeRow, CompartmentRow, ThreadRow, PartsRow}
use Rattle.def_image.specs.Spelling.{padding_after, raw_of}
use Rattle.def_image.specs.Shapes.{IsField, IsNumber, IsCounted, IsRawEntry, IsDevice, IsShared, IsSealed, IsCode, IsCompartment, IsThread, IsShaped, Clean, SpellableSlot, SpellableGate, SpellableCode, IsSpellable}
use Rattle.law_answers.proofs.Tests.{are_bytes, is_field, is_number, is_counted, is_entry, is_device, is_code, is_compartment, is_thread, is_plain, is_clean, is_clean_slot, is_clean_gate, is_clean_code, is_plainly_spelled}

all_by : {A : Type 0} (test : A → Bool) (P : A → Type 0) → ((x : A) → test x ≡ true → P x) → (xs : List A) → list_all test xs ≡ true → AllByRecursion P xs
all_by test P one [] h = tt
all_by test P one (x ∷ xs) h = (one x (both_left (test x) (list_all test xs) h), all_by test P one xs (both_right (test x) (list_all test xs) h))

-- nothing fails of a list that is empty
none_by : {A : Type 0} (P : A → Type 0) (xs : List A) → (length xs == 0) ≡ true → IsNumber (length xs) × AllByRecursion P xs
none_by P [] h = (omega arith, tt)
none_by P (x ∷ xs) h = absurd (let e = eqb-true (length (x ∷ xs)) 0 h in omega (arith, e))

number_by : (n : ℕ) → is_number n ≡ true → IsNumber n
number_by n h = ltb-true n 4294967296 h

bytes_by : (bs : List ℕ) → are_bytes bs ≡ true → AllByRecursion (λ b. b < 256) bs
bytes_by bs h = all_by (λ b. nat_lt b 256) (λ b. b < 256) (λ b e. ltb-true b 256 e) bs h

field_by : (n : ℕ) (bs : List ℕ) → is_field n bs ≡ true → IsField n bs
field_by n bs h = record {
  size = eqb-true (length bs) n (both_left (length bs == n) (are_bytes bs) h);
  each = bytes_by bs (both_right (length bs == n) (are_bytes bs) h);
}

counted_by : (bs : List ℕ) → is_counted bs ≡ true → IsCounted bs
counted_by bs h = (number_by (length bs) (both_left (is_number (length bs)) (are_bytes bs) h), bytes_by bs (both_right (is_number (length bs)) (are_bytes bs) h))

list_by : {A : Type 0} (test : A → Bool) (P : A → Type 0) → ((x : A) → test x ≡ true → P x) → (xs : List A) → (is_number (length xs) && list_all test xs) ≡ true → IsNumber (length xs) × AllByRecursion P xs
list_by test P one xs h = (number_by (length xs) (both_left (is_number (length xs)) (list_all test xs) h), all_by test P one xs (both_right (is_number (length xs)) (list_all test xs) h))

entry_by : (e : RawEntry) → is_entry e ≡ true → IsRawEntry e
entry_by e h = (field_by 16 e.row (both_left (is_field 16 e.row) (is_field 32 e.name) h), field_by 32 e.name (both_right (is_field 16 e.row) (is_field 32 e.name) h))

device_by : (d : RawDevice) → is_device d ≡ true → IsDevice d
device_by d h =
    let h2 = both_left (is_field 32 d.name && is_number d.kind) (is_number d.base) h in
    let h1 = both_left (is_field 32 d.name) (is_number d.kind) h2 in
    (field_by 32 d.name (h1), number_by d.kind (both_right (is_field 32 d.name) (is_number d.kind) h2), number_by d.base (both_right (is_field 32 d.name && is_number d.kind) (is_number d.base) h))

code_by : (c : RawCode) → is_code c ≡ true → IsCode c
code_by c h =
    let h5 = both_left (is_field 32 c.name && is_number c.base && is_number c.length && (is_number (length c.slots) && list_all is_entry c.slots) && (is_number (length c.exports) && list_all is_entry c.exports)) (is_counted c.text) h in
    let h4 = both_left (is_field 32 c.name && is_number c.base && is_number c.length && (is_number (length c.slots) && list_all is_entry c.slots)) ((is_number (length c.exports) && list_all is_entry c.exports)) h5 in
    let h3 = both_left (is_field 32 c.name && is_number c.base && is_number c.length) ((is_number (length c.slots) && list_all is_entry c.slots)) h4 in
    let h2 = both_left (is_field 32 c.name && is_number c.base) (is_number c.length) h3 in
    let h1 = both_left (is_field 32 c.name) (is_number c.base) h2 in
    record {
      name = field_by 32 c.name (h1);
      base = number_by c.base (both_right (is_field 32 c.name) (is_number c.base) h2);
      size = number_by c.length (both_right (is_field 32 c.name && is_number c.base) (is_number c.length) h3);
      slots = list_by is_entry IsRawEntry entry_by c.slots (both_right (is_field 32 c.name && is_number c.base && is_number c.length) ((is_number (length c.slots) && list_all is_entry c.slots)) h4);
      exports = list_by is_entry IsRawEntry entry_by c.exports (both_right (is_field 32 c.name && is_number c.base && is_number c.length && (is_number (length c.slots) && list_all is_entry c.slots)) ((is_number (length c.exports) && list_all is_entry c.exports)) h5);
      text = counted_by c.text (both_right (is_field 32 c.name && is_number c.base && is_number c.length && (is_number (length c.slots) && list_all is_entry c.slots) && (is_number (length c.exports) && list_all is_entry c.exports)) (is_counted c.text) h);
    }

compartment_by : (c : RawCompartment) → is_compartment c ≡ true → IsCompartment c
compartment_by c h =
    let h5 = both_left (is_code c.code && is_number c.table && is_number c.globals && is_number c.globals_length && is_counted c.initial) (is_field (padding_after (length c.initial)) c.padding) h in
    let h4 = both_left (is_code c.code && is_number c.table && is_number c.globals && is_number c.globals_length) (is_counted c.initial) h5 in
    let h3 = both_left (is_code c.code && is_number c.table && is_number c.globals) (is_number c.globals_length) h4 in
    let h2 = both_left (is_code c.code && is_number c.table) (is_number c.globals) h3 in
    let h1 = both_left (is_code c.code) (is_number c.table) h2 in
    record {
      code = code_by c.code (h1);
      table = number_by c.table (both_right (is_code c.code) (is_number c.table) h2);
      globals = number_by c.globals (both_right (is_code c.code && is_number c.table) (is_number c.globals) h3);
      size = number_by c.globals_length (both_right (is_code c.code && is_number c.table && is_number c.globals) (is_number c.globals_length) h4);
      initial = counted_by c.initial (both_right (is_code c.code && is_number c.table && is_number c.globals && is_number c.globals_length) (is_counted c.initial) h5);
      padding = field_by (padding_after (length c.initial)) c.padding (both_right (is_code c.code && is_number c.table && is_number c.globals && is_number c.globals_length && is_counted c.initial) (is_field (padding_after (length c.initial)) c.padding) h);
    }

thread_by : (t : RawThread) → is_thread t ≡ true → IsThread t
thread_by t h =
    let h6 = both_left (is_field 32 t.name && is_number t.stack && is_number t.stack_length && is_number t.compartment && is_number t.export && is_number t.priority) (is_number t.frames) h in
    let h5 = both_left (is_field 32 t.name && is_number t.stack && is_number t.stack_length && is_number t.compartment && is_number t.export) (is_number t.priority) h6 in
    let h4 = both_left (is_field 32 t.name && is_number t.stack && is_number t.stack_length && is_number t.compartment) (is_number t.export) h5 in
    let h3 = both_left (is_field 32 t.name && is_number t.stack && is_number t.stack_length) (is_number t.compartment) h4 in
    let h2 = both_left (is_field 32 t.name && is_number t.stack) (is_number t.stack_length) h3 in
    let h1 = both_left (is_field 32 t.name) (is_number t.stack) h2 in
    (field_by 32 t.name (h1), number_by t.stack (both_right (is_field 32 t.name) (is_number t.stack) h2), number_by t.stack_length (both_right (is_field 32 t.name && is_number t.stack) (is_number t.stack_length) h3), number_by t.compartment (both_right (is_field 32 t.name && is_number t.stack && is_number t.stack_length) (is_number t.compartment) h4), number_by t.export (both_right (is_field 32 t.name && is_number t.stack && is_number t.stack_length && is_number t.compartment) (is_number t.export) h5), number_by t.priority (both_right (is_field 32 t.name && is_number t.stack && is_number t.stack_length && is_number t.compartment && is_number t.export) (is_number t.priority) h6), number_by t.frames (both_right (is_field 32 t.name && is_number t.stack && is_number t.stack_length && is_number t.compartment && is_number t.export && is_number t.priority) (is_number t.frames) h))

rate_by : (v n : ℕ) → (not (v == 1) || n == 64) ≡ true → v ≡ 1 → n ≡ 64
rate_by v n h one = eqb-true n 64 (subst (λ (k : ℕ). (not (k == 1) || n == 64) ≡ true) one h)

pub plain_by : (r : RawImage) → is_plain r ≡ true → IsShaped r
plain_by r h =
    let h14 = both_left (is_number r.version && (not (r.version == 1) || r.sweep == 64) && is_number r.sweep && is_number r.quantum && is_number r.ram && is_number r.size && is_number r.trusted && is_number r.heap && is_field 32 r.name && (is_number (length r.devices) && list_all is_device r.devices) && (length r.shared == 0) && (length r.sealed == 0) && (is_number (length r.compartments) && list_all is_compartment r.compartments) && (length r.libraries == 0)) ((is_number (length r.threads) && list_all is_thread r.threads)) h in
    let h13 = both_left (is_number r.version && (not (r.version == 1) || r.sweep == 64) && is_number r.sweep && is_number r.quantum && is_number r.ram && is_number r.size && is_number r.trusted && is_number r.heap && is_field 32 r.name && (is_number (length r.devices) && list_all is_device r.devices) && (length r.shared == 0) && (length r.sealed == 0) && (is_number (length r.compartments) && list_all is_compartment r.compartments)) ((length r.libraries == 0)) h14 in
    let h12 = both_left (is_number r.version && (not (r.version == 1) || r.sweep == 64) && is_number r.sweep && is_number r.quantum && is_number r.ram && is_number r.size && is_number r.trusted && is_number r.heap && is_field 32 r.name && (is_number (length r.devices) && list_all is_device r.devices) && (length r.shared == 0) && (length r.sealed == 0)) ((is_number (length r.compartments) && list_all is_compartment r.compartments)) h13 in
    let h11 = both_left (is_number r.version && (not (r.version == 1) || r.sweep == 64) && is_number r.sweep && is_number r.quantum && is_number r.ram && is_number r.size && is_number r.trusted && is_number r.heap && is_field 32 r.name && (is_number (length r.devices) && list_all is_device r.devices) && (length r.shared == 0)) ((length r.sealed == 0)) h12 in
    let h10 = both_left (is_number r.version && (not (r.version == 1) || r.sweep == 64) && is_number r.sweep && is_number r.quantum && is_number r.ram && is_number r.size && is_number r.trusted && is_number r.heap && is_field 32 r.name && (is_number (length r.devices) && list_all is_device r.devices)) ((length r.shared == 0)) h11 in
    let h9 = both_left (is_number r.version && (not (r.version == 1) || r.sweep == 64) && is_number r.sweep && is_number r.quantum && is_number r.ram && is_number r.size && is_number r.trusted && is_number r.heap && is_field 32 r.name) ((is_number (length r.devices) && list_all is_device r.devices)) h10 in
    let h8 = both_left (is_number r.version && (not (r.version == 1) || r.sweep == 64) && is_number r.sweep && is_number r.quantum && is_number r.ram && is_number r.size && is_number r.trusted && is_number r.heap) (is_field 32 r.name) h9 in
    let h7 = both_left (is_number r.version && (not (r.version == 1) || r.sweep == 64) && is_number r.sweep && is_number r.quantum && is_number r.ram && is_number r.size && is_number r.trusted) (is_number r.heap) h8 in
    let h6 = both_left (is_number r.version && (not (r.version == 1) || r.sweep == 64) && is_number r.sweep && is_number r.quantum && is_number r.ram && is_number r.size) (is_number r.trusted) h7 in
    let h5 = both_left (is_number r.version && (not (r.version == 1) || r.sweep == 64) && is_number r.sweep && is_number r.quantum && is_number r.ram) (is_number r.size) h6 in
    let h4 = both_left (is_number r.version && (not (r.version == 1) || r.sweep == 64) && is_number r.sweep && is_number r.quantum) (is_number r.ram) h5 in
    let h3 = both_left (is_number r.version && (not (r.version == 1) || r.sweep == 64) && is_number r.sweep) (is_number r.quantum) h4 in
    let h2 = both_left (is_number r.version && (not (r.version == 1) || r.sweep == 64)) (is_number r.sweep) h3 in
    let h1 = both_left (is_number r.version) ((not (r.version == 1) || r.sweep == 64)) h2 in
    record {
      version = number_by r.version (h1);
      rate = λ one. rate_by r.version r.sweep (both_right (is_number r.version) ((not (r.version == 1) || r.sweep == 64)) h2) one;
      sweep = number_by r.sweep (both_right (is_number r.version && (not (r.version == 1) || r.sweep == 64)) (is_number r.sweep) h3);
      quantum = number_by r.quantum (both_right (is_number r.version && (not (r.version == 1) || r.sweep == 64) && is_number r.sweep) (is_number r.quantum) h4);
      ram = number_by r.ram (both_right (is_number r.version && (not (r.version == 1) || r.sweep == 64) && is_number r.sweep && is_number r.quantum) (is_number r.ram) h5);
      size = number_by r.size (both_right (is_number r.version && (not (r.version == 1) || r.sweep == 64) && is_number r.sweep && is_number r.quantum && is_number r.ram) (is_number r.size) h6);
      trusted = number_by r.trusted (both_right (is_number r.version && (not (r.version == 1) || r.sweep == 64) && is_number r.sweep && is_number r.quantum && is_number r.ram && is_number r.size) (is_number r.trusted) h7);
      heap = number_by r.heap (both_right (is_number r.version && (not (r.version == 1) || r.sweep == 64) && is_number r.sweep && is_number r.quantum && is_number r.ram && is_number r.size && is_number r.trusted) (is_number r.heap) h8);
      name = field_by 32 r.name (both_right (is_number r.version && (not (r.version == 1) || r.sweep == 64) && is_number r.sweep && is_number r.quantum && is_number r.ram && is_number r.size && is_number r.trusted && is_number r.heap) (is_field 32 r.name) h9);
      devices = list_by is_device IsDevice device_by r.devices (both_right (is_number r.version && (not (r.version == 1) || r.sweep == 64) && is_number r.sweep && is_number r.quantum && is_number r.ram && is_number r.size && is_number r.trusted && is_number r.heap && is_field 32 r.name) ((is_number (length r.devices) && list_all is_device r.devices)) h10);
      shared = none_by IsShared r.shared (both_right (is_number r.version && (not (r.version == 1) || r.sweep == 64) && is_number r.sweep && is_number r.quantum && is_number r.ram && is_number r.size && is_number r.trusted && is_number r.heap && is_field 32 r.name && (is_number (length r.devices) && list_all is_device r.devices)) ((length r.shared == 0)) h11);
      sealed = none_by IsSealed r.sealed (both_right (is_number r.version && (not (r.version == 1) || r.sweep == 64) && is_number r.sweep && is_number r.quantum && is_number r.ram && is_number r.size && is_number r.trusted && is_number r.heap && is_field 32 r.name && (is_number (length r.devices) && list_all is_device r.devices) && (length r.shared == 0)) ((length r.sealed == 0)) h12);
      compartments = list_by is_compartment IsCompartment compartment_by r.compartments (both_right (is_number r.version && (not (r.version == 1) || r.sweep == 64) && is_number r.sweep && is_number r.quantum && is_number r.ram && is_number r.size && is_number r.trusted && is_number r.heap && is_field 32 r.name && (is_number (length r.devices) && list_all is_device r.devices) && (length r.shared == 0) && (length r.sealed == 0)) ((is_number (length r.compartments) && list_all is_compartment r.compartments)) h13);
      libraries = none_by IsCode r.libraries (both_right (is_number r.version && (not (r.version == 1) || r.sweep == 64) && is_number r.sweep && is_number r.quantum && is_number r.ram && is_number r.size && is_number r.trusted && is_number r.heap && is_field 32 r.name && (is_number (length r.devices) && list_all is_device r.devices) && (length r.shared == 0) && (length r.sealed == 0) && (is_number (length r.compartments) && list_all is_compartment r.compartments)) ((length r.libraries == 0)) h14);
      threads = list_by is_thread IsThread thread_by r.threads (both_right (is_number r.version && (not (r.version == 1) || r.sweep == 64) && is_number r.sweep && is_number r.quantum && is_number r.ram && is_number r.size && is_number r.trusted && is_number r.heap && is_field 32 r.name && (is_number (length r.devices) && list_all is_device r.devices) && (length r.shared == 0) && (length r.sealed == 0) && (is_number (length r.compartments) && list_all is_compartment r.compartments) && (length r.libraries == 0)) ((is_number (length r.threads) && list_all is_thread r.threads)) h);
    }

-- ---- parts

clean_by : (name : List ℕ) → is_clean name ≡ true → Clean name
clean_by name h = all_by (λ b. nat_lt 0 b) (λ b. 0 < b) (λ b e. ltb-true 0 b e) name h

slot_by : (s : SlotRow) → is_clean_slot s ≡ true → SpellableSlot s
slot_by s h =
    let h2 = both_left (is_clean s.name && is_number s.row.first) (is_number s.row.second) h in
    let h1 = both_left (is_clean s.name) (is_number s.row.first) h2 in
    (clean_by s.name (h1), number_by s.row.first (both_right (is_clean s.name) (is_number s.row.first) h2), number_by s.row.second (both_right (is_clean s.name && is_number s.row.first) (is_number s.row.second) h))

gate_by : (x : GateRow) → is_clean_gate x ≡ true → SpellableGate x
gate_by x h =
    let h3 = both_left (is_clean x.name && is_number x.row.offset && is_number x.row.stack) (is_number x.row.entry) h in
    let h2 = both_left (is_clean x.name && is_number x.row.offset) (is_number x.row.stack) h3 in
    let h1 = both_left (is_clean x.name) (is_number x.row.offset) h2 in
    (clean_by x.name (h1), number_by x.row.offset (both_right (is_clean x.name) (is_number x.row.offset) h2), number_by x.row.stack (both_right (is_clean x.name && is_number x.row.offset) (is_number x.row.stack) h3), number_by x.row.entry (both_right (is_clean x.name && is_number x.row.offset && is_number x.row.stack) (is_number x.row.entry) h))

clean_code_by : (c : CodeRow) → is_clean_code c ≡ true → SpellableCode c
clean_code_by c h =
    let h2 = both_left (is_clean c.name && list_all is_clean_slot c.slots) (list_all is_clean_gate c.exports) h in
    let h1 = both_left (is_clean c.name) (list_all is_clean_slot c.slots) h2 in
    record {
      name = clean_by c.name (h1);
      slots = all_by is_clean_slot SpellableSlot slot_by c.slots (both_right (is_clean c.name) (list_all is_clean_slot c.slots) h2);
      exports = all_by is_clean_gate SpellableGate gate_by c.exports (both_right (is_clean c.name && list_all is_clean_slot c.slots) (list_all is_clean_gate c.exports) h);
    }

pub spelled_by : (p : PartsRow) → AllByRecursion (λ (s : SharedRow). Clean s.name) p.shared → AllByRecursion (λ (s : SealedRow). Clean s.name) p.sealed → AllByRecursion SpellableCode p.libraries → is_plainly_spelled p ≡ true → IsSpellable p
spelled_by p shared sealed libraries h =
    let h4 = both_left (is_plain (raw_of p) && is_clean p.name && list_all (λ (d : DeviceRow). is_clean d.name) p.devices && list_all (λ (c : CompartmentRow). is_clean_code c.code) p.compartments) (list_all (λ (t : ThreadRow). is_clean t.name) p.threads) h in
    let h3 = both_left (is_plain (raw_of p) && is_clean p.name && list_all (λ (d : DeviceRow). is_clean d.name) p.devices) (list_all (λ (c : CompartmentRow). is_clean_code c.code) p.compartments) h4 in
    let h2 = both_left (is_plain (raw_of p) && is_clean p.name) (list_all (λ (d : DeviceRow). is_clean d.name) p.devices) h3 in
    let h1 = both_left (is_plain (raw_of p)) (is_clean p.name) h2 in
    record {
      shaped = plain_by (raw_of p) (h1);
      name = clean_by p.name (both_right (is_plain (raw_of p)) (is_clean p.name) h2);
      devices = all_by (λ (d : DeviceRow). is_clean d.name) (λ (d : DeviceRow). Clean d.name) (λ d e. clean_by d.name e) p.devices (both_right (is_plain (raw_of p) && is_clean p.name) (list_all (λ (d : DeviceRow). is_clean d.name) p.devices) h3);
      shared = shared;
      sealed = sealed;
      compartments = all_by (λ (c : CompartmentRow). is_clean_code c.code) (λ (c : CompartmentRow). SpellableCode c.code) (λ c e. clean_code_by c.code e) p.compartments (both_right (is_plain (raw_of p) && is_clean p.name && list_all (λ (d : DeviceRow). is_clean d.name) p.devices) (list_all (λ (c : CompartmentRow). is_clean_code c.code) p.compartments) h4);
      libraries = libraries;
      threads = all_by (λ (t : ThreadRow). is_clean t.name) (λ (t : ThreadRow). Clean t.name) (λ t e. clean_by t.name e) p.threads (both_right (is_plain (raw_of p) && is_clean p.name && list_all (λ (d : DeviceRow). is_clean d.name) p.devices && list_all (λ (c : CompartmentRow). is_clean_code c.code) p.compartments) (list_all (λ (t : ThreadRow). is_clean t.name) p.threads) h);
    }
