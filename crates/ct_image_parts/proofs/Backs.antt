-- The fields of parts that are made of fields are these.
use Rattle.std.proofs.Common.{ℕ, zero, suc, ◌≡◌, ◌+◌, ◌<◌, ◌≤◌, ◌^◌, not, Bool, true, false, nat_lt, List, [], ◌∷◌, length, map, None, refl, sym, ap, ◌∙◌, subst, arith}
use Rattle.std.specs.List.{AllByRecursion}
use Rattle.std.proofs.lemmas.Bool.{not-false}
use Rattle.def_profile.specs.declared.limits.TheConstants.{MOST_BYTES}
use Rattle.ct_entry.specs.Listed.{DeviceRow}
use Rattle.def_image.specs.declared.RawEntry.{RawEntry}
use Rattle.def_image.specs.declared.format.TheConstants.{ENTRY, DEVICE, SHARED, THREAD, ROW, COMPARTMENT_HEAD, LIBRARY_HEAD}
use Rattle.def_image.specs.Raw.{RawDevice, RawShared, RawSealed, RawCode, RawCompartment, RawThread, RawImage}
use Rattle.def_image.specs.Parts.{SharedRow, SealedRow, CompartmentRow, ThreadRow}
use Rattle.def_image.specs.Profile.{outside}
use Rattle.ct_entry.specs.DeviceKinds.{device_kind_of, device_number}
use Rattle.def_image.specs.Spelling.{zeros, padding_after, raw_slot, raw_gate, raw_device, raw_shared, raw_sealed, raw_code, raw_compartment, raw_thread, raw_of, import_field, export_field}
use Rattle.def_image.specs.Shapes.{IsRawEntry, IsDevice, IsShared, IsSealed, IsCode, IsCompartment, IsThread, IsShaped, Clean, SpellableSlot, SpellableGate, SpellableCode, IsSpellable}
use Rattle.def_image.specs.Sizes.{entries_size, sealed_size, compartment_size, library_size, devices_at, shared_at, sealed_at, compartments_at, libraries_at, threads_at, rate_size}
use Rattle.def_image.specs.Checks.{first, check}
use Rattle.def_image.specs.Limits.{name_checks, are_zeros, header_limits, device_limits, shared_limits, sealed_limits, row_limits, gate_limits, own_slot_limits, slot_limits, export_limits, dirty_padding, compartment_limits_by, compartment_limits, library_limits_by, library_limits, thread_limits_by, thread_limits, limit_checks, Bounds, compartment_bounds, library_bounds, entry_name, is_misnamed, is_unnamed_key, raw_device_name, shared_name, sealed_name, overfills}
use Rattle.law_image.proofs.Tells.{within_is}
use Rattle.law_image.proofs.Passing.{left_none, right_none, all_pass, every}
use Rattle.law_image.proofs.Holding.{limited, compartment_holds, library_holds}
use Rattle.ct_image_parts.specs.Converted.{import_of, export_of, slot_of, gate_of, device_of, shared_of, sealed_of, code_of, compartment_of, thread_of, parts_of}
use Rattle.ct_image_parts.specs.Back.{FieldsComeBack}
use Rattle.ct_image_parts.proofs.NameTexts.{NameFits, name_fits, field_back, text_clean, all_zeros}
use Rattle.ct_image_parts.proofs.Rows.{AreNarrow, import_back, export_back, device_back, small_there}

-- ---- walks

-- members that come back, and those that have a spelling
all_back : {A B : Type 0} (f : A → B) (g : B → A) (P Q : A → Type 0) → ((x : A) → P x → Q x → g (f x) ≡ x) → (xs : List A) → AllByRecursion P xs → AllByRecursion Q xs → map g (map f xs) ≡ xs
all_back f g P Q one [] p q = refl
all_back {A = A} f g P Q one (x ∷ xs) p q = ap (λ (y : A). y ∷ map g (map f xs)) (one x p.0 q.0) ∙ ap (λ (l : List A). x ∷ l) (all_back f g P Q one xs p.1 q.1)

all_of : {A B : Type 0} (f : A → B) (P Q : A → Type 0) (R : B → Type 0) → ((x : A) → P x → Q x → R (f x)) → (xs : List A) → AllByRecursion P xs → AllByRecursion Q xs → AllByRecursion R (map f xs)
all_of f P Q R one [] p q = tt
all_of f P Q R one (x ∷ xs) p q = (one x p.0 q.0, all_of f P Q R one xs p.1 q.1)

-- ---- rows with names

record SlotIs (e : RawEntry) : Type 0 where
  pub row : import_field (import_of e.row) ≡ e.row
  pub name : NameFits e.name

record GateIs (e : RawEntry) : Type 0 where
  pub row : export_field (export_of e.row) ≡ e.row
  pub name : NameFits e.name

-- with the form of its fields
abbrev SlotFits : RawEntry → Type 0
SlotFits e = IsRawEntry e → SlotIs e

abbrev GateFits : RawEntry → Type 0
GateFits e = IsRawEntry e → GateIs e

own_slot : (at : ℕ) (earlier : List RawEntry) (e : RawEntry) → first (own_slot_limits at earlier e) ≡ None → SlotFits e
unfolding own_slot_limits
own_slot at earlier e none is =
    let names = name_checks (at + ROW) (is_misnamed earlier e) (map entry_name earlier) e.name in
    let rows = row_limits at e.row in
    record {
      row = import_back at e.row is.0 (all_pass rows (left_none rows names none));
      name = name_fits (at + ROW) (is_misnamed earlier e) (map entry_name earlier) e.name (all_pass names (right_none rows names none));
    }

library_slot : (at : ℕ) (earlier : List RawEntry) (e : RawEntry) → first (slot_limits at earlier e) ≡ None → SlotFits e
unfolding slot_limits
library_slot at earlier e none is =
    let names = name_checks (at + ROW) (is_unnamed_key e) (map entry_name earlier) e.name in
    let rows = row_limits at e.row in
    record {
      row = import_back at e.row is.0 (all_pass rows (left_none rows names none));
      name = name_fits (at + ROW) (is_unnamed_key e) (map entry_name earlier) e.name (all_pass names (right_none rows names none));
    }

gate_fits : (b : Bounds) (text entry : ℕ) → AreNarrow b → (at : ℕ) (earlier : List RawEntry) (e : RawEntry) → first (export_limits b text entry at earlier e) ≡ None → GateFits e
unfolding export_limits
gate_fits b text entry narrow at earlier e none is =
    let names = name_checks (at + ROW) false (map entry_name earlier) e.name in
    let rows = gate_limits b text (entry + length earlier) at e.row in
    record {
      row = export_back b text (entry + length earlier) at e.row narrow is.0 (all_pass rows (left_none rows names none));
      name = name_fits (at + ROW) false (map entry_name earlier) e.name (all_pass names (right_none rows names none));
    }

slot_back : (e : RawEntry) → SlotFits e → IsRawEntry e → raw_slot (slot_of e) ≡ e
slot_back e fits is =
    let s = fits is in
    let row = s.row in
    let name = field_back e.name is.1 s.name in
    let same : raw_slot (slot_of e) ≡ record e { name = e.name } = cc in
    same

gate_back : (e : RawEntry) → GateFits e → IsRawEntry e → raw_gate (gate_of e) ≡ e
gate_back e fits is =
    let s = fits is in
    let row = s.row in
    let name = field_back e.name is.1 s.name in
    let same : raw_gate (gate_of e) ≡ record e { name = e.name } = cc in
    same

slot_spells : (e : RawEntry) → SlotFits e → IsRawEntry e → SpellableSlot (slot_of e)
slot_spells e fits is = (text_clean e.name (fits is).name, small_there e.row 4 is.0.each, small_there e.row 8 is.0.each)

gate_spells : (e : RawEntry) → GateFits e → IsRawEntry e → SpellableGate (gate_of e)
gate_spells e fits is = (text_clean e.name (fits is).name, small_there e.row 0 is.0.each, small_there e.row 4 is.0.each, small_there e.row 12 is.0.each)

-- ---- devices, objects, threads

record DeviceOk (d : RawDevice) : Type 0 where
  pub kind : device_number (device_kind_of d.kind) ≡ d.kind
  pub name : NameFits d.name

device_fits : (at : ℕ) (earlier : List RawDevice) (d : RawDevice) → first (device_limits at earlier d) ≡ None → DeviceOk d
unfolding device_limits
device_fits at earlier d none =
    let names = name_checks at false (map raw_device_name earlier) d.name in
    let last = check (at + 32) (outside 1 3 d.kind) ∷ [] in
    record {
      kind = device_back d.kind (within_is 1 3 d.kind (all_pass last (right_none names last none)).0);
      name = name_fits at false (map raw_device_name earlier) d.name (all_pass names (left_none names last none));
    }

device_comes : (d : RawDevice) → DeviceOk d → IsDevice d → raw_device (device_of d) ≡ d
device_comes d ok is =
    let kind = ok.kind in
    let name = field_back d.name is.0 ok.name in
    let same : raw_device (device_of d) ≡ record d { name = d.name } = cc in
    same

device_clean : (d : RawDevice) → DeviceOk d → IsDevice d → Clean (device_of d).name
device_clean d ok is = text_clean d.name ok.name

abbrev SharedOk : RawShared → Type 0
SharedOk s = NameFits s.name

shared_fits : (at : ℕ) (earlier : List RawShared) (s : RawShared) → first (shared_limits at earlier s) ≡ None → SharedOk s
unfolding shared_limits
shared_fits at earlier s none =
    let names = name_checks at false (map shared_name earlier) s.name in
    let last = check (at + 36) (outside 1 MOST_BYTES s.length) ∷ [] in
    name_fits at false (map shared_name earlier) s.name (all_pass names (left_none names last none))

shared_comes : (s : RawShared) → SharedOk s → IsShared s → raw_shared (shared_of s) ≡ s
shared_comes s ok is =
    let name = field_back s.name is.0 ok in
    let same : raw_shared (shared_of s) ≡ record s { name = s.name } = cc in
    same

shared_clean : (s : RawShared) → SharedOk s → IsShared s → Clean (shared_of s).name
shared_clean s ok is = text_clean s.name ok

record SealedOk (s : RawSealed) : Type 0 where
  pub name : NameFits s.name
  pub padding : are_zeros s.padding ≡ true

sealed_fits : (at : ℕ) (earlier : List RawSealed) (s : RawSealed) → first (sealed_limits at earlier s) ≡ None → SealedOk s
unfolding sealed_limits
sealed_fits at earlier s none =
    let names = name_checks at false (map sealed_name earlier) s.name in
    let last =
    check (at + 36) (outside 1 MOST_BYTES s.length) ∷ check (at + 40) (outside 13 15 s.seal) ∷ check (at + 44) (overfills s)
    ∷ check (at + 48 + length s.bytes) (not (are_zeros s.padding)) ∷ [] in
    let each = all_pass last (right_none names last none) in
    record {
      name = name_fits at false (map sealed_name earlier) s.name (all_pass names (left_none names last none));
      padding = not-false (are_zeros s.padding) each.1.1.1.0;
    }

-- zeros that pad are as many as are wanted
padded : (bs : List ℕ) (n : ℕ) → length bs ≡ n → are_zeros bs ≡ true → zeros n ≡ bs
padded bs n size h = ap zeros (sym size) ∙ all_zeros bs h

sealed_comes : (s : RawSealed) → SealedOk s → IsSealed s → raw_sealed (sealed_of s) ≡ s
sealed_comes s ok is =
    let name = field_back s.name is.0 ok.name in
    let padding = padded s.padding (padding_after (length s.bytes)) is.5.size ok.padding in
    let same : raw_sealed (sealed_of s) ≡ record s { name = s.name } = cc in
    same

sealed_clean : (s : RawSealed) → SealedOk s → IsSealed s → Clean (sealed_of s).name
sealed_clean s ok is = text_clean s.name ok.name

thread_ok : (at : ℕ) (seen : List (List ℕ)) (t : RawThread) → first (thread_limits_by at seen t) ≡ None → NameFits t.name
unfolding thread_limits_by
thread_ok at seen t none =
    let names = name_checks at false seen t.name in
    let last = check (at + 36) (outside 256 32768 t.stack_length) ∷ check (at + 48) (nat_lt 15 t.priority) ∷ check (at + 52) (outside 1 96 t.frames) ∷ [] in
    name_fits at false seen t.name (all_pass names (left_none names last none))

thread_comes : (t : RawThread) → NameFits t.name → IsThread t → raw_thread (thread_of t) ≡ t
thread_comes t ok is =
    let name = field_back t.name is.0 ok in
    let same : raw_thread (thread_of t) ≡ record t { name = t.name } = cc in
    same

thread_clean : (t : RawThread) → NameFits t.name → IsThread t → Clean (thread_of t).name
thread_clean t ok is = text_clean t.name ok

-- ---- owners

record CodeOk (c : RawCode) : Type 0 where
  pub name : NameFits c.name
  pub slots : AllByRecursion SlotFits c.slots
  pub exports : AllByRecursion GateFits c.exports

code_comes : (c : RawCode) → CodeOk c → IsCode c → raw_code (code_of c) ≡ c
code_comes c ok is =
    let name = field_back c.name is.name ok.name in
    let slots = all_back slot_of raw_slot SlotFits IsRawEntry slot_back c.slots ok.slots is.slots.1 in
    let exports = all_back gate_of raw_gate GateFits IsRawEntry gate_back c.exports ok.exports is.exports.1 in
    let same : raw_code (code_of c) ≡ record c { name = c.name } = cc in
    same

code_spells : (c : RawCode) → CodeOk c → IsCode c → SpellableCode (code_of c)
code_spells c ok is = record {
  name = text_clean c.name ok.name;
  slots = all_of slot_of SlotFits IsRawEntry SpellableSlot slot_spells c.slots ok.slots is.slots.1;
  exports = all_of gate_of GateFits IsRawEntry SpellableGate gate_spells c.exports ok.exports is.exports.1;
}

narrow_own : AreNarrow compartment_bounds
narrow_own = record { posture = omega arith; passes = omega arith }

narrow_library : AreNarrow library_bounds
narrow_library = record { posture = omega arith; passes = omega arith }

record CompartmentOk (c : RawCompartment) : Type 0 where
  pub code : CodeOk c.code
  pub padding : are_zeros c.padding ≡ true

compartment_ok : (entry at : ℕ) (seen : List (List ℕ)) (c : RawCompartment) → first (compartment_limits_by entry at seen c) ≡ None → CompartmentOk c
compartment_ok entry at seen c none =
    let k = c.code in
    let h = compartment_holds entry at seen c none in
    record {
      code = record {
        name = name_fits at false seen k.name (all_pass (name_checks at false seen k.name) h.name);
        slots = every own_slot_limits (λ s. ENTRY) SlotFits own_slot (at + COMPARTMENT_HEAD) [] k.slots h.slots;
        exports = every (export_limits compartment_bounds (length k.text) (entry + 2 + length k.slots)) (λ x. ENTRY) GateFits
            (gate_fits compartment_bounds (length k.text) (entry + 2 + length k.slots) narrow_own) (at + COMPARTMENT_HEAD + entries_size k.slots) [] k.exports h.gates;
      };
      padding = not-false (are_zeros c.padding) (all_pass (dirty_padding at c) h.padding).0;
    }

library_ok : (entry at : ℕ) (seen : List (List ℕ)) (c : RawCode) → first (library_limits_by entry at seen c) ≡ None → CodeOk c
library_ok entry at seen c none =
    let h = library_holds entry at seen c none in
    record {
      name = name_fits at false seen c.name (all_pass (name_checks at false seen c.name) h.name);
      slots = every slot_limits (λ s. ENTRY) SlotFits library_slot (at + LIBRARY_HEAD) [] c.slots h.slots;
      exports = every (export_limits library_bounds (length c.text) (entry + 1 + length c.slots)) (λ x. ENTRY) GateFits
          (gate_fits library_bounds (length c.text) (entry + 1 + length c.slots) narrow_library) (at + LIBRARY_HEAD + entries_size c.slots) [] c.exports h.gates;
    }

compartment_comes : (c : RawCompartment) → CompartmentOk c → IsCompartment c → raw_compartment (compartment_of c) ≡ c
compartment_comes c ok is =
    let code = code_comes c.code ok.code is.code in
    let padding = padded c.padding (padding_after (length c.initial)) is.padding.size ok.padding in
    let same : raw_compartment (compartment_of c) ≡ record c { padding = c.padding } = cc in
    same

compartment_spells : (c : RawCompartment) → CompartmentOk c → IsCompartment c → SpellableCode (compartment_of c).code
compartment_spells c ok is = code_spells c.code ok.code is.code

-- ---- all

record PartsOk (r : RawImage) : Type 0 where
  pub name : NameFits r.name
  pub devices : AllByRecursion DeviceOk r.devices
  pub shared : AllByRecursion SharedOk r.shared
  pub sealed : AllByRecursion SealedOk r.sealed
  pub compartments : AllByRecursion CompartmentOk r.compartments
  pub libraries : AllByRecursion CodeOk r.libraries
  pub threads : AllByRecursion (λ (t : RawThread). NameFits t.name) r.threads

header_name : (r : RawImage) → first (header_limits r) ≡ None → NameFits r.name
unfolding header_limits
header_name r none =
    let all = (all_pass (header_limits r) none).1.1.1.1.1.1.1.1.1.1 in
    name_fits (52 + rate_size r.version) false [] r.name all

parts_ok : (r : RawImage) → first (limit_checks r) ≡ None → PartsOk r
parts_ok r e =
    let h = limited r e in
    record {
      name = header_name r h.header;
      devices = every device_limits (λ d. DEVICE) DeviceOk device_fits (devices_at r) [] r.devices h.devices;
      shared = every shared_limits (λ s. SHARED) SharedOk shared_fits (shared_at r) [] r.shared h.shared;
      sealed = every sealed_limits sealed_size SealedOk sealed_fits (sealed_at r) [] r.sealed h.sealed;
      compartments = every compartment_limits compartment_size CompartmentOk (λ at earlier k f. compartment_ok _ at _ k f) (compartments_at r) [] r.compartments h.compartments;
      libraries = every (library_limits r) library_size CodeOk (λ at earlier k f. library_ok _ at _ k f) (libraries_at r) [] r.libraries h.libraries;
      threads = every (thread_limits r) (λ t. THREAD) (λ (k : RawThread). NameFits k.name) (λ at earlier k f. thread_ok at _ k f) (threads_at r) [] r.threads h.threads;
    }

fields_come : (r : RawImage) → IsShaped r → PartsOk r → raw_of (parts_of r) ≡ r
unfolding raw_of parts_of
fields_come r is ok =
    let name = field_back r.name is.name ok.name in
    let devices = all_back device_of raw_device DeviceOk IsDevice device_comes r.devices ok.devices is.devices.1 in
    let shared = all_back shared_of raw_shared SharedOk IsShared shared_comes r.shared ok.shared is.shared.1 in
    let sealed = all_back sealed_of raw_sealed SealedOk IsSealed sealed_comes r.sealed ok.sealed is.sealed.1 in
    let compartments = all_back compartment_of raw_compartment CompartmentOk IsCompartment compartment_comes r.compartments ok.compartments is.compartments.1 in
    let libraries = all_back code_of raw_code CodeOk IsCode code_comes r.libraries ok.libraries is.libraries.1 in
    let threads = all_back thread_of raw_thread (λ (t : RawThread). NameFits t.name) IsThread thread_comes r.threads ok.threads is.threads.1 in
    let same : raw_of (parts_of r) ≡ record r { name = r.name } = cc in
    same

spells : (r : RawImage) → IsShaped r → PartsOk r → IsSpellable (parts_of r)
unfolding parts_of
spells r is ok = record {
  shaped = subst IsShaped (sym (fields_come r is ok)) is;
  name = text_clean r.name ok.name;
  devices = all_of device_of DeviceOk IsDevice (λ (d : DeviceRow). Clean d.name) device_clean r.devices ok.devices is.devices.1;
  shared = all_of shared_of SharedOk IsShared (λ (s : SharedRow). Clean s.name) shared_clean r.shared ok.shared is.shared.1;
  sealed = all_of sealed_of SealedOk IsSealed (λ (s : SealedRow). Clean s.name) sealed_clean r.sealed ok.sealed is.sealed.1;
  compartments = all_of compartment_of CompartmentOk IsCompartment (λ (c : CompartmentRow). SpellableCode c.code) compartment_spells r.compartments ok.compartments is.compartments.1;
  libraries = all_of code_of CodeOk IsCode SpellableCode code_spells r.libraries ok.libraries is.libraries.1;
  threads = all_of thread_of (λ (t : RawThread). NameFits t.name) IsThread (λ (t : ThreadRow). Clean t.name) thread_clean r.threads ok.threads is.threads.1;
}

pub comes_back : FieldsComeBack
comes_back r is none = let ok = parts_ok r none in record { fields = fields_come r is ok; spellable = spells r is ok }
