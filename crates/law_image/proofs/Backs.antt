-- The parts that fields stand for are one: a name, a row and a part are given back by their fields.
use Rattle.std.proofs.Common.{ℕ, zero, suc, ◌≡◌, ◌-◌, ◌<◌, ◌^◌, ◌==◌, Bool, true, false, cond, List, [], ◌∷◌, ◌++◌, length, map, refl, sym, ap, ◌∙◌, arith, inl, inr, if◌then◌else◌}
use Rattle.std.specs.List.{AllByRecursion}
use Rattle.law_lists.proofs.Tests.{eq_tells}
use Rattle.ct_entry.specs.Listed.{DeviceRow}
use Rattle.ct_entry.specs.declared.hardware.DeviceKind.{DeviceKind}
use Rattle.ct_entry.specs.declared.hardware.DeviceKind.TheVariants.{Uart, Timer, Gpio}
use Rattle.ct_entry.specs.declared.rows.Mode.{Mode}
use Rattle.ct_entry.specs.declared.rows.Mode.TheVariants.{Inherit, Disabled, Enabled}
use Rattle.def_image.specs.declared.ImportRow.{ImportRow}
use Rattle.def_image.specs.declared.ExportRow.{ExportRow}
use Rattle.def_image.specs.declared.RawEntry.{RawEntry}
use Rattle.def_image.specs.declared.SlotKind.{SlotKind}
use Rattle.def_image.specs.declared.SlotKind.TheVariants.{Service, Device, Shared, Sealed, Call, Library, Quota, Key}
use Rattle.def_image.specs.Parts.{SlotRow, GateRow, SharedRow, SealedRow, CodeRow, CompartmentRow, ThreadRow, PartsRow}
use Rattle.def_image.specs.Raw.{RawDevice, RawShared, RawSealed, RawCode, RawCompartment, RawThread, RawImage}
use Rattle.ct_entry.specs.DeviceKinds.{device_kind_of, device_number}
use Rattle.def_image.specs.Spelling.{zeros, name_field, kind_byte, posture_byte, passes_byte, import_field, export_field, raw_slot, raw_gate, raw_device, raw_shared, raw_sealed, raw_code, raw_compartment, raw_thread, raw_of, image_bytes}
use Rattle.def_image.specs.Shapes.{Clean, IsNumber, SpellableSlot, SpellableGate, SpellableCode, IsSpellable}
use Rattle.def_image.specs.Limits.{name_in_field, byte_in, number_field}
use Rattle.def_image.specs.Reading.{OneReading}
use Rattle.law_image.proofs.Rows.{first_at, offset_at, stack_at, entry_at, number_back}
use Rattle.law_image.proofs.OneCut.{one_cut}

-- ---- names

pub no_name : (k : ℕ) → name_in_field (zeros k) ≡ []
no_name zero = refl
no_name (suc k) = refl

name_ends : (name : List ℕ) (k : ℕ) → Clean name → name_in_field (name ++ zeros k) ≡ name
name_ends [] k clean = no_name k
name_ends (b ∷ bs) k clean = elim (eq_tells b 0) [
  | inl h ↦ absurd (let is = h.1 in let some = clean.0 in omega (arith, is, some))
  | inr h ↦ ap (λ (c : Bool). cond c [] (b ∷ name_in_field (bs ++ zeros k))) h.0 ∙ ap (λ l. b ∷ l) (name_ends bs k clean.1)
]

pub same_name : (a b : List ℕ) → Clean a → Clean b → name_field a ≡ name_field b → a ≡ b
same_name a b ha hb e = sym (name_ends a (32 - length a) ha) ∙ ap name_in_field e ∙ name_ends b (32 - length b) hb

-- ---- bytes that tell a choice

kind_in : ℕ → SlotKind
kind_in n =
    if n == 1 then Service else if n == 2 then Device else if n == 3 then Shared else if n == 4 then Sealed
    else if n == 5 then Call else if n == 6 then Library else if n == 7 then Quota else Key

kind_back : (k : SlotKind) → kind_in (kind_byte k) ≡ k
unfolding kind_in
kind_back Service = refl
kind_back Device = refl
kind_back Shared = refl
kind_back Sealed = refl
kind_back Call = refl
kind_back Library = refl
kind_back Quota = refl
kind_back Key = refl

posture_in : ℕ → Mode
posture_in n = if n == 1 then Inherit else if n == 2 then Disabled else Enabled

posture_back : (m : Mode) → posture_in (posture_byte m) ≡ m
unfolding posture_in
posture_back Inherit = refl
posture_back Disabled = refl
posture_back Enabled = refl

passes_in : ℕ → Bool
passes_in n = n == 1

passes_back : (b : Bool) → passes_in (passes_byte b) ≡ b
unfolding passes_in
passes_back true = refl
passes_back false = refl

device_back : (k : DeviceKind) → device_kind_of (device_number k) ≡ k
device_back Uart = refl
device_back Timer = refl
device_back Gpio = refl

-- ---- rows

second_at : (r : ImportRow) → r.second < 2 ^ 32 → number_field (import_field r) 8 ≡ r.second
second_at r small = number_back r.second small

abbrev import_again : ImportRow → ImportRow
import_again r = record { kind = r.kind; rights = r.rights; first = r.first; second = r.second }

same_import : (r q : ImportRow) → IsNumber r.first → IsNumber q.first → IsNumber r.second → IsNumber q.second → import_field r ≡ import_field q → r ≡ q
same_import r q rf qf rs qs e =
    let kinds : r.kind ≡ q.kind = sym (kind_back r.kind) ∙ ap (λ l. kind_in (byte_in l 0)) e ∙ kind_back q.kind in
    let rights : r.rights ≡ q.rights = ap (λ l. byte_in l 1) e in
    let firsts : r.first ≡ q.first = sym (first_at r rf) ∙ ap (λ l. number_field l 4) e ∙ first_at q qf in
    let seconds : r.second ≡ q.second = sym (second_at r rs) ∙ ap (λ l. number_field l 8) e ∙ second_at q qs in
    let all : import_again r ≡ import_again q = cc in
    all

abbrev export_again : ExportRow → ExportRow
export_again x = record { offset = x.offset; stack = x.stack; args = x.args; posture = x.posture; capabilities = x.capabilities; entry = x.entry }

record Three (x : ExportRow) : Type 0 where
  pub offset : IsNumber x.offset
  pub stack : IsNumber x.stack
  pub entry : IsNumber x.entry

same_export : (x y : ExportRow) → Three x → Three y → export_field x ≡ export_field y → x ≡ y
same_export x y hx hy e =
    let offsets : x.offset ≡ y.offset = sym (offset_at x hx.offset) ∙ ap (λ l. number_field l 0) e ∙ offset_at y hy.offset in
    let stacks : x.stack ≡ y.stack = sym (stack_at x hx.stack) ∙ ap (λ l. number_field l 4) e ∙ stack_at y hy.stack in
    let args : x.args ≡ y.args = ap (λ l. byte_in l 8) e in
    let postures : x.posture ≡ y.posture = sym (posture_back x.posture) ∙ ap (λ l. posture_in (byte_in l 9)) e ∙ posture_back y.posture in
    let passes : x.capabilities ≡ y.capabilities = sym (passes_back x.capabilities) ∙ ap (λ l. passes_in (byte_in l 10)) e ∙ passes_back y.capabilities in
    let entries : x.entry ≡ y.entry = sym (entry_at x hx.entry) ∙ ap (λ l. number_field l 12) e ∙ entry_at y hy.entry in
    let all : export_again x ≡ export_again y = cc in
    all

-- ---- lists of parts

pub same_list : {A B : Type 0} (f : A → B) (P : A → Type 0) → ((x y : A) → P x → P y → f x ≡ f y → x ≡ y)
    → (xs ys : List A) → AllByRecursion P xs → AllByRecursion P ys → map f xs ≡ map f ys → xs ≡ ys
same_list f P one [] [] hx hy e = refl
same_list f P one [] (y ∷ ys) hx hy e = cc
same_list f P one (x ∷ xs) [] hx hy e = cc
same_list f P one (x ∷ xs) (y ∷ ys) hx hy e =
    let heads : f x ≡ f y = cc in
    let tails : map f xs ≡ map f ys = cc in
    let head : x ≡ y = one x y hx.0 hy.0 heads in
    let tail : xs ≡ ys = same_list f P one xs ys hx.1 hy.1 tails in
    (let all : x ∷ xs ≡ y ∷ ys = cc in all)

abbrev slot_again : SlotRow → SlotRow
slot_again s = record { row = s.row; name = s.name }

same_slot : (x y : SlotRow) → SpellableSlot x → SpellableSlot y → raw_slot x ≡ raw_slot y → x ≡ y
same_slot x y hx hy e =
    let rows : x.row ≡ y.row = same_import x.row y.row hx.1 hy.1 hx.2 hy.2 (ap (λ (r : RawEntry). r.row) e) in
    let names : x.name ≡ y.name = same_name x.name y.name hx.0 hy.0 (ap (λ (r : RawEntry). r.name) e) in
    let all : slot_again x ≡ slot_again y = cc in
    all

abbrev gate_again : GateRow → GateRow
gate_again x = record { row = x.row; name = x.name }

same_gate : (x y : GateRow) → SpellableGate x → SpellableGate y → raw_gate x ≡ raw_gate y → x ≡ y
same_gate x y hx hy e =
    let rows : x.row ≡ y.row = same_export x.row y.row (record { offset = hx.1; stack = hx.2; entry = hx.3 }) (record { offset = hy.1; stack = hy.2; entry = hy.3 }) (ap (λ (r : RawEntry). r.row) e) in
    let names : x.name ≡ y.name = same_name x.name y.name hx.0 hy.0 (ap (λ (r : RawEntry). r.name) e) in
    let all : gate_again x ≡ gate_again y = cc in
    all

abbrev device_again : DeviceRow → DeviceRow
device_again d = record { name = d.name; kind = d.kind; base = d.base }

same_device : (x y : DeviceRow) → Clean x.name → Clean y.name → raw_device x ≡ raw_device y → x ≡ y
same_device x y hx hy e =
    let names : x.name ≡ y.name = same_name x.name y.name hx hy (ap (λ (r : RawDevice). r.name) e) in
    let kinds : x.kind ≡ y.kind = sym (device_back x.kind) ∙ ap (λ (r : RawDevice). device_kind_of r.kind) e ∙ device_back y.kind in
    let bases : x.base ≡ y.base = ap (λ (r : RawDevice). r.base) e in
    let all : device_again x ≡ device_again y = cc in
    all

abbrev shared_again : SharedRow → SharedRow
shared_again s = record { name = s.name; base = s.base; length = s.length }

same_shared : (x y : SharedRow) → Clean x.name → Clean y.name → raw_shared x ≡ raw_shared y → x ≡ y
same_shared x y hx hy e =
    let names : x.name ≡ y.name = same_name x.name y.name hx hy (ap (λ (r : RawShared). r.name) e) in
    let bases : x.base ≡ y.base = ap (λ (r : RawShared). r.base) e in
    let lengths : x.length ≡ y.length = ap (λ (r : RawShared). r.length) e in
    let all : shared_again x ≡ shared_again y = cc in
    all

abbrev sealed_again : SealedRow → SealedRow
sealed_again s = record { name = s.name; base = s.base; length = s.length; seal = s.seal; bytes = s.bytes }

same_sealed : (x y : SealedRow) → Clean x.name → Clean y.name → raw_sealed x ≡ raw_sealed y → x ≡ y
same_sealed x y hx hy e =
    let names : x.name ≡ y.name = same_name x.name y.name hx hy (ap (λ (r : RawSealed). r.name) e) in
    let bases : x.base ≡ y.base = ap (λ (r : RawSealed). r.base) e in
    let lengths : x.length ≡ y.length = ap (λ (r : RawSealed). r.length) e in
    let seals : x.seal ≡ y.seal = ap (λ (r : RawSealed). r.seal) e in
    let bytes : x.bytes ≡ y.bytes = ap (λ (r : RawSealed). r.bytes) e in
    let all : sealed_again x ≡ sealed_again y = cc in
    all

abbrev code_again : CodeRow → CodeRow
code_again c = record { name = c.name; base = c.base; length = c.length; slots = c.slots; exports = c.exports; text = c.text }

same_code : (x y : CodeRow) → SpellableCode x → SpellableCode y → raw_code x ≡ raw_code y → x ≡ y
same_code x y hx hy e =
    let names : x.name ≡ y.name = same_name x.name y.name hx.name hy.name (ap (λ (r : RawCode). r.name) e) in
    let bases : x.base ≡ y.base = ap (λ (r : RawCode). r.base) e in
    let lengths : x.length ≡ y.length = ap (λ (r : RawCode). r.length) e in
    let slots : x.slots ≡ y.slots = same_list raw_slot SpellableSlot same_slot x.slots y.slots hx.slots hy.slots (ap (λ (r : RawCode). r.slots) e) in
    let exports : x.exports ≡ y.exports = same_list raw_gate SpellableGate same_gate x.exports y.exports hx.exports hy.exports (ap (λ (r : RawCode). r.exports) e) in
    let texts : x.text ≡ y.text = ap (λ (r : RawCode). r.text) e in
    let all : code_again x ≡ code_again y = cc in
    all

abbrev compartment_again : CompartmentRow → CompartmentRow
compartment_again c = record { code = c.code; table = c.table; globals = c.globals; globals_length = c.globals_length; initial = c.initial }

same_compartment : (x y : CompartmentRow) → SpellableCode x.code → SpellableCode y.code → raw_compartment x ≡ raw_compartment y → x ≡ y
same_compartment x y hx hy e =
    let codes : x.code ≡ y.code = same_code x.code y.code hx hy (ap (λ (r : RawCompartment). r.code) e) in
    let tables : x.table ≡ y.table = ap (λ (r : RawCompartment). r.table) e in
    let globals : x.globals ≡ y.globals = ap (λ (r : RawCompartment). r.globals) e in
    let lengths : x.globals_length ≡ y.globals_length = ap (λ (r : RawCompartment). r.globals_length) e in
    let initials : x.initial ≡ y.initial = ap (λ (r : RawCompartment). r.initial) e in
    let all : compartment_again x ≡ compartment_again y = cc in
    all

abbrev thread_again : ThreadRow → ThreadRow
thread_again t = record { name = t.name; stack = t.stack; stack_length = t.stack_length; compartment = t.compartment; export = t.export; priority = t.priority; frames = t.frames }

same_thread : (x y : ThreadRow) → Clean x.name → Clean y.name → raw_thread x ≡ raw_thread y → x ≡ y
same_thread x y hx hy e =
    let names : x.name ≡ y.name = same_name x.name y.name hx hy (ap (λ (r : RawThread). r.name) e) in
    let stacks : x.stack ≡ y.stack = ap (λ (r : RawThread). r.stack) e in
    let lengths : x.stack_length ≡ y.stack_length = ap (λ (r : RawThread). r.stack_length) e in
    let homes : x.compartment ≡ y.compartment = ap (λ (r : RawThread). r.compartment) e in
    let exports : x.export ≡ y.export = ap (λ (r : RawThread). r.export) e in
    let priorities : x.priority ≡ y.priority = ap (λ (r : RawThread). r.priority) e in
    let frames : x.frames ≡ y.frames = ap (λ (r : RawThread). r.frames) e in
    let all : thread_again x ≡ thread_again y = cc in
    all

-- ---- all of them

abbrev parts_again : PartsRow → PartsRow
parts_again p = record {
  version = p.version;
  sweep = p.sweep;
  quantum = p.quantum;
  ram = p.ram;
  size = p.size;
  trusted = p.trusted;
  heap = p.heap;
  name = p.name;
  devices = p.devices;
  shared = p.shared;
  sealed = p.sealed;
  compartments = p.compartments;
  libraries = p.libraries;
  threads = p.threads;
}

pub same_parts : (p q : PartsRow) → IsSpellable p → IsSpellable q → raw_of p ≡ raw_of q → p ≡ q
unfolding raw_of
same_parts p q hp hq e =
    let versions : p.version ≡ q.version = ap (λ (r : RawImage). r.version) e in
    let sweeps : p.sweep ≡ q.sweep = ap (λ (r : RawImage). r.sweep) e in
    let quanta : p.quantum ≡ q.quantum = ap (λ (r : RawImage). r.quantum) e in
    let rams : p.ram ≡ q.ram = ap (λ (r : RawImage). r.ram) e in
    let sizes : p.size ≡ q.size = ap (λ (r : RawImage). r.size) e in
    let trusteds : p.trusted ≡ q.trusted = ap (λ (r : RawImage). r.trusted) e in
    let heaps : p.heap ≡ q.heap = ap (λ (r : RawImage). r.heap) e in
    let names : p.name ≡ q.name = same_name p.name q.name hp.name hq.name (ap (λ (r : RawImage). r.name) e) in
    let devices : p.devices ≡ q.devices = same_list raw_device (λ (d : DeviceRow). Clean d.name) same_device p.devices q.devices hp.devices hq.devices (ap (λ (r : RawImage). r.devices) e) in
    let shareds : p.shared ≡ q.shared = same_list raw_shared (λ (s : SharedRow). Clean s.name) same_shared p.shared q.shared hp.shared hq.shared (ap (λ (r : RawImage). r.shared) e) in
    let sealeds : p.sealed ≡ q.sealed = same_list raw_sealed (λ (s : SealedRow). Clean s.name) same_sealed p.sealed q.sealed hp.sealed hq.sealed (ap (λ (r : RawImage). r.sealed) e) in
    let compartments : p.compartments ≡ q.compartments = same_list raw_compartment (λ (c : CompartmentRow). SpellableCode c.code) same_compartment p.compartments q.compartments hp.compartments hq.compartments (ap (λ (r : RawImage). r.compartments) e) in
    let libraries : p.libraries ≡ q.libraries = same_list raw_code SpellableCode same_code p.libraries q.libraries hp.libraries hq.libraries (ap (λ (r : RawImage). r.libraries) e) in
    let threads : p.threads ≡ q.threads = same_list raw_thread (λ (t : ThreadRow). Clean t.name) same_thread p.threads q.threads hp.threads hq.threads (ap (λ (r : RawImage). r.threads) e) in
    let all : parts_again p ≡ parts_again q = cc in
    all

pub one_reading : OneReading
unfolding image_bytes
one_reading p q hp hq e = same_parts p q hp hq (one_cut (image_bytes p) (raw_of p) (raw_of q) (hp.shaped, refl) (hq.shaped, e))
