-- Fields from left to right: a value and the bytes after it, or nothing where the bytes end too soon.
use Rattle.std.specs.Prelude.{ℕ, zero, suc, ◌==◌, ◌&&◌, List, [], ◌∷◌, length, take, drop, Option, Some, None, nat_lt, bytes_eq, if◌then◌else◌}
use Rattle.std.specs.Int.{w32, from_le_bytes}
use Rattle.def_profile.specs.declared.limits.TheConstants.{SWEEP_RATE}
use Rattle.def_image.specs.declared.RawEntry.{RawEntry}
use Rattle.def_image.specs.declared.format.TheConstants.{NAME, ROW}
use Rattle.def_image.specs.Raw.{RawDevice, RawShared, RawSealed, RawCode, RawCompartment, RawThread, RawImage}
use Rattle.def_image.specs.Spelling.{magic, padding_after}
use Rattle.ct_image_fields.specs.declared.heads.Counts.{Counts}
use Rattle.ct_image_fields.specs.declared.heads.Bases.{Bases}
use Rattle.ct_image_fields.specs.declared.heads.CodeHead.{CodeHead}
use Rattle.ct_image_fields.specs.declared.heads.GlobalsHead.{GlobalsHead}

infixl 10 ◌>>=◌
abbrev pub ◌>>=◌ : {A B : Type 0} → Option A → (A → Option B) → Option B
(Some x) >>= f = f x
None >>= f = None

-- ---- fields

abbrev pub field_at : ℕ → List ℕ → Option (List ℕ × List ℕ)
field_at n bytes = if nat_lt (length bytes) n then None else Some (take n bytes, drop n bytes)

abbrev pub number_at : List ℕ → Option (ℕ × List ℕ)
number_at bytes =
    if nat_lt (length bytes) 4 then None else Some (from_le_bytes w32 (take 4 bytes), drop 4 bytes)

-- so many members
unfoldable pub many_at : {A : Type 0} → (List ℕ → Option (A × List ℕ)) → ℕ → List ℕ
    → Option (List A × List ℕ)
many_at read zero bytes = Some ([], bytes)
many_at read (suc n) bytes = do
  first ← read bytes
  others ← many_at read n first.1
  Some (first.0 ∷ others.0, others.1)

-- ---- parts

unfoldable pub entry_at : List ℕ → Option (RawEntry × List ℕ)
entry_at bytes = do
  row ← field_at ROW bytes
  name ← field_at NAME row.1
  Some (record { row = row.0; name = name.0 }, name.1)

unfoldable pub device_at : List ℕ → Option (RawDevice × List ℕ)
device_at bytes = do
  name ← field_at NAME bytes
  kind ← number_at name.1
  base ← number_at kind.1
  Some (record { name = name.0; kind = kind.0; base = base.0 }, base.1)

unfoldable pub shared_at : List ℕ → Option (RawShared × List ℕ)
shared_at bytes = do
  name ← field_at NAME bytes
  base ← number_at name.1
  size ← number_at base.1
  Some (record { name = name.0; base = base.0; length = size.0 }, size.1)

unfoldable pub sealed_at : List ℕ → Option (RawSealed × List ℕ)
sealed_at bytes = do
  name ← field_at NAME bytes
  base ← number_at name.1
  size ← number_at base.1
  seal ← number_at size.1
  count ← number_at seal.1
  held ← field_at count.0 count.1
  padding ← field_at (padding_after count.0) held.1
  Some (
    record { name = name.0; base = base.0; length = size.0; seal = seal.0; bytes = held.0; padding = padding.0 },
    padding.1,
  )

unfoldable pub code_head_at : List ℕ → Option (CodeHead × List ℕ)
code_head_at bytes = do
  name ← field_at NAME bytes
  base ← number_at name.1
  size ← number_at base.1
  text ← number_at size.1
  Some (record { name = name.0; base = base.0; length = size.0; text = text.0 }, text.1)

unfoldable pub globals_head_at : List ℕ → Option (GlobalsHead × List ℕ)
globals_head_at bytes = do
  table ← number_at bytes
  globals ← number_at table.1
  size ← number_at globals.1
  initial ← number_at size.1
  Some (
    record { table = table.0; globals = globals.0; length = size.0; initial = initial.0 },
    initial.1,
  )

-- slots, exports and text after their counts
unfoldable pub code_at : CodeHead → ℕ → ℕ → List ℕ → Option (RawCode × List ℕ)
code_at head slots exports bytes = do
  imported ← many_at entry_at slots bytes
  exported ← many_at entry_at exports imported.1
  text ← field_at head.text exported.1
  Some (
    record { name = head.name; base = head.base; length = head.length; slots = imported.0; exports = exported.0; text = text.0 },
    text.1,
  )

unfoldable pub compartment_at : List ℕ → Option (RawCompartment × List ℕ)
compartment_at bytes = do
  head ← code_head_at bytes
  own ← globals_head_at head.1
  slots ← number_at own.1
  exports ← number_at slots.1
  code ← code_at head.0 slots.0 exports.0 exports.1
  initial ← field_at own.0.initial code.1
  padding ← field_at (padding_after own.0.initial) initial.1
  Some (
    record { code = code.0; table = own.0.table; globals = own.0.globals; globals_length = own.0.length; initial = initial.0; padding = padding.0 },
    padding.1,
  )

unfoldable pub library_at : List ℕ → Option (RawCode × List ℕ)
library_at bytes = do
  head ← code_head_at bytes
  slots ← number_at head.1
  exports ← number_at slots.1
  code_at head.0 slots.0 exports.0 exports.1

unfoldable pub thread_at : List ℕ → Option (RawThread × List ℕ)
thread_at bytes = do
  name ← field_at NAME bytes
  stack ← number_at name.1
  size ← number_at stack.1
  compartment ← number_at size.1
  export ← number_at compartment.1
  priority ← number_at export.1
  frames ← number_at priority.1
  Some (
    record { name = name.0; stack = stack.0; stack_length = size.0; compartment = compartment.0; export = export.0; priority = priority.0; frames = frames.0 },
    frames.1,
  )

-- ---- the whole

unfoldable pub counts_at : List ℕ → Option (Counts × List ℕ)
counts_at bytes = do
  devices ← number_at bytes
  shared ← number_at devices.1
  sealed ← number_at shared.1
  compartments ← number_at sealed.1
  libraries ← number_at compartments.1
  threads ← number_at libraries.1
  Some (
    record { devices = devices.0; shared = shared.0; sealed = sealed.0; compartments = compartments.0; libraries = libraries.0; threads = threads.0 },
    threads.1,
  )

unfoldable pub bases_at : List ℕ → Option (Bases × List ℕ)
bases_at bytes = do
  quantum ← number_at bytes
  ram ← number_at quantum.1
  size ← number_at ram.1
  trusted ← number_at size.1
  heap ← number_at trusted.1
  Some (
    record { quantum = quantum.0; ram = ram.0; size = size.0; trusted = trusted.0; heap = heap.0 },
    heap.1,
  )

-- the sweep rate is a field from version 2 on
unfoldable pub sweep_at : ℕ → List ℕ → Option (ℕ × List ℕ)
sweep_at version bytes = if version == 1 then Some (SWEEP_RATE, bytes) else number_at bytes

-- the lists, by their counts
unfoldable pub lists_at : ℕ → Bases → ℕ → List ℕ → Counts → List ℕ → Option (RawImage × List ℕ)
lists_at version bases sweep name counts bytes = do
  devices ← many_at device_at counts.devices bytes
  shared ← many_at shared_at counts.shared devices.1
  sealed ← many_at sealed_at counts.sealed shared.1
  compartments ← many_at compartment_at counts.compartments sealed.1
  libraries ← many_at library_at counts.libraries compartments.1
  threads ← many_at thread_at counts.threads libraries.1
  Some (
    record { version = version; quantum = bases.quantum; ram = bases.ram; size = bases.size; trusted = bases.trusted; heap = bases.heap; sweep = sweep; name = name; devices = devices.0; shared = shared.0; sealed = sealed.0; compartments = compartments.0; libraries = libraries.0; threads = threads.0 },
    threads.1,
  )

unfoldable pub image_at : List ℕ → Option (RawImage × List ℕ)
image_at bytes = do
  begin ← field_at 4 bytes
  version ← number_at begin.1
  counts ← counts_at version.1
  bases ← bases_at counts.1
  sweep ← sweep_at version.0 bases.1
  name ← field_at NAME sweep.1
  if bytes_eq begin.0 magic then lists_at version.0 bases.0 sweep.0 name.0 counts.0 name.1 else None

-- all of the bytes
unfoldable pub all_of : List ℕ → Option RawImage
all_of bytes = do
  image ← image_at bytes
  if length image.1 == 0 then Some image.0 else None
