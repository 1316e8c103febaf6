-- What a caller of a well-formed description may rely on, in plain facts: numbers within their
-- limits, names, what is named, rights, addresses.
use Rattle.std.specs.Prelude.{ℕ, ◌+◌, ◌/◌, ◌%◌, ◌^◌, ◌≡◌, ◌≤◌, ◌<◌, List, [], length, true, Some, slice_get, unwrap_or}
use Rattle.std.specs.List.{AllByRecursion}
use Rattle.ct_entry.specs.Listed.{DeviceRow}
use Rattle.ct_entry.specs.declared.rows.Mode.TheVariants.{Inherit}
use Rattle.def_profile.specs.declared.layout.TheConstants.{REGION_UNIT, DEVICE_SIZE}
use Rattle.def_profile.specs.declared.limits.TheConstants as most
use Rattle.def_profile.specs.declared.limits.TheConstants.{LEAST_RAM, LEAST_STACK, RAM_END}
use Rattle.def_native.specs.declared.TheConstants.{YIELD}
use Rattle.def_profile.specs.declared.native.TheConstants.{NATIVE_BASE, NATIVE_END}
use Rattle.def_profile.specs.declared.seals.TheConstants.{FIRST_KEY_TYPE, LAST_KEY_TYPE}
use Rattle.def_profile.specs.Versions.{most_ram, most_threads, least_sweep, most_sweep}
use Rattle.def_texts.specs.Names.{is_name}
use Rattle.def_image.specs.Profile.{last_version, last_service}
use Rattle.def_image.specs.Sound.{IsWithin, IsAway}
use Rattle.def_desc.specs.declared.Ram.{Ram}
use Rattle.def_desc.specs.declared.tables.Form.{Form}
use Rattle.def_desc.specs.declared.tables.Form.TheVariants as form
use Rattle.def_desc.specs.Limits.{characters}
use Rattle.def_desc.specs.Tables.{service_of}
use Rattle.def_desc.specs.References.{target_of, rights_fit, export_name}
use Rattle.def_desc.specs.Rows.{Target, DescCode, DescShared, DescSealed, ImportRow, QuotaRow, ExportRow, DescCompartment, LimportRow, LexportRow, LibraryRow, DescThread, DescRow}
use Rattle.def_desc.specs.Named.{device_names, shared_names, sealed_names, owner_names, slot_names, export_names, library_slot_names, library_export_names}

-- ---- names

-- an element of a list
abbrev pub Has : {A : Type 0} → List A → A → Type 0
Has xs x = (i : ℕ) × (slice_get xs i ≡ Some x)

-- the names of one space: each has the form of a name, and stands there once
pub record AreNames (names : List (List ℕ)) : Type 0 where
  pub formed : AllByRecursion (λ n. is_name n ≡ true) names
  pub once : (i j : ℕ) (n : List ℕ) → slice_get names i ≡ Some n → slice_get names j ≡ Some n
      → i ≡ j

-- ---- what is named

-- a text is `owner.export`, of a compartment
pub record IsCallImport (d : DescRow) (text : List ℕ) : Type 0 where
  pub owner : DescCompartment
  pub gate : ExportRow
  pub listed : Has d.compartments owner
  pub exported : Has owner.exports gate
  pub spelled : text ≡ export_name owner.name gate.name

-- and of a library
pub record IsLent (d : DescRow) (text : List ℕ) : Type 0 where
  pub owner : LibraryRow
  pub gate : LexportRow
  pub listed : Has d.libraries owner
  pub exported : Has owner.exports gate
  pub spelled : text ≡ export_name owner.name gate.name

-- a service that is taken; the first is `yield`
abbrev pub IsServed : List ℕ → Type 0
IsServed text = (n : ℕ) × (service_of text ≡ Some n) × IsWithin YIELD last_service n

-- what an import names is there, by the member that names it
abbrev pub Resolves : DescRow → Form → List ℕ → Type 0
Resolves d form.Device text = Has (device_names d) text
Resolves d form.Shared text = Has (shared_names d) text
Resolves d form.Sealed text = Has (sealed_names d) text
Resolves d form.Call text = IsCallImport d text
Resolves d form.Service text = IsServed text
Resolves d form.Library text = IsLent d text

pub record IsLawfulImport (d : DescRow) (x : ImportRow) : Type 0 where
  pub target : Target
  pub named : target_of x ≡ Some target
  pub resolves : Resolves d target.form target.name
  pub rights : rights_fit target.form (unwrap_or x.rights []) ≡ true

-- ---- RAM, devices, objects

pub record IsLawfulRam (version : ℕ) (r : Ram) : Type 0 where
  pub base : r.base % REGION_UNIT ≡ 0
  pub size : r.size % REGION_UNIT ≡ 0
  pub sized : IsWithin LEAST_RAM (most_ram version) r.size
  pub end : r.base + r.size ≤ RAM_END
  pub native : IsAway r.base r.size NATIVE_BASE NATIVE_END

pub record IsLawfulDevice (r : Ram) (x : DeviceRow) : Type 0 where
  pub base : x.base < 2 ^ 32
  pub even : x.base % DEVICE_SIZE ≡ 0
  pub ram : IsAway x.base DEVICE_SIZE r.base (r.base + r.size)
  pub native : IsAway x.base DEVICE_SIZE NATIVE_BASE NATIVE_END

abbrev pub IsLawfulShared : DescShared → Type 0
IsLawfulShared s = IsWithin 1 most.MOST_BYTES s.size

pub record IsLawfulSealed (s : DescSealed) : Type 0 where
  pub seal : IsWithin FIRST_KEY_TYPE LAST_KEY_TYPE s.seal
  pub few : IsWithin 1 most.MOST_BYTES (length s.bytes)
  pub bytes : AllByRecursion (λ b. b < 256) s.bytes

-- ---- owners

-- words, or the name of a file
pub record IsLawfulCode (c : DescCode) : Type 0 where
  pub words : AllByRecursion (λ w. w < 2 ^ 32) c.words
  pub few : length c.words ≤ most.MOST_BYTES / 4
  pub file : (name : List ℕ) → c.file ≡ Some name → IsWithin 1 most.MOST_FILE_NAME (characters name)

pub record IsLawfulExport (x : ExportRow) : Type 0 where
  pub posture : x.posture ≡ Inherit → ⊥
  pub args : x.args ≤ most.MOST_ARGUMENTS
  pub stack : x.stack ≤ most.MOST_STACK

pub record IsLawfulCompartment (d : DescRow) (c : DescCompartment) : Type 0 where
  pub code : IsLawfulCode c.code
  pub globals : c.globals ≤ most.MOST_BYTES
  pub slots : AreNames (slot_names c)
  pub gates : AreNames (export_names c)
  pub imports : length c.imports ≤ most.MOST_IMPORTS
  pub quotas : length c.quotas ≤ most.MOST_QUOTAS
  pub keys : length c.keys ≤ most.MOST_KEYS
  pub exports : length c.exports ≤ most.MOST_EXPORTS
  pub import : AllByRecursion (IsLawfulImport d) c.imports
  pub quota : AllByRecursion (λ (q : QuotaRow). q.limit ≤ most.MOST_QUOTA) c.quotas
  pub key : AllByRecursion (IsWithin FIRST_KEY_TYPE LAST_KEY_TYPE) c.keys
  pub export : AllByRecursion IsLawfulExport c.exports

pub record IsLawfulLibrary (d : DescRow) (l : LibraryRow) : Type 0 where
  pub code : IsLawfulCode l.code
  pub slots : AreNames (library_slot_names l)
  pub gates : AreNames (library_export_names l)
  pub imports : length l.imports ≤ most.MOST_IMPORTS
  pub exports : length l.exports ≤ most.MOST_EXPORTS
  pub import : AllByRecursion (λ (x : LimportRow). IsLent d x.library) l.imports

pub record IsLawfulThread (d : DescRow) (t : DescThread) : Type 0 where
  pub entry : IsCallImport d t.entry
  pub priority : t.priority ≤ most.MOST_PRIORITY
  pub stack : IsWithin LEAST_STACK most.MOST_STACK t.stack
  pub even : t.stack % REGION_UNIT ≡ 0
  pub frames : IsWithin 1 most.MOST_FRAMES t.frames

-- ---- the whole

pub record AreFewParts (d : DescRow) : Type 0 where
  pub devices : length d.devices ≤ most.MOST_DEVICES
  pub shared : length d.shared ≤ most.MOST_OBJECTS
  pub sealed : length d.sealed ≤ most.MOST_OBJECTS
  pub compartments : length d.compartments ≤ most.MOST_COMPARTMENTS
  pub libraries : length d.libraries ≤ most.MOST_LIBRARIES
  pub threads : length d.threads ≤ most_threads d.version

-- no two devices at one address
abbrev pub AreApart : List DeviceRow → Type 0
AreApart ds =
    (i j : ℕ) (x y : DeviceRow) → slice_get ds i ≡ Some x → slice_get ds j ≡ Some y
    → x.base ≡ y.base → i ≡ j

pub record IsLawful (d : DescRow) : Type 0 where
  pub firmware : is_name d.firmware ≡ true
  pub version : IsWithin 1 last_version d.version
  pub sweep : IsWithin (least_sweep d.version) (most_sweep d.version) d.sweep
  pub quantum : IsWithin 1 most.MOST_QUANTUM d.quantum
  pub few : AreFewParts d
  pub ram : IsLawfulRam d.version d.ram
  pub devices : AreNames (device_names d)
  pub shared : AreNames (shared_names d)
  pub sealed : AreNames (sealed_names d)
  pub owners : AreNames (owner_names d)
  pub device : AllByRecursion (IsLawfulDevice d.ram) d.devices
  pub apart : AreApart d.devices
  pub shared_object : AllByRecursion IsLawfulShared d.shared
  pub sealed_object : AllByRecursion IsLawfulSealed d.sealed
  pub compartment : AllByRecursion (IsLawfulCompartment d) d.compartments
  pub library : AllByRecursion (IsLawfulLibrary d) d.libraries
  pub thread : AllByRecursion (IsLawfulThread d) d.threads
