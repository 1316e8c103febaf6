-- The addresses at which an image boots anything but zeros.
use Rattle.std.specs.Prelude.{ℕ, ◌+◌, ◌*◌, ◌≡◌, ◌<◌, ◌⊎◌, List, Some, slice_get, length}
use Rattle.def_profile.specs.declared.layout.TheConstants.{GRANULE, SLOT_SIZE, TABLE_HEAD, TABLE_ROW}
use Rattle.def_image.specs.Parts.{SealedRow, CodeRow, CompartmentRow, PartsRow}
use Rattle.def_boot.specs.Booting.{IsFrom}

-- slots and text
abbrev pub InCode : CodeRow → ℕ → Type 0
InCode c = IsFrom c.base (c.base + SLOT_SIZE * length c.slots + length c.text)

-- the export table's head and rows
abbrev pub InTable : CompartmentRow → ℕ → Type 0
InTable c = IsFrom c.table (c.table + TABLE_HEAD + TABLE_ROW * length c.code.exports)

-- what the globals begin with
abbrev pub InInitial : CompartmentRow → ℕ → Type 0
InInitial c = IsFrom c.globals (c.globals + length c.initial)

abbrev pub InCompartment : CompartmentRow → ℕ → Type 0
InCompartment c x = InCode c.code x ⊎ InTable c x ⊎ InInitial c x

-- a sealed object's bytes
abbrev pub InSealed : SealedRow → ℕ → Type 0
InSealed s = IsFrom s.base (s.base + length s.bytes)

-- of the first n members of a list
abbrev pub InFirst : {A : Type 0} → (A → ℕ → Type 0) → List A → ℕ → ℕ → Type 0
InFirst {A = A} In xs n x = (i : ℕ) × (i < n) × (y : A) × (slice_get xs i ≡ Some y) × In y x

-- of any member
abbrev pub OfAny : {A : Type 0} → (A → ℕ → Type 0) → List A → ℕ → Type 0
OfAny {A = A} In xs x = (i : ℕ) × (y : A) × (slice_get xs i ≡ Some y) × In y x

-- the return sentry
abbrev pub InTrusted : PartsRow → ℕ → Type 0
InTrusted p = IsFrom p.trusted (p.trusted + GRANULE)

abbrev pub IsBootWritten : PartsRow → ℕ → Type 0
IsBootWritten p x =
    OfAny InCompartment p.compartments x ⊎ OfAny InCode p.libraries x
    ⊎ OfAny InSealed p.sealed x
    ⊎ InTrusted p x
