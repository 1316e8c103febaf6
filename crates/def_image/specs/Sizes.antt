-- How many bytes each part of an image has, and where each list begins.
use Rattle.std.specs.Prelude.{ℕ, ◌+◌, ◌*◌, ◌==◌, List, [], ◌∷◌, length, if◌then◌else◌}
use Rattle.def_image.specs.declared.format.TheConstants.{NUMBER, ENTRY, HEADER, DEVICE, SHARED, SEALED_HEAD, COMPARTMENT_HEAD, LIBRARY_HEAD}
use Rattle.def_image.specs.Raw.{RawSealed, RawCode, RawCompartment, RawImage}

abbrev pub sum_of : {A : Type 0} → (A → ℕ) → List A → ℕ
sum_of f [] = 0
sum_of f (x ∷ xs) = f x + sum_of f xs

-- the sweep rate stands there from version 2 on
abbrev pub rate_size : ℕ → ℕ
rate_size version = if version == 1 then 0 else NUMBER

abbrev pub header_size : ℕ → ℕ
header_size version = HEADER + rate_size version

abbrev pub sealed_size : RawSealed → ℕ
sealed_size s = SEALED_HEAD + length s.bytes + length s.padding

abbrev pub entries_size : {A : Type 0} → List A → ℕ
entries_size entries = ENTRY * length entries

-- slots, exports and text
abbrev pub tables_size : RawCode → ℕ
tables_size c = entries_size c.slots + entries_size c.exports + length c.text

abbrev pub compartment_size : RawCompartment → ℕ
compartment_size c = COMPARTMENT_HEAD + tables_size c.code + length c.initial + length c.padding

abbrev pub library_size : RawCode → ℕ
library_size c = LIBRARY_HEAD + tables_size c

-- how many entries of the report an owner with these slots and exports has: a compartment also code and globals, a
-- library also code
abbrev pub compartment_count : {A : Type 0} {B : Type 0} → List A → List B → ℕ
compartment_count slots exports = 2 + length slots + length exports

abbrev pub library_count : {A : Type 0} {B : Type 0} → List A → List B → ℕ
library_count slots exports = 1 + length slots + length exports

-- where each list begins
abbrev pub devices_at : RawImage → ℕ
devices_at r = header_size r.version

abbrev pub shared_at : RawImage → ℕ
shared_at r = devices_at r + DEVICE * length r.devices

abbrev pub sealed_at : RawImage → ℕ
sealed_at r = shared_at r + SHARED * length r.shared

abbrev pub compartments_at : RawImage → ℕ
compartments_at r = sealed_at r + sum_of sealed_size r.sealed

abbrev pub libraries_at : RawImage → ℕ
libraries_at r = compartments_at r + sum_of compartment_size r.compartments

abbrev pub threads_at : RawImage → ℕ
threads_at r = libraries_at r + sum_of library_size r.libraries
