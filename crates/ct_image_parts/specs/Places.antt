-- Where the lists of an image begin, by its parts.
use Rattle.std.specs.Prelude.{ℕ, ◌≡◌, ◌+◌, ◌*◌, length}
use Rattle.def_image.specs.declared.format.TheConstants.{ENTRY, DEVICE, SHARED, SEALED_HEAD, COMPARTMENT_HEAD, LIBRARY_HEAD, THREAD}
use Rattle.def_image.specs.Parts.{SealedRow, CodeRow, CompartmentRow, PartsRow}
use Rattle.def_image.specs.Spelling.{padding_after}
use Rattle.def_image.specs.Sizes.{sum_of, header_size}
use Rattle.ct_image_parts.specs.declared.sizes.Places.{Places}

abbrev pub sealed_bytes : SealedRow → ℕ
sealed_bytes s = SEALED_HEAD + length s.bytes + padding_after (length s.bytes)

abbrev pub tables_bytes : CodeRow → ℕ
tables_bytes c = ENTRY * length c.slots + ENTRY * length c.exports + length c.text

abbrev pub compartment_bytes : CompartmentRow → ℕ
compartment_bytes c =
    COMPARTMENT_HEAD + tables_bytes c.code + length c.initial + padding_after (length c.initial)

abbrev pub library_bytes : CodeRow → ℕ
library_bytes c = LIBRARY_HEAD + tables_bytes c

abbrev pub shared_place : PartsRow → ℕ
shared_place p = header_size p.version + DEVICE * length p.devices

abbrev pub sealed_place : PartsRow → ℕ
sealed_place p = shared_place p + SHARED * length p.shared

abbrev pub compartments_place : PartsRow → ℕ
compartments_place p = sealed_place p + sum_of sealed_bytes p.sealed

abbrev pub libraries_place : PartsRow → ℕ
libraries_place p = compartments_place p + sum_of compartment_bytes p.compartments

abbrev pub threads_place : PartsRow → ℕ
threads_place p = libraries_place p + sum_of library_bytes p.libraries

-- after the last thread
abbrev pub end_place : PartsRow → ℕ
end_place p = threads_place p + THREAD * length p.threads

-- where the lists begin
pub record AreAt (p : PartsRow) (at : Places) : Type 0 where
  pub devices : at.devices ≡ header_size p.version
  pub shared : at.shared ≡ shared_place p
  pub sealed : at.sealed ≡ sealed_place p
  pub compartments : at.compartments ≡ compartments_place p
  pub libraries : at.libraries ≡ libraries_place p
  pub threads : at.threads ≡ threads_place p
