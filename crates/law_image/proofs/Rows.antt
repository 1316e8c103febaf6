-- What the bytes of a row are, by its fields.
use Rattle.std.proofs.Common.{ℕ, ◌≡◌, ◌<◌, ◌^◌}
use Rattle.std.specs.Int.{w32, from_le_bytes}
use Rattle.std.proofs.lemmas.Nat.{from_le_bytes-to_le_bytes_4}
use Rattle.def_image.specs.declared.ImportRow.{ImportRow}
use Rattle.def_image.specs.declared.ExportRow.{ExportRow}
use Rattle.def_image.specs.Spelling.{number, import_field, export_field}
use Rattle.def_image.specs.Limits.{number_field}

pub number_back : (n : ℕ) → n < 2 ^ 32 → from_le_bytes w32 (number n) ≡ n
number_back n small = from_le_bytes-to_le_bytes_4 n small

pub first_at : (r : ImportRow) → r.first < 2 ^ 32 → number_field (import_field r) 4 ≡ r.first
first_at r small = number_back r.first small

pub offset_at : (x : ExportRow) → x.offset < 2 ^ 32 → number_field (export_field x) 0 ≡ x.offset
offset_at x small = number_back x.offset small

pub stack_at : (x : ExportRow) → x.stack < 2 ^ 32 → number_field (export_field x) 4 ≡ x.stack
stack_at x small = number_back x.stack small

pub entry_at : (x : ExportRow) → x.entry < 2 ^ 32 → number_field (export_field x) 12 ≡ x.entry
entry_at x small = number_back x.entry small
