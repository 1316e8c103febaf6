-- The rows that a value stands for. They are total: what is missing or not of its kind reads as its
-- default, or else as 0, the empty text or the empty list; F2 fails then. A number that 32 bits don't
-- hold reads as 0; F6 fails then. Keys and the places of exports have no such limit before F5 and in
-- F6, so they keep their whole number.
use Rattle.std.specs.Prelude.{ℕ, ◌+◌, ◌*◌, ◌-◌, ◌^◌, List, [], ◌∷◌, map, ◌&&◌, unwrap_or, nat_le, nat_lt, if◌then◌else◌, codes}
use Rattle.std.specs.List.{list_any}
use Rattle.std.specs.Prelude.{nat_eq}
use Rattle.serde_json.specs.Data.{Data}
use Rattle.ct_entry.specs.Listed.{DeviceRow}
use Rattle.ct_entry.specs.declared.hardware.DeviceKind.TheVariants.{Uart}
use Rattle.ct_entry.specs.declared.rows.Mode.TheVariants.{Enabled, Inherit}
use Rattle.def_profile.specs.declared.limits.TheConstants.{MOST_ARGUMENTS, SWEEP_RATE}
use Rattle.def_desc.specs.declared.Ram.{Ram}
use Rattle.def_desc.specs.declared.Rights.{Rights}
use Rattle.def_desc.specs.declared.tables.Passes.TheVariants.{Capabilities}
use Rattle.def_desc.specs.declared.tables.TheConstants.{QUANTUM}
use Rattle.def_desc.specs.Members.{number_or, text_at, text_or, text_value, list_at, member_at}
use Rattle.def_desc.specs.Tables.{device_kind_named, posture_of, library_posture_of, passes_of}
use Rattle.def_desc.specs.Limits.{number_or_zero}
use Rattle.def_desc.specs.References.{import_of}
use Rattle.def_desc.specs.Rows.{DescCode, AtRow, DescShared, DescSealed, QuotaRow, ExportRow, DescCompartment, LimportRow, LexportRow, LibraryRow, DescThread, DescRow}

-- ---- numbers of 32 bits

abbrev pub cut : ℕ → ℕ
cut n = if nat_lt n (2 ^ 32) then n else 0

abbrev pub word_or : ℕ → List ℕ → Data → ℕ
word_or default key d = cut (number_or default key d)

abbrev pub word_member : List ℕ → Data → ℕ
word_member key d = word_or 0 key d

-- ---- hexadecimal digits

abbrev pub digit_of : ℕ → ℕ
digit_of b =
    if nat_le 97 b && nat_le b 102 then b - 87
    else (if nat_le 48 b && nat_le b 57 then b - 48 else 0)

abbrev pub hexadecimal_word : List ℕ → ℕ
hexadecimal_word (a ∷ b ∷ c ∷ d ∷ e ∷ f ∷ g ∷ h ∷ []) =
    digit_of a * 2 ^ 28 + digit_of b * 2 ^ 24 + digit_of c * 2 ^ 20 + digit_of d * 2 ^ 16
    + digit_of e * 2 ^ 12 + digit_of f * 2 ^ 8 + digit_of g * 2 ^ 4 + digit_of h
hexadecimal_word _ = 0

abbrev pub byte_of_digits : ℕ → ℕ → ℕ
byte_of_digits a b = digit_of a * 16 + digit_of b

abbrev pub bytes_of : List ℕ → List ℕ
bytes_of (a ∷ b ∷ rest) = byte_of_digits a b ∷ bytes_of rest
bytes_of _ = []

-- ---- the parts

abbrev pub code_of_object : Data → DescCode
code_of_object d = record {
  words = map (λ w. hexadecimal_word (text_value w)) (list_at (codes "words") d);
  file = text_at (codes "file") d;
}

abbrev pub at_of : Data → AtRow
at_of d = record { label = text_at (codes "at") d; offset = number_or 0 (codes "at") d }

abbrev pub ram_of : Data → Ram
ram_of d = record { base = word_member (codes "base") d; size = word_member (codes "size") d }

abbrev pub device_of : Data → DeviceRow
device_of d = record {
  name = text_or (codes "name") d;
  kind = unwrap_or (device_kind_named (text_or (codes "kind") d)) Uart;
  base = word_member (codes "base") d;
}

abbrev pub shared_of : Data → DescShared
shared_of d = record { name = text_or (codes "name") d; size = word_member (codes "size") d }

abbrev pub sealed_of : Data → DescSealed
sealed_of d = record {
  name = text_or (codes "name") d;
  seal = word_member (codes "type") d;
  bytes = bytes_of (text_or (codes "bytes") d);
}

abbrev pub quota_of : Data → QuotaRow
quota_of d = record { name = text_or (codes "name") d; limit = word_member (codes "limit") d }

abbrev pub export_of : Data → ExportRow
export_of d = record {
  name = text_or (codes "name") d;
  at = at_of d;
  posture = unwrap_or (posture_of (text_or (codes "posture") d)) Enabled;
  args = word_or MOST_ARGUMENTS (codes "args") d;
  stack = word_member (codes "stack") d;
  passes = unwrap_or (passes_of (text_or (codes "passes") d)) Capabilities;
}

abbrev pub compartment_of_object : Data → DescCompartment
compartment_of_object d = record {
  name = text_or (codes "name") d;
  code = code_of_object (member_at (codes "code") d);
  globals = word_member (codes "globals") d;
  imports = map import_of (list_at (codes "imports") d);
  quotas = map quota_of (list_at (codes "quotas") d);
  keys = map number_or_zero (list_at (codes "keys") d);
  exports = map export_of (list_at (codes "exports") d);
}

abbrev pub limport_of : Data → LimportRow
limport_of d = record { alias = text_or (codes "as") d; library = text_or (codes "library") d }

abbrev pub lexport_of : Data → LexportRow
lexport_of d = record {
  name = text_or (codes "name") d;
  at = at_of d;
  posture = unwrap_or (library_posture_of (text_or (codes "posture") d)) Inherit;
}

abbrev pub library_of : Data → LibraryRow
library_of d = record {
  name = text_or (codes "name") d;
  code = code_of_object (member_at (codes "code") d);
  imports = map limport_of (list_at (codes "imports") d);
  exports = map lexport_of (list_at (codes "exports") d);
}

abbrev pub thread_of : Data → DescThread
thread_of d = record {
  name = text_or (codes "name") d;
  entry = text_or (codes "entry") d;
  priority = word_member (codes "priority") d;
  stack = word_member (codes "stack") d;
  frames = word_member (codes "frames") d;
}

abbrev pub description_of : Data → DescRow
description_of d = record {
  firmware = text_or (codes "firmware") d;
  version = word_or 1 (codes "version") d;
  sweep = word_or SWEEP_RATE (codes "sweep") d;
  ram = ram_of (member_at (codes "ram") d);
  quantum = word_or QUANTUM (codes "quantum") d;
  devices = map device_of (list_at (codes "devices") d);
  shared = map shared_of (list_at (codes "shared") d);
  sealed = map sealed_of (list_at (codes "sealed") d);
  compartments = map compartment_of_object (list_at (codes "compartments") d);
  libraries = map library_of (list_at (codes "libraries") d);
  threads = map thread_of (list_at (codes "threads") d);
}

-- ---- what rights allow

abbrev pub rights_of_text : List ℕ → Rights
rights_of_text text = record {
  read = list_any (nat_eq 82) text;
  write = list_any (nat_eq 87) text;
  capabilities = list_any (nat_eq 67) text;
}
