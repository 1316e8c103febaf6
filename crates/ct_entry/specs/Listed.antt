-- What contracts see of the types that hold lists and texts.
use Rattle.std.specs.Prelude.{ℕ, List}
use Rattle.ct_entry.specs.declared.rows.Entry.{Entry}
use Rattle.ct_entry.specs.declared.rows.Owner.{Owner}
use Rattle.ct_entry.specs.declared.rows.Kind.{Kind}
use Rattle.ct_entry.specs.declared.rows.Gate.{Gate}
use Rattle.ct_entry.specs.declared.hardware.DeviceKind.{DeviceKind}

-- An entry without a limit. `of` is the index of the device, object or service, or the number of the named export,
-- else 0.
abbrev pub row : Owner → Kind → ℕ → ℕ → ℕ → ℕ → Entry
row owner kind base length rights of =
    record {
      owner = owner;
      kind = kind;
      base = base;
      length = length;
      rights = rights;
      of = of;
      limit = 0;
    }

-- entries: entry number n is the row at n - 1
pub record Listed : Type 0 where
  pub rows : List Entry
  pub gates : List Gate

-- a device: the bytes of its name, its kind, its address
pub record DeviceRow : Type 0 where
  pub name : List ℕ
  pub kind : DeviceKind
  pub base : ℕ
