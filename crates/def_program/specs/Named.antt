-- A rule on a device, by the device's name.
use Rattle.std.specs.Prelude.{ℕ, ◌≡◌, List, Some, slice_get}
use Rattle.ct_entry.specs.Listed.{DeviceRow}
use Rattle.def_image.specs.Parts.{PartsRow}
use Rattle.def_policy.specs.Names.{owners_named}
use Rattle.def_policy.specs.Rulings.{Ruling}
use Rattle.def_policy.specs.declared.Resource.TheVariants.{Device}
use Rattle.def_policy.specs.declared.Subject.TheVariants.{Only}

-- what it means is about the one device of that name, and lists what the owners' names stand for
pub record IsOnDevice (p : PartsRow) (name : List ℕ) (owners : List (List ℕ)) (r : Ruling) : Type 0 where
  pub device : ℕ
  pub row : DeviceRow
  pub subject_is : r.subject ≡ Only Device device
  pub there : slice_get p.devices device ≡ Some row
  pub name_is : row.name ≡ name
  pub alone : (k : ℕ) (other : DeviceRow) → slice_get p.devices k ≡ Some other → other.name ≡ name
      → k ≡ device
  pub owners_are : owners_named p owners ≡ Some r.owners
