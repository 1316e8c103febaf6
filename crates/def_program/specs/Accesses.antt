-- Accesses of a device by the owners that a rule lists.
use Rattle.std.specs.Prelude.{ℕ, ◌+◌, ◌<◌, ◌≡◌, List, Some, true}
use Rattle.std.specs.List.{AllByRecursion}
use Rattle.ct_entry.specs.declared.acts.Act.{Act}
use Rattle.ct_entry.specs.declared.acts.Act.TheVariants.{Load, Store}
use Rattle.ct_entry.specs.declared.acts.Deed.{Deed}
use Rattle.ct_entry.specs.declared.acts.Happened.{Happened}
use Rattle.ct_entry.specs.declared.rows.Kind.TheVariants as kind
use Rattle.ct_entry.specs.Listed.{Listed}
use Rattle.def_profile.specs.declared.layout.TheConstants.{DEVICE_SIZE}
use Rattle.def_policy.specs.Breaking.{lists_owner}
use Rattle.def_policy.specs.Rulings.{Ruling}
use Rattle.def_reach.specs.Roots.{Listing, root_of}
use Rattle.def_reach.specs.Sharing.{Reaches}

-- one of an access's bytes is one of the device's at this base
abbrev pub MeetsDevice : ℕ → ℕ → ℕ → Type 0
MeetsDevice base address width = (address < base + DEVICE_SIZE) × (base < address + width)

-- a load or a store there
abbrev pub TouchesDevice : ℕ → Act → Type 0
TouchesDevice base (Load address width value) = MeetsDevice base address width
TouchesDevice base (Store address width value) = MeetsDevice base address width
TouchesDevice base _ = ⊥

-- the entry is an import of the device, whose owner is one of the rule's, and reaches who acts
pub record IsListedDeed (e : Listed) (r : Ruling) (device : ℕ) (d : Deed) : Type 0 where
  pub kind_is : (root_of e d.entry).origin ≡ Listing kind.Device
  pub of_is : (root_of e d.entry).of ≡ device
  pub listed : lists_owner r.owners (root_of e d.entry).owner ≡ true
  pub reached : Reaches e (root_of e d.entry).owner d.actor

-- what an event tells of an access to this device, which stands at this base
abbrev pub IsListedEvent : Listed → Ruling → ℕ → ℕ → Happened → Type 0
IsListedEvent e r device base h =
    (d : Deed) → h.deed ≡ Some d → TouchesDevice base d.act → IsListedDeed e r device d

abbrev pub AllListed : Listed → Ruling → ℕ → ℕ → List Happened → Type 0
AllListed e r device base hs = AllByRecursion (IsListedEvent e r device base) hs
