-- Each access to a device is by an import of it, of an owner that a rule lists.
use Rattle.std.proofs.Common.{◌≡◌, ℕ, zero, suc, ◌+◌, ◌<◌, ◌≤◌, List, [], ◌∷◌, Option, Some, None, slice_get, true, refl, arith, subst}
use Rattle.ct_entry.specs.declared.rows.Entry.{Entry}
use Rattle.ct_entry.specs.declared.rows.Gate.{Gate}
use Rattle.ct_entry.specs.declared.rows.Kind.TheVariants as kind
use Rattle.ct_entry.specs.declared.acts.Act.{Act}
use Rattle.ct_entry.specs.declared.acts.Act.TheVariants.{Call, Load, Store, Allocate, Free, Trap}
use Rattle.ct_entry.specs.declared.acts.Deed.{Deed}
use Rattle.ct_entry.specs.declared.acts.Happened.{Happened}
use Rattle.ct_entry.specs.Listed.{DeviceRow, Listed}
use Rattle.def_boot.specs.Boot.{platform_of, boot_state, image_of}
use Rattle.def_boot.specs.Gates.{entries_of}
use Rattle.def_confined.specs.Licensed.{IsDeviceAccess, IsLicensed}
use Rattle.def_confined.specs.Telling.{AllLicensed}
use Rattle.def_image.specs.Accepted.{IsFaultless}
use Rattle.def_image.specs.Parts.{PartsRow}
use Rattle.def_image.specs.Sound.{Sound}
use Rattle.def_policy.specs.Breaking.{PolicyHolds, KeepsRule, lists_owner}
use Rattle.def_policy.specs.Denials.{AllDenied}
use Rattle.def_policy.specs.Rulings.{Ruling}
use Rattle.def_policy.specs.declared.Resource.TheVariants.{Device}
use Rattle.def_policy.specs.declared.Subject.TheVariants.{Only}
use Rattle.def_profile.specs.declared.layout.TheConstants.{DEVICE_SIZE}
use Rattle.def_reach.specs.Roots.{Listing, TrustedPart, Unknown, gate_for, listed_root, root_of}
use Rattle.def_step.specs.Events.{happenings_of}
use Rattle.def_step.specs.declared.Event.{Event}
use Rattle.law_accepted.proofs.Running.{licensed}
use Rattle.law_accepted.proofs.Imports.{import_of, same_device}
use Rattle.def_program.specs.Accesses.{AllListed, IsListedDeed, MeetsDevice, TouchesDevice}
use Rattle.law_image.proofs.Sounds.{sound}
use Rattle.def_policy.specs.Denied.{AreListed}
use Rattle.law_policy.proofs.Denials.{holds_where}
use Rattle.law_policy.proofs.Kept.{only_held}

-- ---- an import that is listed

module _ (e : Listed) (r : Ruling) (device : ℕ) (are : AreListed e r kind.Device device) where
  by_row : (n : ℕ) (g : Gate) (o : Option Entry) → slice_get e.rows n ≡ o → (listed_root o g).origin ≡ Listing kind.Device → (listed_root o g).of ≡ device
      → lists_owner r.owners (listed_root o g).owner ≡ true
  by_row n g None there origin of_is = absurd (let clash : Unknown ≡ Listing kind.Device = origin in cc)
  by_row n g (Some x) there origin of_is =
      let kind_is : x.kind ≡ kind.Device = (let same : Listing x.kind ≡ Listing kind.Device = origin in cc) in
      are n x there kind_is of_is

  by_root : (number : ℕ) → (root_of e number).origin ≡ Listing kind.Device → (root_of e number).of ≡ device → lists_owner r.owners (root_of e number).owner ≡ true
  unfolding root_of
  by_root zero origin of_is = absurd (let clash : TrustedPart ≡ Listing kind.Device = origin in cc)
  by_root (suc n) origin of_is = by_row n (gate_for e.gates (suc n)) (slice_get e.rows n) refl origin of_is

-- ---- a licensed access

-- an access within one device's range that meets another's
shares : (base top row other address width : ℕ) → base ≡ row → top ≡ row + DEVICE_SIZE → base ≤ address → address + width ≤ top → MeetsDevice other address width
    → (row < other + DEVICE_SIZE) × (other < row + DEVICE_SIZE)
shares base top row other address width starts ends from to meets =
    let low = meets.0 in
    let high = meets.1 in
    (omega (arith, starts, from, low), omega (arith, ends, to, high))

module _ (p : PartsRow) (s : Sound p) (r : Ruling) (device : ℕ) (row : DeviceRow) (there : slice_get p.devices device ≡ Some row)
    (are : AreListed (entries_of p) r kind.Device device) where
  of_device : (n address width : ℕ) (origin : (root_of (entries_of p) n).origin ≡ Listing kind.Device) → (root_of (entries_of p) n).base ≤ address
      → address + width ≤ (root_of (entries_of p) n).top → MeetsDevice row.base address width → (root_of (entries_of p) n).of ≡ device
  of_device n address width origin from to meets =
      let i = import_of p s n origin in
      let near = shares _ _ i.row.base row.base address width i.starts i.ends from to meets in
      same_device p s _ device i.row row i.there there near.0 near.1

  by_access : (d : Deed) (address width right : ℕ) → IsDeviceAccess (entries_of p) d address width right → MeetsDevice row.base address width
      → IsListedDeed (entries_of p) r device d
  by_access d address width right l meets =
      let of_is = of_device d.entry address width l.0 l.2 l.3 meets in
      record { kind_is = l.0; of_is = of_is; listed = by_root (entries_of p) r device are d.entry l.0 of_is; reached = l.1 }

  by_act : (d : Deed) (a : Act) → IsLicensed (entries_of p) d a → TouchesDevice row.base a → IsListedDeed (entries_of p) r device d
  by_act d (Call export) l touches = absurd touches
  by_act d (Load address width value) l touches = by_access d address width _ l touches
  by_act d (Store address width value) l touches = by_access d address width _ l touches
  by_act d (Allocate number base length live) l touches = absurd touches
  by_act d (Free number base length live) l touches = absurd touches
  by_act d (Trap cause code register) l touches = absurd touches

  all_listed : (hs : List Happened) → AllLicensed (entries_of p) hs → AllListed (entries_of p) r device row.base hs
  all_listed [] l = tt
  all_listed (h ∷ hs) l = (λ d is touches. by_act d d.act (l.0.deed d is) touches, all_listed hs l.1)

-- ---- a rule of those that hold

pub rule_keeps : (e : Listed) (rulings : List Ruling) (k : ℕ) (r : Ruling) → PolicyHolds e rulings → slice_get rulings k ≡ Some r → KeepsRule e r
rule_keeps e [] k r holds is = absurd (let clash : None ≡ Some r = is in cc)
rule_keeps e (x ∷ xs) zero r holds is =
    let same : x ≡ r = (let here : Some x ≡ Some r = is in cc) in
    subst (λ y. KeepsRule e y) same (holds 0 x (omega arith))
rule_keeps e (x ∷ xs) (suc k) r holds is = rule_keeps e xs k r (λ j d inside. holds (suc j) d (omega (arith, inside))) is

pub allowed : (p : PartsRow) (es : List Event) (rulings : List Ruling) (k : ℕ) (r : Ruling) (device : ℕ) (d : DeviceRow) → IsFaultless p → AllDenied p 1 rulings []
    → slice_get rulings k ≡ Some r → r.subject ≡ Only Device device → slice_get p.devices device ≡ Some d
    → AllListed (entries_of p) r device d.base (happenings_of (platform_of p) (boot_state p) es)
unfolding image_of
allowed p es rulings k r device d f none there is stands =
    all_listed p (sound p f) r device d stands
    (only_held (entries_of p) r Device device is (rule_keeps (entries_of p) rulings k r (holds_where p 1 rulings [] none refl) there))
    (happenings_of (platform_of p) (boot_state p) es) (licensed p es f)
