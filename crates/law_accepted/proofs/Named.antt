-- What a rule on a device means: the device of the rule's name.
use Rattle.std.proofs.Common.{◌≡◌, ℕ, List, [], Option, Some, None, refl, sym, ap, ◌∙◌, slice_get, option_map}
use Rattle.std.proofs.Math.ListN.{get_or}
use Rattle.std.proofs.lemmas.List.Quantifiers.{position-Some}
use Rattle.std.proofs.lemmas.Option.{slice_get-get_or}
use Rattle.std.proofs.lemmas.Slice.Eq.{bytes_eq-Decides}
use Rattle.std.specs.Str.{bytes_eq}
use Rattle.ct_entry.specs.Listed.{DeviceRow}
use Rattle.ct_entry.specs.declared.hardware.DeviceKind.TheVariants.{Timer}
use Rattle.ct_entry.specs.declared.rows.Owner.{Owner}
use Rattle.def_image.specs.Accepted.{IsFaultless}
use Rattle.def_image.specs.Parts.{PartsRow}
use Rattle.def_policy.specs.Names.{device_named, owners_named}
use Rattle.def_policy.specs.Rules.{Device, Only}
use Rattle.def_policy.specs.Rulings.{Ruling, meant, only, ruling}
use Rattle.def_policy.specs.declared.Resource.TheVariants as resource
use Rattle.def_policy.specs.declared.Subject.TheVariants as subject
use Rattle.law_accepted.proofs.Once.{named_once}
use Rattle.def_program.specs.Named.{IsOnDevice}

no_device : DeviceRow
no_device = record { name = []; kind = Timer; base = 0 }

module _ (p : PartsRow) (name : List ℕ) (owners : List (List ℕ)) (r : Ruling) (faultless : IsFaultless p) where
  by_owners : (k : ℕ) (os : Option (List Owner)) → device_named p name ≡ Some k → owners_named p owners ≡ os → only (Some (subject.Only resource.Device k)) os ≡ Some r
      → IsOnDevice p name owners r
  by_owners k None device listed is = absurd (let clash : None ≡ Some r = is in cc)
  by_owners k (Some os) device listed is =
      let same : ruling (subject.Only resource.Device k) os ≡ r = (let here : Some (ruling (subject.Only resource.Device k) os) ≡ Some r = is in cc) in
      let first = position-Some (λ (d : DeviceRow). bytes_eq name d.name) p.devices k no_device device in
      let row = get_or p.devices k no_device in
      let there : slice_get p.devices k ≡ Some row = slice_get-get_or p.devices k no_device first.0 in
      let name_is : row.name ≡ name = sym ((bytes_eq-Decides name row.name).0 first.1) in
      record {
        device = k;
        row = row;
        subject_is = ap (λ (z : Ruling). z.subject) (sym same);
        there = there;
        name_is = name_is;
        alone = λ j d at same. named_once p faultless j k d row at there (same ∙ sym name_is);
        owners_are = listed ∙ ap (λ (z : Ruling). Some z.owners) same;
      }

  by_device : (o : Option ℕ) → device_named p name ≡ o → only (option_map (λ n. subject.Only resource.Device n) o) (owners_named p owners) ≡ Some r → IsOnDevice p name owners r
  by_device None device is = absurd (let clash : None ≡ Some r = is in cc)
  by_device (Some k) device is = by_owners k (owners_named p owners) device refl is

pub on_device : (p : PartsRow) (name : List ℕ) (owners : List (List ℕ)) (r : Ruling) → IsFaultless p → meant p (Only (Device name) owners) ≡ Some r → IsOnDevice p name owners r
unfolding meant
on_device p name owners r faultless is = by_device p name owners r faultless (device_named p name) refl is
