-- Devices of an image have names of their own.
use Rattle.std.proofs.Common.{ℕ, ◌≡◌, ◌+◌, ◌<◌, ◌||◌, not, true, false, List, [], ◌∷◌, map, take, Some, slice_get, inl, inr, sym, ap, ◌∙◌, arith}
use Rattle.std.proofs.lemmas.Slice.Eq.{bytes_eq-Decides}
use Rattle.std.specs.Str.{bytes_eq}
use Rattle.std.proofs.lemmas.Bool.{or_parts}
use Rattle.ct_entry.specs.Listed.{DeviceRow}
use Rattle.def_texts.specs.Names.{among, is_name}
use Rattle.def_image.specs.Accepted.{IsFaultless}
use Rattle.def_image.specs.Checks.{check}
use Rattle.def_image.specs.Limits.{device_limits, raw_device_name, name_checks}
use Rattle.def_image.specs.Parts.{PartsRow}
use Rattle.def_image.specs.Profile.{outside}
use Rattle.def_image.specs.Sizes.{devices_at}
use Rattle.def_image.specs.Spelling.{name_field, raw_device, raw_of}
use Rattle.def_image.specs.declared.format.TheConstants.{DEVICE}
use Rattle.law_image.proofs.Holding.{limited}
use Rattle.law_image.proofs.Limited.{asked_of}
use Rattle.law_image.proofs.Members.{map_at}
use Rattle.law_image.proofs.Passing.{head_none, left_none}
use Rattle.law_image.proofs.Tells.{among_taken}
use Rattle.law_lists.proofs.Tests.{lt_tells}
use Rattle.law_lists.proofs.Places.{any_not}

-- a device's name, as its field gives it back
named : DeviceRow → List ℕ
named d = raw_device_name (raw_device d)

names_before : PartsRow → ℕ → List (List ℕ)
names_before p j = map raw_device_name (map raw_device (take j p.devices))

module _ (p : PartsRow) (f : IsFaultless p) where
  none_before : (j : ℕ) (e : DeviceRow) → slice_get p.devices j ≡ Some e → among (named e) (names_before p j) ≡ false
  unfolding named names_before device_limits name_checks raw_of
  none_before j e is =
      let a = asked_of raw_device device_limits (λ d. DEVICE) (devices_at (raw_of p)) p.devices (limited (raw_of p) f.limits).devices j e is in
      let seen = names_before p j in
      let formed = not (is_name (named e)) in
      let twice = among (named e) seen in
      let last = check (a.0 + 32) (outside 1 3 (raw_device e).kind) ∷ [] in
      let names = left_none (name_checks a.0 false seen (raw_device e).name) last a.1 in
      let one = (head_none _ _ names).0 in
      (or_parts formed twice (or_parts (formed || twice) false one).0).1

  no_name_twice : (i j : ℕ) (d e : DeviceRow) → slice_get p.devices i ≡ Some d → slice_get p.devices j ≡ Some e → i < j → d.name ≡ e.name → ⊥
  unfolding named names_before
  no_name_twice i j d e at_i at_j less same =
      let there = map_at raw_device_name _ i (raw_device d) (map_at raw_device _ i d (among_taken p.devices i j d less at_i)) in
      let other : bytes_eq (named e) (named d) ≡ false = any_not (bytes_eq (named e)) (names_before p j) i (named d) (none_before j e at_j) there in
      let alike : named e ≡ named d = ap (λ n. raw_device_name (record { name = name_field n; kind = 0; base = 0 })) (sym same) in
      let equal : bytes_eq (named e) (named d) ≡ true = (bytes_eq-Decides (named e) (named d)).1 alike in
      let clash : true ≡ false = sym equal ∙ other in
      cc

  pub named_once : (i j : ℕ) (d e : DeviceRow) → slice_get p.devices i ≡ Some d → slice_get p.devices j ≡ Some e → d.name ≡ e.name → i ≡ j
  named_once i j d e at_i at_j same = elim (lt_tells i j) [
    | inl k ↦ absurd (no_name_twice i j d e at_i at_j k.1 same)
    | inr k ↦ elim (lt_tells j i) [
      | inl l ↦ absurd (no_name_twice j i e d at_j at_i l.1 (sym same))
      | inr l ↦ let le = k.1 in let ge = l.1 in omega (arith, le, ge)
    ]
  ]
