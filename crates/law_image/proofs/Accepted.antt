-- An accepted image is accepted when it is upgraded.
use Rattle.std.proofs.Common.{ℕ, zero, suc, ◌≡◌, ◌≤◌, ◌⊎◌, inl, inr, nat_le, None, refl, subst, arith}
use Rattle.std.proofs.lemmas.Bool.{leb-true}
use Rattle.law_lists.proofs.Tests.{both_left, both_right}
use Rattle.def_image.specs.Parts.{PartsRow, upgraded}
use Rattle.def_image.specs.Profile.{last_version}
use Rattle.def_image.specs.Spelling.{raw_of}
use Rattle.def_image.specs.Shapes.{IsShaped, IsSpellable}
use Rattle.def_image.specs.Checks.{first}
use Rattle.def_image.specs.Limits.{limit_checks}
use Rattle.def_image.specs.Accepted.{IsFaultless}
use Rattle.def_boot.specs.Upgrade.{StaysFaultless}
use Rattle.law_image.proofs.Limits.{limits_stay}
use Rattle.law_image.proofs.Regions.{regions_stay}
use Rattle.law_image.proofs.Slots.{indexes_stay, rights_stay}

abbrev two : ℕ
two = 2

two_alone : two ≡ 1 → ⊥
two_alone e = absurd (omega (arith, e))

shaped_stays : (p : PartsRow) → IsShaped (raw_of p) → IsShaped (raw_of (upgraded p))
unfolding raw_of
shaped_stays p s = record {
  version = omega arith;
  rate = λ e. absurd (two_alone e);
  sweep = s.sweep;
  quantum = s.quantum;
  ram = s.ram;
  size = s.size;
  trusted = s.trusted;
  heap = s.heap;
  name = s.name;
  devices = s.devices;
  shared = s.shared;
  sealed = s.sealed;
  compartments = s.compartments;
  libraries = s.libraries;
  threads = s.threads;
}

spellable_stays : (p : PartsRow) → IsSpellable p → IsSpellable (upgraded p)
spellable_stays p s = record {
  shaped = shaped_stays p s.shaped;
  name = s.name;
  devices = s.devices;
  shared = s.shared;
  sealed = s.sealed;
  compartments = s.compartments;
  libraries = s.libraries;
  threads = s.threads;
}

-- ---- the two versions

abbrev in_version : ℕ → PartsRow → PartsRow
in_version v p = record p { version = v }

versioned : (p : PartsRow) (v : ℕ) → p.version ≡ v → p ≡ in_version v p
versioned p v e = subst (λ (w : ℕ). p ≡ in_version w p) e refl

one_or_two : (v : ℕ) → 1 ≤ v → v ≤ 2 → (v ≡ 1) ⊎ (v ≡ 2)
one_or_two zero low high = absurd (omega (arith, low))
one_or_two (suc zero) low high = inl refl
one_or_two (suc (suc v)) low high = inr (omega (arith, high))

pub stays : StaysFaultless
stays p f =
    let low = leb-true 1 p.version (both_left (nat_le 1 p.version) (nat_le p.version last_version) f.version) in
    let high = leb-true p.version last_version (both_right (nat_le 1 p.version) (nat_le p.version last_version) f.version) in
    elim (one_or_two p.version low high) [
      | inl one ↦ record {
        spellable = spellable_stays p f.spellable;
        version = refl;
        limits = limits_stay p (subst (λ (q : PartsRow). first (limit_checks (raw_of q)) ≡ None) (versioned p 1 one) f.limits);
        regions = regions_stay p f.regions;
        indexes = indexes_stay p f.indexes;
        rights = rights_stay p f.rights;
      }
      | inr two ↦ subst (λ (q : PartsRow). IsFaultless q) (versioned p 2 two) f
    ]
