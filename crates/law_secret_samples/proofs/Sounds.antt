-- The images are accepted, whatever byte the secret is.
use Rattle.std.proofs.Common.{ℕ, ◌≡◌, ◌<◌, None, refl}
use Rattle.def_image.specs.Accepted.{IsFaultless}
use Rattle.def_image.specs.Checks.{first}
use Rattle.def_image.specs.Limits.{limit_checks}
use Rattle.def_image.specs.Lying.{region_checks}
use Rattle.def_image.specs.Indexes.{index_checks}
use Rattle.def_image.specs.Rights.{right_checks}
use Rattle.def_image.specs.Shapes.{IsSpellable}
use Rattle.def_image.specs.Sound.{Sound}
use Rattle.def_image.specs.Spelling.{raw_of}
use Rattle.law_image.proofs.Sounds.{sound}
use Rattle.law_answers.proofs.Facts.{spelled_by}
use Rattle.law_secret_samples.specs.Walls.{walls}

spellable_zero : IsSpellable (walls 0)
unfolding raw_of
spellable_zero = spelled_by (walls 0) tt tt tt refl

-- another byte in the place of a zero is spelled too
spellable : (n : ℕ) → n < 256 → IsSpellable (walls n)
unfolding raw_of
spellable n small =
    let s = spellable_zero in
    let h = s.shaped in
    let k = h.compartments.1.1.0 in
    record {
      shaped = record {
        version = h.version;
        rate = h.rate;
        sweep = h.sweep;
        quantum = h.quantum;
        ram = h.ram;
        size = h.size;
        trusted = h.trusted;
        heap = h.heap;
        name = h.name;
        devices = h.devices;
        shared = h.shared;
        sealed = h.sealed;
        compartments = (
          h.compartments.0,
          (
            h.compartments.1.0,
            (record { code = k.code; table = k.table; globals = k.globals; size = k.size; initial = (k.initial.0, (small, tt)); padding = k.padding }, tt),
          ),
        );
        libraries = h.libraries;
        threads = h.threads;
      };
      name = s.name;
      devices = s.devices;
      shared = s.shared;
      sealed = s.sealed;
      compartments = s.compartments;
      libraries = s.libraries;
      threads = s.threads;
    }

-- what is found, by tests that compute
module _ (n : ℕ) (limits : first (limit_checks (raw_of (walls n))) ≡ None) (regions : first (region_checks (walls n)) ≡ None) (indexes : first (index_checks (walls n)) ≡ None) (rights : first (right_checks (walls n)) ≡ None) where
  pub faultless : n < 256 → IsFaultless (walls n)
  faultless small = record { spellable = spellable n small; version = refl; limits = limits; regions = regions; indexes = indexes; rights = rights }

  pub accepted : n < 256 → Sound (walls n)
  accepted small = sound (walls n) (faultless small)
