-- Where the regions of a description's lists begin among all, and the parts over these.
use Rattle.std.specs.Prelude.{ℕ, ◌≡◌, ◌+◌, ◌*◌, ◌<◌, ◌≤◌, ◌^◌, List, length, drop}
use Rattle.std.specs.List.{AllByRecursion}
use Rattle.def_profile.specs.declared.limits.TheConstants as most
use Rattle.def_layout.specs.declared.Region.{Region}
use Rattle.def_image.specs.Parts.{PartsRow}
use Rattle.def_image.specs.Sizes.{sum_of}
use Rattle.def_desc.specs.Rows.{DescRow}
use Rattle.def_link.specs.Linked.{base_at, compartment_parts, library_parts, shared_parts, sealed_parts, thread_parts}
use Rattle.ct_asm.specs.Labels.{Assembled}
use Rattle.ct_link.specs.declared.laid.Starts.{Starts}
use Rattle.ct_link.specs.Rows.{IsSmallOwner, own_built, lent_built, row_entries}

-- lists within their limits
pub record AreSmallRows (d : DescRow) : Type 0 where
  pub rows : AllByRecursion IsSmallOwner d.compartments
  pub compartments : length d.compartments ≤ most.MOST_COMPARTMENTS
  pub libraries : length d.libraries ≤ most.MOST_LIBRARIES
  pub shared : length d.shared ≤ most.MOST_OBJECTS
  pub sealed : length d.sealed ≤ most.MOST_OBJECTS
  pub threads : length d.threads ≤ most.MOST_THREADS_2

pub record AreStarts (d : DescRow) (s : Starts) : Type 0 where
  pub libraries : s.libraries ≡ 3 * length d.compartments
  pub shared : s.shared ≡ s.libraries + length d.libraries
  pub sealed : s.sealed ≡ s.shared + length d.shared
  pub threads : s.threads ≡ s.sealed + length d.sealed
  pub trusted : s.trusted ≡ s.threads + length d.threads
  pub entry : s.entry ≡ 1 + sum_of row_entries d.compartments
  pub few : s.entry ≤ 13697

-- small enough that no list passes what 32 bits count
pub record AreFewStarts (d : DescRow) (s : Starts) : Type 0 where
  pub libraries : s.libraries < 2 ^ 15
  pub shared : s.shared + length d.shared < 2 ^ 32
  pub sealed : s.sealed + length d.sealed < 2 ^ 32
  pub threads : s.threads + length d.threads < 2 ^ 32
  pub trusted : s.trusted < 2 ^ 15
  pub entry : s.entry < 2 ^ 15

abbrev pub parts_at : DescRow → List Assembled → List Assembled → List Region → ℕ → Starts
    → PartsRow
parts_at d own lent regions heap s = record {
  version = d.version;
  sweep = d.sweep;
  quantum = d.quantum;
  ram = d.ram.base;
  size = d.ram.size;
  trusted = base_at (drop s.trusted regions) 0;
  heap = heap;
  name = d.firmware;
  devices = d.devices;
  shared = shared_parts (drop s.shared regions) d.shared;
  sealed = sealed_parts (drop s.sealed regions) d.sealed;
  compartments = compartment_parts d 1 regions (own_built d.compartments own);
  libraries = library_parts d s.entry (drop s.libraries regions) (lent_built d.libraries lent);
  threads = thread_parts d (drop s.threads regions) d.threads;
}
