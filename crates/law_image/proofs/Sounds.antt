-- An image on which no check fails is sound.
use Rattle.std.proofs.Common.{ℕ, ◌≡◌, ◌+◌, ◌<◌, ◌≤◌, Option, Some, slice_get, length, nat_le, sym, ap, subst, arith}
use Rattle.std.specs.Prelude.{unwrap_or}
use Rattle.std.proofs.lemmas.Bool.{leb-true}
use Rattle.ct_entry.specs.Listed.{DeviceRow}
use Rattle.def_words.specs.LeastBounds.{exponent_for}
use Rattle.law_words.proofs.Leasts.{ceil_above}
use Rattle.def_layout.specs.Placement.{whole_size, region_length}
use Rattle.def_image.specs.Parts.{CodeRow, CompartmentRow, ThreadRow, PartsRow}
use Rattle.def_image.specs.Spelling.{raw_of, raw_device}
use Rattle.def_image.specs.Shapes.{IsDevice, SpellableSlot, SpellableGate, SpellableCode}
use Rattle.def_image.specs.Regions.{trusted_size}
use Rattle.def_image.specs.Members.{code_number, library_number, gate_number, library_gate_number, compartment, library, no_compartment, no_code}
use Rattle.def_image.specs.Profile.{last_version}
use Rattle.def_image.specs.Accepted.{IsFaultless}
use Rattle.def_image.specs.Sound.{IsWithin, Sound, RamFits, HeapFits, CompartmentFits, LibraryFits, ThreadFits}
use Rattle.law_lists.proofs.Tests.{both_left, both_right}
use Rattle.law_image.proofs.Members.{all_at, all_back}
use Rattle.law_image.proofs.Laying.{Checked, checked, are_laid, heap_even, heap_inside, trusted_below, trusted_low, device_fits, devices_apart, away}
use Rattle.law_image.proofs.Holding.{Limited, limited}
use Rattle.law_image.proofs.Limited.{HeaderFits, header_fits, shared_fits, sealed_fits, thread_fits}
use Rattle.law_image.proofs.Named.{Indexed, indexed, Righted, righted, own_slot_fits, library_slot_fits, thread_enters}
use Rattle.def_image.specs.Limits.{compartment_bounds, library_bounds}
use Rattle.law_image.proofs.Owners.{GateLimited, compartment_limited, library_limited, export_fits, library_export_fits}

-- the trusted region holds its head
some_trusted : (size : ℕ) → 16 ≤ region_length size
some_trusted size =
    let unit : 16 ≤ whole_size size = omega arith in
    let up = ceil_above (whole_size size) (exponent_for 0 (whole_size size)) in
    omega (arith, unit, up)

pub compartment_is : (p : PartsRow) (b : ℕ) (c : CompartmentRow) → slice_get p.compartments b ≡ Some c → compartment p b ≡ c
compartment_is p b c is = ap (λ (o : Option CompartmentRow). unwrap_or o no_compartment) is

pub library_is : (p : PartsRow) (l : ℕ) (c : CodeRow) → slice_get p.libraries l ≡ Some c → library p l ≡ c
library_is p l c is = ap (λ (o : Option CodeRow). unwrap_or o no_code) is

module _ (p : PartsRow) (f : IsFaultless p) where
  limits : Limited (raw_of p)
  limits = limited (raw_of p) f.limits

  header : HeaderFits p
  header = header_fits p limits.header

  laid : Checked p
  laid = checked p f.regions

  indexes : Indexed p
  indexes = indexed p f.indexes

  rights : Righted p
  rights = righted p f.rights

  some_ram : 0 < p.size
  some_ram = let low = header.sized.0 in omega (arith, low)

  ram_fits : RamFits p
  ram_fits = record {
    base = header.ram;
    size = header.size;
    sized = header.sized;
    end = header.end;
    native = away p.ram p.size 65536 4096 some_ram (omega arith) laid.ram;
  }

  heap_fits : HeapFits p
  heap_fits = record {
    even = heap_even p laid;
    inside = heap_inside p laid;
    after = trusted_below p laid;
    below = (let low = trusted_low p laid in let up = trusted_below p laid in let some = some_trusted (trusted_size p.threads) in omega (arith, low, up, some));
  }

  device_small : (i : ℕ) (d : DeviceRow) → slice_get p.devices i ≡ Some d → d.base < 4294967296
  unfolding raw_of
  device_small i d is = (all_back IsDevice raw_device p.devices i d f.spellable.shaped.devices.1 is).2

  compartment_fits : (b : ℕ) (c : CompartmentRow) → slice_get p.compartments b ≡ Some c → CompartmentFits p b c
  compartment_fits b c is =
      let h = compartment_limited p limits b c is in
      let s = all_at (λ (c : CompartmentRow). SpellableCode c.code) p.compartments b c f.spellable.compartments is in
      record {
        code = h.code;
        slots = h.slots;
        globals = h.globals;
        initial = h.initial;
        slot = λ j x at. own_slot_fits p indexes rights b c is j x at (h.slot j x at (all_at SpellableSlot c.code.slots j x s.slots at));
        export = λ j x at.
            let number : code_number p b + 2 + length c.code.slots + j ≡ gate_number p b j = ap (λ (c : CompartmentRow). code_number p b + 2 + length c.code.slots + j) (sym (compartment_is p b c is)) in
            export_fits c.code (gate_number p b j) x.row (subst (λ n. GateLimited compartment_bounds (length c.code.text) n x.row) number (h.export j x at (all_at SpellableGate c.code.exports j x s.exports at)));
      }

  library_fits : (l : ℕ) (c : CodeRow) → slice_get p.libraries l ≡ Some c → LibraryFits p l c
  library_fits l c is =
      let h = library_limited p limits l c is in
      let s = all_at SpellableCode p.libraries l c f.spellable.libraries is in
      record {
        code = h.code;
        slots = h.slots;
        slot = λ j x at. library_slot_fits p indexes rights l c is j x at (h.slot j x at (all_at SpellableSlot c.slots j x s.slots at));
        export = λ j x at.
            let number : library_number p l + 1 + length c.slots + j ≡ library_gate_number p l j = ap (λ (c : CodeRow). library_number p l + 1 + length c.slots + j) (sym (library_is p l c is)) in
            library_export_fits c (library_gate_number p l j) x.row (subst (λ n. GateLimited library_bounds (length c.text) n x.row) number (h.export j x at (all_at SpellableGate c.exports j x s.exports at)));
      }

  threads_fit : (t : ℕ) (x : ThreadRow) → slice_get p.threads t ≡ Some x → ThreadFits p x
  threads_fit t x is =
      let h = thread_fits p limits t x is in
      let e = thread_enters p indexes t x is in
      record { stack = h.stack; priority = h.priority; frames = h.frames; enters = (e.compartment, e.gate, e.at, e.in_it) }

  version_within : IsWithin 1 2 p.version
  version_within =
      let low = leb-true 1 p.version (both_left (nat_le 1 p.version) (nat_le p.version last_version) f.version) in
      let high = leb-true p.version last_version (both_right (nat_le 1 p.version) (nat_le p.version last_version) f.version) in
      (low, omega (arith, high))

  pub sound : Sound p
  sound = record {
    version = version_within;
    sweep = header.sweep;
    quantum = header.quantum;
    few = header.few;
    ram = ram_fits;
    heap = heap_fits;
    laid = are_laid p laid;
    device = λ i d is. device_fits p laid some_ram i d (device_small i d is) is;
    apart = λ i j d e at_i at_j same. devices_apart p laid i j d e at_i at_j same;
    object = λ i s is. shared_fits p limits i s is;
    sealed = λ i s is. sealed_fits p limits i s is;
    compartment = λ b c is. compartment_fits b c is;
    library = λ l c is. library_fits l c is;
    thread = λ t x is. threads_fit t x is;
  }
