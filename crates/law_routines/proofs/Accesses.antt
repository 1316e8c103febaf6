-- What an access comes to, by cases: in RAM or elsewhere, a load or a store.
use Rattle.std.proofs.Common.{ℕ, ◌≡◌, ◌+◌, ◌*◌, ◌≤◌, true, false, nat_le, length, Some, None}
use Rattle.std.proofs.lemmas.Bool.{leb-true, and_parts}
use Rattle.law_lists.proofs.Tests.{chosen}
use Rattle.ct_entry.specs.declared.acts.Act.TheVariants.{Load, Store}
use Rattle.def_words.specs.declared.Cap.{Cap}
use Rattle.def_step.specs.declared.Access.{Access}
use Rattle.def_step.specs.Devices.{bank_value, bank_read, bank_written}
use Rattle.def_step.specs.Accesses.{MemoryAndDevices, Accessed, is_ram, ram_value, ram_stored, device_value, stored_value, deed_at, in_ram, on_device, accessed}

-- what lies in RAM lies at RAM's begin or past it
pub ram_begins : (p : MemoryAndDevices) (at width : ℕ) → is_ram p at width ≡ true → p.ram ≤ at
ram_begins p at width lies = leb-true p.ram at (and_parts (nat_le p.ram at) (nat_le (at + width) (p.ram + 8 * length p.granules)) lies).0

-- what holds of each of the four
pub record Accesses (P : Accessed → Type 0) (a : Access) (x y : Cap) (at : ℕ) (p : MemoryAndDevices) : Type 0 where
  pub loads : is_ram p at a.width ≡ true → a.loads ≡ true
      → P (record { value = Some (ram_value a x at p.ram p.granules); act = None; granules = p.granules; bank = p.bank })
  pub stores : is_ram p at a.width ≡ true → a.loads ≡ false
      → P (record { value = None; act = None; granules = ram_stored a x y at p.ram p.granules; bank = p.bank })
  pub reads : a.loads ≡ true → P (record {
    value = Some (device_value a x (bank_value p.bank at a.width p.time));
    act = deed_at p at (Load at a.width (bank_value p.bank at a.width p.time));
    granules = p.granules;
    bank = bank_read p.bank at a.width;
  })
  pub writes : a.loads ≡ false → P (record {
    value = None;
    act = deed_at p at (Store at a.width (stored_value a y));
    granules = p.granules;
    bank = bank_written p.bank at a.width (stored_value a y);
  })

pub by_access : (P : Accessed → Type 0) (a : Access) (x y : Cap) (at : ℕ) (p : MemoryAndDevices) → Accesses P a x y at p → P (accessed a x y at p)
by_access P a x y at p h = chosen P (is_ram p at a.width) (in_ram a x y at p) (on_device a x y at p)
    (λ ram. chosen P a.loads _ _ (h.loads ram) (h.stores ram))
    (λ other. chosen P a.loads _ _ h.reads h.writes)
