-- No load or store changes how much RAM there is, nor where the devices stand.
use Rattle.std.proofs.Common.{ℕ, ◌≡◌, List, length, Option, Some, None, refl}
use Rattle.std.proofs.lemmas.List.{length-set}
use Rattle.law_lists.proofs.Tests.{chosen}
use Rattle.def_words.specs.declared.Cap.{Cap}
use Rattle.def_memory.specs.declared.Granule.{Granule}
use Rattle.def_step.specs.declared.Access.{Access}
use Rattle.def_step.specs.Devices.{DeviceStates, found, bank_read_at, bank_written_at}
use Rattle.def_step.specs.Accesses.{stored_value, MemoryAndDevices, Accessed, accessed, in_ram, on_device, ram_stored, is_ram}

stored_size : (a : Access) (x y : Cap) (at ram : ℕ) (gs : List Granule) → length (ram_stored a x y at ram gs) ≡ length gs
stored_size a x y at ram gs = chosen (λ (g : List Granule). length g ≡ length gs) a.whole _ _ (λ e. length-set gs _ _) (λ e. length-set gs _ _)

in_ram_size : (a : Access) (x y : Cap) (at : ℕ) (p : MemoryAndDevices) → length (in_ram a x y at p).granules ≡ length p.granules
in_ram_size a x y at p = chosen (λ (r : Accessed). length r.granules ≡ length p.granules) a.loads _ _ (λ e. refl) (λ e. stored_size a x y at p.ram p.granules)

on_device_size : (a : Access) (x y : Cap) (at : ℕ) (p : MemoryAndDevices) → length (on_device a x y at p).granules ≡ length p.granules
on_device_size a x y at p = chosen (λ (r : Accessed). length r.granules ≡ length p.granules) a.loads _ _ (λ e. refl) (λ e. refl)

pub accessed_size : (a : Access) (x y : Cap) (at : ℕ) (p : MemoryAndDevices) → length (accessed a x y at p).granules ≡ length p.granules
accessed_size a x y at p = chosen (λ (r : Accessed). length r.granules ≡ length p.granules) (is_ram p at a.width) _ _ (λ e. in_ram_size a x y at p) (λ e. on_device_size a x y at p)

-- nor where the devices stand
read_bases : (k : DeviceStates) (o : Option ℕ) (at width : ℕ) → (bank_read_at k o at width).bases ≡ k.bases
read_bases k None at width = refl
read_bases k (Some n) at width = refl

written_bases : (k : DeviceStates) (o : Option ℕ) (at width value : ℕ) → (bank_written_at k o at width value).bases ≡ k.bases
written_bases k None at width value = refl
written_bases k (Some n) at width value = refl

on_device_bases : (a : Access) (x y : Cap) (at : ℕ) (p : MemoryAndDevices) → (on_device a x y at p).bank.bases ≡ p.bank.bases
on_device_bases a x y at p = chosen (λ (r : Accessed). r.bank.bases ≡ p.bank.bases) a.loads _ _
    (λ e. read_bases p.bank (found p.bank.bases at) at a.width) (λ e. written_bases p.bank (found p.bank.bases at) at a.width (stored_value a y))

in_ram_bases : (a : Access) (x y : Cap) (at : ℕ) (p : MemoryAndDevices) → (in_ram a x y at p).bank.bases ≡ p.bank.bases
in_ram_bases a x y at p = chosen (λ (r : Accessed). r.bank.bases ≡ p.bank.bases) a.loads _ _ (λ e. refl) (λ e. refl)

pub accessed_bases : (a : Access) (x y : Cap) (at : ℕ) (p : MemoryAndDevices) → (accessed a x y at p).bank.bases ≡ p.bank.bases
accessed_bases a x y at p = chosen (λ (r : Accessed). r.bank.bases ≡ p.bank.bases) (is_ram p at a.width) _ _ (λ e. in_ram_bases a x y at p) (λ e. on_device_bases a x y at p)
