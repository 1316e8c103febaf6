-- Which widths there are: 1, 2 and 4 of bytes, where the first two may be signed, and 8 of a capability.
use Rattle.std.specs.Prelude.{ℕ, ◌≡◌, ◌+◌, ◌*◌, ◌%◌, ◌≤◌, ◌⊎◌, true, false, List, [], Option}
use Rattle.ct_entry.specs.declared.acts.Act.{Act}
use Rattle.def_words.specs.declared.Cap.{Cap}
use Rattle.def_memory.specs.declared.Granule.{Granule}
use Rattle.def_step.specs.declared.Access.{Access}
use Rattle.def_step.specs.Devices.{DeviceStates}
use Rattle.def_step.specs.Accesses.{MemoryAndDevices}

abbrev pub IsShape : Access → Type 0
IsShape a =
    ((a.whole ≡ false) × ((a.width ≡ 1) ⊎ (a.width ≡ 2) ⊎ ((a.width ≡ 4) × (a.signed ≡ false))))
    ⊎ ((a.whole ≡ true) × (a.width ≡ 8) × (a.signed ≡ false))

-- an access of whole bytes in RAM, aligned to its width
pub record Reaches (a : Access) (ram granules at : ℕ) : Type 0 where
  pub even : ram % 16 ≡ 0
  pub low : ram ≤ at
  pub high : at + a.width ≤ ram + 8 * granules
  pub aligned : at % a.width ≡ 0

-- RAM from its base, the devices and the time
abbrev pub space_of : ℕ → List Granule → DeviceStates → ℕ → MemoryAndDevices
space_of ram gs k time = record { ram = ram; granules = gs; bank = k; time = time }

-- the devices alone
abbrev pub space : DeviceStates → ℕ → MemoryAndDevices
space k time = space_of 0 [] k time

pub record MovedRow : Type 0 where
  pub value : Option Cap
  pub device : Option Act
