-- A load or a store that no check refuses, in RAM: what it gives and what it leaves, whatever the devices and the time.
use Rattle.std.specs.Prelude.{ℕ, ◌≡◌, ◌&&◌, Bool, not, List, Option, None, Ok, is_some, slice_index_or}
use Rattle.def_words.specs.declared.Cap.{Cap}
use Rattle.def_words.specs.Permissions.{has, load_global, load_mutable, memory_capability}
use Rattle.def_memory.specs.declared.Granule.{Granule}
use Rattle.def_memory.specs.Granules.{plain}
use Rattle.def_machine.specs.Memory.{lies_in}
use Rattle.def_instr.specs.declared.Instr.{Instr}
use Rattle.def_step.specs.declared.Access.{Access}
use Rattle.def_step.specs.Devices.{DeviceStates}
use Rattle.def_step.specs.Accesses.{access_of, access_address, access_result, load_checks, ram_value, store_checks}
use Rattle.def_step.specs.Checks.{first_failed}
use Rattle.ct_loadstore.specs.Shapes.{space_of}

-- of an access through x, of y where it stores: the value that it gives, if any, and the granules that it leaves
abbrev pub Quiet : Access → Cap → Cap → ℕ → List Granule → Option Cap → List Granule → Type 0
Quiet a x y ram gs value hs =
    (i : Instr) (k : DeviceStates) (time : ℕ) → access_of i ≡ a
    → access_result i x y (space_of ram gs k time)
    ≡ Ok (record { value = value; act = None; granules = hs; bank = k })

-- no check of a load through x refuses it, and it lies in RAM
abbrev pub is_quiet_load : Access → Cap → ℕ → List Granule → Bool
is_quiet_load a x ram gs =
    not (is_some (first_failed (load_checks a x (access_address a x))))
    && lies_in ram gs (access_address a x) a.width

-- the same of a store of y
abbrev pub is_quiet_store : Access → Cap → Cap → ℕ → List Granule → Bool
is_quiet_store a x y ram gs =
    not (is_some (first_failed (store_checks a x (access_address a x) (a.whole && y.tag))))
    && lies_in ram gs (access_address a x) a.width

-- ---- by registers

-- a register's value
abbrev pub value_by : List Cap → ℕ → Cap
value_by regs n = slice_index_or regs n (plain 0)

-- what a load of RAM gives
abbrev pub loaded_by : Access → List Cap → ℕ → List Granule → Cap
loaded_by a regs ram gs =
    ram_value a (value_by regs a.by) (access_address a (value_by regs a.by)) ram gs

-- whether what is loaded through x keeps its tag and its permissions
abbrev pub passes_all : Cap → Bool
passes_all x = has x load_mutable && (has x load_global && has x memory_capability)
