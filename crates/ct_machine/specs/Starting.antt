-- What a machine keeps before its first event.
use Rattle.std.specs.Prelude.{ℕ, ◌≡◌, List, ◌∷◌, length, map, replicate}
use Rattle.ct_entry.specs.Listed.{Listed, DeviceRow}
use Rattle.ct_entry.specs.declared.rows.Entry.{Entry}
use Rattle.def_sched.specs.declared.Status.TheVariants.{Ready}
use Rattle.def_sched.specs.Picks.{first_order}
use Rattle.def_step.specs.Devices.{DeviceStates}
use Rattle.def_machine.specs.Image.{Image}
use Rattle.def_machine.specs.State.{fresh_device}
use Rattle.def_image.specs.Parts.{ThreadRow, PartsRow}
use Rattle.def_image.specs.Sound.{Sound}
use Rattle.def_boot.specs.Boot.{image_of}
use Rattle.ct_sched.specs.Sched.{SchedRow}

-- devices at rest
abbrev pub at_rest : List DeviceRow → DeviceStates
at_rest ds = record {
  bases = map (λ (d : DeviceRow). d.base) ds;
  states = map (λ (d : DeviceRow). fresh_device d.kind) ds;
}

abbrev pub bank_of : PartsRow → DeviceStates
bank_of p = at_rest p.devices

abbrev pub priorities_of : List ThreadRow → List ℕ
priorities_of ts = map (λ (t : ThreadRow). t.priority) ts

-- the threads' turns: all are ready, and none has been picked
abbrev pub rows_of : PartsRow → SchedRow
rows_of p = record {
  priorities = priorities_of p.threads;
  statuses = replicate (length p.threads) Ready;
  order = first_order (length p.threads);
}

-- what each quota may take, by the numbers of the entries; what is no quota takes nothing
abbrev pub limits_of : Listed → List ℕ
limits_of e = 0 ∷ map (λ (r : Entry). r.limit) e.rows

-- the machine's image of a sound image
pub record IsOfSound (i : Image) : Type 0 where
  pub parts : PartsRow
  pub sound : Sound parts
  pub is : i ≡ image_of parts

-- what is kept of a sound image: its entries, the numbers of its compartments' error handlers, where RAM and its heap
-- begin, and how many granules a slice of a sweep passes
pub record IsPlan (p : PartsRow) (entries : Listed) (handlers : List ℕ) (ram heap sweep : ℕ) : Type 0 where
  pub sound : Sound p
  pub entries_are : entries ≡ (image_of p).entries
  pub handlers_are : handlers ≡ (image_of p).handlers
  pub ram_is : ram ≡ (image_of p).ram
  pub heap_is : heap ≡ (image_of p).heap_base
  pub sweep_is : sweep ≡ (image_of p).sweep
