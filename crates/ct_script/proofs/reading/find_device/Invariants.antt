use Rattle.std.proofs.Common.{ℕ, ◌≡◌, ◌<◌, false, slice_index_or}
use Rattle.ct_entry.specs.Listed.{DeviceRow}
use Rattle.def_script.specs.Script.{is_named}
use Rattle.ct_script.proofs.reading.find_device.Given as goal

abbrev pub invariant-loop-index : goal.invariant-loop-index
invariant-loop-index l = (k : ℕ) (d : DeviceRow) → k < l.index → is_named l.name (slice_index_or l.devices k d) ≡ false
