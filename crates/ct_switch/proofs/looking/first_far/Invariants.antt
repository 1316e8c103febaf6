use Rattle.std.proofs.Common.{◌≡◌, ◌≤◌, ◌<◌, ◌-◌, true, false}
use Rattle.std.specs.Prelude.{slice_index_or}
use Rattle.ct_switch.specs.Exports.{no_row, is_export_of}
use Rattle.ct_switch.proofs.looking.first_far.Given as goal

abbrev pub invariant-loop-low : goal.invariant-loop-low
invariant-loop-low l = record {
  order : l.low ≤ l.high;
  back : l.high ≤ l.index;
  export : is_export_of l.home (slice_index_or l.rows l.high no_row) ≡ true;
  start : 0 < l.low → is_export_of l.home (slice_index_or l.rows (l.low - 1) no_row) ≡ false;
}

abbrev pub decreases-loop-low : goal.decreases-loop-low
decreases-loop-low l = l.high - l.low
