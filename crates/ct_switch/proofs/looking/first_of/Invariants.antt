use Rattle.std.proofs.Common.{◌≡◌, ◌≤◌, true}
use Rattle.std.specs.Prelude.{slice_index_or}
use Rattle.ct_switch.specs.Exports.{no_row, is_export_of}
use Rattle.ct_switch.proofs.looking.first_of.Given as goal

abbrev pub invariant-loop-first : goal.invariant-loop-first
invariant-loop-first l = record {
  back : l.first ≤ l.index;
  export : is_export_of l.home (slice_index_or l.rows l.first no_row) ≡ true;
}

abbrev pub decreases-loop-first : goal.decreases-loop-first
decreases-loop-first l = l.first
