-- A run of which nothing is to be told but its end and its steps.
use Rattle.std.specs.Prelude.{ℕ}
use Rattle.ct_entry.specs.declared.acts.End.{End}
use Rattle.ct_entry.specs.declared.acts.Totals.{Totals}

abbrev pub quiet : End → ℕ → Totals
quiet end steps = record {
  end = end;
  steps = steps;
  ticks = 0;
  calls = 0;
  devices = 0;
  allocations = 0;
  frees = 0;
  traps = 0;
}
