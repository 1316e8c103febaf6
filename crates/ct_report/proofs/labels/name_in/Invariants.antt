use Rattle.std.proofs.Common.{◌≡◌, drop}
use Rattle.def_report.specs.Labels.{name_by_number}
use Rattle.ct_report.proofs.labels.name_in.Given as goal

abbrev pub invariant-loop-name : goal.invariant-loop-name
invariant-loop-name l = name_by_number (λ r. r.0.now) (λ r. r.1) l.number (drop l.name-index l.table) ≡ name_by_number (λ r. r.0.now) (λ r. r.1) l.number l.table
