use Rattle.law_program.proofs.Labelled.{labels_fit, owners_named}
use Rattle.law_program.proofs.reports.labels_fit_rows.Goals as goal

pub returns : goal.returns
returns c = record { count = labels_fit; owners = owners_named }
