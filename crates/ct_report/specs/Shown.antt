-- What a label of the code stands for.
use Rattle.std.specs.Prelude.{ℕ, List, map}
use Rattle.def_desc.specs.References.{export_name}
use Rattle.def_report.specs.Labels.{Label as LabelRow}
use Rattle.def_report.specs.Lines.{Line as LineRow}
use Rattle.ct_report.specs.declared.labels.Label.{Label}
use Rattle.ct_report.specs.declared.labels.Of.{Of}
use Rattle.ct_report.specs.declared.labels.Of.TheVariants.{Named, Export}
use Rattle.ct_report.specs.declared.lines.Line.{Line}

-- an export is `owner.export`
abbrev pub of_name : Of → List ℕ
of_name (Named name) = name.now
of_name (Export owner name) = export_name owner.now name.now

abbrev pub label_of : Label → LabelRow
label_of l = record {
  owner = l.owner.now;
  name = l.name.now;
  of = of_name l.of;
  seal = l.seal;
  export = l.export;
}

abbrev pub shown : List Label → List LabelRow
shown ls = map label_of ls

abbrev pub line_of : Line → LineRow
line_of l = record { number = l.number; entry = l.entry; label = label_of l.label }
