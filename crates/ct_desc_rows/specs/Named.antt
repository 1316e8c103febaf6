-- What contracts see of what an import names.
use Rattle.def_desc.specs.Rows.{Target as TargetRow}
use Rattle.def_desc.specs.References.{target}
use Rattle.ct_desc_rows.specs.declared.targets.Target.{Target}

abbrev pub named : Target → TargetRow
named t = target t.form t.name.now
