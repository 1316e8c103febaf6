use Rattle.std.proofs.Common.{◌≡◌, drop}
use Rattle.def_object.specs.Object.{undeclared_in}
use Rattle.ct_source.specs.Views.{statements_view}
use Rattle.ct_asm.proofs.first_undeclared.Given as goal

abbrev pub invariant-loop-s : goal.invariant-loop-s
invariant-loop-s l = undeclared_in l.imports (statements_view (drop l.s-index l.statements)) ≡ undeclared_in l.imports (statements_view l.statements)
