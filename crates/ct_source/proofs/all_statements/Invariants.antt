use Rattle.std.proofs.Common.{◌≡◌, ◌+◌, ◌≤◌, length}
use Rattle.def_source.specs.Source.{with_front, program_from, lines_of}
use Rattle.def_source.specs.declared.parts.Section.TheVariants as section
use Rattle.ct_source.specs.Views.{statements_view}
use Rattle.ct_source.proofs.all_statements.Given as goal

abbrev pub invariant-loop-rest : goal.invariant-loop-rest
invariant-loop-rest l = record {
  whole : with_front (statements_view l.all.items) (program_from l.section (l.number + 1) (lines_of l.rest)) ≡ program_from section.Text 1 (lines_of l.text);
  early : l.number + length l.rest ≤ length l.text;
}

abbrev pub decreases-loop-rest : goal.decreases-loop-rest
decreases-loop-rest l = length l.rest
