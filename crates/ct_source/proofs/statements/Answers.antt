-- What a text stands for is lawful.
use Rattle.def_source.specs.Source.{lines_of}
use Rattle.def_source.specs.declared.parts.Section.TheVariants as section
use Rattle.ct_source.proofs.ProgramsOf.{program_lawful}
use Rattle.ct_source.proofs.statements.Goals as goal

pub returns-in-Ok-clause-lawful : goal.returns-in-Ok-clause-lawful
returns-in-Ok-clause-lawful c = program_lawful section.Text 1 (lines_of c.args.text.now) _ c.in-Ok.ensures
