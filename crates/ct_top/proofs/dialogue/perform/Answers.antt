use Rattle.std.proofs.Common.{◌≡◌, ◌∙◌, None, Some, sym}
use Rattle.def_program.specs.Commands.{generated_by}
use Rattle.ct_commands.proofs.Answered.{number_done}
use Rattle.ct_commands.specs.Forms.{command_of}
use Rattle.ct_top.proofs.dialogue.perform.Goals as goal

pub returns-in-Some : goal.returns-in-Some
returns-in-Some g c = λ words form.
    let is : generated_by (command_of c.args.form.now) ≡ Some c.in-Some.number = sym (c.number.ensures c.args.form.now.name.now) ∙ c.in-Some.is in
    number_done _ (command_of c.args.form.now) c.of_number.result form c.in-Some.number is (c.of_number.ensures c.args.form.now.name.now)

pub of_files-requires-clause-reads : goal.of_files-requires-clause-reads
of_files-requires-clause-reads g c = sym (c.number.ensures c.args.form.now.name.now) ∙ c.in-None.is
