use Rattle.std.proofs.Common.{◌≡◌, ◌∙◌, true, false, sym, []}
use Rattle.def_desc.specs.WellFormed.{WellFormed}
use Rattle.def_program.specs.Commands.{reads_image}
use Rattle.ct_desc.specs.Answers.{Refused}
use Rattle.ct_commands.proofs.Answered.{first_stops, image_done, description_refused, linked_done, source_stops}
use Rattle.ct_commands.proofs.Endings.{due_by}
use Rattle.ct_commands.specs.Forms.{command_of}
use Rattle.ct_top.proofs.Linkable.{linkable}
use Rattle.ct_top.proofs.Named.{given_by, refused_by}
use Rattle.ct_top.proofs.Turning.{description_fault}
use Rattle.ct_top.proofs.dialogue.of_files.Goals as goal

pub returns-in-Err : goal.returns-in-Err
returns-in-Err g c = λ words form.
    first_stops _ (command_of c.args.form.now) c.refuse_file.result form c.requires.reads c.in-Err.stop
    (refused_by c.args.form.now.name.now c.args.form.now.task c.requires.reads _ _ c.in-Err.stop c.in-Err.ensures.answer)
    c.refuse_file.ensures

pub returns-then-reads_image : goal.returns-then-reads_image
returns-then-reads_image g c = λ words form.
    let kind : reads_image (command_of c.args.form.now) ≡ true = sym (c.reads_image.ensures c.args.form.now.name.now) ∙ c.if-reads_image.true in
    image_done _ (command_of c.args.form.now) c.of_image.result form c.requires.reads c.in-Ok.bytes.items
    (g.F.Folder.shows c.read_file.new.folder)
    (given_by c.args.form.now.name.now c.args.form.now.task c.requires.reads _ _ c.in-Ok.bytes.items c.in-Ok.ensures.answer)
    c.in-Ok.ensures.same kind (rw c.as_slice.ensures.value at (c.of_image.ensures c.args.form.now.name.now))

pub returns-in-Err-read : goal.returns-in-Err-read
returns-in-Err-read g c = λ words form.
    let kind : reads_image (command_of c.args.form.now) ≡ false = sym (c.reads_image.ensures c.args.form.now.name.now) ∙ c.if-reads_image.false in
    let refused : Refused c.in-Ok.bytes.items c.in-Err-read.fault = rw c.as_slice-2.ensures.value at c.in-Err-read.ensures in
    description_refused _ (command_of c.args.form.now) c.refuse_description.result form c.requires.reads c.in-Ok.bytes.items
    (given_by c.args.form.now.name.now c.args.form.now.task c.requires.reads _ _ c.in-Ok.bytes.items c.in-Ok.ensures.answer)
    kind (due_by _ _ _ _ _ (λ t due. description_fault (command_of c.args.form.now) c.in-Ok.bytes.items [] c.in-Err-read.fault t refused due) c.refuse_description.ensures)

pub returns-in-Err-read_sources : goal.returns-in-Err-read_sources
returns-in-Err-read_sources g c = λ words form.
    let kind : reads_image (command_of c.args.form.now) ≡ false = sym (c.reads_image.ensures c.args.form.now.name.now) ∙ c.if-reads_image.false in
    let lawful : WellFormed c.in-Ok.bytes.items c.in-Ok-read.desc = rw c.as_slice-2.ensures.value at c.in-Ok-read.ensures in
    source_stops _ (command_of c.args.form.now) c.refuse_file-in-Err-read_sources.result form c.requires.reads c.in-Ok.bytes.items c.in-Ok-read.desc
    (g.F.Folder.shows c.read_file.new.folder)
    (given_by c.args.form.now.name.now c.args.form.now.task c.requires.reads _ _ c.in-Ok.bytes.items c.in-Ok.ensures.answer)
    c.in-Ok.ensures.same kind lawful c.in-Err-read_sources.stop c.in-Err-read_sources.ensures.answer c.refuse_file-in-Err-read_sources.ensures

pub of_sources-status-requires-clause-linkable : goal.of_sources-status-requires-clause-linkable
of_sources-status-requires-clause-linkable g c =
    let lawful : WellFormed c.in-Ok.bytes.items c.in-Ok-read.desc = rw c.as_slice-2.ensures.value at c.in-Ok-read.ensures in
    linkable c.in-Ok.bytes.items c.in-Ok-read.desc _ _ _ lawful c.in-Ok-read_sources.ensures.answer

pub returns : goal.returns
returns g c = λ words form.
    let kind : reads_image (command_of c.args.form.now) ≡ false = sym (c.reads_image.ensures c.args.form.now.name.now) ∙ c.if-reads_image.false in
    let lawful : WellFormed c.in-Ok.bytes.items c.in-Ok-read.desc = rw c.as_slice-2.ensures.value at c.in-Ok-read.ensures in
    linked_done _ (command_of c.args.form.now) c.of_sources-status.result form c.requires.reads c.in-Ok.bytes.items c.in-Ok-read.desc
    (g.F.Folder.shows c.read_file.new.folder)
    (given_by c.args.form.now.name.now c.args.form.now.task c.requires.reads _ _ c.in-Ok.bytes.items c.in-Ok.ensures.answer)
    c.in-Ok.ensures.same kind lawful _ (g.F.Folder.shows c.read_sources.new.folder) c.in-Ok-read_sources.ensures.answer
    (λ n. c.in-Ok-read_sources.ensures.same n ∙ c.in-Ok.ensures.same n) (c.of_sources-status.ensures c.args.form.now.name.now)
