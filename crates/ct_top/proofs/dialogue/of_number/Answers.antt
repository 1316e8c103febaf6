use Rattle.std.proofs.Common.{◌≡◌, ◌∙◌, List, ℕ, map, string_bytes, ap}
use Rattle.def_desc.specs.Reading.{description_of}
use Rattle.def_gen.specs.Description.{firmware}
use Rattle.def_gen.specs.Sources.{sources}
use Rattle.ct_commands.specs.Forms.{command_for}
use Rattle.ct_top.proofs.Generated.{rows_read, linkable, linked_number}
use Rattle.ct_top.proofs.dialogue.of_number.Goals as goal

pub of_sources-status-requires-clause-linkable : goal.of_sources-status-requires-clause-linkable
of_sources-status-requires-clause-linkable g c =
    let rows : c.in-Ok-read.desc ≡ description_of (firmware c.args.number) =
    rows_read c.args.number (string_bytes c.in-Ok.made.description) _ c.in-Ok-read.desc c.in-Ok.ensures.well_formed c.as_bytes.ensures.value c.in-Ok-read.ensures in
    linkable c.args.number c.in-Ok-read.desc _ rows (c.in-Ok-bytes_of.ensures ∙ ap (map string_bytes) c.as_slice.ensures.value ∙ c.in-Ok.ensures.sources)

pub returns : goal.returns
returns g c = λ name.
    let rows : c.in-Ok-read.desc ≡ description_of (firmware c.args.number) =
    rows_read c.args.number (string_bytes c.in-Ok.made.description) _ c.in-Ok-read.desc c.in-Ok.ensures.well_formed c.as_bytes.ensures.value c.in-Ok-read.ensures in
    linked_number (command_for name c.args.task) c.args.number c.in-Ok-read.desc _ _ _ _ _ c.of_sources-status.result rows
    (c.in-Ok-bytes_of.ensures ∙ ap (map string_bytes) c.as_slice.ensures.value ∙ c.in-Ok.ensures.sources) (c.of_sources-status.ensures name)
