use Rattle.std.proofs.Common.{◌≡◌, ◌++◌, ◌∙◌, refl, inl, inr}
use Rattle.def_program.specs.Runs.{run_lines, run_text}
use Rattle.ct_top.proofs.Booted.{text_is, uncounted, some_quantum}
use Rattle.ct_top.proofs.runs.play.Goals as goal

pub write_run-requires-clause-may : goal.write_run-requires-clause-may
write_run-requires-clause-may g c = record {
  booted = uncounted c.args.image.now c.args.machine.now c.requires.machine;
  quantum = some_quantum c.args.image.now c.parts.result.now _ c.parts.ensures.faultless c.parts.ensures.parts c.behind-image.view_is;
  limit = c.requires.limit;
}

pub returns-in-Ok : goal.returns-in-Ok
returns-in-Ok g c =
    let whole : c.as_bytes.result.now ++ run_lines c.args.machine.now c.args.script.now c.behind-image.inside.quantum c.args.limit ≡ run_text c.args.image.now c.args.script.now c.args.limit =
    text_is c.args.image.now c.parts.result.now _ c.args.script.now c.args.limit c.as_bytes.result.now c.args.machine.now (c.as_bytes.ensures.value ∙ c.requires.report) c.requires.machine c.parts.ensures.parts c.behind-image.view_is in
    inl (refl, rw whole at c.in-Ok.ensures)

pub returns-in-Err : goal.returns-in-Err
returns-in-Err g c =
    let whole : c.as_bytes.result.now ++ run_lines c.args.machine.now c.args.script.now c.behind-image.inside.quantum c.args.limit ≡ run_text c.args.image.now c.args.script.now c.args.limit =
    text_is c.args.image.now c.parts.result.now _ c.args.script.now c.args.limit c.as_bytes.result.now c.args.machine.now (c.as_bytes.ensures.value ∙ c.requires.report) c.requires.machine c.parts.ensures.parts c.behind-image.view_is in
    inr (refl, rw whole at c.in-Err.ensures)
