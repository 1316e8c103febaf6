use Rattle.std.proofs.Common.{◌≡◌, refl, inl, inr, arith}
use Rattle.def_program.specs.Runs.{demo_text, summary_after}
use Rattle.def_program.specs.declared.TheConstants.{DEMO_STEPS}
use Rattle.ct_top.proofs.Booted.{demo_is, uncounted, some_quantum}
use Rattle.ct_top.proofs.runs.summarise.Goals as goal

pub write_summary-requires : goal.write_summary-requires
write_summary-requires g c = record {
  booted = uncounted c.args.image.now c.args.machine.now c.requires.machine;
  quantum = some_quantum c.args.image.now c.parts.result.now _ c.parts.ensures.faultless c.parts.ensures.parts c.behind-image.view_is;
  limit = omega arith;
}

pub returns-in-Ok : goal.returns-in-Ok
returns-in-Ok g c =
    let whole : summary_after c.args.machine.now c.behind-image.inside.quantum DEMO_STEPS ≡ demo_text c.args.image.now =
    demo_is c.args.image.now c.parts.result.now _ c.args.machine.now c.requires.machine c.parts.ensures.parts c.behind-image.view_is in
    inl (refl, rw whole at c.in-Ok.ensures)

pub returns-in-Err : goal.returns-in-Err
returns-in-Err g c =
    let whole : summary_after c.args.machine.now c.behind-image.inside.quantum DEMO_STEPS ≡ demo_text c.args.image.now =
    demo_is c.args.image.now c.parts.result.now _ c.args.machine.now c.requires.machine c.parts.ensures.parts c.behind-image.view_is in
    inr (refl, rw whole at c.in-Err.ensures)
