use Rattle.std.proofs.Common.{◌≡◌, ◌*◌, ◌/◌, ◌<◌, length, min, false, arith, subst}
use Rattle.ct_planes.specs.Bits.{Spells}
use Rattle.ct_planes.specs.Fills.{filled}
use Rattle.ct_planes.proofs.Runs.{spells_run, filled_none}
use Rattle.ct_planes.proofs.words.fill_in.Goals as goal

pub loop-n-init : goal.loop-n-init
loop-n-init c flags s inside = rw (filled_none c.args.from (min c.args.to (64 * (c.args.from / 64))) c.args.on false flags (omega arith)) s

pub loop-n-preserved : goal.loop-n-preserved
loop-n-preserved c flags s inside =
    let within : c.loop-n.n < length c.loop-n.words = omega (arith, c.loop-n.auto.words, c.requires.inside, c.loop-n-test.true) in
    spells_run flags c.loop-n.words c.args.from c.args.to c.loop-n.n c.with_run.result c.args.on (c.loop-n.invariant flags s inside) inside within c.with_run.type_inv
    (λ i small. rw (← c.part_before.ensures, ← c.part_before-in-loop-n.ensures) (c.with_run.ensures i small))

pub returns-clause-spells : goal.returns-clause-spells
returns-clause-spells c flags s inside =
    let whole : min c.args.to (64 * c.loop-n.n) ≡ c.args.to = omega (arith, c.loop-n-test.false) in
    subst (λ to. Spells (filled c.args.from to c.args.on flags) c.loop-n.words) whole (c.loop-n.invariant flags s inside)
