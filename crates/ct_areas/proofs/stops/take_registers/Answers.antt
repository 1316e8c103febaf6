use Rattle.std.proofs.Common.{◌≡◌, ◌∷◌, ◌+◌, ◌*◌, ◌/◌, ◌∙◌, ap, refl, arith}
use Rattle.def_memory.specs.Granules.{cap_in, plain}
use Rattle.def_machine.specs.Memory.{filtered_in}
use Rattle.ct_areas.proofs.Stopped.{take_step, take_end}
use Rattle.ct_areas.proofs.stops.take_registers.Goals as goal

pub loop-i-preserved : goal.loop-i-preserved
loop-i-preserved g c =
    let gs = g.M.Memory.granules c.args.mem.now in
    take_step (filtered_in c.args.ram gs) gs c.args.registers.now c.loop-i.registers _ c.args.at c.loop-i.i (cap_in gs ((c.args.at + 8 * c.loop-i.i) / 8)) c.take.new.register
    c.requires.even c.told-registers c.loop-i-test.true c.loop-i.invariant refl c.take.ensures refl

pub returns : goal.returns
returns g c =
    let gs = g.M.Memory.granules c.args.mem.now in
    let end : c.loop-i.i ≡ 15 = omega arith in
    rw end at c.loop-i.invariant ∙ ap (λ l. plain 0 ∷ l) (take_end (filtered_in c.args.ram gs) gs c.args.registers.now (c.args.at / 8) c.told-registers)
