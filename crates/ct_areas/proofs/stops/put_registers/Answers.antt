use Rattle.std.proofs.Common.{◌+◌, ◌*◌, ◌/◌, ◌∙◌, ap}
use Rattle.def_memory.specs.Granules.{holding}
use Rattle.ct_areas.proofs.Stopped.{put_step}
use Rattle.ct_areas.proofs.stops.put_registers.Goals as goal

pub loop-i-preserved : goal.loop-i-preserved
loop-i-preserved g c =
    let now = g.M.Memory.granules c.loop-i.mem in
    record {
      written = put_step (g.M.Memory.granules c.args.mem.now) now (g.M.Memory.granules c.put.new.mem) c.args.registers.now c.args.at c.loop-i.i
          c.index-registers-i.result c.requires.even c.told-registers c.loop-i-test.true c.loop-i.invariant.written
          (c.put.ensures.is ∙ ap (λ x. holding now ((c.args.at + 8 * c.loop-i.i) / 8) x) c.shrink.ensures);
      size = c.put.ensures.size ∙ c.loop-i.invariant.size;
    }
