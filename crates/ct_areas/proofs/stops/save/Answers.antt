use Rattle.std.proofs.Common.{◌*◌, length}
use Rattle.ct_areas.proofs.Stopped.{saved_is, saved_wrote, saved_touches}
use Rattle.ct_areas.proofs.stops.save.Goals as goal

pub returns-clause-thread : goal.returns-clause-thread
returns-clause-thread g c =
    let old = g.M.Memory.granules c.args.mem.now in
    let t = c.args.t.now in
    let wrote = saved_wrote old (g.M.Memory.granules c.put.new.mem) (g.M.Memory.granules c.put_registers.new.mem) t _ _ c.area_offset-at.ensures.is c.shrink.ensures c.put.ensures.is c.put_registers.ensures.is in
    λ zero_. rw wrote (saved_is old t c.requires.area c.requires.room c.put_registers.ensures.long zero_)

pub returns-clause-touches : goal.returns-clause-touches
returns-clause-touches g c =
    let old = g.M.Memory.granules c.args.mem.now in
    let t = c.args.t.now in
    let wrote = saved_wrote old (g.M.Memory.granules c.put.new.mem) (g.M.Memory.granules c.put_registers.new.mem) t _ _ c.area_offset-at.ensures.is c.shrink.ensures c.put.ensures.is c.put_registers.ensures.is in
    rw wrote (saved_touches old t (8 * length old) c.requires.area c.put_registers.ensures.long)
