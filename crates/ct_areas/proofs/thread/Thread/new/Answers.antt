use Rattle.std.proofs.Common.{refl}
use Rattle.ct_areas.specs.Starts.{first_row}
use Rattle.ct_areas.proofs.Rows.{first_wrote, first_is, first_touches}
use Rattle.ct_areas.proofs.thread.Thread.new.Goals as goal

pub returns-clause-thread : goal.returns-clause-thread
returns-clause-thread g c =
    let old = g.M.Memory.granules c.args.mem.now in
    let new = g.M.Memory.granules c.store_cap.new.self in
    let f = c.args.fresh.now in
    let wrote = first_wrote old new c.frame_offset-at.result f.first.export f.area c.plain.result c.frame_offset-at.ensures.is c.plain.ensures c.store_cap.ensures in
    rw wrote (first_is old (first_row f) f.first.export c.requires.area refl refl c.word-export.ensures.small c.requires.clear)

pub returns-clause-touches : goal.returns-clause-touches
returns-clause-touches g c =
    let old = g.M.Memory.granules c.args.mem.now in
    let new = g.M.Memory.granules c.store_cap.new.self in
    let f = c.args.fresh.now in
    let wrote = first_wrote old new c.frame_offset-at.result f.first.export f.area c.plain.result c.frame_offset-at.ensures.is c.plain.ensures c.store_cap.ensures in
    rw wrote (first_touches old f.area f.first.export c.requires.area)
