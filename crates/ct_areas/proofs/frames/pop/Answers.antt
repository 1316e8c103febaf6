use Rattle.std.proofs.Common.{◌*◌, length}
use Rattle.ct_areas.proofs.Rows.{popped_frames, popped_touches, shallower_is}
use Rattle.ct_areas.proofs.frames.pop.Goals as goal

pub returns-clause-frames : goal.returns-clause-frames
returns-clause-frames g c =
    let old = g.M.Memory.granules c.args.mem.now in
    popped_frames old (g.M.Memory.granules c.clear_frame.new.mem) c.args.t.now _ (8 * length old) c.requires.area c.requires.some c.clear_frame.ensures
    (shallower_is old c.args.t.now c.frame_offset-at.result c.load_cap.result c.load_cap-2.result c.load_cap-3.result
    c.words-whose.result c.words-top.result c.words-mark.result c.frame_offset-at.ensures.is
    c.load_cap.ensures c.load_cap-2.ensures c.load_cap-3.ensures c.words-whose.ensures c.words-top.ensures c.words-mark.ensures)

pub returns-clause-touches : goal.returns-clause-touches
returns-clause-touches g c =
    let old = g.M.Memory.granules c.args.mem.now in
    rw c.clear_frame.ensures (popped_touches (8 * length old) old c.args.t.now c.requires.area c.requires.some c.requires.room)
