use Rattle.std.proofs.Common.{◌≡◌, ◌/◌, ◌∙◌, ap, refl, arith}
use Rattle.def_areas.specs.Areas.{frame_words, frame_place}
use Rattle.def_memory.specs.Granules.{holding_all}
use Rattle.ct_areas.specs.Threads.{area_begin}
use Rattle.ct_areas.specs.Parts.{saved_of}
use Rattle.ct_areas.proofs.Rows.{pushed_is, pushed_touches}
use Rattle.ct_areas.proofs.frames.push.Goals as goal

pub returns-clause-thread : goal.returns-clause-thread
returns-clause-thread g c =
    let old = g.M.Memory.granules c.args.mem.now in
    let t = c.args.t.now in
    let here : c.frame_offset-at.result / 8 ≡ frame_place (area_begin t.area) t.depth = omega (arith, c.frame_offset-at.ensures.is) in
    pushed_is old (g.M.Memory.granules c.write_frame.new.mem) t _ c.args.actor c.args.export c.args.top c.requires.area c.requires.alive c.requires.room
    c.word-export.ensures.small c.word-top.ensures.small
    (c.write_frame.ensures.is ∙ ap (λ k. holding_all old k (frame_words (saved_of t) c.args.export t.actor t.top t.handling)) here) refl

pub returns-clause-touches : goal.returns-clause-touches
returns-clause-touches g c =
    let old = g.M.Memory.granules c.args.mem.now in
    let t = c.args.t.now in
    let here : c.frame_offset-at.result / 8 ≡ frame_place (area_begin t.area) t.depth = omega (arith, c.frame_offset-at.ensures.is) in
    rw (c.write_frame.ensures.is, here) (pushed_touches old t c.args.export c.requires.area c.requires.room)
