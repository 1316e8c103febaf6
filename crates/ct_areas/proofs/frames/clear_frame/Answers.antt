use Rattle.std.proofs.Common.{◌≡◌, ◌+◌, ◌-◌, ◌*◌, ◌∙◌, length, sym, subst}
use Rattle.def_memory.specs.Ranges.{IsZeroed}
use Rattle.law_areas.proofs.Changes.{cleared_is}
use Rattle.ct_areas.specs.Parts.{frame_address}
use Rattle.ct_areas.proofs.Places.{frame_offset_is, frame_low}
use Rattle.ct_areas.proofs.frames.clear_frame.Goals as goal

pub returns : goal.returns
returns g c =
    let old = g.M.Memory.granules c.args.mem.now in
    let new = g.M.Memory.granules c.zero.new.self in
    let a = c.args.area.now in
    let place : c.frame_offset-at.result ≡ frame_address a c.args.number - a.ram =
    c.frame_offset-at.ensures.is ∙ sym (frame_offset_is (8 * length old) a c.args.number c.requires.area) in
    cleared_is a.ram (frame_address a c.args.number) 64 old new (frame_low (8 * length old) a c.args.number c.requires.area)
    (subst (λ x. IsZeroed x (x + 64) old new) place c.zero.ensures)
