use Rattle.std.proofs.Common.{◌≡◌, ◌/◌, ◌∙◌, ap, arith}
use Rattle.def_words.specs.Seals.{cap_seal}
use Rattle.def_memory.specs.Granules.{cap_in}
use Rattle.ct_areas.specs.Parts.{inner_place}
use Rattle.ct_areas.proofs.Registers.{caller_by}
use Rattle.ct_areas.proofs.frames.take_back.Goals as goal

pub returns : goal.returns
returns g c =
    let gs = g.M.Memory.granules c.args.mem.now in
    let t = c.args.t.now in
    let here : c.frame_offset-at.result / 8 ≡ inner_place t = omega (arith, c.frame_offset-at.ensures.is) in
    record {
      link = c.take_link-link.ensures.link ∙ ap (λ k. (cap_seal (cap_in gs k), (cap_in gs k).shadow.source)) here;
      row = caller_by gs t c.frame_offset-at.result c.take_link-link.new.register c.take_kept.new.regs c.frame_offset-at.ensures.is
          c.take_link-link.ensures.taken (c.take_kept.ensures t.actor t.top t.handling);
    }
