use Rattle.std.proofs.Common.{ap, ◌∙◌}
use Rattle.def_image.specs.Parts.{PartsRow}
use Rattle.ct_image_parts.proofs.Told.{written_is}
use Rattle.ct_image_parts.proofs.writing.written.Goals as goal

pub returns : goal.returns
returns c =
    written_is c.args.parts.now c.parts.inside.version c.parts.inside.sweep c.as_str.result.now _ _ _ _ _ _ _ c.new-out.ensures.items c.in_ok-put_begin.ensures c.in_ok-put_counts.ensures c.in_ok-put_bases.ensures
    c.in_ok-put_rate.ensures c.in_ok-put_name.ensures c.in_ok-put_lists.ensures
    (ap (λ (x : PartsRow). x.version) c.parts.view_is) (ap (λ (x : PartsRow). x.sweep) c.parts.view_is) (c.as_str.ensures.value ∙ ap (λ (x : PartsRow). x.name) c.parts.view_is)
