use Rattle.std.proofs.Common.{◌≡◌}
use Rattle.ct_link.specs.Laid.{parts_with}
use Rattle.ct_link.proofs.Ready.{is_faultless}
use Rattle.ct_link.proofs.laid.image_of.Goals as goal

pub of-requires : goal.of-requires
of-requires c =
    let d = c.args.desc.now in
    let p = c.in_ok-places.places in
    let is : c.in-Ok.parts ≡ parts_with d c.args.own.now c.args.lent.now p.regions p.heap.base = rw (← c.places.view_is, ← c.as_slice-regions.ensures.value) c.in-Ok.ensures in
    is_faultless d c.args.own.now c.args.lent.now p c.in-Ok.parts c.requires c.in_ok-places.ensures.ok is
