use Rattle.std.proofs.Common.{◌≡◌, ◌%◌}
use Rattle.ct_top.proofs.Booted.{whole_granules}
use Rattle.ct_top.proofs.runs.ready.Goals as goal

pub new-requires : goal.new-requires
new-requires c =
    let whole : c.args.image.now.size % 16 ≡ 0 = whole_granules c.args.image.now c.parts.ensures.faultless in
    let seen : c.parts.result.now.size % 16 ≡ 0 = rw c.parts.ensures.parts whole in
    rw (← c.behind-image.view_is) at seen
