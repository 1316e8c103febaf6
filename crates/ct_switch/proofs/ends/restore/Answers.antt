use Rattle.ct_switch.proofs.Leaving.{restored_so}
use Rattle.ct_switch.proofs.ends.restore.Goals as goal

pub returns : goal.returns
returns g c =
    restored_so (g.M.Memory.granules c.args.mem.now) c.args.t.now c.take_back-link.new.t c.open_in_place.new.l c.take_back-link.result c.posture_through-t.result
    c.take_back-link.ensures.row c.take_back-link.ensures.link c.open_in_place.ensures c.posture_through-t.ensures
