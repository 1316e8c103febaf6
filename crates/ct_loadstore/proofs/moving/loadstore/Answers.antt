use Rattle.std.proofs.Common.{◌∙◌, length, ap, sym}
use Rattle.def_step.specs.Accesses.{Accessed}
use Rattle.ct_loadstore.specs.Shapes.{space_of}
use Rattle.ct_loadstore.proofs.Sizes.{accessed_bases, accessed_size}
use Rattle.ct_loadstore.proofs.moving.loadstore.Goals as goal

pub returns-clause-size : goal.returns-clause-size
returns-clause-size g c =
    sym (ap (λ (r : Accessed). length r.granules) c.carry_out.ensures)
    ∙ accessed_size c.access-a.result c.args.x c.args.y _ (space_of c.args.map.now.ram (g.M.Memory.granules c.args.mem.now) c.args.bus.now c.args.time)

pub returns-clause-bases : goal.returns-clause-bases
returns-clause-bases g c =
    sym (ap (λ (r : Accessed). r.bank.bases) c.carry_out.ensures)
    ∙ accessed_bases c.access-a.result c.args.x c.args.y _ (space_of c.args.map.now.ram (g.M.Memory.granules c.args.mem.now) c.args.bus.now c.args.time)
