use Rattle.std.proofs.Common.{◌≡◌, ◌∷◌, ◌+◌, ◌*◌, ◌/◌, ◌∙◌, ap, map, length, arith}
use Rattle.def_memory.specs.Granules.{plain, cap_in, caps_from}
use Rattle.def_machine.specs.Memory.{filtered_in}
use Rattle.ct_areas.specs.Threads.{area_begin}
use Rattle.ct_areas.proofs.Stopped.{resumed_is, resumed_touches}
use Rattle.ct_areas.proofs.stops.resume.Goals as goal

pub returns-clause-thread : goal.returns-clause-thread
returns-clause-thread g c =
    let old = g.M.Memory.granules c.args.mem.now in
    let t = c.args.t.now in
    let here : c.area_offset-at.result / 8 ≡ area_begin t.area = omega (arith, c.area_offset-at.ensures.is) in
    let next : (c.area_offset-at.result + 8) / 8 ≡ area_begin t.area + 1 = omega (arith, c.area_offset-at.ensures.is) in
    resumed_is old (g.M.Memory.granules c.clear.new.mem) t c.take.new.register c.take_registers.new.registers (8 * length old) t.area.ram c.requires.area c.clear.ensures
    (c.take.ensures ∙ ap (λ k. filtered_in t.area.ram old (cap_in old k)) here)
    (c.take_registers.ensures ∙ ap (λ k. plain 0 ∷ map (filtered_in t.area.ram old) (caps_from old k 15)) next)

pub returns-clause-touches : goal.returns-clause-touches
returns-clause-touches g c =
    let old = g.M.Memory.granules c.args.mem.now in
    rw c.clear.ensures (resumed_touches old c.args.t.now (8 * length old) c.requires.area)
