use Rattle.std.proofs.Common.{◌≤◌, ◌<◌, ◌∙◌, length, arith}
use Rattle.def_machine.specs.Memory.{filtered_in}
use Rattle.law_lists.proofs.Maps.{step}
use Rattle.ct_threads.proofs.Filtering.{passed_all}
use Rattle.ct_threads.proofs.registers.filter_each.Goals as goal

pub loop-number-preserved : goal.loop-number-preserved
loop-number-preserved g c =
    let f = filtered_in c.args.ram (g.M.Memory.granules c.args.mem.now) in
    let lt : c.loop-number.number < length c.args.registers.now = omega (arith, c.told-registers) in
    step f c.args.registers.now c.loop-number.registers c.loop-number.number c.index-registers-number.result c.filter_in_place.new.c c.loop-number.invariant lt c.filter_in_place.ensures

pub returns : goal.returns
returns g c =
    let f = filtered_in c.args.ram (g.M.Memory.granules c.args.mem.now) in
    let le : length c.args.registers.now ≤ c.loop-number.number = omega (arith, c.told-registers) in
    c.loop-number.invariant ∙ passed_all f c.loop-number.number c.args.registers.now le
