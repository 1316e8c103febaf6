use Rattle.std.proofs.Common.{◌∙◌, ap}
use Rattle.def_memory.specs.Granules.{plain}
use Rattle.ct_areas.specs.Threads.{thread_of}
use Rattle.ct_switch.proofs.Leaving.{stands}
use Rattle.ct_switch.proofs.Threads.{left_others}
use Rattle.ct_switch.proofs.ends.end_with.Goals as goal

pub leave-requires : goal.leave-requires
leave-requires g c =
    let there = stands (g.M.Memory.granules c.args.mem.now) c.args.t.now c.put_results.new.regs (plain c.args.value) (plain 0) c.requires
    c.put_results.ensures.first c.put_results.ensures.second in
    there.ready

pub returns : goal.returns
returns g c =
    let gs = g.M.Memory.granules c.args.mem.now in
    let t = c.args.t.now in
    let there = stands gs t c.put_results.new.regs (plain c.args.value) (plain 0) c.requires c.put_results.ensures.first c.put_results.ensures.second in
    record {
      result = c.leave.ensures.result;
      thread = c.leave.ensures.thread ∙ there.thread;
      memory = c.leave.ensures.memory;
      row = c.leave.ensures.row ∙ there.row;
      others = λ u runs other. ap (λ l. thread_of l runs u) c.leave.ensures.memory ∙ left_others gs t u runs c.requires other;
    }
