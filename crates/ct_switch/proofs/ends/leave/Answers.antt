use Rattle.std.proofs.Common.{refl, true, false}
use Rattle.ct_areas.specs.Parts.{filtered_frame, inner_frame, register_in}
use Rattle.ct_switch.proofs.Leaving.{Left, span_so, left_ends_so, left_goes_so}
use Rattle.ct_switch.proofs.ends.leave.Goals as goal

pub pop-requires : goal.pop-requires
pop-requires g c =
    let is = c.restore.ensures in
    record {
      area = rw is c.requires.area;
      some = rw is c.requires.alive;
      room = rw is c.requires.room;
    }

pub clear-requires : goal.clear-requires
clear-requires g c =
    let gs = g.M.Memory.granules c.args.mem.now in
    let t = c.args.t.now in
    span_so gs (g.M.Memory.granules c.pop.new.mem) t c.restore.new.t c.pop.new.t (filtered_frame gs t.area.ram (inner_frame gs t)) (register_in t 10) (register_in t 11) c.requires
    c.restore.ensures c.pop.ensures.memory c.pop.ensures.row

pub returns-then-depth-eq0 : goal.returns-then-depth-eq0
returns-then-depth-eq0 g c =
    let gs = g.M.Memory.granules c.args.mem.now in
    let ms = g.M.Memory.granules c.pop.new.mem in
    let hs = g.M.Memory.granules c.clear.new.mem in
    let t = c.args.t.now in
    let left : Left gs hs t c.end.new.t (register_in t 10) (register_in t 11) false =
    left_ends_so gs ms hs t c.restore.new.t c.pop.new.t c.end.new.t (filtered_frame gs t.area.ram (inner_frame gs t)) (register_in t 10) (register_in t 11) c.requires
    c.restore.ensures c.pop.ensures.memory c.pop.ensures.row c.clear.ensures c.if-depth-eq0.true c.end.ensures in
    record { result = left.result; thread = left.thread; memory = left.memory; row = left.row }

pub returns : goal.returns
returns g c =
    let gs = g.M.Memory.granules c.args.mem.now in
    let ms = g.M.Memory.granules c.pop.new.mem in
    let hs = g.M.Memory.granules c.clear.new.mem in
    let t = c.args.t.now in
    let left : Left gs hs t c.pop.new.t (register_in t 10) (register_in t 11) true =
    left_goes_so gs ms hs t c.restore.new.t c.pop.new.t (filtered_frame gs t.area.ram (inner_frame gs t)) (register_in t 10) (register_in t 11) c.requires
    c.restore.ensures c.pop.ensures.memory c.pop.ensures.row c.clear.ensures c.if-depth-eq0.false c.pop.ensures.frames refl in
    record { result = left.result; thread = left.thread; memory = left.memory; row = left.row }
