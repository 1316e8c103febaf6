use Rattle.std.proofs.Common.{ℕ, ◌≡◌, ◌+◌, ◌-◌, ◌*◌, ◌≤◌, ◌∙◌, length, sym, ap, subst, true}
use Rattle.law_granules.proofs.Lists.{zeroed_length}
use Rattle.ct_areas.specs.declared.thread.Thread as row
use Rattle.ct_areas.specs.Threads.{HasArea, thread_of}
use Rattle.ct_switch.specs.declared.exports.Export.{Export}
use Rattle.ct_switch.specs.declared.given.Head.{Head}
use Rattle.ct_switch.specs.Calls.{given_from, registers_in, posture_in}
use Rattle.ct_switch.proofs.Threads.{entered_is}
use Rattle.ct_switch.proofs.calls.enter.Goals as goal

pub push-requires-clause-area : goal.push-requires-clause-area
push-requires-clause-area g c =
    let gs = g.M.Memory.granules c.args.mem.now in
    let t = c.args.t.now in
    let size : length gs ≡ length (g.M.Memory.granules c.clear.new.mem) =
    sym (ap length c.clear.ensures ∙ zeroed_length t.area.stack (t.area.stack + (c.args.high - t.area.stack)) t.area.ram gs) in
    subst (λ n. HasArea (8 * n) t.area) size c.requires.ready.area

abbrev dressed_by : row.Thread → Export → Head → ℕ → row.Thread → row.Thread
dressed_by q x h high r = record q {
  pcc = (given_from h r x.code high).pcc;
  regs = registers_in x r.regs (given_from h r x.code high);
  posture = posture_in x;
}

pub dress-requires : goal.dress-requires
dress-requires g c =
    let stack : c.push.new.t.area.stack ≡ c.args.t.now.area.stack = ap (λ (r : row.Thread). r.area.stack) c.push.ensures.row in
    subst (λ n. n ≤ c.args.high) (sym stack) c.requires.low

pub returns-clause-row : goal.returns-clause-row
returns-clause-row g c =
    let t = c.args.t.now in
    let q = c.push.new.t in
    let x = c.args.x.now in
    let h = c.args.head.now in
    let dressed : c.dress.new.t ≡ dressed_by q x h c.args.high t =
    c.dress.ensures ∙ ap (λ r. dressed_by q x h c.args.high r) c.push.ensures.row in
    dressed ∙ ap (λ r. dressed_by r x h c.args.high t) c.push.ensures.row

pub returns-clause-thread : goal.returns-clause-thread
returns-clause-thread g c =
    let gs = g.M.Memory.granules c.args.mem.now in
    let ms = g.M.Memory.granules c.clear.new.mem in
    let hs = g.M.Memory.granules c.push.new.mem in
    let t = c.args.t.now in
    let q = c.push.new.t in
    let x = c.args.x.now in
    let h = c.args.head.now in
    let dressed : c.dress.new.t ≡ dressed_by q x h c.args.high t =
    c.dress.ensures ∙ ap (λ r. dressed_by q x h c.args.high r) c.push.ensures.row in
    ap (λ (r : row.Thread). thread_of hs true r) dressed
    ∙ entered_is gs ms hs t q x c.args.high (given_from h t x.code c.args.high) c.requires.ready c.requires.low c.requires.high c.requires.even
    c.clear.ensures c.push.ensures.thread c.push.ensures.row
