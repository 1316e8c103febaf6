use Rattle.std.proofs.Common.{◌≡◌, ◌∙◌, refl, ap}
use Rattle.def_words.specs.declared.Cap.{Cap}
use Rattle.def_reach.specs.Roots.{root_of}
use Rattle.ct_areas.specs.Parts.{inner_frame, register_in}
use Rattle.ct_areas.specs.Threads.{thread_of}
use Rattle.ct_switch.specs.declared.exports.Export.{Export}
use Rattle.ct_switch.specs.Calls.{handed}
use Rattle.ct_switch.proofs.Leaving.{Answers, answers_are, answered_thread, answered_row, stands}
use Rattle.ct_switch.proofs.Threads.{left_others}
use Rattle.ct_switch.proofs.ends.return_to_caller.Goals as goal

pub leave-requires : goal.leave-requires
leave-requires g c =
    let passes = c.export_of-passes.result.passes in
    let t = c.args.t.now in
    let there = stands (g.M.Memory.granules c.args.mem.now) t c.pass_results.new.regs (handed passes (register_in t 10)) (handed passes (register_in t 11))
    c.requires.ready c.pass_results.ensures.first c.pass_results.ensures.second in
    there.ready

pub returns : goal.returns
returns g c =
    let gs = g.M.Memory.granules c.args.mem.now in
    let t = c.args.t.now in
    let e = c.args.e.now in
    let passes = c.export_of-passes.result.passes in
    let first : Cap = handed passes (register_in t 10) in
    let second : Cap = handed passes (register_in t 11) in
    let there = stands gs t c.pass_results.new.regs first second c.requires.ready c.pass_results.ensures.first c.pass_results.ensures.second in
    let is : passes ≡ (root_of e (inner_frame gs t).export).passes =
    ap (λ (x : Export). x.passes) c.export_of-passes.ensures ∙ ap (λ n. (root_of e n).passes) c.innermost_export-number.ensures in
    let both : Answers gs e t first second = answers_are gs e t passes first second is refl refl in
    record {
      result = c.leave.ensures.result;
      thread = c.leave.ensures.thread ∙ there.thread ∙ answered_thread gs e t first second c.requires.ready.alive both;
      memory = c.leave.ensures.memory;
      row = c.leave.ensures.row ∙ there.row ∙ answered_row gs e t first second both;
      others = λ u runs other. ap (λ l. thread_of l runs u) c.leave.ensures.memory ∙ left_others gs t u runs c.requires.ready other;
    }
