use Rattle.std.proofs.Common.{◌≡◌, ◌<◌, ◌≤◌, ◌+◌, Some, ap, sym, subst, ◌∙◌, arith}
use Rattle.def_machine.specs.State.{Counts}
use Rattle.def_step.specs.Events.{noted}
use Rattle.def_machine.specs.Platform.{MachineRow}
use Rattle.ct_engine.specs.Handling.{MayHandle}
use Rattle.ct_execute.specs.Deciding.{finished, IfUnfinished}
use Rattle.ct_machine.specs.Parts.{IsCounted, deeds_of}
use Rattle.ct_machine.specs.Going.{MayEnd, status_after}
use Rattle.ct_machine.proofs.Opened.{some_seen}
use Rattle.ct_machine.proofs.Ready.{ends_so, may_handle}
use Rattle.ct_machine.proofs.Keeping.{unfinished_map}
use Rattle.ct_machine.proofs.Sizes.{deed_counts}
use Rattle.ct_machine.proofs.Carried.{Ends, finished_so}
use Rattle.ct_machine.proofs.parts.Parts.finish.Goals as goal

pub leave-goes-requires : goal.leave-goes-requires
leave-goes-requires g c =
    let i = c.self.inside in
    unfinished_map c.args.ran (MayEnd _ c.args.t c.args.actor) ((i.engine.state.running ≡ Some c.args.t) × MayHandle i.engine c.args.t c.entries.result.now c.handler-handler.result)
    (λ m. (
      m.runs.runs,
      may_handle i.plan i.engine i.sched i.pending i.bus.states i.time i.counts c.args.t c.args.actor c.self.invariant.0 c.entries.ensures.sound m.may.keeps.confined
          (some_seen i.plan i.engine i.sched i.pending i.bus.states i.time i.counts c.args.t m.runs.some)
          c.entries.result.now c.entries.ensures.is c.entries.ensures.sorted c.handler-handler.result c.handler-handler.ensures,
    ))
    (subst (λ (m : MachineRow). IfUnfinished c.args.ran (MayEnd m c.args.t c.args.actor)) (sym c.self.view_is) c.requires.ends)

pub invariant_of-self : goal.invariant_of-self
invariant_of-self g c =
    let i = c.self.inside in
    let few = subst (λ (m : MachineRow). deeds_of m.state.counts < m.state.counts.steps) (sym c.self.view_is) c.requires.deeds in
    let room : deeds_of i.counts + 1 ≤ i.counts.steps = omega (arith, few) in
    let ends = unfinished_map c.args.ran (MayEnd _ c.args.t c.args.actor) (Ends i.plan i.engine _ c.args.t c.args.actor c.handler-handler.result)
    (ends_so i.plan i.engine i.sched i.bus i.pending i.time i.counts c.args.t c.args.actor c.handler-handler.result c.self.invariant.0 c.entries.ensures.sound c.handler-handler.ensures)
    (subst (λ (m : MachineRow). IfUnfinished c.args.ran (MayEnd m c.args.t c.args.actor)) (sym c.self.view_is) c.requires.ends) in
    let left = finished_so i.plan c.entries.result.now i.engine i.sched i.bus i.pending i.time i.counts c.args.t c.self.invariant.0 c.entries.ensures.is
    c.leave-goes.new.engine c.end_unless.new.sched c.count_deed.new.self c.args.actor c.handler-handler.result c.args.ran c.deed_of-deed.result c.requires.done ends
    c.leave-goes.ensures.is (c.end_unless.ensures ∙ ap (λ b. status_after b i.sched c.args.t) c.leave-goes.ensures.result) c.deed_of-deed.ensures c.count_deed.ensures in (
      left.1,
      subst (λ n. IsCounted c.count_deed.new.self i.time n) (sym left.2)
          (subst (λ (n : Counts). IsCounted n i.time i.engine.state.next) (sym c.count_deed.ensures) (deed_counts i.counts c.deed_of-deed.result i.time i.engine.state.next c.self.invariant.1 room)),
    )

pub returns-clause-is : goal.returns-clause-is
returns-clause-is g c =
    let i = c.self.inside in
    let ends = unfinished_map c.args.ran (MayEnd _ c.args.t c.args.actor) (Ends i.plan i.engine _ c.args.t c.args.actor c.handler-handler.result)
    (ends_so i.plan i.engine i.sched i.bus i.pending i.time i.counts c.args.t c.args.actor c.handler-handler.result c.self.invariant.0 c.entries.ensures.sound c.handler-handler.ensures)
    (subst (λ (m : MachineRow). IfUnfinished c.args.ran (MayEnd m c.args.t c.args.actor)) (sym c.self.view_is) c.requires.ends) in
    (finished_so i.plan c.entries.result.now i.engine i.sched i.bus i.pending i.time i.counts c.args.t c.self.invariant.0 c.entries.ensures.is
    c.leave-goes.new.engine c.end_unless.new.sched c.count_deed.new.self c.args.actor c.handler-handler.result c.args.ran c.deed_of-deed.result c.requires.done ends
    c.leave-goes.ensures.is (c.end_unless.ensures ∙ ap (λ b. status_after b i.sched c.args.t) c.leave-goes.ensures.result) c.deed_of-deed.ensures c.count_deed.ensures).0
    ∙ ap (λ (m : MachineRow). noted (finished m.board c.args.t c.args.actor m.state c.args.ran)) c.self.view_is
