use Rattle.std.proofs.Common.{ap, sym, subst, ◌<◌, ◌≤◌, ◌∙◌}
use Rattle.def_machine.specs.State.{State, Counts}
use Rattle.def_machine.specs.Platform.{Platform}
use Rattle.def_step.specs.Events.{preempted, scheduled}
use Rattle.ct_machine.specs.Parts.{deeds_of}
use Rattle.ct_machine.proofs.Ready.{ends_fit, may_go_on}
use Rattle.ct_machine.proofs.parts.Parts.step.Goals as goal

pub schedule-requires : goal.schedule-requires
schedule-requires g c =
    ends_fit c.args.self.now.state c.preempt.new.self.state c.requires.guarded.keeps.beside.ends (c.preempt.ensures.state ∙ ap (λ (s : State). preempted s) c.count_step.ensures.state)

pub carry_on-deed-requires-clause-may : goal.carry_on-deed-requires-clause-may
carry_on-deed-requires-clause-may g c =
    may_go_on c.args.self.now c.schedule.new.self c.requires.guarded
    (c.schedule.ensures.board ∙ c.preempt.ensures.board ∙ c.count_step.ensures.board)
    (c.schedule.ensures.state
    ∙ ap (λ (b : Platform). scheduled b c.preempt.new.self.state) (c.preempt.ensures.board ∙ c.count_step.ensures.board)
    ∙ ap (λ (s : State). scheduled c.args.self.now.board s) (c.preempt.ensures.state ∙ ap (λ (s : State). preempted s) c.count_step.ensures.state))

pub carry_on-deed-requires-clause-deeds : goal.carry_on-deed-requires-clause-deeds
carry_on-deed-requires-clause-deeds g c =
    subst (λ (n : Counts). deeds_of n < n.steps) (sym (c.schedule.ensures.counts ∙ c.preempt.ensures.counts)) c.count_step.ensures.deeds

pub carry_on-deed-requires-clause-made : goal.carry_on-deed-requires-clause-made
carry_on-deed-requires-clause-made g c =
    subst (λ n. n ≤ c.schedule.new.self.state.counts.steps) (sym (c.schedule.ensures.next ∙ c.preempt.ensures.next))
    (subst (λ (n : Counts). c.count_step.new.self.state.next ≤ n.steps) (sym (c.schedule.ensures.counts ∙ c.preempt.ensures.counts)) c.count_step.ensures.made)
