use Rattle.std.proofs.Common.{sym, ◌∙◌}
use Rattle.ct_machine.proofs.Onward.{goes_on, more_ran, none_some, starts, steps_left, sweeps_left}
use Rattle.ct_machine.proofs.parts.Parts.run_on.Goals as goal

pub loop-count-init : goal.loop-count-init
loop-count-init g c = starts c.args.self.now c.args.most c.requires.guarded

pub rounds_and_one-more-requires-clause-steps : goal.rounds_and_one-more-requires-clause-steps
rounds_and_one-more-requires-clause-steps g c = steps_left c.args.self.now c.loop-count.self c.args.most c.loop-count.count _ c.loop-count.invariant c.requires.steps

pub rounds_and_one-more-requires-clause-sweeps : goal.rounds_and_one-more-requires-clause-sweeps
rounds_and_one-more-requires-clause-sweeps g c = sweeps_left c.args.self.now c.loop-count.self c.args.most c.loop-count.count _ c.loop-count.invariant c.requires.sweeps

pub returns-then-tells-clause-ran : goal.returns-then-tells-clause-ran
returns-then-tells-clause-ran g c =
    more_ran c.args.self.now c.loop-count.self c.rounds_and_one-more.new.self c.args.most c.loop-count.count c.rounds_and_one-more.result.count c.rounds_and_one-more.result.told
    c.loop-count.invariant c.rounds_and_one-more.ensures.some c.rounds_and_one-more.ensures.ran

pub loop-count-preserved : goal.loop-count-preserved
loop-count-preserved g c =
    goes_on c.args.self.now c.loop-count.self c.rounds_and_one-more.new.self c.args.most c.loop-count.count c.rounds_and_one-more.result.count c.rounds_and_one-more.result.told
    c.loop-count.invariant c.loop-count-test.true c.rounds_and_one-more.ensures.some c.rounds_and_one-more.ensures.most c.rounds_and_one-more.ensures.ran
    (sym c.tells.ensures ∙ c.if-tells.false) (sym c.ended.ensures ∙ none_some c.ended.result c.is_some.result c.is_some.ensures c.if-is_some.false)
