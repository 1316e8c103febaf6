use Rattle.std.proofs.Common.{arith}
use Rattle.ct_machine.proofs.Appending.{both_ran, ran_counts}
use Rattle.ct_machine.proofs.Onward.{not_over}
use Rattle.ct_machine.proofs.parts.Parts.rounds_and_one.Goals as goal

pub next_rounds-more-requires-clause-steps : goal.next_rounds-more-requires-clause-steps
next_rounds-more-requires-clause-steps g c = omega (arith, c.run_quietly-count.ensures.most, (ran_counts c.run_quietly-count.ensures.went.ran).0, c.requires.steps)

pub next_rounds-more-requires-clause-sweeps : goal.next_rounds-more-requires-clause-sweeps
next_rounds-more-requires-clause-sweeps g c = omega (arith, c.run_quietly-count.ensures.most, (ran_counts c.run_quietly-count.ensures.went.ran).1, c.requires.sweeps)

pub returns-clause-ran : goal.returns-clause-ran
returns-clause-ran g c = (
  both_ran c.args.self.now c.run_quietly-count.new.self c.next_rounds-more.new.self c.run_quietly-count.result c.next_rounds-more.result.count c.next_rounds-more.result.told c.run_quietly-count.ensures.went.ran
      (not_over c.run_quietly-count.result _ c.is_over.result c.is_over.ensures c.if-is_over.false) c.next_rounds-more.ensures.some c.next_rounds-more.ensures.ran.0,
  c.next_rounds-more.ensures.ran.1,
)
