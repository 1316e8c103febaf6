use Rattle.std.proofs.Common.{sym, ◌∙◌}
use Rattle.ct_machine.proofs.Dormant.{dormant_went}
use Rattle.ct_machine.proofs.Rounding.{none_went}
use Rattle.ct_machine.proofs.parts.Parts.run_dormant.Goals as goal

pub returns-then-is_dormant-clause-went : goal.returns-then-is_dormant-clause-went
returns-then-is_dormant-clause-went g c =
    dormant_went c.args.self.now c.count_rounds.new.self c.args.most c.requires.guarded c.requires.sweep (sym c.is_dormant.ensures ∙ c.if-is_dormant.true) c.count_rounds.ensures.state c.count_rounds.ensures.board

pub returns-clause-went : goal.returns-clause-went
returns-clause-went g c = none_went c.args.self.now c.requires.guarded
