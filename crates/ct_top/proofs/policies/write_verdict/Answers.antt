use Rattle.std.proofs.Common.{sym, ◌∙◌}
use Rattle.ct_top.proofs.Turning.{allowed, denied}
use Rattle.ct_top.proofs.policies.write_verdict.Goals as goal

pub returns-then-is_empty : goal.returns-then-is_empty
returns-then-is_empty g c = allowed _ _ _ _ (sym c.is_empty.ensures ∙ c.if-is_empty.true) c.close.ensures

pub returns-else-is_empty : goal.returns-else-is_empty
returns-else-is_empty g c = denied _ _ _ _ (sym c.is_empty.ensures ∙ c.if-is_empty.false) c.close-else-is_empty.ensures
