use Rattle.ct_commands.proofs.Endings.{due_by}
use Rattle.ct_top.proofs.Turning.{text_fault, text_judged}
use Rattle.ct_top.proofs.policies.judge.Goals as goal

pub returns-in-Err : goal.returns-in-Err
returns-in-Err g c = due_by _ _ _ _ _ (λ t due. text_fault _ _ _ t c.in-Err.ensures due) c.refuse_policy.ensures

pub returns-in-Ok-denials_of : goal.returns-in-Ok-denials_of
returns-in-Ok-denials_of g c =
    due_by _ _ _ _ _ (λ t due. text_judged _ _ _ _ t c.in-Ok.ensures c.in-Ok-denials_of.ensures due) (rw c.as_bytes.ensures.value at c.write_verdict.ensures)
