use Rattle.std.proofs.lemmas.Result.{MatchResult-weaker}
use Rattle.ct_port.proofs.Pieces.{both, first_fails, second_fails}
use Rattle.ct_commands.proofs.writing.write_named.Goals as goal

pub returns-in-Ok : goal.returns-in-Ok
returns-in-Ok g c =
    MatchResult-weaker c.write_both.result (rw c.as_bytes.ensures.value at c.write_both.ensures)
    (λ _ w. both _ _ _ _ _ c.in-Ok.ensures w)
    (λ _ w. second_fails _ _ _ _ _ c.in-Ok.ensures w)

pub returns-in-Err : goal.returns-in-Err
returns-in-Err g c = first_fails _ _ _ _ c.in-Err.ensures
