use Rattle.std.proofs.Common.{sym}
use Rattle.ct_token.proofs.Found.{standing_found, standing_missing}
use Rattle.ct_token.proofs.finding.look_up.Goals as goal

pub returns-in-Ok : goal.returns-in-Ok
returns-in-Ok c = sym (standing_found _ _ _ c.requires c.in-Ok.ensures.found)

pub returns-in-Err : goal.returns-in-Err
returns-in-Err c = sym (standing_missing _ _ _ c.in-Err.ensures.absent)
