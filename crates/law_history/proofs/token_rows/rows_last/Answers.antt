use Rattle.law_history.proofs.Lasting.{key_lasts}
use Rattle.law_history.proofs.Standing.{run_named, run_keys, run_kept}
use Rattle.law_history.proofs.token_rows.rows_last.Goals as goal

pub returns : goal.returns
returns c = record { named = run_named; keys = run_keys; kept = run_kept; last = key_lasts }
