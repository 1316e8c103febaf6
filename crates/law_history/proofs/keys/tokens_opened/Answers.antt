use Rattle.law_history.proofs.Lasting.{stays_shut}
use Rattle.law_history.proofs.Openings.{finds_sealed, opens_tokens}
use Rattle.law_history.proofs.keys.tokens_opened.Goals as goal

pub returns : goal.returns
returns c = record { found = λ b s k h. finds_sealed b.image s k.confined h; opens = opens_tokens; shut = stays_shut }
