use Rattle.law_granules.proofs.Lists.{two_bytes, four_bytes}
use Rattle.law_granules.proofs.byte_order.Goals as goal

pub returns : goal.returns
returns c = record { two = two_bytes; four = four_bytes }
