use Rattle.law_chunks.proofs.Kept.{store_keeps, cap_keeps, zero_keeps, mark_keeps, untag_keeps}
use Rattle.law_chunks.proofs.writes_keep.Goals as goal

pub returns : goal.returns
returns c = record { stores = store_keeps; capabilities = cap_keeps; clears = zero_keeps; marks = mark_keeps; untags = untag_keeps }
