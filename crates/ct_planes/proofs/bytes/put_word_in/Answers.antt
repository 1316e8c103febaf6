use Rattle.ct_planes.proofs.Holding.{holds_put_word}
use Rattle.ct_planes.proofs.bytes.put_word_in.Goals as goal

pub returns-clause-holds : goal.returns-clause-holds
returns-clause-holds c ws h aligned =
    rw (c.put_bytes.ensures, c.to_le_bytes.ensures) (holds_put_word ws c.args.bytes.now c.args.at c.args.word h aligned c.requires c.ranges.word.fits)
