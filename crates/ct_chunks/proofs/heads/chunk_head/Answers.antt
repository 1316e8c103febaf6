use Rattle.std.proofs.Common.{arith}
use Rattle.law_chunks.proofs.Reading.{sits}
use Rattle.ct_chunks.proofs.heads.chunk_head.Goals as goal

pub read_head-requires-clause-above : goal.read_head-requires-clause-above
read_head-requires-clause-above g c = (sits _ _ _ c.requires.tiled c.requires.stands).over

pub read_head-requires-clause-even : goal.read_head-requires-clause-even
read_head-requires-clause-even g c = (sits _ _ _ c.requires.tiled c.requires.stands).even

pub read_head-requires-clause-inside : goal.read_head-requires-clause-inside
read_head-requires-clause-inside g c =
    let k = sits _ _ _ c.requires.tiled c.requires.stands in
    omega (arith, k.inside, k.over, k.shape.some)
