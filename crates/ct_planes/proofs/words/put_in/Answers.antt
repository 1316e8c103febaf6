use Rattle.ct_planes.proofs.Spelling.{spells_put}
use Rattle.ct_planes.proofs.words.put_in.Goals as goal

pub returns-clause-spells : goal.returns-clause-spells
returns-clause-spells c flags s inside =
    spells_put flags c.args.words.now c.args.i c.with_bit.result c.args.on s inside c.requires c.with_bit.type_inv c.with_bit.ensures.same c.with_bit.ensures.other
