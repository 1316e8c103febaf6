use Rattle.std.proofs.Common.{◌≡◌, ◌%◌, ◌∙◌}
use Rattle.ct_planes.proofs.Holding.{pair_read, four_read, four_left}
use Rattle.ct_planes.proofs.bytes.load_in.Goals as goal

pub returns-then-width-eq2 : goal.returns-then-width-eq2
returns-then-width-eq2 c ws h =
    let even : c.args.at % 2 ≡ 0 = (rw c.if-width-eq2.true at c.requires.aligned) in
    rw c.if-width-eq2.true (c.from_le_bytes.ensures ∙ pair_read ws c.args.bytes.now c.args.at h even)

pub returns : goal.returns
returns c ws h =
    let width : c.args.width ≡ 4 = four_left c.args.width c.requires.known c.if-width-eq1.false c.if-width-eq2.false in
    let even : c.args.at % 4 ≡ 0 = (rw width at c.requires.aligned) in
    rw width (c.from_le_bytes-2.ensures ∙ four_read ws c.args.bytes.now c.args.at h even)
