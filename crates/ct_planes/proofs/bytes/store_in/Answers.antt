use Rattle.std.proofs.Common.{◌≡◌, ◌+◌, ◌%◌, ◌≤◌, length, arith, lit<}
use Rattle.ct_planes.proofs.Holding.{holds_low, holds_four, four_left}
use Rattle.ct_planes.proofs.bytes.store_in.Goals as goal

pub returns-then-width-eq1-clause-holds : goal.returns-then-width-eq1-clause-holds
returns-then-width-eq1-clause-holds c ws h =
    let one = c.if-width-eq1.true in
    let within : c.args.at + 1 ≤ length c.args.bytes.now = (rw one at c.requires.inside) in
    rw (one, c.put_bytes.ensures) (holds_low ws c.args.bytes.now c.to_le_bytes-low.result c.args.at 1 c.args.value h c.to_le_bytes-low.ensures (omega arith) (omega arith) (lit< tt) within)

pub returns-then-width-eq2-clause-holds : goal.returns-then-width-eq2-clause-holds
returns-then-width-eq2-clause-holds c ws h =
    let two = c.if-width-eq2.true in
    let even : c.args.at % 2 ≡ 0 = (rw two at c.requires.aligned) in
    let within : c.args.at + 2 ≤ length c.args.bytes.now = (rw two at c.requires.inside) in
    rw (two, c.put_bytes-then-width-eq2.ensures) (holds_low ws c.args.bytes.now c.to_le_bytes-low.result c.args.at 2 c.args.value h c.to_le_bytes-low.ensures (omega arith) (omega (arith, even)) (lit< tt) within)

pub returns-clause-holds : goal.returns-clause-holds
returns-clause-holds c ws h =
    let four : c.args.width ≡ 4 = four_left c.args.width c.requires.known c.if-width-eq1.false c.if-width-eq2.false in
    let even : c.args.at % 4 ≡ 0 = (rw four at c.requires.aligned) in
    let within : c.args.at + 4 ≤ length c.args.bytes.now = (rw four at c.requires.inside) in
    rw (four, c.put_bytes-2.ensures) (holds_four ws c.args.bytes.now c.to_le_bytes-low.result c.args.at c.args.value h c.to_le_bytes-low.ensures even within)
