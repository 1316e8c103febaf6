use Rattle.std.proofs.Common.{arith}
use Rattle.ct_planes.proofs.Nexts.{clear_to, found, found_later}
use Rattle.ct_planes.proofs.words.next_from.Goals as goal

pub returns-then-first-ne0 : goal.returns-then-first-ne0
returns-then-first-ne0 c flags s = found flags c.args.words.now c.args.from s (omega (arith, c.if-first-ne0.true))

pub returns-then-m-end : goal.returns-then-m-end
returns-then-m-end c flags s k le lt =
    let m = c.first_word-m in
    clear_to flags c.args.words.now c.args.from m.result s c.if-first-ne0.false m.ensures.later m.ensures.zeros k le (omega (arith, lt, c.if-m-end.true))

pub returns : goal.returns
returns c flags s =
    let m = c.first_word-m in
    let ws = c.args.words.now in
    found_later flags ws c.args.from m.result s (omega (arith, m.ensures.later)) (clear_to flags ws c.args.from m.result s c.if-first-ne0.false m.ensures.later m.ensures.zeros) (omega (arith, m.ensures.stops c.if-m-end.false))
