use Rattle.std.proofs.Common.{sym}
use Rattle.ct_source.proofs.DigitValues.{too_great, all_read, not_small}
use Rattle.ct_source.proofs.numbers.value.Goals as goal

pub returns-in-None : goal.returns-in-None
returns-in-None c = sym (too_great c.args.base c.loop-c.value _ c.args.digits.now c.loop-c.c-index c.requires c.loop-c-test.true c.loop-c.invariant.whole (not_small _ c.in-None.ensures))

pub returns : goal.returns
returns c = all_read c.args.base c.loop-c.value _ c.args.digits.now c.loop-c.c-index c.loop-c-test.false c.loop-c.invariant.whole c.loop-c.invariant.small
