use Rattle.std.proofs.Common.{arith}
use Rattle.ct_policy.proofs.Firsts.{first_is}
use Rattle.ct_policy.proofs.words.first_word.Goals.{else-end-ne32-via-then-end-ne32+else-end-ne10, else-end-ne32-via-else-end-ne32}
use Rattle.ct_policy.proofs.words.first_word.Goals as goal

pub returns : goal.returns
returns c = first_is c.args.text.now c.run_length-place.result c.run_length-place.ensures.is (omega arith) (omega arith) (λ space feed.
    elim c.else-end-ne32.branch [
      | else-end-ne32-via-then-end-ne32+else-end-ne10 w ↦ feed (omega (arith, w.if-end-ne10.false))
      | else-end-ne32-via-else-end-ne32 w ↦ space (omega (arith, w.if-end-ne32.false))
    ])
