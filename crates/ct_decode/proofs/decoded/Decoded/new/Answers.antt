use Rattle.std.proofs.Common.{refl}
use Rattle.ct_decode.proofs.Slots.{one_read, copies_read}
use Rattle.ct_decode.proofs.decoded.Decoded.new.Goals as goal

pub invariant_of-result : goal.invariant_of-result
invariant_of-result c = (
  copies_read c.in_ok-rows.rows.items _ c.read.result (c.in_ok-rows.ensures.items_if_clones_equal (λ y same. same)) refl c.read.ensures.is
      (one_read c.read.result 0 c.read.ensures.is c.read.ensures.word c.read.ensures.registers),
  copies_read c.in_ok-beside.beside.items _ c.read-2.result (c.in_ok-beside.ensures.items_if_clones_equal (λ y same. same)) refl c.read-2.ensures.is
      (one_read c.read-2.result 0 c.read-2.ensures.is c.read-2.ensures.word c.read-2.ensures.registers),
)
