use Rattle.std.specs.Int.{w64}
use Rattle.std.proofs.lemmas.Nat.Bits.{bit_at_set_same, bit_at_set_other, bit_at_clear_same, bit_at_clear_other}
use Rattle.ct_planes.proofs.words.with_bit.Goals as goal

pub returns-then-on : goal.returns-then-on
returns-then-on c =
    rw c.if-on.true (record {
      same = bit_at_set_same w64 c.args.word c.args.i c.requires;
      other = λ j small apart. bit_at_set_other w64 c.args.word c.args.i c.requires j apart;
    })

pub returns-else-on : goal.returns-else-on
returns-else-on c =
    rw c.if-on.false (record {
      same = bit_at_clear_same w64 c.args.word c.args.i c.requires;
      other = λ j small apart. bit_at_clear_other w64 c.args.word c.args.i c.requires j small apart;
    })
