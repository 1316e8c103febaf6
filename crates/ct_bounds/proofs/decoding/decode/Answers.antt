use Rattle.std.proofs.Common.{◌%◌, ◌≡◌, ◌∙◌, refl, arith}
use Rattle.def_words.specs.Authority.{corner_of}
use Rattle.ct_bounds.proofs.Corners.{base_is, top_is}
use Rattle.ct_bounds.proofs.decoding.decode.Goals as goal

pub returns : goal.returns
returns c =
    let base : c.corner.result ≡ corner_of c.args.address c.exponent-exponent.result c.field-base.result 0 c.borrow.result =
    c.corner.ensures ∙ base_is c.args.address c.exponent-exponent.result c.field-base.result c.borrow.result c.block-block.result c.block-block.ensures.value in
    let top : c.corner-2.result ≡ corner_of c.args.address c.exponent-exponent.result c.field-top.result c.borrow-2.result c.borrow.result =
    c.corner-2.ensures ∙ top_is c.args.address c.exponent-exponent.result c.field-top.result c.borrow-2.result c.borrow.result c.block-block.result c.borrow.ensures.small c.block-block.ensures.value in
    let low : c.field-top.result ≡ c.args.high % 512 = rw c.field-top.ensures (omega arith) in
    rw (base, top, c.borrow-2.ensures.value, c.borrow.ensures.value, c.field-base.ensures, low, c.exponent-exponent.ensures.value) refl
