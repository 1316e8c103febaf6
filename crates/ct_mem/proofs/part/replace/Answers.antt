use Rattle.std.proofs.Common.{ℕ, ◌*◌, ◌%◌, ◌^◌, ◌<◌, arith}
use Rattle.std.proofs.lemmas.Nat.{mod_below, pow_pos}
use Rattle.ct_mem.proofs.Parts.{unit_is, span_is, replaced_fits, replaced_is}
use Rattle.ct_mem.proofs.part.replace.Goals as goal

below : (value width : ℕ) → value % 2 ^ (8 * width) < 2 ^ (8 * width)
below value width = mod_below value (2 ^ (8 * width)) (pow_pos (8 * width))

pub overflow_mul-result-2 : goal.overflow_mul-result-2
overflow_mul-result-2 c =
    rw (unit_is c.args.from c.requires.some, span_is c.args.width c.requires.width)
    (let word : c.args.word < 2 ^ 64 = omega arith in
    omega (arith, replaced_fits c.args.word c.args.from c.args.width (c.args.value % 2 ^ (8 * c.args.width)) word c.requires.inside (below c.args.value c.args.width)))

pub overflow_add-result : goal.overflow_add-result
overflow_add-result c =
    rw (unit_is c.args.from c.requires.some, span_is c.args.width c.requires.width)
    (let word : c.args.word < 2 ^ 64 = omega arith in
    omega (arith, replaced_fits c.args.word c.args.from c.args.width (c.args.value % 2 ^ (8 * c.args.width)) word c.requires.inside (below c.args.value c.args.width)))

pub returns : goal.returns
returns c =
    rw (unit_is c.args.from c.requires.some, span_is c.args.width c.requires.width)
    (replaced_is c.args.word c.args.from c.args.width (c.args.value % 2 ^ (8 * c.args.width)))
