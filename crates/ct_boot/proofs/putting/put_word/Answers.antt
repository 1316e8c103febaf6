use Rattle.std.proofs.Common.{arith}
use Rattle.ct_boot.proofs.putting.put_word.Goals as goal

pub overflow_cast-offset : goal.overflow_cast-offset
overflow_cast-offset g c =
    let high = (c.requires.puts c.args.index c.requires.inside).high in
    let end = c.requires.sound.ram.end in
    omega (arith, high, end)

pub overflow_mul-offset : goal.overflow_mul-offset
overflow_mul-offset g c =
    let high = (c.requires.puts c.args.index c.requires.inside).high in
    let end = c.requires.sound.ram.end in
    omega (arith, high, end)

pub overflow_add-base : goal.overflow_add-base
overflow_add-base g c =
    let high = (c.requires.puts c.args.index c.requires.inside).high in
    let end = c.requires.sound.ram.end in
    omega (arith, high, end)

pub word-requires : goal.word-requires
word-requires g c =
    let high = (c.requires.puts c.args.index c.requires.inside).high in
    let end = c.requires.sound.ram.end in
    omega (arith, high, end)
