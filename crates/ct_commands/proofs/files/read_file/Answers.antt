use Rattle.std.proofs.Common.{◌<◌, ◌≤◌, length, refl, arith}
use Rattle.def_program.specs.Calls.{most}
use Rattle.ct_commands.proofs.Given.{given, too_large}
use Rattle.ct_commands.proofs.files.read_file.Goals as goal

pub returns-then-len-gt-MOST-clause-answer : goal.returns-then-len-gt-MOST-clause-answer
returns-then-len-gt-MOST-clause-answer g c =
    let size : most < length c.in-Ok.bytes.items = omega (arith, c.if-len-gt-MOST.true, c.len.ensures, c.in-Ok.bytes.ok) in
    (refl, too_large _ _ _ _ c.in-Ok.ensures.answer size)

pub returns-clause-answer : goal.returns-clause-answer
returns-clause-answer g c =
    let size : length c.in-Ok.bytes.items ≤ most = omega (arith, c.if-len-gt-MOST.false, c.len.ensures, c.in-Ok.bytes.ok) in
    given _ _ _ _ c.in-Ok.ensures.answer size
