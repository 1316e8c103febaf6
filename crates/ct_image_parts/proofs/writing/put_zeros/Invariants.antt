use Rattle.std.proofs.Common.{◌≡◌, ◌++◌}
use Rattle.def_image.specs.Spelling.{zeros}
use Rattle.ct_image_parts.proofs.writing.put_zeros.Given as goal

abbrev pub invariant-loop : goal.invariant-loop
invariant-loop l = l.out.items ≡ l.fn.out.items ++ zeros l.counter
