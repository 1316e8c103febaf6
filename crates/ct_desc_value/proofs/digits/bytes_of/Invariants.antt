use Rattle.std.proofs.Common.{◌≡◌, ◌++◌, length}
use Rattle.def_desc.specs.Reading.{bytes_of}
use Rattle.ct_desc_value.proofs.digits.bytes_of.Given as goal

abbrev pub invariant-loop-rest : goal.invariant-loop-rest
invariant-loop-rest l = l.all.items ++ bytes_of l.rest ≡ bytes_of l.text

abbrev pub decreases-loop-rest : goal.decreases-loop-rest
decreases-loop-rest l = length l.rest
