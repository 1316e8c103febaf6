use Rattle.std.proofs.Common.{◌≡◌, drop}
use Rattle.def_port.specs.Forms.{is_listed}
use Rattle.ct_port.proofs.lists.has_number.Given as goal

abbrev pub invariant-loop-number : goal.invariant-loop-number
invariant-loop-number l = is_listed (drop l.number-index l.listed) l.call ≡ is_listed l.listed l.call
