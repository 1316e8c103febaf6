use Rattle.std.proofs.Common.{◌≡◌, take, None}
use Rattle.def_port.specs.Forms.{file_named}
use Rattle.ct_port.proofs.lists.position_of.Given as goal

abbrev pub invariant-loop-i : goal.invariant-loop-i
invariant-loop-i l = file_named (take l.i l.files) l.name ≡ None
