use Rattle.std.proofs.Common.{◌≡◌, drop}
use Rattle.def_port.specs.Forms.{file_named}
use Rattle.ct_port.proofs.lists.find.Given as goal

abbrev pub invariant-loop-file : goal.invariant-loop-file
invariant-loop-file l = file_named (drop l.file-index l.files) l.name ≡ file_named l.files l.name
