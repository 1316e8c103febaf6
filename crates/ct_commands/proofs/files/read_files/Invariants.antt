use Rattle.std.proofs.Common.{map, drop}
use Rattle.ct_commands.specs.Whole.{texts}
use Rattle.ct_commands.proofs.Given.{Reading}
use Rattle.ct_commands.proofs.files.read_files.Given as goal

abbrev pub invariant-loop-name : goal.invariant-loop-name
invariant-loop-name g l =
    Reading (g.F.Folder.shows l.fn.folder) (g.F.Folder.shows l.folder) (texts l.names) (texts (drop l.name-index l.names)) (map (λ t. t.items) l.all.items)
