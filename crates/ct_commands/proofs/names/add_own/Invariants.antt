use Rattle.std.proofs.Common.{◌≡◌, ◌++◌, map, drop}
use Rattle.def_desc.specs.Rows.{DescCompartment}
use Rattle.def_program.specs.Turns.{files_in}
use Rattle.ct_commands.specs.Whole.{texts}
use Rattle.ct_commands.proofs.names.add_own.Given as goal

abbrev pub invariant-loop-row : goal.invariant-loop-row
invariant-loop-row l =
    texts l.names.items ++ files_in (map (λ (x : DescCompartment). x.code) (drop l.row-index l.rows)) ≡ texts l.fn.names.items ++ files_in (map (λ (x : DescCompartment). x.code) l.rows)
