use Rattle.std.proofs.Common.{ap}
use Rattle.def_words.specs.declared.Cap.{Cap}
use Rattle.def_words.specs.Capability.{integer}
use Rattle.ct_burst.proofs.Moves.{turned_held}
use Rattle.ct_burst.proofs.going.go_to.Goals as goal

pub returns-then-holds-clause-held : goal.returns-then-holds-clause-held
returns-then-holds-clause-held c held =
    turned_held c.args.row.now _ c.args.window c.args.target c.args.row.now.posture 0 (integer 0) (ap (λ (p : Cap). record c.args.row.now { pcc = p }) c.go_inside.ensures) c.requires.on held c.requires.whole
