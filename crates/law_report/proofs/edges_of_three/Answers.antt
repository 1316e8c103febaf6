use Rattle.std.proofs.Common.{refl}
use Rattle.def_boot.specs.Entries.{entry_rows}
use Rattle.def_boot.specs.Gates.{gates_of, entries_of}
use Rattle.def_reach.specs.Roots.{gate_for, root_of}
use Rattle.def_words.specs.Permissions.{bit, set_where, unpacked}
use Rattle.def_report.specs.Edges.{are_joined, edges}
use Rattle.law_report.proofs.edges_of_three.Goals as goal

pub returns : goal.returns
unfolding entry_rows gates_of entries_of gate_for root_of bit set_where unpacked are_joined edges
returns c = record { shared = refl; plain = refl; passing = refl }
