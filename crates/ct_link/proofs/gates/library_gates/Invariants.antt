use Rattle.std.proofs.Common.{◌≡◌, ◌+◌, take}
use Rattle.def_link.specs.Owners.{numbered}
use Rattle.def_link.specs.Slots.{lexport_gate}
use Rattle.ct_link_objects.specs.Objects.{built_of}
use Rattle.ct_link.proofs.gates.library_gates.Given as goal

abbrev pub invariant-loop-export : goal.invariant-loop-export
invariant-loop-export l =
    (l.number ≡ l.entry + l.export-index)
    × (l.gates.items ≡ numbered (lexport_gate (built_of l.object)) l.entry (take l.export-index l.exports))
