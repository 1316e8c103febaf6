use Rattle.std.proofs.Common.{◌≡◌, drop}
use Rattle.def_reach.specs.Roots.{gate_for}
use Rattle.ct_licence.proofs.rows.is_off.Given as goal

abbrev pub invariant-loop-gate : goal.invariant-loop-gate
invariant-loop-gate l = gate_for (drop l.gate-index l.gates) l.number ≡ gate_for l.gates l.number
