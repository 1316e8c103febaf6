use Rattle.std.proofs.Common.{◌+◌, ◌*◌, ◌^◌, ◌≡◌, ◌≤◌, drop}
use Rattle.def_layout.specs.Placement as spec
use Rattle.def_layout.specs.Lies.{AreSmall}
use Rattle.ct_layout.proofs.ends.last_end.Given as goal

abbrev pub invariant-loop-size : goal.invariant-loop-size
invariant-loop-size l = record {
  same : spec.last_end l.end (drop l.size-index l.sizes) ≡ spec.last_end l.base l.sizes;
  small : AreSmall (drop l.size-index l.sizes);
  near : l.end ≤ l.base + l.size-index * 2 ^ 33;
}
