use Rattle.std.proofs.Common.{◌≡◌, ◌≤◌, ◌++◌, drop}
use Rattle.def_layout.specs.Placement as spec
use Rattle.def_layout.specs.Lies.{AreSmall}
use Rattle.ct_layout.proofs.ends.placed.Given as goal

abbrev pub invariant-loop-size : goal.invariant-loop-size
invariant-loop-size l = record {
  told : l.regions.items ++ spec.placed l.end (drop l.size-index l.sizes) ≡ spec.placed l.fn.base l.sizes;
  same : spec.last_end l.end (drop l.size-index l.sizes) ≡ spec.last_end l.fn.base l.sizes;
  small : AreSmall (drop l.size-index l.sizes);
  near : l.end ≤ spec.last_end l.fn.base l.sizes;
}
