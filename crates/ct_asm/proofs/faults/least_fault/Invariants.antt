use Rattle.std.proofs.Common.{◌≡◌, ◌*◌, ◌≤◌, ◌^◌, drop, true}
use Rattle.def_source.specs.Source.{lawful_from}
use Rattle.def_object.specs.Object.{fault_from, start, lesser}
use Rattle.ct_source.specs.Views.{statements_view}
use Rattle.ct_asm.specs.Labels.{label_named, AreFirst}
use Rattle.ct_asm.proofs.faults.least_fault.Given as goal

abbrev pub invariant-loop-k : goal.invariant-loop-k
invariant-loop-k l = record {
  whole : lesser l.least (fault_from (λ n. label_named n l.labels) l.place l.k (statements_view (drop l.k l.statements))) ≡ fault_from (λ n. label_named n l.labels) start 0 (statements_view l.statements);
  first : l.distinct ≡ true → AreFirst (λ n. label_named n l.labels) l.k (statements_view (drop l.k l.statements));
  lawful : lawful_from l.place.section (statements_view (drop l.k l.statements)) ≡ true;
  text : l.place.text ≤ l.k * 2 ^ 20;
  initial : l.place.initial ≤ l.k * 2 ^ 20;
}
