use Rattle.std.proofs.Common.{◌≡◌, ◌*◌, ◌≤◌, ◌^◌, drop, true}
use Rattle.def_source.specs.Source.{Name, lawful_from, or_else}
use Rattle.def_object.specs.Object.{label_from, start}
use Rattle.ct_source.specs.Views.{statements_view}
use Rattle.ct_asm.specs.Labels.{label_named, AreFirst}
use Rattle.ct_asm.proofs.tables.labels_of.Given as goal

abbrev pub invariant-loop-k : goal.invariant-loop-k
invariant-loop-k l = record {
  whole : (q : Name) → or_else (label_named q l.labels) (label_from q l.place l.k (statements_view (drop l.k l.statements))) ≡ label_from q start 0 (statements_view l.statements);
  first : l.distinct ≡ true
      → AreFirst (λ q. label_from q start 0 (statements_view l.statements)) l.k (statements_view (drop l.k l.statements))
      → AreFirst (λ q. label_from q start 0 (statements_view l.statements)) 0 (statements_view l.statements);
  lawful : lawful_from l.place.section (statements_view (drop l.k l.statements)) ≡ true;
  text : l.place.text ≤ l.k * 2 ^ 20;
  initial : l.place.initial ≤ l.k * 2 ^ 20;
}
