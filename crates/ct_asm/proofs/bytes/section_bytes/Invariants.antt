use Rattle.std.proofs.Common.{◌≡◌, ◌++◌, ◌*◌, ◌≤◌, ◌^◌, drop, true, None}
use Rattle.def_source.specs.Source.{lawful_from}
use Rattle.def_object.specs.Object.{fault_from, bytes_from, start}
use Rattle.ct_source.specs.Views.{statements_view}
use Rattle.ct_asm.specs.Labels.{label_named}
use Rattle.ct_asm.proofs.bytes.section_bytes.Given as goal

abbrev pub invariant-loop-s : goal.invariant-loop-s
invariant-loop-s l = record {
  whole : l.out.items ++ bytes_from l.wanted (λ n. label_named n l.labels) l.slots l.place (statements_view (drop l.s-index l.statements)) ≡ bytes_from l.wanted (λ n. label_named n l.labels) l.slots start (statements_view l.statements);
  faultless : fault_from (λ n. label_named n l.labels) l.place l.s-index (statements_view (drop l.s-index l.statements)) ≡ None;
  lawful : lawful_from l.place.section (statements_view (drop l.s-index l.statements)) ≡ true;
  text : l.place.text ≤ l.s-index * 2 ^ 20;
  initial : l.place.initial ≤ l.s-index * 2 ^ 20;
}
