-- The table's labels are the source's, so the fault and the bytes that were found are the written ones.
use Rattle.std.proofs.Common.{◌∙◌, sym, ap}
use Rattle.ct_source.specs.Views.{statements_view}
use Rattle.def_object.specs.Object.{Labels}
use Rattle.ct_asm.proofs.Objects.{same_labels, fault_is, text_is, initial_is, labels_within}
use Rattle.ct_asm.proofs.object.assembled.Goals as goal

pub returns-in-Some-clause-err : goal.returns-in-Some-clause-err
returns-in-Some-clause-err c = fault_is (statements_view c.args.statements.now) c.in-Ok.found.labels c.in-Ok.ensures.labels ∙ sym c.in-Some.ensures

pub invariant_of-result : goal.invariant_of-result
invariant_of-result c = labels_within (statements_view c.args.statements.now) c.in-Ok.found.labels c.in-Ok.ensures.labels (sym c.in_default-least_fault.ensures)

pub returns-clause-ok : goal.returns-clause-ok
returns-clause-ok c = record {
  faultless = fault_is (statements_view c.args.statements.now) c.in-Ok.found.labels c.in-Ok.ensures.labels ∙ sym c.in_default-least_fault.ensures;
  text = c.in-Ok-section_bytes.ensures ∙ text_is (statements_view c.args.statements.now) c.args.slots.now c.in-Ok.found.labels c.in-Ok.ensures.labels;
  init = c.in-Ok-section_bytes-2.ensures ∙ initial_is (statements_view c.args.statements.now) c.args.slots.now c.in-Ok.found.labels c.in-Ok.ensures.labels;
  labels = λ name. ap (λ (l : Labels). l name) (same_labels (statements_view c.args.statements.now) c.in-Ok.found.labels c.in-Ok.ensures.labels);
}
