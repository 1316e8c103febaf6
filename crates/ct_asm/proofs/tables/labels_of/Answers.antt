use Rattle.std.proofs.Common.{drop, sym, ap, ◌∙◌, arith}
use Rattle.std.proofs.lemmas.Bool.{and_parts}
use Rattle.std.proofs.lemmas.List.{drop_all}
use Rattle.def_object.specs.Object.{label_from, start}
use Rattle.ct_source.specs.Views.{statements_view}
use Rattle.ct_asm.specs.Labels.{is_new}
use Rattle.ct_asm.proofs.Walks.{from_here, rest_lawful}
use Rattle.ct_asm.proofs.LabelSteps.{label_further, first_further, first_whole}
use Rattle.ct_asm.proofs.tables.labels_of.Goals as goal

pub loop-k-preserved : goal.loop-k-preserved
loop-k-preserved c =
    let cut = from_here c.args.statements.now c.loop-k.k _ c.loop-k-test.true in
    record {
      whole = λ q. label_further q c.loop-k.labels c.note.new.labels c.loop-k.place c.advanced-place.result c.loop-k.k _ _ _ _ cut c.in_ok-distinct.ensures.noted c.advanced-place.ensures.value (c.loop-k.invariant.whole q);
      first = λ d later.
          let so = and_parts (is_new c.loop-k.labels _) c.loop-k.distinct (sym c.in_ok-distinct.ensures.distinct ∙ d) in
          first_further c.loop-k.labels c.loop-k.place c.loop-k.k _ _ _ (statements_view c.args.statements.now) (λ q. label_from q start 0 (statements_view c.args.statements.now)) cut so.0 c.loop-k.invariant.whole (c.loop-k.invariant.first so.1) later;
      lawful = rest_lawful c.loop-k.place c.advanced-place.result _ _ _ cut c.advanced-place.ensures.value c.loop-k.invariant.lawful;
      text = omega (arith, c.advanced-place.ensures.text, c.loop-k.invariant.text);
      initial = omega (arith, c.advanced-place.ensures.initial, c.loop-k.invariant.initial);
    }

pub returns-clause-distinct : goal.returns-clause-distinct
returns-clause-distinct c = λ d.
    first_whole c.loop-k.labels c.loop-k.place c.loop-k.k (statements_view (drop c.loop-k.k c.args.statements.now)) (statements_view c.args.statements.now)
    (ap statements_view (drop_all c.loop-k.k c.args.statements.now c.loop-k-test.false)) c.loop-k.invariant.whole (c.loop-k.invariant.first d)
