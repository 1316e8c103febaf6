use Rattle.std.proofs.Common.{arith, subst}
use Rattle.ct_asm.specs.Labels.{label_named, AreFirst}
use Rattle.ct_asm.proofs.Walks.{from_here, rest_lawful, fault_step}
use Rattle.ct_asm.proofs.faults.least_fault.Goals as goal

pub loop-k-preserved : goal.loop-k-preserved
loop-k-preserved c =
    let cut = from_here c.args.statements.now c.loop-k.k _ c.loop-k-test.true in
    record {
      whole = fault_step (λ n. label_named n c.args.labels.now) c.loop-k.least c.lesser-least.result c.on_line-fault.result c.statement_fault.result c.loop-k.place c.advanced-place.result c.loop-k.k _ _ _ _ cut c.on_line-fault.ensures c.statement_fault.ensures c.lesser-least.ensures c.advanced-place.ensures.value c.loop-k.invariant.whole;
      first = λ d. (subst (AreFirst (λ n. label_named n c.args.labels.now) c.loop-k.k) cut (c.loop-k.invariant.first d)).1;
      lawful = rest_lawful c.loop-k.place c.advanced-place.result _ _ _ cut c.advanced-place.ensures.value c.loop-k.invariant.lawful;
      text = omega (arith, c.advanced-place.ensures.text, c.loop-k.invariant.text);
      initial = omega (arith, c.advanced-place.ensures.initial, c.loop-k.invariant.initial);
    }

pub statement_fault-requires-clause-first : goal.statement_fault-requires-clause-first
statement_fault-requires-clause-first c =
    let cut = from_here c.args.statements.now c.loop-k.k _ c.loop-k-test.true in
    λ d. (subst (AreFirst (λ n. label_named n c.args.labels.now) c.loop-k.k) cut (c.loop-k.invariant.first d)).0
