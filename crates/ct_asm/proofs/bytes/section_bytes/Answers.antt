use Rattle.std.proofs.Common.{arith}
use Rattle.ct_asm.specs.Labels.{label_named}
use Rattle.ct_asm.proofs.Walks.{from_here, first_lawful, rest_lawful, first_faultless, rest_faultless, bytes_step, found_here}
use Rattle.ct_asm.proofs.bytes.section_bytes.Goals as goal

pub push_in-requires-clause-exist : goal.push_in-requires-clause-exist
push_in-requires-clause-exist c = (first_lawful c.loop-s.place.section _ _ _ (from_here c.args.statements.now c.loop-s.s-index _ c.loop-s-test.true) c.loop-s.invariant.lawful).2

pub push_in-requires-clause-found : goal.push_in-requires-clause-found
push_in-requires-clause-found c =
    let cut = from_here c.args.statements.now c.loop-s.s-index _ c.loop-s-test.true in
    found_here (λ n. label_named n c.args.labels.now) c.loop-s.s-index _ _
    (first_faultless (λ n. label_named n c.args.labels.now) c.loop-s.place c.loop-s.s-index _ _ _ cut c.loop-s.invariant.faultless).0

pub loop-s-preserved : goal.loop-s-preserved
loop-s-preserved c =
    let cut = from_here c.args.statements.now c.loop-s.s-index _ c.loop-s-test.true in
    record {
      whole = bytes_step c.args.wanted (λ n. label_named n c.args.labels.now) c.args.slots.now c.loop-s.out.items c.push_in.new.out.items c.loop-s.place c.advanced-place.result _ _ _ _ cut c.in_ok-push_in.ensures c.advanced-place.ensures.value c.loop-s.invariant.whole;
      faultless = rest_faultless (λ n. label_named n c.args.labels.now) c.loop-s.place c.advanced-place.result c.loop-s.s-index _ _ _ cut c.advanced-place.ensures.value c.loop-s.invariant.faultless;
      lawful = rest_lawful c.loop-s.place c.advanced-place.result _ _ _ cut c.advanced-place.ensures.value c.loop-s.invariant.lawful;
      text = omega (arith, c.advanced-place.ensures.text, c.loop-s.invariant.text);
      initial = omega (arith, c.advanced-place.ensures.initial, c.loop-s.invariant.initial);
    }
