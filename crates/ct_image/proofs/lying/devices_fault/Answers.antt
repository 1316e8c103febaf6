use Rattle.std.proofs.Common.{sym, ap, ◌∙◌, ◌+◌, not, arith}
use Rattle.def_image.specs.Lying.{device_asked}
use Rattle.law_image.proofs.Walks.{ends}
use Rattle.law_image.proofs.Passing.{one_none}
use Rattle.ct_image_limits.proofs.At.{goes_at, stops_at}
use Rattle.ct_image_parts.proofs.Ones.{one_fails}
use Rattle.ct_image.proofs.lying.devices_fault.Goals as goal

pub returns-then-not-is_device_laid : goal.returns-then-not-is_device_laid
returns-then-not-is_device_laid c =
    let all = c.args.devices.now in
    let x = c.index-devices-index.result in
    sym (stops_at (device_asked c.args.parts.now) (λ s. 40) c.loop-index.place c.loop-index.index all x _ (c.loop-index.place + 36) c.loop-index-test.true c.index-devices-index.is
    (one_fails (c.loop-index.place + 36) _ (ap not (sym c.is_device_laid.ensures ∙ c.if-not-is_device_laid.true))) c.loop-index.invariant.rest)

pub loop-index-preserved : goal.loop-index-preserved
loop-index-preserved c =
    let all = c.args.devices.now in
    let x = c.index-devices-index.result in
    record {
      place = omega (arith, c.loop-index.invariant.place);
      rest = goes_at (device_asked c.args.parts.now) (λ s. 40) c.loop-index.place c.loop-index.index all x _ c.loop-index-test.true c.index-devices-index.is
          (one_none (c.loop-index.place + 36) _ (ap not (sym c.is_device_laid.ensures ∙ c.if-not-is_device_laid.false))) c.loop-index.invariant.rest;
    }

pub returns : goal.returns
returns c = sym (ends (device_asked c.args.parts.now) (λ s. 40) c.loop-index.place c.loop-index.index c.args.devices.now _ c.loop-index-test.false c.loop-index.invariant.rest)
