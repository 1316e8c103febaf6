use Rattle.std.proofs.Common.{◌≡◌, List, [], true, ap, ◌∙◌, sym, arith}
use Rattle.std.proofs.Math.ListN.{get_or}
use Rattle.law_lists.proofs.Finds.{position_is, position_none}
use Rattle.ct_entry.specs.Listed.{DeviceRow}
use Rattle.ct_entry.specs.declared.hardware.DeviceKind.TheVariants.{Timer}
use Rattle.def_script.specs.Script.{is_named}
use Rattle.ct_script.proofs.reading.find_device.Goals as goal

pub returns-then-is_named : goal.returns-then-is_named
returns-then-is_named c =
    let here : get_or c.args.devices.now c.loop-index.index c.index-devices-index.result ≡ c.index-devices-index.result = sym c.index-devices-index.is in
    let passes : is_named c.args.name.now (get_or c.args.devices.now c.loop-index.index c.index-devices-index.result) ≡ true = ap (is_named c.args.name.now) here ∙ sym c.is_named.ensures ∙ c.if-is_named.true in
    sym (position_is (is_named c.args.name.now) c.args.devices.now c.loop-index.index c.index-devices-index.result c.loop-index-test.true passes (λ k lt. c.loop-index.invariant k c.index-devices-index.result lt))

pub returns : goal.returns
returns c =
    let nobody : DeviceRow = record { name = []; kind = Timer; base = 0 } in
    sym (position_none (is_named c.args.name.now) c.args.devices.now nobody (λ k lt. c.loop-index.invariant k nobody (omega (arith, c.loop-index-test.false, lt))))
