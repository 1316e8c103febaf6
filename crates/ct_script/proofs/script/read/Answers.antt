use Rattle.std.proofs.Common.{List, [], ◌≡◌, subst, ◌∙◌}
use Rattle.ct_entry.specs.Listed.{DeviceRow}
use Rattle.ct_script.specs.Lines.{Going}
use Rattle.ct_script.proofs.Accounts.{reads, are_lines}
use Rattle.ct_script.proofs.script.read.Goals as goal

pub invariant_of-result : goal.invariant_of-result
invariant_of-result c =
    let went : Going c.args.devices.now c.args.bytes.now c.in_ok-lines.lines [] = subst (λ (d : List DeviceRow). Going d c.args.bytes.now c.in_ok-lines.lines []) (c.as_slice.ensures.value ∙ c.devices.view_is) c.in_ok-lines.ensures in
    are_lines c.args.devices.now c.args.bytes.now [] c.in_ok-lines.lines went

pub returns : goal.returns
returns c =
    let went : Going c.args.devices.now c.args.bytes.now c.in_ok-lines.lines [] = subst (λ (d : List DeviceRow). Going d c.args.bytes.now c.in_ok-lines.lines []) (c.as_slice.ensures.value ∙ c.devices.view_is) c.in_ok-lines.ensures in
    reads c.args.devices.now c.args.bytes.now c.in_ok-lines.lines went
