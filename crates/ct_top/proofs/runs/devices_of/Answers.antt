use Rattle.std.proofs.Common.{◌<◌, ◌^◌, length, subst, sym}
use Rattle.def_image.specs.Parts.{PartsRow}
use Rattle.ct_top.proofs.Booted.{few_devices}
use Rattle.ct_top.proofs.runs.devices_of.Goals as goal

pub returns-clause-few : goal.returns-clause-few
returns-clause-few c =
    let few : length c.args.image.now.devices < 2 ^ 32 = few_devices c.args.image.now c.parts.ensures.faultless in
    let found : length c.parts.result.now.devices < 2 ^ 32 = subst (λ (p : PartsRow). length p.devices < 2 ^ 32) (sym c.parts.ensures.parts) few in
    subst (λ (p : PartsRow). length p.devices < 2 ^ 32) (sym c.behind-image.view_is) found
