use Rattle.std.proofs.Common.{◌≡◌, ◌<◌, ◌^◌, ◌∙◌, List, arith, subst}
use Rattle.ct_entry.specs.Listed.{DeviceRow}
use Rattle.def_script.specs.Script.{IsScriptCause, ReadsAsScript}
use Rattle.ct_commands.proofs.Endings.{due_by}
use Rattle.ct_top.proofs.Booted.{playable}
use Rattle.ct_top.proofs.Turning.{script_fault, script_played}
use Rattle.ct_top.proofs.runs.play_text.Goals as goal

pub read-requires-clause-bytes : goal.read-requires-clause-bytes
read-requires-clause-bytes g c = omega (arith, c.requires.text)

pub play-requires-clause-script : goal.play-requires-clause-script
play-requires-clause-script g c =
    let rows : c.devices_of.result.now ≡ c.args.image.now.devices = c.devices_of.ensures.devices in
    playable c.args.image.now c.args.text.now c.in-Ok.script c.args.machine.now c.requires.text
    (subst (λ (ds : List DeviceRow). ReadsAsScript ds c.args.text.now c.in-Ok.script) rows c.in-Ok.ensures) c.requires.machine

pub returns-in-Ok : goal.returns-in-Ok
returns-in-Ok g c =
    let rows : c.devices_of.result.now ≡ c.args.image.now.devices = c.devices_of.ensures.devices in
    script_played c.args.image.now c.args.limit c.args.text.now c.in-Ok.script _ _ _
    (subst (λ (ds : List DeviceRow). ReadsAsScript ds c.args.text.now c.in-Ok.script) rows c.in-Ok.ensures) c.play.ensures

pub returns-in-Err : goal.returns-in-Err
returns-in-Err g c =
    let rows : c.devices_of.result.now ≡ c.args.image.now.devices = c.devices_of.ensures.devices in
    let cause : IsScriptCause c.args.image.now.devices c.args.text.now c.in-Err.fault = subst (λ (ds : List DeviceRow). IsScriptCause ds c.args.text.now c.in-Err.fault) rows c.in-Err.ensures in
    due_by _ _ _ _ _ (λ t due. script_fault c.args.image.now c.args.limit c.args.text.now c.in-Err.fault t cause due) c.refuse_script.ensures
