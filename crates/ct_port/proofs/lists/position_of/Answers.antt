use Rattle.std.proofs.Common.{◌≡◌, sym, ap, ◌∙◌, false}
use Rattle.std.proofs.Math.ListN.{get_or}
use Rattle.std.specs.Str.{bytes_eq}
use Rattle.def_port.specs.Forms.{FileRow}
use Rattle.ct_port.proofs.Files.{none_more}
use Rattle.ct_port.proofs.lists.position_of.Goals as goal

pub loop-i-preserved : goal.loop-i-preserved
loop-i-preserved c =
    let row : FileRow = c.index-files-i.result in
    let name_is : c.as_str.result.now ≡ (get_or c.args.files.now c.loop-i.i row).name =
    c.as_str.ensures.value ∙ ap (λ (r : FileRow). r.name) c.file.view_is ∙ ap (λ (r : FileRow). r.name) c.index-files-i.is in
    let differ : bytes_eq c.as_str.result.now c.args.name.now ≡ false = sym c.eq.ensures ∙ c.if-eq.false in
    let other : bytes_eq (get_or c.args.files.now c.loop-i.i row).name c.args.name.now ≡ false = rw name_is at differ in
    none_more c.args.files.now c.loop-i.i row c.args.name.now c.loop-i-test.true c.loop-i.invariant other
