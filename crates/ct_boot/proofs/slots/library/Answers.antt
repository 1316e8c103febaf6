use Rattle.std.proofs.Common.{◌≡◌, ◌∙◌, Some, slice_get, option_map, ap, sym, arith}
use Rattle.ct_boot.proofs.Fits.{library_export_end}
use Rattle.ct_boot.proofs.Made.{library_made}
use Rattle.ct_boot.proofs.slots.library.Goals as goal

pub entered-requires : goal.entered-requires
entered-requires c =
    let library : slice_get c.args.parts.now.libraries c.args.row.first ≡ Some c.in-Some.code.now = sym c.library_at.ensures ∙ ap (option_map (λ s. s.now)) c.in-Some.is in
    let export : slice_get c.in-Some.code.now.exports c.args.row.second ≡ Some c.in-Some-export_at.export.now = sym c.export_at.ensures ∙ ap (option_map (λ s. s.now)) c.in-Some-export_at.is in
    let end = library_export_end c.args.parts.now c.requires.sound c.args.row.first c.args.row.second c.in-Some.code.now c.in-Some-export_at.export.now library export in
    omega (arith, end)

pub returns-in-Some-export_at : goal.returns-in-Some-export_at
returns-in-Some-export_at c =
    let library : slice_get c.args.parts.now.libraries c.args.row.first ≡ Some c.in-Some.code.now = sym c.library_at.ensures ∙ ap (option_map (λ s. s.now)) c.in-Some.is in
    let export : slice_get c.in-Some.code.now.exports c.args.row.second ≡ Some c.in-Some-export_at.export.now = sym c.export_at.ensures ∙ ap (option_map (λ s. s.now)) c.in-Some-export_at.is in
    c.entered.ensures ∙ library_made c.args.parts.now c.args.row.first c.args.row.second c.in-Some.code.now c.in-Some-export_at.export.now c.args.number c.args.rights library export
