use Rattle.std.proofs.Common.{◌≡◌, ℕ, List, refl, sym, ap, subst}
use Rattle.def_desc.specs.declared.Ram.{Ram}
use Rattle.def_desc.specs.Rows.{DescRow}
use Rattle.ct_layout.specs.Rows.{SizesRow, IsPlaceable}
use Rattle.ct_link.specs.Laid.{sizes_with}
use Rattle.ct_link.proofs.Bounds.{are_placeable}
use Rattle.ct_link.proofs.laid.places_of.Goals as goal

pub place-requires : goal.place-requires
place-requires c =
    let d = c.args.desc.now in
    let sizes = sizes_with d c.args.own.now c.args.lent.now in
    let here : IsPlaceable (record { base = d.ram.base; size = d.ram.size; regions = sizes }) = are_placeable d c.args.own.now c.args.lent.now (record { base = d.ram.base; size = d.ram.size; regions = sizes }) c.requires refl in
    let ram : c.desc.inside.ram ≡ d.ram = ap (λ (z : DescRow). z.ram) c.desc.view_is in
    subst (λ (r : List ℕ). IsPlaceable (record { base = c.desc.inside.ram.base; size = c.desc.inside.ram.size; regions = r })) (sym c.in-Ok.ensures)
    (subst (λ (m : Ram). IsPlaceable (record { base = m.base; size = m.size; regions = sizes })) (sym ram) here)
