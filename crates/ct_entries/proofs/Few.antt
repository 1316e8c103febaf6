-- An image whose parts stand has few entries.
use Rattle.std.proofs.Common.{◌^◌, ◌<◌, length, arith}
use Rattle.def_image.specs.Parts.{PartsRow}
use Rattle.def_boot.specs.Entries.{entry_rows}
use Rattle.law_image.proofs.Members.{all_at}
use Rattle.law_boot.proofs.Few.{few_rows as few_of}
use Rattle.ct_entries.specs.Fits.{CodeStands, CompartmentStands, PartsFit}

pub few_rows : (p : PartsRow) → PartsFit p → length (entry_rows p) < 2 ^ 32
few_rows p s =
    let few = few_of p
    (λ k c is. let h = all_at (CompartmentStands p) p.compartments k c s.compartments is in (h.code.few, h.code.exports))
    (λ k c is. let h = all_at (CodeStands p) p.libraries k c s.libraries is in (h.few, h.exports))
    s.few s.some s.threads in
    omega (arith, few)
