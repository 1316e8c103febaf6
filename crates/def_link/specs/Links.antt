-- What the laws of linking are about.
use Rattle.std.specs.Prelude.{ℕ, ◌≡◌, List, Ok}
use Rattle.def_image.specs.Parts.{PartsRow}
use Rattle.def_desc.specs.Rows.{DescRow}
use Rattle.def_desc.specs.Lawful.{IsLawful}
use Rattle.def_link.specs.Linked.{linked}

-- lawful rows, with these sources, are linked to these parts
pub record RowsLinkTo (d : DescRow) (sources : List (List ℕ)) (p : PartsRow) : Type 0 where
  pub lawful : IsLawful d
  pub linked : linked d sources ≡ Ok p
