-- Fields whose limits and forms hold are those of the parts that are made of them.
use Rattle.std.specs.Prelude.{◌≡◌, None}
use Rattle.def_image.specs.Raw.{RawImage}
use Rattle.def_image.specs.Spelling.{raw_of}
use Rattle.def_image.specs.Shapes.{IsShaped, IsSpellable}
use Rattle.def_image.specs.Checks.{first}
use Rattle.def_image.specs.Limits.{limit_checks}
use Rattle.ct_image_parts.specs.Converted.{parts_of}

pub record ComesBack (r : RawImage) : Type 0 where
  pub fields : raw_of (parts_of r) ≡ r
  pub spellable : IsSpellable (parts_of r)

abbrev pub FieldsComeBack : Type 0
FieldsComeBack = (r : RawImage) → IsShaped r → first (limit_checks r) ≡ None → ComesBack r
