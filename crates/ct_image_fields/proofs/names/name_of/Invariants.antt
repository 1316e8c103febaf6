use Rattle.std.proofs.Common.{◌≡◌}
use Rattle.ct_image_fields.proofs.Unbroken.{Unbroken}
use Rattle.ct_image_fields.proofs.names.name_of.Given as goal

abbrev pub invariant-loop-index : goal.invariant-loop-index
invariant-loop-index l = Unbroken l.index l.field
