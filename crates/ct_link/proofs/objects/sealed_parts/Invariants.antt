use Rattle.std.proofs.Common.{◌≡◌, ◌+◌, take}
use Rattle.def_link.specs.Owners.{numbered}
use Rattle.ct_link.proofs.Parts.{sealed_in}
use Rattle.ct_link.proofs.objects.sealed_parts.Given as goal

abbrev pub invariant-loop-sealed : goal.invariant-loop-sealed
invariant-loop-sealed l =
    (l.at ≡ l.first + l.sealed-index)
    × (l.parts.items ≡ numbered (sealed_in l.regions) l.first (take l.sealed-index l.all))
