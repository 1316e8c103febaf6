use Rattle.std.proofs.Common.{◌≡◌, ◌+◌, take}
use Rattle.def_link.specs.Owners.{numbered}
use Rattle.ct_link.proofs.Parts.{shared_in}
use Rattle.ct_link.proofs.objects.shared_parts.Given as goal

abbrev pub invariant-loop-shared : goal.invariant-loop-shared
invariant-loop-shared l =
    (l.at ≡ l.first + l.shared-index)
    × (l.parts.items ≡ numbered (shared_in l.regions) l.first (take l.shared-index l.all))
