use Rattle.std.proofs.Common.{◌≡◌, map, drop}
use Rattle.def_link.specs.Owners as owner
use Rattle.ct_link_objects.specs.Objects.{built_of}
use Rattle.ct_link_objects.proofs.exports.first_lost.Given as goal

abbrev pub invariant-loop-export : goal.invariant-loop-export
invariant-loop-export g l =
    (l.item ≡ l.export-index)
    × (owner.first_lost (built_of l.object) l.item (map g.T.Placed.at_of (drop l.export-index l.exports))
    ≡ owner.first_lost (built_of l.object) 0 (map g.T.Placed.at_of l.exports))
