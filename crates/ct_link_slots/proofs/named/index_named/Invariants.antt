use Rattle.std.proofs.Common.{◌≡◌, ◌+◌, map, drop}
use Rattle.def_link.specs.Slots.{index_of}
use Rattle.ct_link_slots.proofs.named.index_named.Given as goal

abbrev pub invariant-loop-one : goal.invariant-loop-one
invariant-loop-one g l =
    (l.index ≡ l.one-index)
    × (index_of l.name (map g.T.Named.name_of (drop l.one-index l.all)) + l.index ≡ index_of l.name (map g.T.Named.name_of l.all))
