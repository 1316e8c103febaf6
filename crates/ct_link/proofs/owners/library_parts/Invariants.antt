use Rattle.std.proofs.Common.{◌≡◌, ◌+◌, ◌*◌, ◌≤◌, take, drop}
use Rattle.def_profile.specs.declared.limits.TheConstants.{MOST_LIBRARY_ENTRIES}
use Rattle.def_image.specs.Sizes.{sum_of}
use Rattle.def_link.specs.Linked.{library_parts}
use Rattle.ct_link.specs.Rows.{lent_built, library_row_entries}
use Rattle.ct_link.proofs.owners.library_parts.Given as goal

abbrev pub invariant-loop-library : goal.invariant-loop-library
invariant-loop-library l =
    (l.index ≡ l.library-index)
    × (l.at ≡ l.first + l.library-index)
    × (l.number ≡ l.entry + sum_of library_row_entries (take l.library-index l.desc.libraries))
    × (l.number ≤ l.entry + MOST_LIBRARY_ENTRIES * l.library-index)
    × (l.parts.items ≡ library_parts l.desc l.entry (drop l.first l.regions) (lent_built (take l.library-index l.desc.libraries) (take l.library-index l.objects)))
