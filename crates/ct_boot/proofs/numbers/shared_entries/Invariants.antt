use Rattle.std.proofs.Common.{◌≡◌, ◌≤◌, ◌+◌, ◌*◌, drop}
use Rattle.def_profile.specs.declared.limits.TheConstants.{MOST_LIBRARY_ENTRIES}
use Rattle.def_image.specs.Members.{library_entries}
use Rattle.def_image.specs.Sizes.{sum_of}
use Rattle.ct_boot.proofs.numbers.shared_entries.Given as goal

-- those counted and those to come are all
abbrev pub invariant-loop-code : goal.invariant-loop-code
invariant-loop-code l =
    (l.total + sum_of library_entries (drop l.code-index l.libraries) ≡ sum_of library_entries l.libraries) × (l.total ≤ MOST_LIBRARY_ENTRIES * l.code-index)
