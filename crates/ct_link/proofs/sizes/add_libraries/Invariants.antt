use Rattle.std.proofs.Common.{◌≡◌, ◌++◌, map, take}
use Rattle.def_link.specs.Linked.{library_code_size}
use Rattle.ct_link.specs.Rows.{lent_built}
use Rattle.ct_link.proofs.sizes.add_libraries.Given as goal

abbrev pub invariant-loop-library : goal.invariant-loop-library
invariant-loop-library l =
    (l.index ≡ l.library-index)
    × (l.sizes.items ≡ l.fn.sizes.items ++ map library_code_size (lent_built (take l.library-index l.libraries) (take l.library-index l.objects)))
