use Rattle.std.proofs.Common.{◌≡◌, ◌++◌, map, take}
use Rattle.def_desc.specs.Rows.{DescShared}
use Rattle.ct_link.proofs.sizes.add_shared.Given as goal

abbrev pub invariant-loop-shared : goal.invariant-loop-shared
invariant-loop-shared l =
    l.sizes.items ≡ l.fn.sizes.items ++ map (λ (s : DescShared). s.size) (take l.shared-index l.all)
