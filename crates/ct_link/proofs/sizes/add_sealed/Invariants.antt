use Rattle.std.proofs.Common.{◌≡◌, ◌++◌, length, map, take}
use Rattle.def_desc.specs.Rows.{DescSealed}
use Rattle.ct_link.proofs.sizes.add_sealed.Given as goal

abbrev pub invariant-loop-sealed : goal.invariant-loop-sealed
invariant-loop-sealed l =
    l.sizes.items ≡ l.fn.sizes.items ++ map (λ (s : DescSealed). length s.bytes) (take l.sealed-index l.all)
