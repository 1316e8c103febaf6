use Rattle.std.proofs.Common.{◌≡◌, ◌++◌, map, take}
use Rattle.def_desc.specs.Rows.{DescThread}
use Rattle.ct_link.proofs.sizes.add_stacks.Given as goal

abbrev pub invariant-loop-thread : goal.invariant-loop-thread
invariant-loop-thread l =
    l.sizes.items ≡ l.fn.sizes.items ++ map (λ (t : DescThread). t.stack) (take l.thread-index l.threads)
