use Rattle.std.proofs.Common.{◌≡◌, ◌*◌, ◌≤◌, take}
use Rattle.def_image.specs.Sizes.{sum_of}
use Rattle.def_link.specs.Linked.{saved_area_size}
use Rattle.ct_link.proofs.sizes.areas_size.Given as goal

abbrev pub invariant-loop-thread : goal.invariant-loop-thread
invariant-loop-thread l =
    (l.size ≡ sum_of saved_area_size (take l.thread-index l.threads)) × (l.size ≤ 6304 * l.thread-index)
