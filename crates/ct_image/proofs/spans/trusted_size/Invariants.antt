use Rattle.std.proofs.Common.{◌≡◌, ◌≤◌, ◌+◌, ◌*◌, drop}
use Rattle.def_image.specs.Sizes.{sum_of}
use Rattle.def_image.specs.Regions.{area_size, trusted_size as size_of}
use Rattle.ct_image.proofs.spans.trusted_size.Given as goal

-- the size so far with the areas to come
pub record Keeps (l : goal.Live-loop-thread) : Type 0 where
  pub size : l.size + sum_of area_size (drop l.thread-index l.threads) ≡ size_of l.threads
  pub small : l.size ≤ 16 + 6304 * l.thread-index

abbrev pub invariant-loop-thread : goal.invariant-loop-thread
invariant-loop-thread l = Keeps l
