use Rattle.std.proofs.Common.{◌≡◌, ◌+◌, drop, []}
use Rattle.def_image.specs.Checks.{first, walked}
use Rattle.def_image.specs.Limits.{sealed_limits}
use Rattle.def_image.specs.Sizes.{sum_of, sealed_size}
use Rattle.law_image.proofs.Walks.{Walks}
use Rattle.ct_image_limits.proofs.objects.sealed_objects_limit.Given as goal

-- the place of the next one, and what is left of the walk
pub record Keeps (l : goal.Live-loop-index) : Type 0 where
  pub place : l.place + sum_of sealed_size (drop l.index l.sealed) ≡ l.at + sum_of sealed_size l.sealed
  pub rest : Walks sealed_limits sealed_size l.place l.index l.sealed (first (walked sealed_limits sealed_size l.at [] l.sealed))

abbrev pub invariant-loop-index : goal.invariant-loop-index
invariant-loop-index l = Keeps l
