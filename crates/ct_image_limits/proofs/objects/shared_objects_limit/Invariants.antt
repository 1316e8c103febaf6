use Rattle.std.proofs.Common.{◌≡◌, ◌+◌, ◌*◌, []}
use Rattle.def_image.specs.Checks.{first, walked}
use Rattle.def_image.specs.Limits.{shared_limits}
use Rattle.law_image.proofs.Walks.{Walks}
use Rattle.ct_image_limits.proofs.objects.shared_objects_limit.Given as goal

-- the place of the next one, and what is left of the walk
pub record Keeps (l : goal.Live-loop-index) : Type 0 where
  pub place : l.place ≡ l.at + 40 * l.index
  pub rest : Walks shared_limits (λ x. 40) l.place l.index l.shared (first (walked shared_limits (λ x. 40) l.at [] l.shared))

abbrev pub invariant-loop-index : goal.invariant-loop-index
invariant-loop-index l = Keeps l
