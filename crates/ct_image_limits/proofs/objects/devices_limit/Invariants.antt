use Rattle.std.proofs.Common.{◌≡◌, ◌+◌, ◌*◌, []}
use Rattle.def_image.specs.Checks.{first, walked}
use Rattle.def_image.specs.Limits.{device_limits}
use Rattle.law_image.proofs.Walks.{Walks}
use Rattle.ct_image_limits.proofs.objects.devices_limit.Given as goal

-- the place of the next one, and what is left of the walk
pub record Keeps (l : goal.Live-loop-index) : Type 0 where
  pub place : l.place ≡ l.at + 40 * l.index
  pub rest : Walks device_limits (λ x. 40) l.place l.index l.devices (first (walked device_limits (λ x. 40) l.at [] l.devices))

abbrev pub invariant-loop-index : goal.invariant-loop-index
invariant-loop-index l = Keeps l
