use Rattle.std.proofs.Common.{◌≡◌, ◌+◌, ◌*◌, []}
use Rattle.def_image.specs.Checks.{first, walked}
use Rattle.law_image.proofs.Walks.{Walks}
use Rattle.ct_image_limits.specs.Owners.{thread_asked}
use Rattle.ct_image_limits.proofs.owners.threads_limit.Given as goal

-- the place of the next one, and what is left of the walk
pub record Keeps (l : goal.Live-loop-index) : Type 0 where
  pub place : l.place ≡ l.at + 56 * l.index
  pub rest : Walks (thread_asked l.compartments l.libraries) (λ t. 56) l.place l.index l.threads (first (walked (thread_asked l.compartments l.libraries) (λ t. 56) l.at [] l.threads))

abbrev pub invariant-loop-index : goal.invariant-loop-index
invariant-loop-index l = Keeps l
