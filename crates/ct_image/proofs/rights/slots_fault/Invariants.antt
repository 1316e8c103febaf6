use Rattle.std.proofs.Common.{◌≡◌, ◌+◌, ◌*◌, []}
use Rattle.def_image.specs.Checks.{first, walked}
use Rattle.def_image.specs.Rights.{library_right_asked}
use Rattle.law_image.proofs.Walks.{Walks}
use Rattle.ct_image.proofs.rights.slots_fault.Given as goal

-- the place of the next one, and what is left of the walk
pub record Keeps (l : goal.Live-loop-index) : Type 0 where
  pub place : l.place ≡ l.at + 48 * l.index
  pub rest : Walks library_right_asked (λ x. 48) l.place l.index l.slots (first (walked library_right_asked (λ x. 48) l.at [] l.slots))

abbrev pub invariant-loop-index : goal.invariant-loop-index
invariant-loop-index l = Keeps l
