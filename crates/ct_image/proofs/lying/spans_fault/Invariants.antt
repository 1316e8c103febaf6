use Rattle.std.proofs.Common.{[]}
use Rattle.def_image.specs.Checks.{first, walked}
use Rattle.law_image.proofs.Walks.{Walks}
use Rattle.ct_image.specs.Lain.{span_asked}
use Rattle.ct_image.proofs.lying.spans_fault.Given as goal

-- what is left of the walk
abbrev pub invariant-loop-index : goal.invariant-loop-index
invariant-loop-index l = Walks (span_asked l.parts l.trusted) (λ s. 0) 0 l.index l.spans (first (walked (span_asked l.parts l.trusted) (λ s. 0) 0 [] l.spans))
