use Rattle.law_link.proofs.Placed.{places_placed, heap_placed}
use Rattle.law_link.proofs.link_parts.regions_are_placed.Goals as goal

pub returns-clause-places : goal.returns-clause-places
returns-clause-places c = places_placed

pub returns-clause-heap : goal.returns-clause-heap
returns-clause-heap c = heap_placed
