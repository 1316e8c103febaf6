use Rattle.def_link.specs.Owners.{units_of}
use Rattle.ct_link_objects.proofs.Progress.{Done}
use Rattle.ct_link_objects.proofs.built.objects.Given as goal

abbrev pub invariant-loop-owner : goal.invariant-loop-owner
invariant-loop-owner l = Done (units_of l.desc) l.sources l.owner l.next l.all.items
