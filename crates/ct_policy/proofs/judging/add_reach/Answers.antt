use Rattle.std.proofs.Common.{[], inl, refl, sym}
use Rattle.std.proofs.lemmas.List.{append-nil}
use Rattle.def_boot.specs.Gates.{entries_of}
use Rattle.def_reach.specs.Reach.{Reached}
use Rattle.ct_policy.proofs.judging.add_reach.Goals as goal

pub returns-in-None : goal.returns-in-None
returns-in-None c =
    let none : Reached c.args.graph.now c.args.from c.args.to → ⊥ = rw c.in-None.is at c.in_ok-path.ensures in
    let apart : Reached (entries_of c.args.parts.now) c.args.from c.args.to → ⊥ = rw c.requires.graph at none in
    record { piece = []; is = inl (apart, refl); new_is = sym (append-nil _) }
