use Rattle.std.proofs.Common.{◌∙◌, refl, sym, subst}
use Rattle.def_memory.specs.Granules.{plain}
use Rattle.ct_threads.proofs.Leaving.{ends_are}
use Rattle.ct_engine.specs.Seen.{EngineRow}
use Rattle.ct_engine.specs.Calls.{TopLies}
use Rattle.ct_engine.proofs.Whole.{turn_holds, runner_stands}
use Rattle.ct_engine.proofs.Goes.{runner, running_lies}
use Rattle.ct_engine.proofs.Stacks.{ready_is}
use Rattle.ct_engine.proofs.Leaving.{end_turn, end_tells, end_sees}
use Rattle.ct_engine.proofs.engine.Engine.end_with.Goals as goal

pub end_with-more-requires : goal.end_with-more-requires
end_with-more-requires g c =
    ready_is (runner c.self.invariant c.self.view_is c.requires.runs c.index_mut.ensures.value)
    (subst (λ (s : EngineRow). TopLies s c.args.t) (sym c.self.view_is) c.requires.top)

pub go_on_or_end-requires : goal.go_on_or_end-requires
go_on_or_end-requires g c =
    let h = runner c.self.invariant c.self.view_is c.requires.runs c.index_mut.ensures.value in
    runner_stands h.holds c.args.t h.runs

pub invariant_of-self : goal.invariant_of-self
invariant_of-self g c =
    let h = runner c.self.invariant c.self.view_is c.requires.runs c.index_mut.ensures.value in
    let top = subst (λ (s : EngineRow). TopLies s c.args.t) (sym c.self.view_is) c.requires.top in
    let did = c.end_with-more.ensures in
    let ends = ends_are (g.M.Memory.granules c.self.inside.mem) _ _ _ _ (λ f. plain c.args.value) (λ f. plain 0)
    (running_lies h).kept (ready_is h top) did.result did.thread did.memory did.row in
    rw c.go_on_or_end.ensures.is (turn_holds (end_turn h top ends))

pub returns-clause-result : goal.returns-clause-result
returns-clause-result g c =
    let h = runner c.self.invariant c.self.view_is c.requires.runs c.index_mut.ensures.value in
    let top = subst (λ (s : EngineRow). TopLies s c.args.t) (sym c.self.view_is) c.requires.top in
    let did = c.end_with-more.ensures in
    let ends = ends_are (g.M.Memory.granules c.self.inside.mem) _ _ _ _ (λ f. plain c.args.value) (λ f. plain 0)
    (running_lies h).kept (ready_is h top) did.result did.thread did.memory did.row in
    rw (← c.self.view_is) (c.go_on_or_end.ensures.result ∙ end_tells h top ends)

pub returns-clause-is : goal.returns-clause-is
returns-clause-is g c =
    let h = runner c.self.invariant c.self.view_is c.requires.runs c.index_mut.ensures.value in
    let top = subst (λ (s : EngineRow). TopLies s c.args.t) (sym c.self.view_is) c.requires.top in
    let did = c.end_with-more.ensures in
    let ends = ends_are (g.M.Memory.granules c.self.inside.mem) _ _ _ _ (λ f. plain c.args.value) (λ f. plain 0)
    (running_lies h).kept (ready_is h top) did.result did.thread did.memory did.row in
    rw (← c.self.view_is, c.go_on_or_end.ensures.is)
    (end_sees h top ends (λ f. plain c.args.value) (λ f. plain 0) (λ f. refl) (λ f. refl))
