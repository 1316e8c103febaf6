use Rattle.std.proofs.Common.{refl, sym, subst}
use Rattle.ct_threads.proofs.Entering.{call_keeps}
use Rattle.ct_engine.specs.Seen.{EngineRow}
use Rattle.ct_engine.specs.Calls.{MayCall}
use Rattle.ct_engine.proofs.Whole.{turn_holds}
use Rattle.ct_engine.proofs.Goes.{runner, running_lies, register_is}
use Rattle.ct_engine.proofs.Entering.{switch_is, may_is, call_turn, call_sees}
use Rattle.ct_engine.proofs.engine.Engine.call.Goals as goal

pub call-requires : goal.call-requires
call-requires g c =
    may_is (runner c.self.invariant c.self.view_is c.requires.runs c.index_mut.ensures.value) c.args.e.now
    (subst (λ (s : EngineRow). MayCall s c.args.t c.args.e.now) (sym c.self.view_is) c.requires.may)

pub invariant_of-self : goal.invariant_of-self
invariant_of-self g c =
    let h = runner c.self.invariant c.self.view_is c.requires.runs c.index_mut.ensures.value in
    let may = subst (λ (s : EngineRow). MayCall s c.args.t c.args.e.now) (sym c.self.view_is) c.requires.may in
    let did = c.call.ensures in
    let k = call_keeps _ _ c.args.e.now _ _ (running_lies h).kept (may_is h c.args.e.now may).ready _ refl did.memory did.row in
    turn_holds (call_turn h c.args.e.now may _ refl k.touches k.area k.kept)

pub returns-clause-result : goal.returns-clause-result
returns-clause-result g c =
    let h = runner c.self.invariant c.self.view_is c.requires.runs c.index_mut.ensures.value in
    rw (← c.self.view_is, ← switch_is h c.args.e.now, register_is h 6) c.call.ensures.result

pub returns-clause-is : goal.returns-clause-is
returns-clause-is g c =
    let h = runner c.self.invariant c.self.view_is c.requires.runs c.index_mut.ensures.value in
    let may = subst (λ (s : EngineRow). MayCall s c.args.t c.args.e.now) (sym c.self.view_is) c.requires.may in
    let e = c.args.e.now in
    let did = c.call.ensures in
    let k = call_keeps _ _ c.args.e.now _ _ (running_lies h).kept (may_is h c.args.e.now may).ready _ refl did.memory did.row in
    rw (← c.self.view_is, ← switch_is h e)
    (call_sees h e may _ refl (call_turn h e may _ refl k.touches k.area k.kept) did.thread)
