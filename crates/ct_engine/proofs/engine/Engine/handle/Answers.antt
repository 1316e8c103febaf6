use Rattle.std.proofs.Common.{◌∙◌, sym, subst}
use Rattle.ct_engine.specs.Seen.{EngineRow}
use Rattle.ct_engine.specs.Handling.{MayHandle}
use Rattle.ct_engine.proofs.Whole.{turn_holds}
use Rattle.ct_engine.proofs.Goes.{runner}
use Rattle.ct_engine.proofs.Handlers.{row_may, handled_is, trap_turn, trap_sees}
use Rattle.ct_engine.proofs.engine.Engine.handle.Goals as goal

pub handle_row-requires : goal.handle_row-requires
handle_row-requires g c =
    row_may (runner c.self.invariant c.self.view_is c.requires.runs c.index_mut.ensures.value) c.args.e.now c.args.handler
    (subst (λ (s : EngineRow). MayHandle s c.args.t c.args.e.now c.args.handler) (sym c.self.view_is) c.requires.may)

pub invariant_of-self : goal.invariant_of-self
invariant_of-self g c =
    let h = runner c.self.invariant c.self.view_is c.requires.runs c.index_mut.ensures.value in
    let may = subst (λ (s : EngineRow). MayHandle s c.args.t c.args.e.now c.args.handler) (sym c.self.view_is) c.requires.may in
    let did = c.handle_row.ensures in
    turn_holds (trap_turn h c.args.e.now c.args.handler may c.args.trap c.handle_row.result
    (g.M.Memory.granules c.handle_row.new.mem) c.handle_row.new.t did.result did.memory did.row)

pub returns-clause-result : goal.returns-clause-result
returns-clause-result g c =
    let h = runner c.self.invariant c.self.view_is c.requires.runs c.index_mut.ensures.value in
    rw (← c.self.view_is) (c.handle_row.ensures.result ∙ handled_is h c.args.e.now c.args.handler)

pub returns-clause-is : goal.returns-clause-is
returns-clause-is g c =
    let h = runner c.self.invariant c.self.view_is c.requires.runs c.index_mut.ensures.value in
    let may = subst (λ (s : EngineRow). MayHandle s c.args.t c.args.e.now c.args.handler) (sym c.self.view_is) c.requires.may in
    let did = c.handle_row.ensures in
    rw (← c.self.view_is) (trap_sees h c.args.e.now c.args.handler may c.args.trap c.handle_row.result
    (g.M.Memory.granules c.handle_row.new.mem) c.handle_row.new.t did.result did.memory did.row)
