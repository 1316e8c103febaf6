use Rattle.std.proofs.Common.{◌<◌, ◌∙◌, false, length, refl, sym, ap, arith, subst}
use Rattle.ct_engine.specs.Seen.{EngineRow, thread}
use Rattle.ct_engine.proofs.Whole.{row_at, row_lies, row_depth, there_in, only_turn, turn_holds, pick_sees}
use Rattle.ct_engine.proofs.Away.{alive_there}
use Rattle.ct_engine.proofs.engine.Engine.pick.Goals as goal

pub index-stood-requires : goal.index-stood-requires
index-stood-requires g c =
    let lt = there_in c.self.invariant c.args.t (alive_there _ c.self.inside.rows c.args.self.now c.args.t c.self.view_is c.requires.alive) in
    let long = c.self.inside.rows.standing.ok.0 in
    omega (arith, lt, long)

pub index_mut-requires : goal.index_mut-requires
index_mut-requires g c =
    let lt = alive_there _ c.self.inside.rows c.args.self.now c.args.t c.self.view_is c.requires.alive in
    let long = c.self.inside.rows.list.ok.0 in
    omega (arith, lt, long)

pub index_mut-requires-2 : goal.index_mut-requires-2
index_mut-requires-2 g c =
    let lt = there_in c.self.invariant c.args.t (alive_there _ c.self.inside.rows c.args.self.now c.args.t c.self.view_is c.requires.alive) in
    let long = c.self.inside.rows.standing.ok.0 in
    omega (arith, lt, long)

pub take_up-requires-clause-kept : goal.take_up-requires-clause-kept
take_up-requires-clause-kept g c =
    let lt = alive_there _ c.self.inside.rows c.args.self.now c.args.t c.self.view_is c.requires.alive in
    (row_lies (row_at c.self.invariant lt c.index_mut.ensures.value c.index-stood.ensures refl)).kept

pub take_up-requires-clause-alive : goal.take_up-requires-clause-alive
take_up-requires-clause-alive g c =
    let lt = alive_there _ c.self.inside.rows c.args.self.now c.args.t c.self.view_is c.requires.alive in
    let w = row_at c.self.invariant lt c.index_mut.ensures.value c.index-stood.ensures refl in
    subst (λ n. 0 < n) (ap (λ (s : EngineRow). length (thread s c.args.t).frames) (sym c.self.view_is) ∙ row_depth w) c.requires.alive

pub invariant_of-self : goal.invariant_of-self
invariant_of-self g c =
    let lt = alive_there _ c.self.inside.rows c.args.self.now c.args.t c.self.view_is c.requires.alive in
    let w = row_at c.self.invariant lt c.index_mut.ensures.value c.index-stood.ensures refl in
    let did = c.take_up.ensures in
    let none = ap (λ (s : EngineRow). s.state.running) c.self.view_is ∙ c.requires.none in
    turn_holds (only_turn w did.touches did.area did.kept false none)

pub returns : goal.returns
returns g c =
    let lt = alive_there _ c.self.inside.rows c.args.self.now c.args.t c.self.view_is c.requires.alive in
    let w = row_at c.self.invariant lt c.index_mut.ensures.value c.index-stood.ensures refl in
    let did = c.take_up.ensures in
    let none = ap (λ (s : EngineRow). s.state.running) c.self.view_is ∙ c.requires.none in
    rw (← c.self.view_is) (pick_sees (only_turn w did.touches did.area did.kept false none) did.thread refl)
