use Rattle.ct_engine.proofs.Whole.{turn_holds}
use Rattle.ct_engine.proofs.Goes.{runner, jump_turn, jump_sees}
use Rattle.ct_engine.proofs.engine.Engine.jump_to.Goals as goal

pub invariant_of-self : goal.invariant_of-self
invariant_of-self g c =
    let h = runner c.self.invariant c.self.view_is c.requires.runs c.index_mut.ensures.value in
    turn_holds (jump_turn h c.jump_row.new.t c.args.pcc c.args.posture c.args.to c.args.value c.jump_row.ensures)

pub returns : goal.returns
returns g c =
    let h = runner c.self.invariant c.self.view_is c.requires.runs c.index_mut.ensures.value in
    rw (← c.self.view_is) (jump_sees h c.jump_row.new.t c.args.pcc c.args.posture c.args.to c.args.value c.jump_row.ensures)
