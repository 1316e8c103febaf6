use Rattle.std.proofs.Common.{◌≡◌, Some, refl, subst, sym}
use Rattle.def_machine.specs.Platform.{MachineRow}
use Rattle.def_step.specs.Instructions.{executed}
use Rattle.ct_machine.specs.Going.{MayGoOn}
use Rattle.ct_machine.proofs.Opened.{is_open}
use Rattle.ct_machine.proofs.Taking.{ram_is}
use Rattle.ct_machine.proofs.Keeping.{ran_kept, came_by, counted_so}
use Rattle.ct_machine.proofs.Carried.{came}
use Rattle.ct_machine.proofs.parts.Parts.execute.Goals as goal

pub execute-requires : goal.execute-requires
execute-requires g c =
    let i = c.self.inside in
    let may = subst MayGoOn (sym c.self.view_is) c.requires.may in
    let runs = subst (λ (m : MachineRow). m.state.running ≡ Some c.args.t) (sym c.self.view_is) c.requires.runs in
    record {
      runs = runs;
      opened = is_open i.plan i.engine i.sched i.pending i.bus.states i.time i.counts c.args.t c.self.invariant.0 may.shut may.keeps.confined runs;
      heap = rw (ram_is i.plan i.engine i.sched c.self.invariant.0, c.heap.ensures) c.self.invariant.0.placed;
    }

pub invariant_of-self : goal.invariant_of-self
invariant_of-self g c =
    let i = c.self.inside in
    let stays = c.execute.ensures.executes.stays in
    (ran_kept i.plan i.engine c.execute.new.engine i.sched c.self.invariant.0 stays, counted_so i.counts i.time i.engine c.execute.new.engine _ stays.beside refl c.self.invariant.1)

pub returns-clause-came : goal.returns-clause-came
returns-clause-came g c =
    let i = c.self.inside in
    came_by (λ (m : MachineRow). executed m.board m.state c.args.t) c.self.view_is refl
    (came i.plan c.entries.result.now i.engine i.sched i.bus i.pending i.time i.counts c.args.t c.self.invariant.0 c.entries.ensures.is c.execute.new.engine c.execute.new.bus c.execute.result
    c.execute.ensures.executes)
