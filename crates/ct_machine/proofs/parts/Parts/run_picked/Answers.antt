use Rattle.std.proofs.Common.{◌∙◌, arith, sym, ap}
use Rattle.std.proofs.lemmas.Bool.{not-true}
use Rattle.def_words.specs.declared.Posture.{Posture}
use Rattle.def_machine.specs.Platform.{MachineRow}
use Rattle.ct_machine.proofs.Bursting.{burst_keeps}
use Rattle.ct_machine.proofs.Picking.{carried_by, open_on}
use Rattle.ct_machine.proofs.parts.Parts.run_picked.Goals as goal

pub posture-requires : goal.posture-requires
posture-requires g c = sym c.in-Some.ensures

pub burst-carried-requires-clause-runs : goal.burst-carried-requires-clause-runs
burst-carried-requires-clause-runs g c = sym c.in-Some.ensures

pub burst-carried-requires-clause-opened : goal.burst-carried-requires-clause-opened
burst-carried-requires-clause-opened g c =
    open_on c.self.inside c.self.invariant.0 c.in-Some.t c.self.view_is (sym c.in-Some.ensures) c.requires.pending c.requires.next c.requires.idle c.requires.may c.args.most

pub invariant_of-self : goal.invariant_of-self
invariant_of-self g c = burst_keeps c.self.inside c.self.invariant.0 c.in-Some.t c.burst-carried.result c.burst-carried.new.self c.burst-carried.ensures.goes c.self.invariant.1

pub invariant_of-self-else-carried-gt0 : goal.invariant_of-self-else-carried-gt0
invariant_of-self-else-carried-gt0 g c = burst_keeps c.self.inside c.self.invariant.0 c.in-Some.t c.burst-carried.result c.burst-carried.new.self c.burst-carried.ensures.goes c.self.invariant.1

pub count_rounds-requires-clause-steps : goal.count_rounds-requires-clause-steps
count_rounds-requires-clause-steps g c =
    omega (arith, c.burst-carried.ensures.most, c.requires.steps, ap (λ (m : MachineRow). m.state.counts.steps) c.self.view_is)

pub count_rounds-requires-clause-sweeps : goal.count_rounds-requires-clause-sweeps
count_rounds-requires-clause-sweeps g c =
    omega (arith, c.burst-carried.ensures.most, c.requires.sweeps, ap (λ (m : MachineRow). m.state.counts.sweeps) c.self.view_is)

pub returns-then-carried-gt0-clause-carried : goal.returns-then-carried-gt0-clause-carried
returns-then-carried-gt0-clause-carried g c some =
    carried_by c.self.inside c.self.invariant.0 c.in-Some.t c.self.view_is (sym c.in-Some.ensures) c.requires.pending c.requires.next c.requires.idle
    c.burst-carried.result c.burst-carried.new.self c.count_rounds.new.self (sym (ap (λ (p : Posture). p.off) c.posture.ensures) ∙ not-true _ c.if-not-posture.true)
    c.burst-carried.ensures.goes c.count_rounds.ensures.state c.count_rounds.ensures.board some
