use Rattle.std.proofs.Common.{refl, sym, ◌∙◌}
use Rattle.ct_engine.specs.Written.{state_with}
use Rattle.ct_services.proofs.Serving.{serves_alike, serves_no_return, serves_trapped, registers_alike}
use Rattle.ct_services.proofs.resting.wait.Goals as goal

pub returns-in-Some-clause-serves : goal.returns-in-Some-clause-serves
returns-in-Some-clause-serves g c = serves_no_return c.args.sched.now.statuses c.register.ensures c.in-Some.ensures

pub returns-in-Some-word_trap-clause-serves : goal.returns-in-Some-word_trap-clause-serves
returns-in-Some-word_trap-clause-serves g c =
    let s = c.args.engine.now in
    let ss = c.args.sched.now.statuses in
    serves_trapped s ss c.in-Some-word_trap.trap _
    (λ i m h.
    let fails = c.in-Some-word_trap.ensures.is i (state_with m s ss) (sym (c.requires.ram ∙ h.ram)) (sym c.size.ensures) in
    rw (registers_alike m s ss c.args.t, ← c.register.ensures, ← c.in_default.ensures, ← c.register-word.ensures, ← fails)
    refl)

pub returns-clause-serves : goal.returns-clause-serves
returns-clause-serves g c =
    let s = c.args.engine.now in
    let ss = c.args.sched.now.statuses in
    serves_alike c.wait_for.ensures.serves
    (λ i m h.
    let passes =
    c.in_default-word_trap.ensures.is i (state_with m s ss) (sym (c.requires.ram ∙ h.ram)) (sym c.size.ensures) in
    rw (registers_alike m s ss c.args.t, ← c.register.ensures, ← c.in_default.ensures, c.word_held-held.ensures)
    (rw (← c.register-word.ensures, ← passes, c.address.ensures, c.address-wanted.ensures, c.register-2.ensures)
    (rw (c.requires.ram, h.ram) refl)))
