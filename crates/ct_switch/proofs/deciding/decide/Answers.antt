use Rattle.std.proofs.Common.{◌≡◌, ◌∙◌, sym}
use Rattle.ct_switch.specs.Calls.{failed_in}
use Rattle.ct_switch.proofs.Coming.{failed_so, switch_traps}
use Rattle.ct_switch.proofs.deciding.decide.Goals as goal

pub returns-in-Some-clause-is : goal.returns-in-Some-clause-is
returns-in-Some-clause-is g c =
    let came : c.first_trap.result ≡ failed_in c.args.t.now =
    failed_so c.args.t.now c.register-link.result.now c.register-import.result.now c.register-stack.result.now c.first_trap.result
    c.register-link.ensures c.register-import.ensures c.register-stack.ensures c.first_trap.ensures in
    switch_traps (g.M.Memory.granules c.args.mem.now) c.args.e.now c.args.t.now c.in-Some.trap c.requires.ready.alive (sym came ∙ c.in-Some.is)

pub past_checks-requires-clause-passed : goal.past_checks-requires-clause-passed
past_checks-requires-clause-passed g c =
    let came : c.first_trap.result ≡ failed_in c.args.t.now =
    failed_so c.args.t.now c.register-link.result.now c.register-import.result.now c.register-stack.result.now c.first_trap.result
    c.register-link.ensures c.register-import.ensures c.register-stack.ensures c.first_trap.ensures in
    sym came ∙ c.in-None.is
