use Rattle.std.proofs.Common.{refl}
use Rattle.def_step.specs.declared.Next.TheVariants.{Returning, Native, Nothing}
use Rattle.ct_execute.specs.declared.ran.Ran.TheVariants as ran
use Rattle.ct_execute.proofs.Executed.{executes_one, executes_next, executes_trap}
use Rattle.ct_execute.proofs.executing.execute.Goals as goal

pub returns-in-Some-clause-executes : goal.returns-in-Some-clause-executes
returns-in-Some-clause-executes g c =
    executes_trap c.args.entries.now c.args.t c.args.time c.args.engine.now c.args.bus.now _ c.in-Some.trap c.pcc-pcc.ensures c.in-Some.ensures

pub returns-in-Returning-clause-executes : goal.returns-in-Returning-clause-executes
returns-in-Returning-clause-executes g c =
    executes_next c.args.entries.now c.args.t c.args.time c.args.engine.now c.args.bus.now _ _ Returning ran.Returned
    (record { pcc = c.pcc-pcc.ensures; passes = c.in_default.ensures; place = c.address.ensures; stands = c.in-Returning.ensures.is }) (λ b m. refl) (refl, refl)

pub returns-in-Native-clause-executes : goal.returns-in-Native-clause-executes
returns-in-Native-clause-executes g c =
    executes_next c.args.entries.now c.args.t c.args.time c.args.engine.now c.args.bus.now _ _ (Native c.in-Native.number) (ran.Native c.in-Native.number)
    (record { pcc = c.pcc-pcc.ensures; passes = c.in_default.ensures; place = c.address.ensures; stands = c.in-Native.ensures.is }) (λ b m. refl) (refl, refl)

pub returns-in-Nothing-clause-executes : goal.returns-in-Nothing-clause-executes
returns-in-Nothing-clause-executes g c =
    executes_next c.args.entries.now c.args.t c.args.time c.args.engine.now c.args.bus.now _ _ Nothing (ran.Trapped c.plain.result)
    (record { pcc = c.pcc-pcc.ensures; passes = c.in_default.ensures; place = c.address.ensures; stands = c.in-Nothing.ensures.is }) (λ b m. rw c.plain.ensures refl) (refl, refl)

pub returns-in-Instruction-clause-executes : goal.returns-in-Instruction-clause-executes
returns-in-Instruction-clause-executes g c =
    (executes_one c.args.entries.now c.args.t c.args.time c.args.engine.now c.args.bus.now _ _ c.in-Instruction.instruction c.execute_instruction.new.engine c.execute_instruction.new.bus c.execute_instruction.result
    (record { pcc = c.pcc-pcc.ensures; passes = c.in_default.ensures; place = c.address.ensures; stands = c.in-Instruction.ensures.is })
    c.execute_instruction.ensures.is c.execute_instruction.ensures.stays c.execute_instruction.ensures.bases).0

pub returns-in-Instruction-clause-ranged : goal.returns-in-Instruction-clause-ranged
returns-in-Instruction-clause-ranged g c =
    (executes_one c.args.entries.now c.args.t c.args.time c.args.engine.now c.args.bus.now _ _ c.in-Instruction.instruction c.execute_instruction.new.engine c.execute_instruction.new.bus c.execute_instruction.result
    (record { pcc = c.pcc-pcc.ensures; passes = c.in_default.ensures; place = c.address.ensures; stands = c.in-Instruction.ensures.is })
    c.execute_instruction.ensures.is c.execute_instruction.ensures.stays c.execute_instruction.ensures.bases).1
