use Rattle.ct_engine.proofs.engine.Engine.end_handler.Goals as goal

pub returns-clause-is : goal.returns-clause-is
returns-clause-is g c = rw (← c.register.ensures, ← c.register-2.ensures, ← c.value_of-value.ensures) c.end_with.ensures.is
