use Rattle.def_boot.specs.Made.{return_sentry}
use Rattle.def_words.specs.declared.Cap.{Cap}
use Rattle.ct_switch.specs.Calls.{stack_cap}
use Rattle.ct_switch.proofs.Registers.{dressed_all}
use Rattle.ct_switch.proofs.given.dress_registers.Goals as goal

pub returns : goal.returns
returns c =
    dressed_all c.args.x.now (λ (k : Cap). stack_cap c.args.base c.args.high k.shadow) return_sentry c.args.globals
    c.args.regs.now c.put_stack.new.register c.integer-none.result
    c.index-regs-2.result c.index-regs-10.result c.index-regs-11.result c.index-regs-12.result c.index-regs-13.result c.index-regs-14.result c.index-regs-15.result
    c.argument.new.register c.argument-2.new.register c.argument-3.new.register c.argument-4.new.register c.argument-5.new.register c.argument-6.new.register
    c.return_sentry.result c.expand.result
    c.told-regs c.integer-none.ensures c.return_sentry.ensures c.expand.ensures c.put_stack.ensures
    c.argument.ensures c.argument-2.ensures c.argument-3.ensures c.argument-4.ensures c.argument-5.ensures c.argument-6.ensures
