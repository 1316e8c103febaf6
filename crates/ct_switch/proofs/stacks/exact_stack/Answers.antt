use Rattle.std.proofs.Common.{ap, arith}
use Rattle.ct_switch.proofs.ExactStacks.{exact_stack_is}
use Rattle.ct_switch.proofs.stacks.exact_stack.Goals as goal

pub invariant_of-result : goal.invariant_of-result
invariant_of-result c =
    let stands = exact_stack_is c.args.base c.args.high c.stack_word.result c.exponent_in.result c.args.fields c.args.from c.requires.order (omega (arith, c.ranges.high))
    c.requires.exact c.requires.is c.stack_word.ensures c.exponent_in.ensures in
    (stands.bounds, ap (λ p. record { 0 = p }) stands.rights, stands.unsealed)

pub returns : goal.returns
returns c =
    (exact_stack_is c.args.base c.args.high c.stack_word.result c.exponent_in.result c.args.fields c.args.from c.requires.order (omega (arith, c.ranges.high))
    c.requires.exact c.requires.is c.stack_word.ensures c.exponent_in.ensures).is
