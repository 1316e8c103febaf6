use Rattle.std.proofs.Common.{◌≡◌, ◌∙◌, ◌<◌, ◌^◌, ap, sym, subst, arith}
use Rattle.def_words.specs.declared.Rounded.{Rounded}
use Rattle.def_words.specs.LeastBounds.{rounded_of}
use Rattle.law_words.proofs.Narrowing.{fields_small}
use Rattle.ct_switch.proofs.Threads.{order_back}
use Rattle.ct_switch.proofs.stacks.put_stack.Goals as goal

pub exact_stack-requires : goal.exact_stack-requires
exact_stack-requires c =
    let is : c.least-bounds.result ≡ rounded_of c.args.base c.args.high =
    c.least-bounds.ensures ∙ ap (λ t. rounded_of c.args.base t) (order_back c.args.base c.args.high c.requires) in
    let few : (rounded_of c.args.base c.args.high).fields < 2 ^ 22 = fields_small c.args.base c.args.high c.requires (omega (arith, c.ranges.high)) in
    let fields : c.least-bounds.result.fields ≡ (rounded_of c.args.base c.args.high).fields = ap (λ (r : Rounded). r.fields) is in
    record {
      order = c.requires;
      exact = ap (λ (r : Rounded). r.exact) (sym is) ∙ c.if-exact.true;
      is = fields;
      few = subst (λ n. n < 2 ^ 22) (sym fields) few;
    }
