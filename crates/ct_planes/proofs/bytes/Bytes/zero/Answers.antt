use Rattle.std.proofs.Common.{◌∙◌, ap, arith}
use Rattle.ct_planes.specs.Bytes.{words_in, HoldsWords}
use Rattle.ct_planes.specs.Fills.{filled}
use Rattle.ct_planes.proofs.Holding.{closed, closed_words}
use Rattle.ct_planes.proofs.bytes.Bytes.zero.Goals as goal

pub invariant_of-self : goal.invariant_of-self
invariant_of-self c =
    let v = c.self.inside.bytes in
    let ws = words_in v.items in
    let h : HoldsWords ws c.deref_mut.result.now = rw c.deref_mut.ensures.value c.self.invariant.1 in
    closed v (filled c.args.from c.args.to 0 ws) c.zero_in.new.bytes (c.zero_in.ensures.size ∙ c.deref_mut.ensures.len) (omega (arith, v.ok, c.self.invariant.0)) (c.zero_in.ensures.holds ws h)

pub returns : goal.returns
returns c =
    let v = c.self.inside.bytes in
    let ws = words_in v.items in
    let h : HoldsWords ws c.deref_mut.result.now = rw c.deref_mut.ensures.value c.self.invariant.1 in
    closed_words v (filled c.args.from c.args.to 0 ws) c.zero_in.new.bytes (c.zero_in.ensures.size ∙ c.deref_mut.ensures.len) (c.zero_in.ensures.holds ws h)
    ∙ ap (λ l. filled c.args.from c.args.to 0 l) c.self.view_is
