use Rattle.std.proofs.Common.{◌≡◌, ◌*◌, ◌/◌, ◌∙◌, ap, arith}
use Rattle.std.proofs.Math.ListN.{set}
use Rattle.ct_planes.specs.Bytes.{words_in, HoldsWords}
use Rattle.ct_planes.proofs.Holding.{closed, closed_words}
use Rattle.ct_planes.proofs.bytes.Bytes.put_word.Goals as goal

pub invariant_of-self : goal.invariant_of-self
invariant_of-self c =
    let v = c.self.inside.bytes in
    let ws = words_in v.items in
    let h : HoldsWords ws c.deref_mut.result.now = rw c.deref_mut.ensures.value c.self.invariant.1 in
    closed v (set ws (8 * c.args.i / 8) c.args.word) c.put_word_in.new.bytes (c.put_word_in.ensures.size ∙ c.deref_mut.ensures.len) (omega (arith, v.ok, c.self.invariant.0)) (c.put_word_in.ensures.holds ws h (omega arith))

pub returns : goal.returns
returns c =
    let v = c.self.inside.bytes in
    let ws = words_in v.items in
    let h : HoldsWords ws c.deref_mut.result.now = rw c.deref_mut.ensures.value c.self.invariant.1 in
    let same : 8 * c.args.i / 8 ≡ c.args.i = omega arith in
    closed_words v (set ws (8 * c.args.i / 8) c.args.word) c.put_word_in.new.bytes (c.put_word_in.ensures.size ∙ c.deref_mut.ensures.len) (c.put_word_in.ensures.holds ws h (omega arith))
    ∙ ap (λ n. set ws n c.args.word) same ∙ ap (λ l. set l c.args.i c.args.word) c.self.view_is
