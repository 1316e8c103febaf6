use Rattle.std.proofs.Common.{ℕ, ◌/◌, ◌%◌, ◌∙◌, List, get_or, ap, arith}
use Rattle.std.proofs.Math.ListN.{set}
use Rattle.def_memory.specs.Accesses.{with_part}
use Rattle.ct_planes.specs.Bytes.{words_in, HoldsWords}
use Rattle.ct_planes.proofs.Holding.{closed, closed_words}
use Rattle.ct_planes.proofs.bytes.Bytes.store.Goals as goal

abbrev changed : List ℕ → ℕ → ℕ → ℕ → List ℕ
changed ws at width value = set ws (at / 8) (with_part (get_or ws (at / 8) 0) (at % 8) width value)

pub invariant_of-self : goal.invariant_of-self
invariant_of-self c =
    let v = c.self.inside.bytes in
    let ws = words_in v.items in
    let h : HoldsWords ws c.deref_mut.result.now = rw c.deref_mut.ensures.value c.self.invariant.1 in
    closed v (changed ws c.args.at c.args.width c.args.value) c.store_in.new.bytes (c.store_in.ensures.size ∙ c.deref_mut.ensures.len) (omega (arith, v.ok, c.self.invariant.0)) (c.store_in.ensures.holds ws h)

pub returns : goal.returns
returns c =
    let v = c.self.inside.bytes in
    let ws = words_in v.items in
    let h : HoldsWords ws c.deref_mut.result.now = rw c.deref_mut.ensures.value c.self.invariant.1 in
    closed_words v (changed ws c.args.at c.args.width c.args.value) c.store_in.new.bytes (c.store_in.ensures.size ∙ c.deref_mut.ensures.len) (c.store_in.ensures.holds ws h)
    ∙ ap (λ l. changed l c.args.at c.args.width c.args.value) c.self.view_is
