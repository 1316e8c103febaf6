use Rattle.std.proofs.Common.{◌≡◌, ◌∙◌, length, replicate, ap, sym, arith}
use Rattle.ct_entry.specs.Listed.{Listed}
use Rattle.def_reach.specs.Roots.{no_gate}
use Rattle.ct_policy.proofs.Gates.{left_gate, put_gate, starts_bare}
use Rattle.ct_policy.proofs.breaking.gates_of.Goals.{else-number-ge1-via-then-number-ge1+else-number-count, else-number-ge1-via-else-number-ge1}
use Rattle.ct_policy.proofs.breaking.gates_of.Goals as goal

pub loop-left-init : goal.loop-left-init
loop-left-init c =
    let seen : length c.entries.inside.rows.items ≡ length c.args.entries.now.rows = ap (λ (e : Listed). length e.rows) c.entries.view_is in
    let rows : length c.args.entries.now.rows ≡ c.len-count.result = omega (arith, seen, c.len-count.ensures, c.entries.inside.rows.ok) in
    let listed : length c.entries.inside.gates.items ≡ length c.args.entries.now.gates = ap (λ (e : Listed). length e.gates) c.entries.view_is in
    let gates : length c.args.entries.now.gates ≡ c.len-left.result = omega (arith, listed, c.len-left.ensures, c.entries.inside.gates.ok) in
    let bare : c.in_ok-gates.gates.items ≡ replicate (length c.args.entries.now.rows) no_gate =
    c.in_ok-gates.ensures.items_if_clones_equal (λ y same. same) ∙ ap (λ n. replicate n no_gate) (sym rows) in
    record {
      inside = omega (arith, gates);
      are = starts_bare c.args.entries.now.gates (length c.args.entries.now.rows) c.in_ok-gates.gates.items c.len-left.result (omega (arith, gates)) bare;
    }

pub loop-left-preserved-then-number-count : goal.loop-left-preserved-then-number-count
loop-left-preserved-then-number-count c = record {
  inside = omega (arith, c.loop-left.invariant.inside);
  are = put_gate _ c.args.entries.now c.loop-left.left c.loop-left.gates.items c.index-gate.result.now c.entries.view_is
      (omega (arith, c.loop-left-test.true)) c.loop-left.invariant.inside c.index-gate.ensures
      c.if-number-ge1.true (omega (arith, c.if-number-count.true, c.len-count.ensures, c.entries.inside.rows.ok)) c.loop-left.invariant.are;
}

pub loop-left-preserved : goal.loop-left-preserved
loop-left-preserved c = record {
  inside = omega (arith, c.loop-left.invariant.inside);
  are = left_gate _ c.args.entries.now c.loop-left.left c.loop-left.gates.items c.index-gate.result.now c.entries.view_is
      (omega (arith, c.loop-left-test.true)) c.loop-left.invariant.inside c.index-gate.ensures
      (λ some within. elim c.else-number-ge1.branch [
        | else-number-ge1-via-then-number-ge1+else-number-count w ↦ omega (arith, within, c.len-count.ensures, c.entries.inside.rows.ok, w.if-number-count.false)
        | else-number-ge1-via-else-number-ge1 w ↦ omega (arith, some, w.if-number-ge1.false)
      ])
      c.loop-left.invariant.are;
}
