use Rattle.std.proofs.Common.{◌∙◌, sym, ap}
use Rattle.std.specs.Str.{bytes_eq}
use Rattle.ct_source.proofs.NamedRows.{named_here, named_later}
use Rattle.ct_source.proofs.tables.find.Goals as goal

pub returns-then-eq : goal.returns-then-eq
returns-then-eq g c =
    let same = sym (ap (bytes_eq c.args.name.now) c.as_bytes.ensures.value) ∙ sym c.eq.ensures ∙ c.if-eq.true in
    sym (named_here (λ row. row.0.now) (λ row. row.1) c.args.name.now c.args.table.now c.loop-known.known-index c.loop-known-item.result c.loop-known-test.true c.loop-known-item.is same) ∙ c.loop-known.invariant

pub loop-known-preserved : goal.loop-known-preserved
loop-known-preserved g c =
    let same = sym (ap (bytes_eq c.args.name.now) c.as_bytes.ensures.value) ∙ sym c.eq.ensures ∙ c.if-eq.false in
    sym (named_later (λ row. row.0.now) (λ row. row.1) c.args.name.now c.args.table.now c.loop-known.known-index c.loop-known-item.result c.loop-known-test.true c.loop-known-item.is same) ∙ c.loop-known.invariant
