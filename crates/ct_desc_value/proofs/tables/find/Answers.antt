use Rattle.std.proofs.Common.{◌≡◌, ◌∙◌, true, false, sym}
use Rattle.std.specs.Prelude.{bytes_eq}
use Rattle.ct_desc_value.proofs.NamedRows.{named_here, named_later}
use Rattle.ct_desc_value.proofs.tables.find.Goals as goal

pub returns-then-eq : goal.returns-then-eq
returns-then-eq g c =
    let same : bytes_eq c.args.name.now c.loop-word-item.result.0.now ≡ true = cc in
    sym (named_here (λ row. row.0.now) (λ row. row.1) c.args.name.now c.args.table.now c.loop-word.word-index c.loop-word-item.result c.loop-word-test.true c.loop-word-item.is same) ∙ c.loop-word.invariant

pub loop-word-preserved : goal.loop-word-preserved
loop-word-preserved g c =
    let other : bytes_eq c.args.name.now c.loop-word-item.result.0.now ≡ false = cc in
    sym (named_later (λ row. row.0.now) (λ row. row.1) c.args.name.now c.args.table.now c.loop-word.word-index c.loop-word-item.result c.loop-word-test.true c.loop-word-item.is other) ∙ c.loop-word.invariant
