use Rattle.std.proofs.Common.{◌∙◌, refl, sym}
use Rattle.ct_engine.proofs.Whole.{row_at, row_lies, noted_turn, turn_holds, turn_stays}
use Rattle.ct_engine.proofs.turns.put_away.Goals as goal

pub stop_row-requires : goal.stop_row-requires
stop_row-requires g c =
    (row_lies (row_at c.requires.holds c.requires.there c.index_mut.ensures.value c.index.ensures c.if-index.true)).kept

pub returns-then-index-clause-holds : goal.returns-then-index-clause-holds
returns-then-index-clause-holds g c =
    let w = row_at c.requires.holds c.requires.there c.index_mut.ensures.value c.index.ensures c.if-index.true in
    let did = c.stop_row.ensures in
    turn_holds (noted_turn w did.touches did.area did.kept c.args.rows.now.running (sym c.runs.ensures ∙ c.if-runs.false) (λ u no_. refl))

pub returns-then-index-clause-seen : goal.returns-then-index-clause-seen
returns-then-index-clause-seen g c =
    let w = row_at c.requires.holds c.requires.there c.index_mut.ensures.value c.index.ensures c.if-index.true in
    let did = c.stop_row.ensures in
    turn_stays (noted_turn w did.touches did.area did.kept c.args.rows.now.running (sym c.runs.ensures ∙ c.if-runs.false) (λ u no_. refl))
    did.thread
