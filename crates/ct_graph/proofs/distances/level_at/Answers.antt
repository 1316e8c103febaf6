use Rattle.std.proofs.Common.{◌≡◌, ◌∙◌, sym, arith, nat_eq, length, map, slice_index_or, List, Bool, true, false}
use Rattle.std.proofs.lemmas.List.{length-map}
use Rattle.ct_graph.specs.Cells.{cell}
use Rattle.ct_graph.proofs.Lists.{goes_inside}
use Rattle.ct_graph.proofs.Levels.{at_place, off_place, level_skips, level_goes}
use Rattle.ct_graph.proofs.distances.level_at.Goals as goal

pub returns-then-not-is_at-clause-level : goal.returns-then-not-is_at-clause-level
returns-then-not-is_at-clause-level c b h =
    let test : nat_eq (slice_index_or c.args.far.now.items c.args.place (length c.args.far.now.items)) c.args.near ≡ false = rw c.as_slice.ensures.value at (sym c.is_at.ensures ∙ c.if-not-is_at.true) in
    level_skips _ (length c.args.rows.now) b c.args.near c.args.place c.args.far.now.items h (off_place c.args.far.now.items (length c.args.rows.now) c.args.near c.args.place c.requires.size test)

pub returns-clause-level : goal.returns-clause-level
returns-clause-level c b h =
    let rows : List (List Bool) = map (λ r. r.items) c.args.rows.now in
    let size : length rows ≡ length c.args.rows.now = length-map c.args.rows.now (λ r. r.items) in
    let test : nat_eq (slice_index_or c.args.far.now.items c.args.place (length c.args.far.now.items)) c.args.near ≡ true = rw c.as_slice.ensures.value at (sym c.is_at.ensures ∙ c.if-not-is_at.false) in
    level_goes (cell rows) (length c.args.rows.now) b c.args.near c.args.place c.args.far.now.items c.spread.new.far.items (λ v x goes. omega (arith, goes_inside rows v x goes, size)) c.requires.near h
    (c.spread.ensures.spreads b h.relaxed (at_place c.args.far.now.items (length c.args.rows.now) c.args.near c.args.place c.requires.size test))
