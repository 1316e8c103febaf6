-- The table of keys and tokens beside the heap: another one of as much room keeps all that is kept.
use Rattle.std.proofs.Common.{◌≡◌, List, ap, ◌∙◌}
use Rattle.def_memory.specs.declared.Granule.{Granule}
use Rattle.ct_token.specs.Table.{Table}
use Rattle.ct_engine.specs.declared.rows.Rows.{Rows}
use Rattle.ct_engine.specs.Seen.{EngineRow, engine_view}
use Rattle.ct_engine.specs.Kept.{IsEngine}

-- these rows, with this table
abbrev pub with_table : Rows → Table → Rows
with_table rows k = record rows { tokens = k }

pub table_holds : (gs : List Granule) (rows : Rows) (k : Table) → IsEngine gs rows → k.room ≡ rows.tokens.room → IsEngine gs (with_table rows k)
table_holds gs rows k holds same = record { areas = holds.areas; runs = holds.runs; sizes = holds.sizes; alone = holds.alone; stacks = holds.stacks; heap = holds.heap; room = same ∙ holds.room }

pub tokens_seen : (gs : List Granule) (rows : Rows) (s : EngineRow) → engine_view gs rows ≡ s → rows.tokens.rows ≡ s.state.tokens
tokens_seen gs rows s is = ap (λ (x : EngineRow). x.state.tokens) is
