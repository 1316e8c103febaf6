use Rattle.std.proofs.Common.{ap, sym, ◌∙◌, subst}
use Rattle.def_chunks.specs.declared.rows.Head.{Head}
use Rattle.ct_chunks.proofs.Painting.{quarantined_stands, paints_it, paints_none}
use Rattle.def_chunks.specs.Gaps.{UsedStands}
use Rattle.ct_chunks.proofs.states.paint_chunk.Goals as goal

pub set_state-requires-clause-stands : goal.set_state-requires-clause-stands
set_state-requires-clause-stands g c =
    subst (λ (h : Head). UsedStands c.args.range.now (g.M.Memory.granules c.args.mem.now) c.args.at h.size h.rest) (sym c.chunk_head-head.ensures) (quarantined_stands c.args.range.now (g.M.Memory.granules c.args.mem.now) c.args.at c.requires.stands c.requires.tiled (sym (ap (λ (h : Head). h.state) c.chunk_head-head.ensures) ∙ c.if-head-eq-QUARANTINED.true))

pub returns-then-head-eq-QUARANTINED-clause-chunks : goal.returns-then-head-eq-QUARANTINED-clause-chunks
returns-then-head-eq-QUARANTINED-clause-chunks g c =
    (paints_it c.args.range.now (g.M.Memory.granules c.args.mem.now) (g.M.Memory.granules c.set_state.new.mem) c.args.at c.requires.tiled c.requires.stands (sym (ap (λ (h : Head). h.state) c.chunk_head-head.ensures) ∙ c.if-head-eq-QUARANTINED.true) c.set_state.ensures.tiled c.set_state.ensures.chunks c.set_state.ensures.keeps).chunks_are

pub returns-else-head-eq-QUARANTINED-clause-chunks : goal.returns-else-head-eq-QUARANTINED-clause-chunks
returns-else-head-eq-QUARANTINED-clause-chunks g c =
    (paints_none c.args.range.now (g.M.Memory.granules c.args.mem.now) c.args.at c.requires.tiled c.requires.stands (λ e. c.if-head-eq-QUARANTINED.false (ap (λ (h : Head). h.state) c.chunk_head-head.ensures ∙ e))).chunks_are
