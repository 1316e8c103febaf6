use Rattle.std.proofs.Common.{sym, ap, ◌∙◌, subst, List}
use Rattle.ct_token.specs.declared.rows.Row.{Row}
use Rattle.ct_token.specs.Kept.{IsAt, IsGapFor}
use Rattle.def_step.specs.Quotas.{without_row}
use Rattle.ct_token.specs.Table.{Table}
use Rattle.ct_token.proofs.Kept.{rise_set, dropped, gap_dropped}
use Rattle.ct_token.proofs.tokens.Tokens.drop_row.Goals as goal

pub invariant_of-self : goal.invariant_of-self
invariant_of-self c =
    let found = subst (λ (l : List Row). IsAt l c.args.number c.in-Ok.at) c.deref.ensures.value c.in-Ok.ensures.found in
    (rise_set c.args.number _ c.self.inside.rows.items c.in-Ok.at found c.self.invariant.0, c.self.invariant.1)

pub returns-in-Ok-clause-rows : goal.returns-in-Ok-clause-rows
returns-in-Ok-clause-rows c =
    let found = subst (λ (l : List Row). IsAt l c.args.number c.in-Ok.at) c.deref.ensures.value c.in-Ok.ensures.found in
    dropped c.args.number c.self.inside.rows.items c.in-Ok.at c.self.invariant.0 found ∙ ap (λ (t : Table). without_row c.args.number t.rows) c.self.view_is

pub returns-in_default-clause-rows : goal.returns-in_default-clause-rows
returns-in_default-clause-rows c =
    let gap = subst (λ (l : List Row). IsGapFor l c.args.number c.in_default.field-0) c.deref.ensures.value c.in_default.ensures.absent in
    ap (λ (t : Table). t.rows) (sym c.self.view_is) ∙ gap_dropped c.args.number c.self.inside.rows.items c.in_default.field-0 gap ∙ ap (λ (t : Table). without_row c.args.number t.rows) c.self.view_is
