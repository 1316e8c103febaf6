use Rattle.std.proofs.Common.{ap, ◌∙◌, List}
use Rattle.std.specs.List.{list_any}
use Rattle.ct_token.specs.declared.rows.Row.{Row}
use Rattle.ct_token.specs.Kept.{is_key, standing_in}
use Rattle.def_step.specs.Tokens.{is_key_row}
use Rattle.ct_token.specs.Table.{Table}
use Rattle.ct_token.proofs.Kept.{is_key_told}
use Rattle.ct_token.proofs.tokens.Tokens.is_key.Goals as goal

pub returns : goal.returns
returns c =
    c.is_key.ensures ∙ ap is_key c.look_up.ensures ∙ ap (λ (l : List Row). is_key (standing_in l c.args.number)) c.deref.ensures.value
    ∙ is_key_told c.args.number c.self.inside.rows.items c.self.invariant.0
    ∙ ap (λ (t : Table). list_any (is_key_row c.args.number) t.rows) c.self.view_is
