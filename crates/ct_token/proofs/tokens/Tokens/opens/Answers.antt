use Rattle.std.proofs.Common.{ap, ◌∙◌, ◌&&◌, ◌≡◌, true, sym, List}
use Rattle.std.specs.List.{list_any}
use Rattle.ct_token.specs.declared.rows.Row.{Row}
use Rattle.ct_token.specs.Kept.{is_token_of, standing_in}
use Rattle.def_step.specs.Tokens.{is_key_row, is_row_of}
use Rattle.ct_token.specs.Table.{Table}
use Rattle.ct_token.proofs.Kept.{is_token_of_told}
use Rattle.ct_token.proofs.tokens.Tokens.opens.Goals as goal

pub returns-then-is_key : goal.returns-then-is_key
returns-then-is_key c =
    let yes : true ≡ list_any (is_key_row c.args.key) c.args.self.now.rows = sym c.if-is_key.true ∙ c.is_key.ensures in
    c.is_token_of.ensures ∙ ap (λ t. is_token_of t c.args.key) c.look_up.ensures ∙ ap (λ (l : List Row). is_token_of (standing_in l c.args.token) c.args.key) c.deref.ensures.value
    ∙ is_token_of_told c.args.key c.args.token c.self.inside.rows.items c.self.invariant.0
    ∙ ap (λ (t : Table). list_any (is_row_of c.args.key c.args.token) t.rows) c.self.view_is
    ∙ ap (λ b. b && list_any (is_row_of c.args.key c.args.token) c.args.self.now.rows) yes
