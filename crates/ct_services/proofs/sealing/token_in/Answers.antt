use Rattle.std.proofs.Common.{◌∙◌, true, false, refl, sym, ap}
use Rattle.std.specs.List.{list_any}
use Rattle.std.proofs.lemmas.Bool.{and_parts}
use Rattle.def_step.specs.Tokens.{is_key_row, is_row_of}
use Rattle.ct_heap.specs.Lookups.{found_as}
use Rattle.ct_services.proofs.Sealed.{found_token, none_found}
use Rattle.ct_services.proofs.sealing.token_in.Goals as goal

pub returns-then-opens : goal.returns-then-opens
returns-then-opens g c =
    let s = c.args.engine.now.state in
    let row = and_parts (list_any (is_key_row c.args.key) s.tokens)
    (list_any (is_row_of c.args.key c.in-Some.found.object.number) s.tokens) (sym c.opens.ensures ∙ c.if-opens.true) in
    c.in-Some.ensures ∙ ap (found_as s.objects) (sym (found_token _ _ _ s.tokens c.args.key true c.in-Some.ensures row.1))

pub returns-else-opens : goal.returns-else-opens
returns-else-opens g c =
    let s = c.args.engine.now.state in
    let row = rw c.requires at (sym c.opens.ensures ∙ c.if-opens.false) in
    rw (found_token _ _ _ s.tokens c.args.key false c.in-Some.ensures row) refl

pub returns-in-None : goal.returns-in-None
returns-in-None g c = rw (none_found _ _ c.in-None.ensures) refl
