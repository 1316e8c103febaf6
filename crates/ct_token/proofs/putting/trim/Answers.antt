use Rattle.std.proofs.Common.{◌≡◌, length, ap, ◌∙◌, arith, rules}
use Rattle.std.proofs.lemmas.Fn.{filter_same}
use Rattle.ct_token.specs.Kept.{is_kept, tokens_in}
use Rattle.ct_token.proofs.Kept.{kept_rows, left_stand, left_rise, left_size}
use Rattle.ct_token.proofs.putting.trim.Goals as goal

left : (c : goal.After-retain) → c.retain.new.self.items ≡ kept_rows c.args.rows.now.items
left c = filter_same _ is_kept _ (λ x b f' k. search rules) _ _ c.retain.ensures.filtered

pub returns-then-len-most-clause-rise : goal.returns-then-len-most-clause-rise
returns-then-len-most-clause-rise c = rw (left c) (left_rise c.args.rows.now.items c.requires.rise)

pub returns-then-len-most-clause-tokens : goal.returns-then-len-most-clause-tokens
returns-then-len-most-clause-tokens c = rw (left c) (left_stand c.args.rows.now.items)

pub returns-then-len-most-clause-few : goal.returns-then-len-most-clause-few
returns-then-len-most-clause-few c =
    let size : length c.retain.new.self.items ≡ length (tokens_in c.args.rows.now.items) = ap length (left c) ∙ left_size c.args.rows.now.items in
    grind (arith, size)
