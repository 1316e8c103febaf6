use Rattle.std.proofs.Common.{rules}
use Rattle.std.proofs.lemmas.List.Sorted.{answers_always}
use Rattle.ct_token.specs.declared.rows.Row.{Row}
use Rattle.ct_token.proofs.Found.{searched}
use Rattle.ct_token.proofs.finding.find.Goals as goal

pub returns : goal.returns
returns c =
    let facts = c.binary_search_by_key.ensures in
    let by_key = facts.position (λ (row : Row). row.number) (answers_always _ _ _ (λ f a r g called. search rules)) in
    searched _ c.requires c.args.number _ facts.bound by_key
