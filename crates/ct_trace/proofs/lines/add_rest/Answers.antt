use Rattle.std.proofs.Common.{ℕ, List, ◌++◌, ap, ◌∙◌}
use Rattle.std.specs.Prelude.{codes}
use Rattle.def_trace.specs.Trace.{word_then_number}
use Rattle.ct_trace.proofs.Joins.{three}
use Rattle.ct_trace.proofs.lines.add_rest.Goals as goal

pub returns-clause-bytes : goal.returns-clause-bytes
returns-clause-bytes c =
    let first : List ℕ = word_then_number (codes " allocations ") c.args.totals.now.allocations in
    let second : List ℕ = word_then_number (codes " frees ") c.args.totals.now.frees in
    let third : List ℕ = word_then_number (codes " traps ") c.args.totals.now.traps in
    c.add_after-3.ensures.bytes
    ∙ ap (λ t. t ++ third) (c.add_after-2.ensures.bytes ∙ ap (λ t. t ++ second) c.add_after.ensures.bytes)
    ∙ three c.args.line.now.bytes first second third
