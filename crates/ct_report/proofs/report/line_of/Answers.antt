use Rattle.std.proofs.Common.{string_bytes, [], ◌∷◌, ◌++◌, ap, ◌∙◌, lit<}
use Rattle.ct_report.proofs.Plain.{report_plain}
use Rattle.ct_report.proofs.report.line_of.Goals as goal

pub returns : goal.returns
returns c =
    let text = (rw c.in_ok-value.ensures at c.in_ok-text.ensures.text) (report_plain c.args.parts.now c.args.entries.now) in
    c.in_ok-push.ensures.bytes ∙ ap (λ t. string_bytes c.in_ok-text.text ++ t) (c.in_ok-push.ensures.ascii (lit< tt)) ∙ ap (λ t. t ++ 10 ∷ []) text
