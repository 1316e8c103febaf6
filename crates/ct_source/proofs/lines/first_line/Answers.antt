use Rattle.std.proofs.Common.{rules, sym, ap, ◌∙◌, ◌∷◌}
use Rattle.def_source.specs.Source.{lines_of}
use Rattle.ct_source.proofs.LineEnds.{first_of_lines, last_of_lines}
use Rattle.ct_source.proofs.lines.first_line.Goals as goal

pub returns-then-is_empty-clause-lines : goal.returns-then-is_empty-clause-lines
returns-then-is_empty-clause-lines c = last_of_lines c.args.text.now _ _ c.length_before.result c.requires c.length_before.ensures.value c.split_at.ensures.front c.split_at.ensures.back (search rules)

pub returns-clause-lines : goal.returns-clause-lines
returns-clause-lines c = first_of_lines c.args.text.now _ _ c.length_before.result c.requires c.length_before.ensures.value c.split_at.ensures.front c.split_at.ensures.back ∙ ap (λ ls. c.split_at.result.0.now ∷ lines_of ls) (sym c.split_at-2.ensures.back)
