use Rattle.std.proofs.Common.{◌+◌, ◌-◌, List, take, drop, ap, ◌∙◌}
use Rattle.def_script.specs.declared.Given.{Given}
use Rattle.ct_script.specs.Lines.{LinesRow, AreLines, IsFirstFrom}
use Rattle.ct_script.proofs.Windows.{found}
use Rattle.ct_script.proofs.reading.Lines.given_at.Goals as goal

pub returns : goal.returns
returns c =
    let l : LinesRow = record { steps = c.self.inside.steps.items; givens = c.self.inside.givens.items } in
    let lines : AreLines l = rw (← c.self.view_is) at c.requires in
    let low : IsFirstFrom l.steps c.args.step c.first_from-from.result = rw c.deref.ensures.value at c.first_from-from.ensures in
    let high : IsFirstFrom l.steps (c.args.step + 1) c.first_from-to.result = rw c.deref-2.ensures.value at c.first_from-to.ensures in
    rw (← c.self.view_is) (ap (λ (gs : List Given). take (c.first_from-to.result - c.first_from-from.result) (drop c.first_from-from.result gs)) c.deref-3.ensures.value ∙ found l c.args.step c.first_from-from.result c.first_from-to.result lines low high)
