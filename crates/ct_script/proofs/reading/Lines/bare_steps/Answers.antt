use Rattle.std.proofs.Common.{ℕ}
use Rattle.ct_script.specs.Lines.{LinesRow, AreLines, IsGap}
use Rattle.ct_script.proofs.Windows.{gap_bare, gap_given}
use Rattle.ct_script.proofs.reading.Lines.bare_steps.Goals as goal

pub returns-clause-none : goal.returns-clause-none
returns-clause-none c =
    let l : LinesRow = record { steps = c.self.inside.steps.items; givens = c.self.inside.givens.items } in
    let lines : AreLines l = rw (← c.self.view_is) at c.requires in
    let gap : IsGap l.steps c.args.from c.args.most c.gap_from.result = rw c.deref.ensures.value at c.gap_from.ensures in
    rw (← c.self.view_is) (gap_bare l c.args.from c.args.most c.gap_from.result lines gap)

pub returns-clause-next : goal.returns-clause-next
returns-clause-next c =
    let l : LinesRow = record { steps = c.self.inside.steps.items; givens = c.self.inside.givens.items } in
    let lines : AreLines l = rw (← c.self.view_is) at c.requires in
    let gap : IsGap l.steps c.args.from c.args.most c.gap_from.result = rw c.deref.ensures.value at c.gap_from.ensures in
    rw (← c.self.view_is) (gap_given l c.args.from c.args.most c.gap_from.result lines gap)
