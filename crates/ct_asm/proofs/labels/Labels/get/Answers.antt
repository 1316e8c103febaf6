use Rattle.std.proofs.Common.{◌∙◌, ap}
use Rattle.ct_asm.specs.Labels.{label_named}
use Rattle.ct_asm.proofs.LabelTables.{looked_up}
use Rattle.ct_asm.proofs.labels.Labels.get.Goals as goal

pub returns : goal.returns
returns c = c.copied.ensures ∙ c.get.ensures.value ∙ looked_up (λ k. k.items) c.args.name.now c.self.inside.table.entries ∙ ap (label_named c.args.name.now) c.self.view_is
