use Rattle.std.proofs.Common.{◌∙◌, ap}
use Rattle.def_object.specs.Object.{slot_of}
use Rattle.ct_asm.proofs.FreshNames.{slot_found}
use Rattle.ct_asm.proofs.names.Names.slot.Goals as goal

pub returns : goal.returns
returns c = c.get_index_of.ensures.index ∙ slot_found (λ k. k.items) c.args.name.now c.self.inside.set.keys
    ∙ ap (λ ns. slot_of ns c.args.name.now) c.self.view_is
