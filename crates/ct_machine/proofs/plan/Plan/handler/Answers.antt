use Rattle.std.proofs.Common.{ℕ, List, ap, ◌∙◌, slice_index_or}
use Rattle.def_machine.specs.Image as machine
use Rattle.def_machine.specs.Image.{handler_entry}
use Rattle.ct_machine.proofs.plan.Plan.handler.Goals as goal

pub returns : goal.returns
returns c =
    c.number_of.ensures
    ∙ ap (λ (ns : List ℕ). slice_index_or ns c.args.compartment 0) c.as_slice.ensures.value
    ∙ ap (λ (ns : List ℕ). slice_index_or ns c.args.compartment 0) c.self.invariant.handlers_are
    ∙ ap (λ (i : machine.Image). handler_entry i c.args.compartment) c.self.view_is
