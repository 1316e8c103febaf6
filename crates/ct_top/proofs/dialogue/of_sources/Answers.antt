use Rattle.std.proofs.Common.{refl, []}
use Rattle.def_link.specs.Linked.{linked}
use Rattle.ct_commands.proofs.Endings.{at_once, due_by, ends_by}
use Rattle.ct_commands.specs.Forms.{command_for}
use Rattle.ct_top.proofs.Turning.{linked_parts, link_fault}
use Rattle.ct_top.proofs.dialogue.of_sources.Goals as goal

pub returns-in-Ok : goal.returns-in-Ok
returns-in-Ok g c = λ name. ends_by _ _ _ _ _ _ _
    (λ more t due. linked_parts (command_for name c.args.task) c.args.desc.now (linked c.args.desc.now c.args.sources.now) _ more t c.in-Ok.ensures.linked due) (c.finish.ensures name)

pub returns-in-Err : goal.returns-in-Err
returns-in-Err g c = λ name. at_once _ _ _ _ _ _ refl refl (due_by _ _ _ _ _
    (λ t due. link_fault (command_for name c.args.task) c.args.desc.now (linked c.args.desc.now c.args.sources.now) _ [] t c.in-Err.ensures.refused due) c.refuse_link.ensures)
