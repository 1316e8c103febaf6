use Rattle.std.proofs.Common.{refl, []}
use Rattle.ct_commands.proofs.Endings.{at_once, due_by, ends_by}
use Rattle.ct_top.proofs.Turning.{image_parts, image_fault}
use Rattle.ct_top.proofs.dialogue.of_image.Goals as goal

pub returns-in-Ok : goal.returns-in-Ok
returns-in-Ok g c = λ name. ends_by _ _ _ _ _ _ _ (λ more t due. image_parts _ _ _ more t c.in-Ok.ensures.accepted due) (c.finish.ensures name)

pub returns-in-Err : goal.returns-in-Err
returns-in-Err g c = λ name. at_once _ _ _ _ _ _ refl refl (due_by _ _ _ _ _ (λ t due. image_fault _ _ [] _ t c.in-Err.ensures.refused due) c.refuse_image.ensures)
