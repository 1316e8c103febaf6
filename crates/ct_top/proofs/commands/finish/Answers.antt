use Rattle.std.proofs.Common.{refl}
use Rattle.ct_commands.proofs.Endings.{at_once, due_by}
use Rattle.ct_top.proofs.Turning.{is_done}
use Rattle.ct_top.proofs.commands.finish.Goals as goal

pub returns-in-Audit : goal.returns-in-Audit
returns-in-Audit g c = λ name. rw c.in-Audit.is (at_once _ _ _ _ _ _ refl refl (is_done _ _ _ _ _ refl c.audit.ensures))

pub returns-in-Image : goal.returns-in-Image
returns-in-Image g c = λ name. rw c.in-Image.is (at_once _ _ _ _ _ _ refl refl (is_done _ _ _ _ _ refl c.write_image.ensures))

pub returns-in-Run : goal.returns-in-Run
returns-in-Run g c = λ name. rw c.in-Run.is c.run.ensures

pub returns-in-RunImage : goal.returns-in-RunImage
returns-in-RunImage g c = λ name. rw c.in-RunImage.is c.run-in-RunImage.ensures

pub returns-in-Why : goal.returns-in-Why
returns-in-Why g c = λ name. rw c.in-Why.is (at_once _ _ _ _ _ _ refl refl (due_by _ _ _ _ _ (λ t due. due) c.why.ensures))

pub returns-in-Upgrade : goal.returns-in-Upgrade
returns-in-Upgrade g c = λ name. rw c.in-Upgrade.is (at_once _ _ _ _ _ _ refl refl (is_done _ _ _ _ _ refl c.upgrade.ensures))

pub returns-in-Check : goal.returns-in-Check
returns-in-Check g c = λ name. rw c.in-Check.is c.check.ensures

pub returns-in-Demo : goal.returns-in-Demo
returns-in-Demo g c = λ name. rw c.in-Demo.is (at_once _ _ _ _ _ _ refl refl (is_done _ _ _ _ _ refl c.demonstrate.ensures))
