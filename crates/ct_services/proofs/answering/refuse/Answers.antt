use Rattle.ct_services.proofs.answering.refuse.Goals as goal

pub returns : goal.returns
returns g c = rw c.code.ensures at c.tell.ensures
