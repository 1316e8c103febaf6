use Rattle.std.proofs.Common.{refl}
use Rattle.law_assembly.proofs.Pieces.{leads_to}
use Rattle.law_assembly.proofs.Loading.{text_leads, global_leads, slot_leads}
use Rattle.law_assembly.proofs.ways_lead_there.Goals as goal

pub returns-clause-between : goal.returns-clause-between
returns-clause-between c = leads_to

pub returns-clause-text : goal.returns-clause-text
returns-clause-text c = text_leads

pub returns-clause-global : goal.returns-clause-global
returns-clause-global c = global_leads

pub returns-clause-slot : goal.returns-clause-slot
returns-clause-slot c = slot_leads

pub returns-clause-import : goal.returns-clause-import
returns-clause-import c = λ slots at rd name. refl
