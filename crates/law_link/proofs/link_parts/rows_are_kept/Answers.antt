use Rattle.law_link.proofs.Placed.{names_are, slots_are, library_names_are, library_slots_are}
use Rattle.law_link.proofs.link_parts.rows_are_kept.Goals as goal

pub returns-clause-compartments : goal.returns-clause-compartments
returns-clause-compartments c = names_are

pub returns-clause-slots : goal.returns-clause-slots
returns-clause-slots c = slots_are

pub returns-clause-libraries : goal.returns-clause-libraries
returns-clause-libraries c = library_names_are

pub returns-clause-library_slots : goal.returns-clause-library_slots
returns-clause-library_slots c = library_slots_are
