use Rattle.law_assembly.proofs.Labelled.{label_placed, no_label}
use Rattle.law_assembly.proofs.Lengths.{have_sizes, one_size, text_sum, initial_sum}
use Rattle.law_assembly.proofs.source.labels_are_offsets.Goals as goal

pub returns-clause-label_some : goal.returns-clause-label_some
returns-clause-label_some c = label_placed

pub returns-clause-label_none : goal.returns-clause-label_none
returns-clause-label_none c = no_label

pub returns-clause-section_some : goal.returns-clause-section_some
returns-clause-section_some c = have_sizes

pub returns-clause-section_one : goal.returns-clause-section_one
returns-clause-section_one c = one_size

pub returns-clause-section_text : goal.returns-clause-section_text
returns-clause-section_text c = text_sum

pub returns-clause-section_initial : goal.returns-clause-section_initial
returns-clause-section_initial c = initial_sum
