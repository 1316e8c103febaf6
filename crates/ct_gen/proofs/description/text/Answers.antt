use Rattle.def_gen.specs.Description.{description}
use Rattle.ct_gen.proofs.Plain.{firmware_plain, firmware_depth}
use Rattle.ct_gen.proofs.description.text.Goals as goal

pub returns-clause-text : goal.returns-clause-text
unfolding description
returns-clause-text c = (rw c.in_ok-value.ensures at c.in_ok-text.ensures.text) (firmware_plain c.args.number)

pub returns-clause-reads : goal.returns-clause-reads
returns-clause-reads c = (rw c.in_ok-value.ensures at c.in_ok-text.ensures.reads_back) (firmware_depth c.args.number)
