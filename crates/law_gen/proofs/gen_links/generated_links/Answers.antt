use Rattle.law_gen.proofs.Faultless.{faultless}
use Rattle.law_desc.proofs.Lawfuls.{value_lawful}
use Rattle.def_gen.specs.Description.{firmware}
use Rattle.law_gen.proofs.Linking.{parts_of_seed, generated_links}
use Rattle.law_gen.proofs.Short as sources
use Rattle.law_gen.proofs.gen_links.generated_links.Goals as goal

pub returns-clause-well_formed : goal.returns-clause-well_formed
returns-clause-well_formed c = faultless

pub returns-clause-links : goal.returns-clause-links
returns-clause-links c = λ seed.
    (parts_of_seed seed, record { lawful = value_lawful (firmware seed) (faultless seed); linked = generated_links seed })

pub returns-clause-each : goal.returns-clause-each
returns-clause-each c = sources.each

pub returns-clause-short : goal.returns-clause-short
returns-clause-short c = sources.short
