use Rattle.std.proofs.Common.{refl}
use Rattle.std.proofs.lemmas.Str.{IsUtf8-string_bytes}
use Rattle.def_gen.specs.Description.{firmware}
use Rattle.law_gen.proofs.Faultless.{faultless}
use Rattle.ct_gen.proofs.generate.Goals as goal

pub returns-clause-well_formed : goal.returns-clause-well_formed
returns-clause-well_formed c =
    (firmware c.args.number, ((IsUtf8-string_bytes c.in_ok-description.description, c.in_ok-description.ensures.reads), faultless c.args.number, refl))
