-- What a command's files stand for is faultless, so sound, and all that a sound image's machine tells is licensed.
use Rattle.std.proofs.Common.{ℕ, Bool, true, false, List, [], ◌∷◌, Option, Some, None}
use Rattle.def_boot.specs.Boot.{booted_machine, image_of}
use Rattle.def_image.specs.Accepted.{IsFaultless}
use Rattle.def_image.specs.Parts.{PartsRow}
use Rattle.def_image.specs.Sound.{Sound}
use Rattle.def_program.specs.Commands.{Command, Audit, Image, Run, RunImage, Why, Upgrade, Check, Demo, generated_by, reads_image}
use Rattle.def_program.specs.Licences.{TellsLicensed, IsLicensedCommand, FirstStandsFor, FilesStandFor, NumberStandsFor, StandBy, StandFor}
use Rattle.def_program.specs.Runs.{events_until}
use Rattle.law_accepted.proofs.Running.{all_licensed}
use Rattle.law_image.proofs.Sounds.{sound}
use Rattle.law_link.proofs.Whole.{faultless}
use Rattle.law_desc.proofs.Lawfuls.{bytes_lawful, value_lawful}
use Rattle.def_desc.specs.Reading.{description_of}
use Rattle.def_gen.specs.Description.{firmware}
use Rattle.def_gen.specs.Sources as texts
use Rattle.law_gen.proofs.Faultless as generated
use Rattle.def_program.specs.declared.TheConstants.{DEMO_STEPS}

first_faultless : (image : Bool) (bytes : List ℕ) (sources : List (List ℕ)) (p : PartsRow) → FirstStandsFor image bytes sources p → IsFaultless p
first_faultless true bytes sources p i = i.0
first_faultless false bytes sources p l = faultless l.description sources p (record { lawful = bytes_lawful bytes l.description l.well; linked = l.links })

files_faultless : (image : Bool) (files : List (List ℕ)) (p : PartsRow) → FilesStandFor image files p → IsFaultless p
files_faultless image [] p s = absurd s
files_faultless image (bytes ∷ more) p s = first_faultless image bytes more p s

number_faultless : (number : ℕ) (p : PartsRow) → NumberStandsFor number p → IsFaultless p
number_faultless number p s =
    faultless (description_of (firmware number)) (texts.sources number) p (record { lawful = value_lawful (firmware number) (generated.faultless number); linked = s })

by_faultless : (o : Option ℕ) (image : Bool) (files : List (List ℕ)) (p : PartsRow) → StandBy o image files p → IsFaultless p
by_faultless None image files p s = files_faultless image files p s
by_faultless (Some number) image files p s = number_faultless number p s

pub stands_faultless : (c : Command) (files : List (List ℕ)) (p : PartsRow) → StandFor c files p → IsFaultless p
stands_faultless c files p s = by_faultless (generated_by c) (reads_image c) files p s

pub stands_sound : (c : Command) (files : List (List ℕ)) (p : PartsRow) → StandFor c files p → Sound p
stands_sound c files p s = sound p (stands_faultless c files p s)

tells : (p : PartsRow) (limit : ℕ) → Sound p → TellsLicensed p (booted_machine p) limit
unfolding image_of
tells p limit f = λ script. all_licensed p (events_until (booted_machine p) script p.quantum limit) f

pub command_licensed : (c : Command) (p : PartsRow) → Sound p → IsLicensedCommand c p
command_licensed (Audit name) p f = tt
command_licensed (Image name) p f = tt
command_licensed (Run name limit script) p f = tells p limit f
command_licensed (RunImage name limit script) p f = tells p limit f
command_licensed (Why name owner compartment) p f = tt
command_licensed (Upgrade name) p f = tt
command_licensed (Check name policy) p f = tt
command_licensed (Demo number) p f = tells p DEMO_STEPS f
