use Rattle.law_started.proofs.Deriving.{places_derived}
use Rattle.law_started.proofs.Entries.{entry_stands}
use Rattle.law_started.proofs.Grants.{listed_narrow}
use Rattle.law_started.proofs.Starting.{frames_bare, places_listed}
use Rattle.def_boot.specs.Boot.{boot_state}
use Rattle.def_boot.specs.Places.{cap_at}
use Rattle.law_started.proofs.boot_places.boots_listed.Goals as goal

pub returns : goal.returns
returns c = record {
  listed = places_listed;
  frames = frames_bare;
  derived = places_derived;
  narrow = λ p s x tagged. listed_narrow p s (cap_at (boot_state p) x) (places_listed p s x tagged);
  stands = entry_stands;
}
