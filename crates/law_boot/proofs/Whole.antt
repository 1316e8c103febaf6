-- The image of a sound image's machine is partitioned.
use Rattle.def_confined.specs.Partitioned.{Partitioned}
use Rattle.def_image.specs.Parts.{PartsRow}
use Rattle.def_image.specs.Sound.{Sound}
use Rattle.def_boot.specs.Boot.{image_of}
use Rattle.law_boot.proofs.Booted as made
use Rattle.law_boot.proofs.Clauses as clauses
use Rattle.law_boot.proofs.Imports as imports
use Rattle.law_boot.proofs.Own as own
use Rattle.law_boot.proofs.Stacks as stacks
use Rattle.law_boot.proofs.Storing as storing
use Rattle.law_boot.proofs.Rooting.{boot_rooted, boot_away, boot_no_heap}
use Rattle.law_boot.proofs.Loading.{loads}

pub partitioned : (p : PartsRow) → Sound p → Partitioned (image_of p)
partitioned p s = record {
  stores = storing.into p s;
  carries = storing.carries p s;
  loads = loads p s;
  heap = stacks.heap p s;
  even = clauses.even p s;
  stack_home = stacks.stack_home p s;
  stack_span = stacks.stack_span p s;
  stacks_differ = own.stacks_differ p s;
  libraries = imports.libraries p s;
  quotas = clauses.quotas p s;
  calls = clauses.calls p s;
  keys = clauses.keys p s;
  executes = clauses.executes p s;
  runs_away = clauses.runs_away p s;
  forwards = clauses.forwards p s;
  disables = clauses.disables p s;
  made = made.made_stands p s;
  own_code = own.own_code p s;
  own_globals = own.own_globals p s;
  stacks_are = clauses.stacks_are p s;
  heap_small = clauses.heap_small p s;
  gates_small = own.gates_small p s;
  sentry = own.sentry p s;
  boot_rooted = boot_rooted p s;
  boot_away = boot_away p s;
  boot_no_heap = boot_no_heap p s;
}
