use Rattle.law_boot.proofs.Making.{sentry_made}
use Rattle.law_boot.proofs.Own.{code_stands, globals_stand, slots_stand, library_slots_stand, stacks_stand}
use Rattle.law_boot.proofs.parts.makes_stand.Goals as goal

pub returns : goal.returns
returns c = record {
  code = code_stands;
  globals = globals_stand;
  slot = slots_stand;
  library_slot = library_slots_stand;
  stack = stacks_stand;
  sentry = sentry_made;
}
