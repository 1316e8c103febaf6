use Rattle.law_events.proofs.Cleans.{enters_clean, back_clean, value_clean, unwind_clean}
use Rattle.law_events.proofs.natives.routines_clean.Goals as goal

pub returns : goal.returns
returns c = record { call = enters_clean; back = back_clean; value = value_clean; unwind = unwind_clean }
