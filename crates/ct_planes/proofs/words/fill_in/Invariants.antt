use Rattle.std.proofs.Common.{◌*◌, ◌≤◌, List, Bool, length, min}
use Rattle.ct_planes.specs.Bits.{Spells}
use Rattle.ct_planes.specs.Fills.{filled}
use Rattle.ct_planes.proofs.words.fill_in.Given as goal

abbrev pub invariant-loop-n : goal.invariant-loop-n
invariant-loop-n l = (flags : List Bool) → Spells flags l.fn.words → l.to ≤ length flags → Spells (filled l.from (min l.to (64 * l.n)) l.on flags) l.words
