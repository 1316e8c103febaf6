use Rattle.std.proofs.Common.{◌*◌}
use Rattle.def_memory.specs.Ranges.{IsMarked}
use Rattle.ct_mem.proofs.plain.PlainMemory.mark.Given as goal

abbrev pub invariant-loop-i : goal.invariant-loop-i
invariant-loop-i l = IsMarked l.from (8 * l.i) l.on l.initial.self-inside.rows.items l.self-inside.rows.items
