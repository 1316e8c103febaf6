use Rattle.std.proofs.Common.{◌*◌}
use Rattle.def_memory.specs.Ranges.{IsZeroed}
use Rattle.ct_mem.proofs.plain.PlainMemory.zero.Given as goal

abbrev pub invariant-loop-i : goal.invariant-loop-i
invariant-loop-i l = IsZeroed l.from (8 * l.i) l.initial.self-inside.rows.items l.self-inside.rows.items
