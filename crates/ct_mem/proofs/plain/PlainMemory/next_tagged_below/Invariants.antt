use Rattle.std.proofs.Common.{ℕ, ◌≡◌, ◌*◌, ◌≤◌, ◌<◌, false}
use Rattle.def_memory.specs.Ranges.{is_tagged}
use Rattle.ct_mem.proofs.plain.PlainMemory.next_tagged_below.Given as goal

abbrev pub invariant-loop-i : goal.invariant-loop-i
invariant-loop-i l = (k : ℕ) → l.from ≤ 8 * k → k < l.i → is_tagged l.self-inside.rows.items k ≡ false
