use Rattle.std.proofs.Common.{◌-◌, length, string_bytes}
use Rattle.ct_policy.proofs.Judged.{Walks}
use Rattle.ct_policy.proofs.judging.add_linked.Given as goal

abbrev pub invariant-loop-place : goal.invariant-loop-place
invariant-loop-place l = Walks l.entries l.ruling l.links l.key l.line (string_bytes l.fn.text) l.place l.sum (string_bytes l.text)

abbrev pub decreases-loop-place : goal.decreases-loop-place
decreases-loop-place l = length l.entries.rows - l.place
