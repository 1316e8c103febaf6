use Rattle.std.proofs.Common.{◌≡◌, ◌+◌, drop, not}
use Rattle.std.specs.List.{count_by}
use Rattle.std.specs.Int.{is_in_range}
use Rattle.ct_desc_value.proofs.limits.characters.Given as goal

abbrev pub invariant-loop-b : goal.invariant-loop-b
invariant-loop-b l = l.count + count_by (λ b. not (is_in_range 128 191 b)) (drop l.b-index l.text) ≡ count_by (λ b. not (is_in_range 128 191 b)) l.text
