use Rattle.std.proofs.Common.{◌≡◌, ℕ, List, ◌++◌, drop}
use Rattle.sha2.specs.Hashers.{Holds256}
use Rattle.ct_source.specs.Views.{statements_view}
use Rattle.ct_asm.specs.Labels.{label_lines}
use Rattle.ct_asm.proofs.keying.key_of_labels.Given as goal

abbrev pub invariant-loop-s : goal.invariant-loop-s
invariant-loop-s l = (m : List ℕ) × Holds256 l.hasher m
    × (m ++ label_lines (statements_view (drop l.s-index l.statements)) ≡ label_lines (statements_view l.statements))
