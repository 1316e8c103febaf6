use Rattle.std.proofs.Common.{◌≡◌, ◌++◌, [], ◌∷◌, drop}
use Rattle.def_boot.specs.Entries.{stack_row, rows_from}
use Rattle.ct_entries.proofs.owners.add_threads.Given as goal

abbrev pub invariant-loop-index : goal.invariant-loop-index
invariant-loop-index l = l.rows.items ++ rows_from (λ t x. stack_row t x ∷ []) l.index (drop l.index l.threads) ≡ l.fn.rows.items ++ rows_from (λ t x. stack_row t x ∷ []) 0 l.threads
