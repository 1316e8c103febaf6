use Rattle.std.proofs.Common.{◌≡◌, ◌∷◌, take, map}
use Rattle.ct_entry.specs.declared.rows.Entry.{Entry}
use Rattle.ct_machine.proofs.starting.limits.Given as goal

-- those of the first entries
abbrev pub invariant-loop-row : goal.invariant-loop-row
invariant-loop-row l = l.all.items ≡ 0 ∷ map (λ (r : Entry). r.limit) (take l.row-index l.entries.rows)
