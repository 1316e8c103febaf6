use Rattle.std.proofs.Common.{◌≡◌, drop}
use Rattle.def_source.specs.Source.{first_named}
use Rattle.ct_source.proofs.tables.find.Given as goal

abbrev pub invariant-loop-known : goal.invariant-loop-known
invariant-loop-known g l = first_named (λ row. row.0.now) (λ row. row.1) l.name (drop l.known-index l.table) ≡ first_named (λ row. row.0.now) (λ row. row.1) l.name l.table
