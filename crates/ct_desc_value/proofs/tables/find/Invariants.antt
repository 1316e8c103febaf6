use Rattle.std.proofs.Common.{◌≡◌, drop}
use Rattle.def_desc.specs.Members.{says}
use Rattle.ct_desc_value.proofs.tables.find.Given as goal

abbrev pub invariant-loop-word : goal.invariant-loop-word
invariant-loop-word g l = says (λ r. r.0.now) (λ r. r.1) l.name (drop l.word-index l.table) ≡ says (λ r. r.0.now) (λ r. r.1) l.name l.table
