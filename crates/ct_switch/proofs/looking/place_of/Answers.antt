use Rattle.std.proofs.Common.{ltb, ltb-true, ltb-false, arith, rules}
use Rattle.std.proofs.lemmas.List.Sorted.{IsPartitionPoint-from_clause, IsPartitionedBy-ltb}
use Rattle.ct_switch.proofs.looking.place_of.Goals as goal

pub returns-clause-before : goal.returns-clause-before
returns-clause-before c =
    let parted = IsPartitionedBy-ltb (λ gate. gate.entry) _ c.args.number c.requires in
    let point = IsPartitionPoint-from_clause (λ gate. ltb gate.entry c.args.number) _ _ c.partition_point.ensures.partitioned parted (λ a r q k. search rules) in
    λ k d h. ltb-true _ _ (point.0 k d (omega arith) h)

pub returns-clause-after : goal.returns-clause-after
returns-clause-after c =
    let parted = IsPartitionedBy-ltb (λ gate. gate.entry) _ c.args.number c.requires in
    let point = IsPartitionPoint-from_clause (λ gate. ltb gate.entry c.args.number) _ _ c.partition_point.ensures.partitioned parted (λ a r q k. search rules) in
    λ k d low high. ltb-false _ _ (point.1 k d low high)
