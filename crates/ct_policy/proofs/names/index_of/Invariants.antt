use Rattle.std.proofs.Common.{◌≡◌, ◌+◌, drop}
use Rattle.std.specs.List.{position_or_len}
use Rattle.std.specs.Str.{bytes_eq}
use Rattle.ct_policy.proofs.names.index_of.Given as goal

abbrev pub invariant-loop-index : goal.invariant-loop-index
invariant-loop-index g l =
    l.index + position_or_len (λ x. bytes_eq l.name (g.T.Named.name_of x)) (drop l.index l.all)
    ≡ position_or_len (λ x. bytes_eq l.name (g.T.Named.name_of x)) l.all
