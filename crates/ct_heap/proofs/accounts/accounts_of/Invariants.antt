use Rattle.std.proofs.Common.{◌≡◌, take}
use Rattle.ct_heap.specs.Effects.{accounts_for}
use Rattle.ct_heap.proofs.accounts.accounts_of.Given as goal

abbrev pub invariant-loop-limit : goal.invariant-loop-limit
invariant-loop-limit l = l.accounts.items ≡ accounts_for (take l.limit-index l.limits)
