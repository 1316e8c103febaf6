use Rattle.std.proofs.Common.{◌≡◌, ◌+◌, take}
use Rattle.def_link.specs.Owners.{numbered}
use Rattle.ct_link.proofs.Parts.{thread_in}
use Rattle.ct_link.proofs.objects.thread_parts.Given as goal

abbrev pub invariant-loop-thread : goal.invariant-loop-thread
invariant-loop-thread l =
    (l.at ≡ l.first + l.thread-index)
    × (l.parts.items ≡ numbered (thread_in l.desc l.regions) l.first (take l.thread-index l.threads))
