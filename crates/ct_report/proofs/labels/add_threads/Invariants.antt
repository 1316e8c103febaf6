use Rattle.std.proofs.Common.{◌≡◌, ◌++◌, drop, map}
use Rattle.def_image.specs.Parts.{ThreadRow}
use Rattle.def_report.specs.Labels.{owner_label as owned_of}
use Rattle.ct_report.specs.Shown.{shown}
use Rattle.ct_report.proofs.labels.add_threads.Given as goal

abbrev pub invariant-loop-thread : goal.invariant-loop-thread
invariant-loop-thread l = shown l.labels.items ++ map (λ (t : ThreadRow). owned_of t.name) (drop l.thread-index l.threads) ≡ shown l.fn.labels.items ++ map (λ (t : ThreadRow). owned_of t.name) l.threads
