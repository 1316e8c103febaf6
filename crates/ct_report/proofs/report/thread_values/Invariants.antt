use Rattle.std.proofs.Common.{◌≡◌, map, take, drop}
use Rattle.std.specs.List.{AllByRecursion}
use Rattle.serde_json.specs.View.{view}
use Rattle.def_image.specs.Sound.{ThreadFits}
use Rattle.def_report.specs.Report.{thread_data}
use Rattle.ct_report.proofs.report.thread_values.Given as goal

abbrev pub invariant-loop-thread : goal.invariant-loop-thread
invariant-loop-thread l = (map view l.values.items ≡ map (thread_data l.parts) (take l.thread-index l.threads))
    × AllByRecursion (ThreadFits l.parts) (drop l.thread-index l.threads)
