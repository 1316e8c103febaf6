use Rattle.std.proofs.Common.{◌≡◌, drop, map, string_bytes}
use Rattle.def_report.specs.Rights.{with_right_names}
use Rattle.ct_report.proofs.rights.add_names.Given as goal

abbrev pub invariant-loop-name : goal.invariant-loop-name
invariant-loop-name l = with_right_names (string_bytes l.text) l.left (map (λ n. n.now) (drop l.name-index l.names)) ≡ with_right_names (string_bytes l.fn.text) l.rights (map (λ n. n.now) l.names)
