use Rattle.std.proofs.Common.{◌≡◌, ◌++◌, drop, map, string_bytes}
use Rattle.def_policy.specs.Names.{name_of}
use Rattle.def_policy.specs.Rules.{spaced_words}
use Rattle.ct_policy.proofs.names.add_names.Given as goal

abbrev pub invariant-loop-owner : goal.invariant-loop-owner
invariant-loop-owner l =
    string_bytes l.text ++ spaced_words (map (name_of l.parts) (drop l.owner-index l.owners)) ≡ string_bytes l.fn.text ++ spaced_words (map (name_of l.parts) l.owners)
