use Rattle.std.proofs.Common.{◌≡◌, map, string_bytes}
use Rattle.std.specs.List.{range_with_len}
use Rattle.def_gen.specs.Numbers.{x_at}
use Rattle.def_gen.specs.Sources.{source}
use Rattle.ct_gen.proofs.sources.texts.Given as goal

abbrev pub invariant-loop-i : goal.invariant-loop-i
invariant-loop-i l = (l.x ≡ x_at l.number l.i) × (map string_bytes l.texts.items ≡ map (source l.number) (range_with_len 0 l.i))
