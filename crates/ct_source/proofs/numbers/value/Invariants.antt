use Rattle.std.proofs.Common.{◌≡◌, ◌<◌, ◌^◌, drop}
use Rattle.def_source.specs.Source.{value_from}
use Rattle.ct_source.proofs.numbers.value.Given as goal

abbrev pub invariant-loop-c : goal.invariant-loop-c
invariant-loop-c l = record {
  whole : value_from l.base l.value (drop l.c-index l.digits) ≡ value_from l.base 0 l.digits;
  small : l.value < 2 ^ 128;
}
