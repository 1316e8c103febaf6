use Rattle.std.proofs.Common.{◌≡◌, ◌+◌, ◌≤◌, ◌++◌, ◌∷◌, [], length}
use Rattle.ct_trace.proofs.Digits.{front}
use Rattle.ct_trace.proofs.numbers.add_hexadecimal.Given as goal

abbrev pub invariant-loop-place : goal.invariant-loop-place
invariant-loop-place l = record {
  bytes : l.line.bytes ≡ (l.fn.line.bytes ++ 32 ∷ []) ++ front l.digits l.place l.value;
  size : length l.line.bytes ≤ length l.fn.line.bytes + 1 + l.place;
}
