use Rattle.std.proofs.Common.{◌≡◌, map, take, string_bytes}
use Rattle.ct_top.proofs.dialogue.bytes_of.Given as goal

abbrev pub invariant-loop-text : goal.invariant-loop-text
invariant-loop-text l = map (λ b. b.items) l.all.items ≡ map string_bytes (take l.text-index l.texts)
