use Rattle.std.proofs.Common.{◌≡◌, drop, nat_eq}
use Rattle.std.specs.List.{list_any}
use Rattle.ct_link_slots.proofs.rights.has_letter.Given as goal

abbrev pub invariant-loop-byte : goal.invariant-loop-byte
invariant-loop-byte l = list_any (nat_eq l.letter) (drop l.byte-index l.text) ≡ list_any (nat_eq l.letter) l.text
