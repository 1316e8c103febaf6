-- Keys seal and open only the types that are for keys.
use Rattle.std.proofs.Common.{◌≡◌, ◌≤◌, ◌⊎◌, inl, inr, true, false, refl, sym, ◌∙◌, arith}
use Rattle.law_lists.proofs.Tests.{bool_tells}
use Rattle.def_words.specs.declared.Cap.{Cap}
use Rattle.def_words.specs.Authority.{cap_base}
use Rattle.def_words.specs.Permissions.{bit, has, sealing, unsealing}
use Rattle.def_machine.specs.Image.{Image, root}
use Rattle.def_confined.specs.Capabilities.{Rooted, heap_cap}
use Rattle.def_confined.specs.Partitioned.{Partitioned}

objects_seal_not : bit 111 10 ≡ false
unfolding bit
objects_seal_not = refl

objects_open_not : bit 111 9 ≡ false
unfolding bit
objects_open_not = refl

pub key_above : (i : Image) (key : Cap) → Partitioned i → Rooted i key → (has key sealing ≡ true) ⊎ (has key unsealing ≡ true) → 13 ≤ cap_base key
key_above i key p r h = elim (bool_tells (heap_cap i key)) [
  | inl heap ↦ absurd (elim h [
    | inl s ↦ let clash : true ≡ false = sym (r.heap_rights heap sealing s) ∙ objects_seal_not in cc
    | inr u ↦ let clash : true ≡ false = sym (r.heap_rights heap unsealing u) ∙ objects_open_not in cc
  ])
  | inr other ↦
      let low = (r.range other).0 in
      let first : 13 ≤ (root i key.shadow.root).base = p.keys key.shadow.root r.from (elim h [ inl s ↦ inl (r.rights other sealing s) | inr u ↦ inr (r.rights other unsealing u) ]) in
      omega (arith, low, first)
]
