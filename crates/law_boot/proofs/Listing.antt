-- Each entry number is one of the cases.
use Rattle.std.proofs.Common.{ℕ, zero, suc, ◌≡◌, ◌+◌, ◌-◌, ◌≤◌, ◌<◌, inl, inr, [], ◌∷◌, ◌++◌, length, Some, None, slice_get, refl, ap, ◌∙◌, arith, length-append}
use Rattle.std.proofs.lemmas.Option.{slice_get_past}
use Rattle.law_lists.proofs.Tests.{lt_tells}
use Rattle.law_lists.proofs.Places.{present}
use Rattle.def_memory.specs.Granules.{plain}
use Rattle.def_reach.specs.Roots.{root_of, gate_for, listed_root}
use Rattle.def_image.specs.Parts.{CodeRow, CompartmentRow, ThreadRow, PartsRow}
use Rattle.def_image.specs.Sizes.{sum_of}
use Rattle.def_image.specs.Members.{compartment_entries, library_entries, first_library, first_stack, code_number, library_number}
use Rattle.def_boot.specs.Entries.{stack_row, rows_from, entry_rows}
use Rattle.def_boot.specs.Gates.{gates_of, entries_of}
use Rattle.def_boot.specs.Made.{caps_at_boot}
use Rattle.def_boot.specs.Rows.{EntryIs, is_nothing, is_trusted, is_code, is_globals, is_slot, is_export, is_library, is_library_slot, is_library_export, is_stack}
use Rattle.law_boot.proofs.Gates.{stack_gate, zero_gate}
use Rattle.law_boot.proofs.Blocks.{place_in, rows_count}
use Rattle.law_boot.proofs.Standing.{after_libraries, stack_count_is, made_past, compartment_of, library_of, stack_of, gate_number_is, library_gate_number_is}

own_is : (p : PartsRow) (n b : ℕ) (c : CompartmentRow) (j : ℕ) → slice_get p.compartments b ≡ Some c → j < compartment_entries c → n ≡ code_number p b + j → EntryIs p n
own_is p n b c zero is lt at = is_code b c (compartment_of p b c is) (omega (arith, at))
own_is p n b c (suc zero) is lt at =
    let has = compartment_of p b c is in
    let next = has.next in
    is_globals b c has (omega (arith, at, next))
own_is p n b c (suc (suc i)) is lt at = elim (lt_tells i (length c.code.slots)) [
  | inl few ↦
      let found = present c.code.slots i few.1 in
      is_slot b c i found.0 (compartment_of p b c is) found.1 (omega (arith, at))
  | inr past ↦
      let from = past.1 in
      let k = i - length c.code.slots in
      let found = present c.code.exports k (omega (arith, lt, from)) in
      let number = gate_number_is p b c k is in
      is_export b c k found.0 (compartment_of p b c is) found.1 (omega (arith, at, number, from))
]

shared_is : (p : PartsRow) (n l : ℕ) (c : CodeRow) (j : ℕ) → slice_get p.libraries l ≡ Some c → j < library_entries c → n ≡ library_number p l + j → EntryIs p n
shared_is p n l c zero is lt at = is_library l c (library_of p l c is) (omega (arith, at))
shared_is p n l c (suc i) is lt at = elim (lt_tells i (length c.slots)) [
  | inl few ↦
      let found = present c.slots i few.1 in
      is_library_slot l c i found.0 (library_of p l c is) found.1 (omega (arith, at))
  | inr past ↦
      let from = past.1 in
      let k = i - length c.slots in
      let found = present c.exports k (omega (arith, lt, from)) in
      let number = library_gate_number_is p l c k is in
      is_library_export l c k found.0 (library_of p l c is) found.1 (omega (arith, at, number, from))
]

nothing_is : (p : PartsRow) (m : ℕ) → first_stack p ≤ suc m → slice_get (entry_rows p) m ≡ None → EntryIs p (suc m)
unfolding root_of entries_of caps_at_boot
nothing_is p m past none =
    is_nothing (ap (λ o. listed_root o (gate_for (gates_of p) (suc m))) none) (stack_gate p (suc m) past) (made_past p 1 (entry_rows p) m (plain 0) none)

stack_is : (p : PartsRow) (m q : ℕ) → 1 + m ≡ first_stack p + q → EntryIs p (suc m)
stack_is p m q at = elim (place_in (λ (x : ThreadRow). 1) (first_stack p) p.threads q) [
  | inl found ↦
      let inside = found.inside in
      let number = found.number in
      is_stack found.index found.member (stack_of p found.index found.member found.there) (omega (arith, at, inside, number))
  | inr past ↦
      let stacks = rows_from (λ t x. stack_row t x ∷ []) 0 p.threads in
      let size = rows_count (λ t x. stack_row t x ∷ []) (λ (x : ThreadRow). 1) stack_count_is 0 p.threads in
      let whole = length-append stacks [] in
      nothing_is p m (omega (arith, at)) (after_libraries p m q at ∙ slice_get_past (stacks ++ []) q (omega (arith, past, size, whole)))
]

pub entry_of : (p : PartsRow) (n : ℕ) → EntryIs p n
unfolding root_of caps_at_boot
entry_of p zero = is_trusted refl refl (zero_gate p) refl
entry_of p (suc m) = elim (place_in compartment_entries 1 p.compartments m) [
  | inl found ↦
      let number = found.number in
      own_is p (suc m) found.index found.member found.offset found.there found.inside (omega (arith, number))
  | inr past ↦
      let own = sum_of compartment_entries p.compartments in
      elim (place_in library_entries (first_library p) p.libraries (m - own)) [
        | inl found ↦
            let number = found.number in
            shared_is p (suc m) found.index found.member found.offset found.there found.inside (omega (arith, number, past))
        | inr more ↦ stack_is p m (m - own - sum_of library_entries p.libraries) (omega (arith, past, more))
      ]
]
