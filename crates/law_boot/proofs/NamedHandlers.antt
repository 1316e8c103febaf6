-- A compartment's error handler is its export of the name `handler`, and one without it has none.
use Rattle.std.proofs.Common.{ℕ, ◌≡◌, ◌≤◌, inl, inr, cond, true, false, List, length, Option, Some, None, slice_get, unwrap_or, option_map, refl, sym, ap, ◌∙◌, subst, arith}
use Rattle.std.specs.List.{position, position_or_len}
use Rattle.std.proofs.Math.ListN.{get_or}
use Rattle.std.proofs.lemmas.List.Quantifiers.{position-Some}
use Rattle.std.proofs.lemmas.List.Sums.{fails_before_first}
use Rattle.std.proofs.lemmas.Option.{get_or_from_slice_get, slice_get_past}
use Rattle.law_lists.proofs.Tests.{lt_tells, own_bytes, same_bytes}
use Rattle.law_lists.proofs.Places.{present}
use Rattle.law_lists.proofs.Finds.{position_inside}
use Rattle.def_machine.specs.Image.{handler_entry}
use Rattle.def_image.specs.Parts.{GateRow, PartsRow}
use Rattle.def_image.specs.Members.{compartment, gate_number, handler_name, is_handler, no_code, no_compartment}
use Rattle.def_boot.specs.Boot.{image_of}
use Rattle.law_boot.proofs.Handling.{entry_is}
use Rattle.law_boot.proofs.Own.{handler_entry_is}

-- ---- in a list of exports

named_at : (xs : List GateRow) (k : ℕ) → position is_handler xs ≡ Some k → (x : GateRow) × (slice_get xs k ≡ Some x) × (x.name ≡ handler_name)
named_at xs k found =
    let at = present xs k (position_inside is_handler xs k found) in
    let passes : is_handler (get_or xs k at.0) ≡ true = (position-Some is_handler xs k at.0 found).1 in
    (at.0, at.1, same_bytes at.0.name handler_name (subst (λ x. is_handler x ≡ true) (get_or_from_slice_get xs k at.0 at.0 at.1) passes))

-- without a place of the first none passes
fails_all : (xs : List GateRow) → position is_handler xs ≡ None → length xs ≤ position_or_len is_handler xs
fails_all xs none = elim (lt_tells (position_or_len is_handler xs) (length xs)) [
  | inl is ↦ absurd (let clash : Some (position_or_len is_handler xs) ≡ None = subst (λ x. cond x (Some (position_or_len is_handler xs)) None ≡ None) is.0 none in cc)
  | inr past ↦ past.1
]

none_named : (xs : List GateRow) → position is_handler xs ≡ None → (j : ℕ) (x : GateRow) → slice_get xs j ≡ Some x → x.name ≡ handler_name → ⊥
none_named xs none j x there is = elim (lt_tells j (length xs)) [
  | inl inside ↦
      let fails : is_handler (get_or xs j x) ≡ false = fails_before_first is_handler xs j x (let far = fails_all xs none in let near = inside.1 in omega (arith, far, near)) in
      let same : get_or xs j x ≡ x = get_or_from_slice_get xs j x x there in
      let passes : is_handler x ≡ true = subst (λ n. is_handler (record x { name = n }) ≡ true) (sym is) (own_bytes handler_name) in
      absurd (let clash : true ≡ false = sym passes ∙ sym (ap is_handler same) ∙ fails in cc)
  | inr past ↦ absurd (let clash : None ≡ Some x = sym (slice_get_past xs j past.1) ∙ there in cc)
]

-- ---- of a compartment

-- the export of compartment b that its error handler is
pub record NamedExport (p : PartsRow) (b n : ℕ) : Type 0 where
  pub which : ℕ
  pub export : GateRow
  pub there : slice_get (compartment p b).code.exports which ≡ Some export
  pub name : export.name ≡ handler_name
  pub number : n ≡ gate_number p b which

named : (p : PartsRow) (b : ℕ) (o : Option ℕ) → position is_handler (compartment p b).code.exports ≡ o → (unwrap_or (option_map (gate_number p b) o) 0 ≡ 0 → ⊥) → NamedExport p b (unwrap_or (option_map (gate_number p b) o) 0)
named p b None found some = absurd (some refl)
named p b (Some k) found some = (let at = named_at (compartment p b).code.exports k found in record { which = k; export = at.0; there = at.1; name = at.2; number = refl })

unnamed : (p : PartsRow) (b : ℕ) (o : Option ℕ) → position is_handler (compartment p b).code.exports ≡ o → unwrap_or (option_map (gate_number p b) o) 0 ≡ 0
    → (j : ℕ) (x : GateRow) → slice_get (compartment p b).code.exports j ≡ Some x → x.name ≡ handler_name → ⊥
unnamed p b None found zero_is = none_named (compartment p b).code.exports found
unnamed p b (Some k) found zero_is = λ j x there is. omega (arith, zero_is)

pub handler_named : (p : PartsRow) (b : ℕ) → (handler_entry (image_of p) b ≡ 0 → ⊥) → NamedExport p b (handler_entry (image_of p) b)
handler_named p b some =
    let same = entry_is p b some in
    subst (NamedExport p b) (sym same) (named p b (position is_handler (compartment p b).code.exports) refl (λ none. some (same ∙ none)))

pub handler_unnamed : (p : PartsRow) (b : ℕ) → handler_entry (image_of p) b ≡ 0 → (j : ℕ) (x : GateRow) → slice_get (compartment p b).code.exports j ≡ Some x → x.name ≡ handler_name → ⊥
handler_unnamed p b none j x there is = elim (lt_tells b (length p.compartments)) [
  | inl inside ↦ unnamed p b (position is_handler (compartment p b).code.exports) refl (sym (handler_entry_is p b inside.1) ∙ none) j x there is
  | inr past ↦ absurd (let gone : slice_get p.compartments b ≡ None = slice_get_past p.compartments b past.1 in
      let no : slice_get no_code.exports j ≡ Some x = subst (λ o. slice_get (unwrap_or o no_compartment).code.exports j ≡ Some x) gone there in
      let clash : None ≡ Some x = no in cc)
]
