-- The numbers of error handlers, in the rows of exports and by their places.
use Rattle.std.proofs.Common.{ℕ, suc, ◌≡◌, ◌+◌, ◌<◌, List, [], ◌∷◌, Option, Some, None, length, map, slice_get, sym, ap, refl, ◌∙◌, arith}
use Rattle.std.specs.Prelude.{unwrap_or, option_map, position}
use Rattle.law_lists.proofs.Places.{present}
use Rattle.law_lists.proofs.Finds.{position_inside}
use Rattle.def_image.specs.Parts.{CompartmentRow, PartsRow}
use Rattle.def_image.specs.Members.{gate_number, handler_number, is_handler}
use Rattle.def_image.specs.Sound.{Sound}
use Rattle.def_boot.specs.Boot.{numbered_from}
use Rattle.ct_entries.specs.Fits.{HasExport, entry_at, handler_in}
use Rattle.ct_entries.proofs.Named.{export_numbered}
use Rattle.law_image.proofs.Sounds.{compartment_is}

module _ (p : PartsRow) (s : Sound p) where
  export_there : (b j : ℕ) (c : CompartmentRow) → slice_get p.compartments b ≡ Some c → j < length c.code.exports → HasExport p b j
  export_there b j c at inside = let some = present c.code.exports j inside in (c, some.0, at, some.1)

  handler_numbered : (b : ℕ) (c : CompartmentRow) → slice_get p.compartments b ≡ Some c → handler_in c ≡ handler_number p b
  handler_numbered b c at =
      by (position is_handler c.code.exports) refl
      ∙ ap (λ (d : CompartmentRow). unwrap_or (option_map (gate_number p b) (position is_handler d.code.exports)) 0) (sym (compartment_is p b c at))
    where
      by : (o : Option ℕ) → position is_handler c.code.exports ≡ o → unwrap_or (option_map (λ j. entry_at c.code.exports j) o) 0 ≡ unwrap_or (option_map (gate_number p b) o) 0
      by None found = refl
      by (Some j) found =
          ap (λ (d : CompartmentRow). entry_at d.code.exports j) (sym (compartment_is p b c at))
          ∙ export_numbered p b j s (export_there b j c at (position_inside is_handler c.code.exports j found))

  numbered : (i : ℕ) (cs : List CompartmentRow) → ((j : ℕ) → slice_get cs j ≡ slice_get p.compartments (i + j)) → map handler_in cs ≡ numbered_from (handler_number p) i (length cs)
  numbered i [] same = refl
  numbered i (c ∷ cs) same =
      let here : i + 0 ≡ i = omega arith in
      let first : handler_in c ≡ handler_number p i = handler_numbered i c (ap (λ k. slice_get p.compartments k) (sym here) ∙ sym (same 0)) in
      let later : map handler_in cs ≡ numbered_from (handler_number p) (i + 1) (length cs) =
      numbered (i + 1) cs (λ j. let next : i + suc j ≡ i + 1 + j = omega arith in same (suc j) ∙ ap (λ k. slice_get p.compartments k) next) in
      rw (first, later) refl

  pub handlers_numbered : map handler_in p.compartments ≡ numbered_from (handler_number p) 0 (length p.compartments)
  handlers_numbered = numbered 0 p.compartments (λ j. let same : j ≡ 0 + j = omega arith in ap (λ k. slice_get p.compartments k) same)
