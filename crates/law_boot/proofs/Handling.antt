-- A compartment's error handler is an export of its own.
use Rattle.std.proofs.Common.{ℕ, ◌≡◌, ◌<◌, inl, inr, Bool, List, [], length, Option, Some, None, slice_get, unwrap_or, option_map, refl, sym, ap, ◌∙◌, subst, arith}
use Rattle.std.specs.List.{position}
use Rattle.law_lists.proofs.Tests.{lt_tells}
use Rattle.law_lists.proofs.Places.{present}
use Rattle.law_lists.proofs.Finds.{position_inside}
use Rattle.ct_entry.specs.declared.rows.Owner.TheVariants.{Compartment}
use Rattle.def_reach.specs.Roots.{Root}
use Rattle.def_machine.specs.Image.{handler_entry}
use Rattle.def_confined.specs.Facts.{HandlerFits}
use Rattle.def_image.specs.Parts.{CompartmentRow, GateRow, PartsRow}
use Rattle.def_image.specs.Members.{no_compartment, gate_number, handler_number, is_handler}
use Rattle.def_boot.specs.Boot.{image_of}
use Rattle.law_boot.proofs.Standing.{compartment_of}
use Rattle.def_boot.specs.Fits.{ExportAt}
use Rattle.law_boot.proofs.Own.{handler_entry_is, no_handler_entry}

abbrev exports_in : Option CompartmentRow → List GateRow
exports_in o = (unwrap_or o no_compartment).code.exports

abbrev number_of : PartsRow → ℕ → Option ℕ → ℕ
number_of p b k = unwrap_or (option_map (gate_number p b) k) 0

-- entry n is an export of compartment b
record OwnExport (p : PartsRow) (b n : ℕ) : Type 0 where
  export : ExportAt p n
  own : export.index ≡ b

own_export : (p : PartsRow) (b : ℕ) (o : Option CompartmentRow) (k : Option ℕ) → slice_get p.compartments b ≡ o → position is_handler (exports_in o) ≡ k
    → (number_of p b k ≡ 0 → ⊥) → OwnExport p b (number_of p b k)
own_export p b o None is found some = absurd (some refl)
own_export p b None (Some j) is found some = absurd (let inside : j < 0 = position_inside is_handler [] j found in omega (arith, inside))
own_export p b (Some c) (Some j) is found some =
    let x = present c.code.exports j (position_inside is_handler c.code.exports j found) in
    record {
      export = record { index = b; compartment = c; which = j; export = x.0; owner = is; there = x.1; number = refl; row = (compartment_of p b c is).export j x.0 x.1 };
      own = refl;
    }

own_handler : (p : PartsRow) (b : ℕ) → (handler_number p b ≡ 0 → ⊥) → OwnExport p b (handler_number p b)
own_handler p b some = own_export p b (slice_get p.compartments b) (position is_handler (exports_in (slice_get p.compartments b))) refl refl some

pub entry_is : (p : PartsRow) (b : ℕ) → (handler_entry (image_of p) b ≡ 0 → ⊥) → handler_entry (image_of p) b ≡ handler_number p b
entry_is p b some = elim (lt_tells b (length p.compartments)) [ inl less ↦ handler_entry_is p b less.1 | inr past ↦ absurd (some (no_handler_entry p b past.1)) ]

own_entry : (p : PartsRow) (b : ℕ) → (handler_entry (image_of p) b ≡ 0 → ⊥) → OwnExport p b (handler_entry (image_of p) b)
own_entry p b some = let same = entry_is p b some in subst (λ n. OwnExport p b n) (sym same) (own_handler p b (λ none. some (same ∙ none)))

-- the error handler of a compartment is one of its exports
pub handler_at : (p : PartsRow) (b : ℕ) → (handler_entry (image_of p) b ≡ 0 → ⊥) → ExportAt p (handler_entry (image_of p) b)
handler_at p b some = (own_entry p b some).export

pub handler_owner : (p : PartsRow) (b : ℕ) (some : handler_entry (image_of p) b ≡ 0 → ⊥) → (handler_at p b some).index ≡ b
unfolding handler_at
handler_owner p b some = (own_entry p b some).own

pub handler_fits : (p : PartsRow) (b : ℕ) → (handler_entry (image_of p) b ≡ 0 → ⊥) → HandlerFits (image_of p) b
unfolding image_of
handler_fits p b some =
    let own = own_entry p b some in
    record {
      kind_is = ap (λ (z : Root). z.origin) own.export.row.root_is;
      owner_is = ap (λ (z : Root). z.owner) own.export.row.root_is ∙ ap (λ k. Compartment k) own.own;
    }
