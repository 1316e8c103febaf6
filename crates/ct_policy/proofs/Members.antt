-- What a sound image owes to names.
use Rattle.std.proofs.Common.{◌≡◌, ℕ, ◌<◌, Bool, List, [], ◌∷◌, Option, Some, None, refl, ap, sym, ◌∙◌, subst, arith, length, slice_get, unwrap_or, option_map}
use Rattle.std.proofs.Math.ListN.{get_or}
use Rattle.std.specs.List.{position}
use Rattle.std.specs.Str.{bytes_eq}
use Rattle.law_lists.proofs.Finds.{position_inside}
use Rattle.std.proofs.lemmas.Option.{slice_get-get_or}
use Rattle.def_image.specs.Members.{compartment, gate_number, no_compartment}
use Rattle.def_image.specs.Parts.{CompartmentRow, GateRow, PartsRow}
use Rattle.def_image.specs.Sound.{Sound}
use Rattle.def_image.specs.Accepted.{IsFaultless}
use Rattle.law_image.proofs.Sounds.{sound}
use Rattle.ct_entries.specs.Fits.{HasExport}
use Rattle.def_policy.specs.Names.{export_in}

abbrev is_called : List ℕ → GateRow → Bool
is_called name x = bytes_eq name x.name

abbrev exports_in : Option CompartmentRow → List GateRow
exports_in o = (unwrap_or o no_compartment).code.exports

there : (p : PartsRow) (b j : ℕ) (o : Option CompartmentRow) → slice_get p.compartments b ≡ o → j < length (exports_in o) → (d : GateRow) → HasExport p b j
there p b j None is inside d = absurd (omega (arith, inside))
there p b j (Some c) is inside d = (c, get_or c.code.exports j d, is, slice_get-get_or c.code.exports j d inside)

some_export : (xs : List GateRow) (j : ℕ) → j < length xs → GateRow
some_export [] j inside = absurd (omega (arith, inside))
some_export (x ∷ xs) j inside = x

pub is_there : (p : PartsRow) (b j : ℕ) (name : List ℕ) (exports : List GateRow) → exports ≡ (compartment p b).code.exports → Some j ≡ position (is_called name) exports → HasExport p b j
is_there p b j name exports same found =
    let inside : j < length exports = position_inside (is_called name) exports j (sym found) in
    let here : j < length (compartment p b).code.exports = omega (arith, inside, ap length same) in
    there p b j (slice_get p.compartments b) refl here (some_export exports j inside)

pub found_is : (p : PartsRow) (b j n : ℕ) (name : List ℕ) (exports : List GateRow) → exports ≡ (compartment p b).code.exports → Some j ≡ position (is_called name) exports → n ≡ gate_number p b j
    → Some n ≡ export_in p name b
found_is p b j n name exports same found is =
    ap (λ k. Some k) is ∙ ap (λ o. option_map (gate_number p b) o) (found ∙ ap (λ xs. position (is_called name) xs) same)

pub none_is : (p : PartsRow) (b : ℕ) (name : List ℕ) (exports : List GateRow) → exports ≡ (compartment p b).code.exports → None ≡ position (is_called name) exports → None ≡ export_in p name b
none_is p b name exports same none =
    ap (λ o. option_map (gate_number p b) o) (none ∙ ap (λ xs. position (is_called name) xs) same)

few_of : (p : PartsRow) (b : ℕ) (o : Option CompartmentRow) → slice_get p.compartments b ≡ o → Sound p → length (exports_in o) < 4294967296
few_of p b None is s = omega arith
few_of p b (Some c) is s = omega (arith, (s.compartment b c is).code.exports)

pub few_exports : (p : PartsRow) (b : ℕ) (exports : List GateRow) → exports ≡ (compartment p b).code.exports → Sound p → length exports < 4294967296
few_exports p b exports same s = omega (arith, ap length same, few_of p b (slice_get p.compartments b) refl s)

pub are_sound : (p q : PartsRow) → q ≡ p → IsFaultless p → Sound q
are_sound p q same f = subst Sound (sym same) (sound p f)
