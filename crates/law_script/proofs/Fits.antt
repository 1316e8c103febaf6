-- What a text says as a script: no more bytes than the text has, each to a device.
use Rattle.std.proofs.Common.{◌≡◌, ℕ, ◌+◌, ◌<◌, ◌≤◌, ◌++◌, List, [], ◌∷◌, Option, Some, None, IsSome, true, false, unwrap_or, refl, ap, ◌∙◌, sym, subst, arith, length, length-append, map}
use Rattle.std.proofs.Math.ListN.{get_or}
use Rattle.std.specs.List.{All, flat_map}
use Rattle.std.proofs.lemmas.List.{length-map}
use Rattle.std.proofs.lemmas.List.Concat.{flat_map-cons}
use Rattle.std.proofs.lemmas.List.Elements.{All-map}
use Rattle.std.proofs.lemmas.List.Quantifiers.{position-Some}
use Rattle.ct_entry.specs.Listed.{DeviceRow}
use Rattle.ct_entry.specs.declared.hardware.DeviceKind.TheVariants.{Timer}
use Rattle.def_script.specs.Script.{Row, Due, ReadsAsScript, due, input_device_named, is_named, spelled_row}
use Rattle.law_script.proofs.Lines.{line_long}

rows_short : (rows : List Row) → length rows ≤ length (flat_map spelled_row rows)
rows_short [] = omega arith
rows_short (r ∷ rs) =
    let rest = rows_short rs in
    omega (arith, rest, line_long r (flat_map spelled_row rs), ap length (flat_map-cons spelled_row r rs), length-append (spelled_row r) (flat_map spelled_row rs))

pub few : (devices : List DeviceRow) (text : List ℕ) (dues : List Due) → ReadsAsScript devices text dues → length dues ≤ length text
few devices text dues is =
    omega (arith, ap length is.dues_are, length-map is.rows (due devices), rows_short is.rows, ap length is.text_is)

found : (devices : List DeviceRow) (name : List ℕ) (o : Option ℕ) → input_device_named devices name ≡ o → IsSome o → unwrap_or o 0 < length devices
found devices name (Some i) is some = (position-Some (is_named name) devices i (record { name = []; kind = Timer; base = 0 }) is).0
found devices name None is some = absurd (let bad : false ≡ true = some in cc)

pub named : (devices : List DeviceRow) (text : List ℕ) (dues : List Due) → ReadsAsScript devices text dues → All (λ (d : Due). d.given.device < length devices) dues
named devices text dues is =
    subst (λ ds. All (λ (d : Due). d.given.device < length devices) ds) (sym is.dues_are)
    (All-map (λ (d : Due). d.given.device < length devices) (due devices) is.rows
    (λ k r inside. one k r inside))
  where
    one : (k : ℕ) (r : Row) → k < length is.rows → unwrap_or (input_device_named devices (get_or is.rows k r).name) 0 < length devices
    one k r inside = found devices (get_or is.rows k r).name (input_device_named devices (get_or is.rows k r).name) refl (is.script.named k r inside)
