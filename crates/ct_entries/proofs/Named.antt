-- What a slot that fits names.
use Rattle.std.proofs.Common.{ℕ, zero, suc, ◌≡◌, ◌+◌, ◌*◌, ◌^◌, ◌<◌, ◌≤◌, List, [], ◌∷◌, length, Some, slice_get, sym, ap, ◌∙◌, subst, arith}
use Rattle.std.specs.Prelude.{unwrap_or, option_map}
use Rattle.def_image.specs.declared.ImportRow.{ImportRow}
use Rattle.def_image.specs.declared.SlotKind.{SlotKind}
use Rattle.def_image.specs.declared.SlotKind.TheVariants.{Service, Call, Library}
use Rattle.def_image.specs.Parts.{GateRow, CodeRow, CompartmentRow, PartsRow}
use Rattle.def_image.specs.Members.{compartment, gate_number, library, library_gate_number}
use Rattle.def_image.specs.Sound.{Names, SlotFits, Sound}
use Rattle.law_image.proofs.Members.{all_at}
use Rattle.law_image.proofs.Sounds.{compartment_is, library_is}
use Rattle.ct_entries.specs.Fits.{CompartmentStands, HasExport, entry_at}
use Rattle.ct_entries.proofs.Standing.{stands}

names_as : (p : PartsRow) (r : ImportRow) (k : SlotKind) → SlotFits p r → r.kind ≡ k → Names p r k
names_as p r k fits is = subst (λ x. Names p r x) is fits.names

pub service_small : (p : PartsRow) (r : ImportRow) → SlotFits p r → r.kind ≡ Service → r.first ≤ 12
service_small p r fits is = names_as p r Service fits is

within : {A : Type 0} (xs : List A) (i : ℕ) (x : A) → slice_get xs i ≡ Some x → i < length xs
within [] i x is = cc
within (y ∷ ys) zero x is = omega arith
within (y ∷ ys) (suc i) x is = let later : i < length ys = within ys i x is in omega (arith, later)

entry_is : (xs : List GateRow) (j : ℕ) (x : GateRow) → slice_get xs j ≡ Some x → entry_at xs j ≡ x.row.entry
entry_is xs j x at = ap (λ o. unwrap_or (option_map (λ (y : GateRow). y.row.entry) o) 0) at

-- the row of an export that a call names stands in 32 bits
small_at : (p : PartsRow) (b j : ℕ) (c : CompartmentRow) (x : GateRow) → Sound p → slice_get p.compartments b ≡ Some c → slice_get c.code.exports j ≡ Some x → c.table + 16 + 16 * j < 2 ^ 32
small_at p b j c x s at there =
    let inside : j < length c.code.exports = within c.code.exports j x there in
    let stand : CompartmentStands p c = all_at (CompartmentStands p) p.compartments b c (stands p s).compartments at in
    let table = stand.table in
    omega (arith, inside, table)

pub call_small : (p : PartsRow) (r : ImportRow) → Sound p → SlotFits p r → r.kind ≡ Call → (compartment p r.first).table + 16 + 16 * r.second < 2 ^ 32
call_small p r s fits is =
    let n = names_as p r Call fits is in
    subst (λ (c : CompartmentRow). c.table + 16 + 16 * r.second < 2 ^ 32) (sym (compartment_is p r.first n.0 n.2)) (small_at p r.first r.second n.0 n.1 s n.2 n.3)

-- the row of an export holds its number
pub export_numbered : (p : PartsRow) (b j : ℕ) → Sound p → HasExport p b j → entry_at (compartment p b).code.exports j ≡ gate_number p b j
export_numbered p b j s n =
    ap (λ (c : CompartmentRow). entry_at c.code.exports j) (compartment_is p b n.0 n.2) ∙ entry_is n.0.code.exports j n.1 n.3
    ∙ ((s.compartment b n.0 n.2).export j n.1 n.3).entry

pub lent_numbered : (p : PartsRow) (r : ImportRow) → Sound p → SlotFits p r → r.kind ≡ Library → entry_at (library p r.first).exports r.second ≡ library_gate_number p r.first r.second
lent_numbered p r s fits is =
    let n = names_as p r Library fits is in
    ap (λ (c : CodeRow). entry_at c.exports r.second) (library_is p r.first n.0 n.2) ∙ entry_is n.0.exports r.second n.1 n.3
    ∙ ((s.library r.first n.0 n.2).export r.second n.1 n.3).entry

-- what a call names is there
pub call_there : (p : PartsRow) (r : ImportRow) → SlotFits p r → r.kind ≡ Call → HasExport p r.first r.second
call_there p r fits is = names_as p r Call fits is
