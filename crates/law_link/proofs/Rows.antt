-- Rows of slots and exports of what is linked, and their names.
use Rattle.std.proofs.Common.{ℕ, suc, ◌≡◌, ◌+◌, ◌%◌, ◌^◌, ◌<◌, ◌≤◌, ◌==◌, ◌&&◌, ◌||◌, not, true, false, cond, nat_le, nat_lt, nat_eq, List, [], ◌∷◌, length, map, take, drop, None, refl, ap, ap₂, ◌∙◌, arith, inl, inr}
use Rattle.std.specs.Prelude.{bytes_eq}
use Rattle.std.proofs.lemmas.Slice.Eq.{bytes_eq-Decides}
use Rattle.std.proofs.lemmas.Bool.{lt-leb, le-ltb, eq-eqb}
use Rattle.def_profile.specs.declared.limits.TheConstants.{MOST_BYTES}
use Rattle.law_lists.proofs.Tests.{eq_tells}
use Rattle.def_texts.specs.Names.{is_name, among}
use Rattle.def_image.specs.declared.ImportRow.{ImportRow as SlotImport}
use Rattle.def_image.specs.declared.RawEntry.{RawEntry}
use Rattle.def_image.specs.declared.SlotKind.{SlotKind}
use Rattle.def_image.specs.declared.SlotKind.TheVariants as kind
use Rattle.def_image.specs.declared.format.TheConstants.{ROW}
use Rattle.def_image.specs.Parts.{SlotRow, GateRow}
use Rattle.def_image.specs.Spelling.{kind_byte, import_field, posture_byte, passes_byte, export_field, name_field, raw_slot, raw_gate}
use Rattle.def_image.specs.Profile.{outside}
use Rattle.def_image.specs.Checks.{first, check}
use Rattle.def_image.specs.Limits.{name_checks, are_zeros, byte_in, number_field, misnumbered, has_second, row_limits, Bounds, gate_limits, entry_name, key_slot_name, is_unnamed_key, switch_name, is_misnamed, own_slot_limits, slot_limits, export_limits}
use Rattle.law_image.proofs.Rows.{number_back, first_at, offset_at, stack_at, entry_at}
use Rattle.law_image.proofs.Passing.{joined_none, one_none}
use Rattle.law_link.proofs.Walks.{next_none}
use Rattle.law_link.proofs.Fields.{name_is, name_back, name_passes}

-- ---- rows of slots

-- what is asked of a row, beside the form of its name
pub record SlotSized (s : SlotRow) : Type 0 where
  pub rights : s.row.rights ≤ 63
  pub first_small : s.row.first < 2 ^ 32
  pub second_small : s.row.second < 2 ^ 32
  pub numbered : misnumbered (kind_byte s.row.kind) s.row.first ≡ false
  pub second : (not (has_second (kind_byte s.row.kind)) && not (s.row.second == 0)) ≡ false
  pub key : (nat_eq (kind_byte s.row.kind) 8 && not (bytes_eq s.name (key_slot_name s.row.first))) ≡ false

pub record SlotGood (s : SlotRow) : Type 0 where
  pub named : is_name s.name ≡ true
  pub sized : SlotSized s

kind_within : (k : SlotKind) → outside 1 8 (kind_byte k) ≡ false
kind_within kind.Service = refl
kind_within kind.Device = refl
kind_within kind.Shared = refl
kind_within kind.Sealed = refl
kind_within kind.Call = refl
kind_within kind.Library = refl
kind_within kind.Quota = refl
kind_within kind.Key = refl

second_at : (r : SlotImport) → r.second < 2 ^ 32 → number_field (import_field r) 8 ≡ r.second
second_at r small = number_back r.second small

third_at : (r : SlotImport) → number_field (import_field r) 12 ≡ 0
third_at r = number_back 0 (omega arith)

row_passes : (at : ℕ) (s : SlotRow) → SlotGood s → first (row_limits at (import_field s.row)) ≡ None
unfolding row_limits
row_passes at s h =
    let row = import_field s.row in
    let c1 = check at (outside 1 8 (byte_in row 0)) in
    let c2 = check (at + 1) (nat_lt 63 (byte_in row 1)) in
    let c3 = check (at + 2) (not (are_zeros (take 2 (drop 2 row)))) in
    let c4 = check (at + 4) (misnumbered (byte_in row 0) (number_field row 4)) in
    let c5 = check (at + 8) (not (has_second (byte_in row 0)) && not (number_field row 8 == 0)) in
    let c6 = check (at + 12) (not (number_field row 12 == 0)) in
    next_none c1 (c2 ∷ c3 ∷ c4 ∷ c5 ∷ c6 ∷ []) (kind_within s.row.kind)
    (next_none c2 (c3 ∷ c4 ∷ c5 ∷ c6 ∷ []) (le-ltb 63 s.row.rights h.sized.rights)
    (next_none c3 (c4 ∷ c5 ∷ c6 ∷ []) refl
    (next_none c4 (c5 ∷ c6 ∷ []) (ap (misnumbered (kind_byte s.row.kind)) (first_at s.row h.sized.first_small) ∙ h.sized.numbered)
    (next_none c5 (c6 ∷ []) (ap (λ n. not (has_second (kind_byte s.row.kind)) && not (n == 0)) (second_at s.row h.sized.second_small) ∙ h.sized.second)
    (one_none (at + 12) (not (number_field row 12 == 0)) (ap (λ n. not (n == 0)) (third_at s.row)))))))

-- ---- slots

pub slot_name_back : (s : SlotRow) → is_name s.name ≡ true → entry_name (raw_slot s) ≡ s.name
slot_name_back s e = name_back s.name (name_is s.name e)

key_named : (s : SlotRow) → SlotGood s → is_unnamed_key (raw_slot s) ≡ false
key_named s h =
    ap₂ (λ n k. nat_eq (kind_byte s.row.kind) 8 && not (bytes_eq n (key_slot_name k))) (slot_name_back s h.named) (first_at s.row h.sized.first_small) ∙ h.sized.key

pub first_slot_passes : (at : ℕ) (s : SlotRow) → SlotGood s → s.name ≡ switch_name → first (own_slot_limits at [] (raw_slot s)) ≡ None
unfolding own_slot_limits
first_slot_passes at s h is =
    let own : bytes_eq (entry_name (raw_slot s)) switch_name ≡ true = (bytes_eq-Decides (entry_name (raw_slot s)) switch_name).1 (slot_name_back s h.named ∙ is) in
    joined_none (row_limits at (import_field s.row)) (name_checks (at + ROW) (is_misnamed [] (raw_slot s)) [] (name_field s.name)) (row_passes at s h)
    (name_passes (at + ROW) (is_misnamed [] (raw_slot s)) [] s.name h.named refl (ap not own))

pub own_slot_passes : (at : ℕ) (earlier : List RawEntry) (s : SlotRow) → SlotGood s → among s.name (map entry_name earlier) ≡ false → (k : ℕ) → length earlier ≡ suc k
    → first (own_slot_limits at earlier (raw_slot s)) ≡ None
unfolding own_slot_limits
own_slot_passes at earlier s h new k more =
    let some : nat_eq (length earlier) 0 ≡ false = ap (λ n. nat_eq n 0) more ∙ not_zero k in
    let wanted : is_misnamed earlier (raw_slot s) ≡ false = ap (λ b. cond b (not (bytes_eq (entry_name (raw_slot s)) switch_name)) (is_unnamed_key (raw_slot s))) some ∙ key_named s h in
    joined_none (row_limits at (import_field s.row)) (name_checks (at + ROW) (is_misnamed earlier (raw_slot s)) (map entry_name earlier) (name_field s.name)) (row_passes at s h)
    (name_passes (at + ROW) (is_misnamed earlier (raw_slot s)) (map entry_name earlier) s.name h.named new wanted)
  where
    not_zero : (k : ℕ) → nat_eq (suc k) 0 ≡ false
    not_zero k = elim (eq_tells (suc k) 0) [ inl h ↦ absurd (let e = h.1 in omega (arith, e)) | inr h ↦ h.0 ]

pub slot_passes : (at : ℕ) (earlier : List RawEntry) (s : SlotRow) → SlotGood s → among s.name (map entry_name earlier) ≡ false → first (slot_limits at earlier (raw_slot s)) ≡ None
unfolding slot_limits
slot_passes at earlier s h new =
    joined_none (row_limits at (import_field s.row)) (name_checks (at + ROW) (is_unnamed_key (raw_slot s)) (map entry_name earlier) (name_field s.name)) (row_passes at s h)
    (name_passes (at + ROW) (is_unnamed_key (raw_slot s)) (map entry_name earlier) s.name h.named new (key_named s h))

-- ---- exports

pub record GateGood (b : Bounds) (text : ℕ) (x : GateRow) : Type 0 where
  pub named : is_name x.name ≡ true
  pub even : x.row.offset % 4 ≡ 0
  pub inside : x.row.offset < text
  pub small : text ≤ MOST_BYTES
  pub stack : x.row.stack ≤ b.stack
  pub most : b.stack < 2 ^ 32
  pub args : x.row.args ≤ b.args
  pub posture : outside b.posture 3 (posture_byte x.row.posture) ≡ false
  pub passes : outside 1 b.passes (passes_byte x.row.capabilities) ≡ false
  pub entry_small : x.row.entry < 2 ^ 32

gate_row_passes : (b : Bounds) (text entry at : ℕ) (x : GateRow) → GateGood b text x → x.row.entry ≡ entry → first (gate_limits b text entry at (export_field x.row)) ≡ None
unfolding gate_limits
gate_row_passes b text entry at x h is =
    let row = export_field x.row in
    let inside = h.inside in
    let small = h.small in
    let stack = h.stack in
    let most = h.most in
    let o = offset_at x.row (omega (arith, inside, small)) in
    let s = stack_at x.row (omega (arith, stack, most)) in
    let e = entry_at x.row h.entry_small in
    let c1 = check at (not (number_field row 0 % 4 == 0) || nat_le text (number_field row 0)) in
    let c2 = check (at + 4) (nat_lt b.stack (number_field row 4)) in
    let c3 = check (at + 8) (nat_lt b.args (byte_in row 8)) in
    let c4 = check (at + 9) (outside b.posture 3 (byte_in row 9)) in
    let c5 = check (at + 10) (outside 1 b.passes (byte_in row 10)) in
    let c6 = check (at + 11) (not (byte_in row 11 == 0)) in
    let c7 = check (at + 12) (not (number_field row 12 == entry)) in
    next_none c1 (c2 ∷ c3 ∷ c4 ∷ c5 ∷ c6 ∷ c7 ∷ [])
    (ap (λ n. not (n % 4 == 0) || nat_le text n) o ∙ ap₂ (λ p q. not p || q) (eq-eqb (x.row.offset % 4) 0 h.even) (lt-leb text x.row.offset inside))
    (next_none c2 (c3 ∷ c4 ∷ c5 ∷ c6 ∷ c7 ∷ []) (ap (nat_lt b.stack) s ∙ le-ltb b.stack x.row.stack stack)
    (next_none c3 (c4 ∷ c5 ∷ c6 ∷ c7 ∷ []) (le-ltb b.args x.row.args h.args)
    (next_none c4 (c5 ∷ c6 ∷ c7 ∷ []) h.posture
    (next_none c5 (c6 ∷ c7 ∷ []) h.passes
    (next_none c6 (c7 ∷ []) refl
    (one_none (at + 12) (not (number_field row 12 == entry)) (ap (λ n. not (n == entry)) e ∙ ap not (eq-eqb x.row.entry entry is))))))))

pub gate_name_back : (x : GateRow) → is_name x.name ≡ true → entry_name (raw_gate x) ≡ x.name
gate_name_back x e = name_back x.name (name_is x.name e)

pub gate_passes : (b : Bounds) (text entry at : ℕ) (earlier : List RawEntry) (x : GateRow) → GateGood b text x → among x.name (map entry_name earlier) ≡ false
    → x.row.entry ≡ entry + length earlier → first (export_limits b text entry at earlier (raw_gate x)) ≡ None
unfolding export_limits
gate_passes b text entry at earlier x h new is =
    joined_none (gate_limits b text (entry + length earlier) at (export_field x.row)) (name_checks (at + ROW) false (map entry_name earlier) (name_field x.name))
    (gate_row_passes b text (entry + length earlier) at x h is)
    (name_passes (at + ROW) false (map entry_name earlier) x.name h.named new refl)
