-- Rows that numbers name, gates by their numbers, and where an export table begins.
use Rattle.std.proofs.Common.{ℕ, zero, suc, ◌≡◌, ◌-◌, ◌≤◌, ◌<◌, inl, inr, true, false, List, [], ◌∷◌, length, Some, None, slice_get, refl, sym, ap, ◌∙◌, arith}
use Rattle.std.proofs.Math.ListN.{get_or}
use Rattle.std.specs.Option.{unwrap_or}
use Rattle.std.proofs.lemmas.List.{get_or_default}
use Rattle.law_lists.proofs.Finds.{find_is}
use Rattle.law_lists.proofs.Tests.{bool_tells, eq_tells, lt_tells}
use Rattle.ct_entry.specs.Listed.{Listed}
use Rattle.ct_entry.specs.declared.rows.Entry.{Entry}
use Rattle.ct_entry.specs.declared.rows.Gate.{Gate}
use Rattle.def_reach.specs.Roots.{root_of, gate_for, no_gate, compartment_of, turns_interrupts_off}
use Rattle.ct_switch.specs.Exports.{AreSorted, AreTogether, no_row, row_at, row_named, is_export_of, table_in, export_of}

-- ---- rows

pub named_next : (rows : List Entry) (n : ℕ) → 0 < n → row_named rows n ≡ slice_get rows (n - 1)
named_next rows zero some = absurd (omega (arith, some))
named_next rows (suc n) some = let back : suc n - 1 ≡ n = omega arith in rw back refl

pub export_found : (e : Listed) (n : ℕ) (r : Entry) → row_named e.rows n ≡ Some r → export_of e n ≡ record {
  number = n;
  callee = compartment_of r.owner;
  code = (gate_for e.gates n).code;
  stack = (gate_for e.gates n).stack;
  args = (gate_for e.gates n).args;
  passes = (gate_for e.gates n).capabilities;
  disabled = turns_interrupts_off (gate_for e.gates n).posture;
}
unfolding root_of
export_found e zero r is = absurd (cc)
export_found e (suc n) r is = rw is refl

pub export_missing : (e : Listed) (n : ℕ) → row_named e.rows n ≡ None → export_of e n ≡ record {
  number = n;
  callee = 0;
  code = (gate_for e.gates n).code;
  stack = (gate_for e.gates n).stack;
  args = (gate_for e.gates n).args;
  passes = false;
  disabled = false;
}
unfolding root_of
export_missing e zero is = refl
export_missing e (suc n) is = rw is refl

pub called_found : (e : Listed) (n : ℕ) (r : Entry) → row_named e.rows n ≡ Some r → r.of ≡ (root_of e n).of
unfolding root_of
called_found e zero r is = absurd (cc)
called_found e (suc n) r is = rw is refl

pub called_missing : (e : Listed) (n : ℕ) → row_named e.rows n ≡ None → 0 ≡ (root_of e n).of
unfolding root_of
called_missing e zero is = refl
called_missing e (suc n) is = rw is refl

-- ---- gates

-- of gates that rise, the first that has no lesser number
pub gate_found : (gs : List Gate) (n i : ℕ) (d : Gate) → i < length gs → (get_or gs i d).entry ≡ n
    → ((k : ℕ) (d : Gate) → k < i → (get_or gs k d).entry < n) → get_or gs i d ≡ gate_for gs n
unfolding gate_for
gate_found [] n i d inside is before = absurd (omega (arith, inside))
gate_found (g ∷ gs) n zero d inside is before = elim (eq_tells g.entry n) [ inl e ↦ rw e.0 refl | inr e ↦ absurd (e.1 is) ]
gate_found (g ∷ gs) n (suc i) d inside is before = elim (eq_tells g.entry n) [
  | inl e ↦ absurd (let lt : g.entry < n = before 0 d (omega arith) in omega (arith, lt, e.1))
  | inr e ↦ rw e.0 (gate_found gs n i d (omega (arith, inside)) is (λ k d lt. before (suc k) d (omega (arith, lt))))
]

pub gate_missing : (gs : List Gate) (n : ℕ) → ((k : ℕ) → k < length gs → (get_or gs k no_gate).entry ≡ n → ⊥) → no_gate ≡ gate_for gs n
unfolding gate_for
gate_missing [] n none = refl
gate_missing (g ∷ gs) n none = elim (eq_tells g.entry n) [
  | inl e ↦ absurd (none 0 (omega arith) e.1)
  | inr e ↦ rw e.0 (gate_missing gs n (λ k lt is. none (suc k) (omega (arith, lt)) is))
]

-- where a place parts the lesser numbers from the others, and no gate there has this one
pub gate_none : (gs : List Gate) (n i : ℕ) → AreSorted gs → ((k : ℕ) (d : Gate) → k < i → (get_or gs k d).entry < n)
    → ((k : ℕ) (d : Gate) → i ≤ k → k < length gs → n ≤ (get_or gs k d).entry)
    → (i < length gs → (get_or gs i no_gate).entry ≡ n → ⊥) → no_gate ≡ gate_for gs n
gate_none gs n i sorted before after other = gate_missing gs n (λ k inside is. elim (lt_tells k i) [
  | inl e ↦ let less : (get_or gs k no_gate).entry < n = before k no_gate e.1 in absurd (omega (arith, less, is))
  | inr e ↦
      let here : i < length gs = omega (arith, e.1, inside) in
      let low : n ≤ (get_or gs i no_gate).entry = after i no_gate (omega arith) here in
      let rises : (get_or gs i no_gate).entry ≤ (get_or gs k no_gate).entry = sorted i k no_gate e.1 inside in
      other here (omega (arith, low, rises, is))
])

-- ---- export tables

-- the first of the exports that stand together is the first of all
pub table_found : (rows : List Entry) (home first : ℕ) → AreTogether rows home → first < length rows → is_export_of home (row_at rows first) ≡ true
    → (0 < first → is_export_of home (row_at rows (first - 1)) ≡ false) → (row_at rows first).base - 16 ≡ table_in rows home
table_found rows home first together inside is start =
    let x : Entry = row_at rows first in
    let none : (k : ℕ) → k < first → is_export_of home (row_at rows k) ≡ false = λ k lt. elim (bool_tells (is_export_of home (row_at rows k))) [
      | inl yes_here ↦ absurd (
          let between : is_export_of home (row_at rows (first - 1)) ≡ true = together k (first - 1) first (omega (arith, lt)) (omega arith) yes_here is in
          let clash : true ≡ false = sym between ∙ start (omega (arith, lt)) in
          cc)
      | inr no_here ↦ no_here
    ] in
    let found = find_is (λ r. is_export_of home r) rows x (record {
      place = first;
      inside = inside;
      is = get_or_default rows first x no_row inside;
      passes = is;
      before = λ k lt. ap (λ r. is_export_of home r) (get_or_default rows k x no_row (omega (arith, lt, inside))) ∙ none k lt;
    }) in
    sym (ap (λ o. (unwrap_or o no_row).base - 16) found)
