-- The gate of each entry, put in its place from the last gate to the first.
use Rattle.std.proofs.Common.{◌≡◌, ℕ, suc, ◌+◌, ◌-◌, ◌<◌, ◌≤◌, ◌==◌, List, [], ◌∷◌, inl, inr, refl, ap, sym, ◌∙◌, subst, arith, length, drop, drop-cons, replicate, slice_set, cond}
use Rattle.std.proofs.Math.ListN.{get_or, get_or-replicate, length-replicate, length-set}
use Rattle.std.proofs.lemmas.Grind.{get_or-set_at}
use Rattle.std.proofs.lemmas.List.{drop_all, get_or-set_other}
use Rattle.law_lists.proofs.Tests.{eq_tells}
use Rattle.ct_entry.specs.Listed.{Listed}
use Rattle.ct_entry.specs.declared.rows.Gate.{Gate}
use Rattle.def_reach.specs.Roots.{gate_for, no_gate}
use Rattle.ct_policy.specs.Gates.{AreGates}

pub starts_bare : (gs : List Gate) (n : ℕ) (all : List Gate) (k : ℕ) → length gs ≤ k → all ≡ replicate n no_gate → AreGates (drop k gs) n all
unfolding gate_for
starts_bare gs n all k past is = record {
  even = ap length is ∙ length-replicate n no_gate;
  each = λ j inside. rw (is, drop_all k gs past) (get_or-replicate n j no_gate no_gate inside);
}

first_of : (gs : List Gate) (k : ℕ) (n : ℕ) → k < length gs → gate_for (drop k gs) n ≡ cond ((get_or gs k no_gate).entry == n) (get_or gs k no_gate) (gate_for (drop (suc k) gs) n)
unfolding gate_for
first_of gs k n inside = rw (drop-cons gs k no_gate) refl

put_in : (gs : List Gate) (n k : ℕ) (all : List Gate) → k < length gs → 1 ≤ (get_or gs k no_gate).entry → (get_or gs k no_gate).entry ≤ n
    → AreGates (drop (suc k) gs) n all → AreGates (drop k gs) n (slice_set all ((get_or gs k no_gate).entry - 1) (get_or gs k no_gate))
put_in gs n k all inside some within are =
    let g : Gate = get_or gs k no_gate in
    record {
      even = length-set all (g.entry - 1) g ∙ are.even;
      each = λ j small. elim (eq_tells g.entry (j + 1)) [
        | inl same ↦
            get_or-set_at all (g.entry - 1) j g no_gate (omega (arith, same.1)) (omega (arith, same.1, small, are.even))
            ∙ sym (first_of gs k (j + 1) inside ∙ ap (λ b. cond b g (gate_for (drop (suc k) gs) (j + 1))) same.0)
        | inr other ↦
            get_or-set_other all (g.entry - 1) j g no_gate (λ e. other.1 (omega (arith, e, some)))
            ∙ are.each j small
            ∙ sym (first_of gs k (j + 1) inside ∙ ap (λ b. cond b g (gate_for (drop (suc k) gs) (j + 1))) other.0)
      ];
    }

left_out : (gs : List Gate) (n k : ℕ) (all : List Gate) → k < length gs → ((1 ≤ (get_or gs k no_gate).entry) → (get_or gs k no_gate).entry ≤ n → ⊥)
    → AreGates (drop (suc k) gs) n all → AreGates (drop k gs) n all
left_out gs n k all inside none are =
    let g : Gate = get_or gs k no_gate in
    record {
      even = are.even;
      each = λ j small. elim (eq_tells g.entry (j + 1)) [
        | inl same ↦ absurd (none (omega (arith, same.1)) (omega (arith, same.1, small)))
        | inr other ↦
            are.each j small
            ∙ sym (first_of gs k (j + 1) inside ∙ ap (λ b. cond b g (gate_for (drop (suc k) gs) (j + 1))) other.0)
      ];
    }

-- ---- the same, by the entries as they are seen and the gate that was read

rows_seen : (seen e : Listed) → seen ≡ e → length seen.rows ≡ length e.rows
rows_seen seen e view = ap (λ (l : Listed). length l.rows) view

read_is : (gs : List Gate) (k : ℕ) (g d : Gate) → k < length gs → g ≡ get_or gs k g → get_or gs k d ≡ g
read_is [] k g d inside is = absurd (omega (arith, inside))
read_is (x ∷ xs) ℕ.zero g d inside is = sym is
read_is (x ∷ xs) (suc k) g d inside is = read_is xs k g d (omega (arith, inside)) is

-- a step from the last gates to the one before them
record Next (gates : List Gate) (n place : ℕ) (all : List Gate) (g : Gate) : Type 0 where
  inside : place < length gates
  read : get_or gates place no_gate ≡ g
  are : AreGates (drop (suc place) gates) n all

next_gate : (seen e : Listed) (left : ℕ) (all : List Gate) (g : Gate) → seen ≡ e → 0 < left → left ≤ length e.gates → g ≡ get_or seen.gates (left - 1) g
    → AreGates (drop left e.gates) (length e.rows) all → Next e.gates (length e.rows) (left - 1) all g
next_gate seen e left all g view some inside read are =
    let before : left - 1 < length e.gates = omega (arith, some, inside) in
    let next : left ≡ suc (left - 1) = omega (arith, some) in
    record {
      inside = before;
      read = read_is e.gates (left - 1) g no_gate before (read ∙ ap (λ (l : Listed). get_or l.gates (left - 1) g) view);
      are = subst (λ j. AreGates (drop j e.gates) (length e.rows) all) next are;
    }

pub put_gate : (seen e : Listed) (left : ℕ) (all : List Gate) (g : Gate) → seen ≡ e → 0 < left → left ≤ length e.gates → g ≡ get_or seen.gates (left - 1) g → 1 ≤ g.entry → g.entry ≤ length seen.rows
    → AreGates (drop left e.gates) (length e.rows) all → AreGates (drop (left - 1) e.gates) (length e.rows) (slice_set all (g.entry - 1) g)
put_gate seen e left all g view here inside read some within are =
    let k = next_gate seen e left all g view here inside read are in
    let same = ap (λ (x : Gate). x.entry) k.read in
    subst (λ (x : Gate). AreGates (drop (left - 1) e.gates) (length e.rows) (slice_set all (x.entry - 1) x)) k.read
    (put_in e.gates (length e.rows) (left - 1) all k.inside (omega (arith, some, same)) (omega (arith, within, same, rows_seen seen e view)) k.are)

pub left_gate : (seen e : Listed) (left : ℕ) (all : List Gate) (g : Gate) → seen ≡ e → 0 < left → left ≤ length e.gates → g ≡ get_or seen.gates (left - 1) g → (1 ≤ g.entry → g.entry ≤ length seen.rows → ⊥)
    → AreGates (drop left e.gates) (length e.rows) all → AreGates (drop (left - 1) e.gates) (length e.rows) all
left_gate seen e left all g view here inside read none are =
    let k = next_gate seen e left all g view here inside read are in
    let same = ap (λ (x : Gate). x.entry) k.read in
    left_out e.gates (length e.rows) (left - 1) all k.inside (λ some within. none (omega (arith, some, same)) (omega (arith, within, same, rows_seen seen e view))) k.are
