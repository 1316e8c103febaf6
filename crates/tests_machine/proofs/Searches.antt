-- Gates in order by neighbours, and exports that stand together between two places.
use Rattle.std.proofs.Common.{ℕ, zero, suc, ◌≡◌, ◌+◌, ◌-◌, ◌≤◌, ◌<◌, ◌⊎◌, inl, inr, nat_lt, true, false, List, [], ◌∷◌, length, refl, sym, ap, ◌∙◌, arith, subst}
use Rattle.std.proofs.Math.ListN.{get_or}
use Rattle.law_lists.proofs.Tests.{lt_tells}
use Rattle.ct_entry.specs.Listed.{Listed}
use Rattle.ct_entry.specs.declared.rows.Entry.{Entry}
use Rattle.ct_entry.specs.declared.rows.Gate.{Gate}
use Rattle.def_reach.specs.Roots.{no_gate}
use Rattle.ct_switch.specs.Exports.{AreSorted, AreTogether, HeadLies, IsCallable, row_at, is_export_of, table_in, callee_of}

-- ---- gates

abbrev pub NeighboursRise : List Gate → ℕ → Type 0
NeighboursRise gs n = (k : ℕ) → k + 1 < n → (get_or gs k no_gate).entry ≤ (get_or gs (k + 1) no_gate).entry

at_hand : (gs : List Gate) (i k : ℕ) → k + 1 ≡ i → (get_or gs (i - 1) no_gate).entry ≤ (get_or gs i no_gate).entry
    → (get_or gs k no_gate).entry ≤ (get_or gs (k + 1) no_gate).entry
at_hand gs i k is le =
    let back : i - 1 ≡ k = omega (arith, is) in
    subst (λ n. (get_or gs k no_gate).entry ≤ (get_or gs n no_gate).entry) (sym is) (subst (λ n. (get_or gs n no_gate).entry ≤ (get_or gs i no_gate).entry) back le)

pub rise_more : (gs : List Gate) (i : ℕ) → NeighboursRise gs i → (get_or gs (i - 1) no_gate).entry ≤ (get_or gs i no_gate).entry → NeighboursRise gs (i + 1)
rise_more gs i before here k lt = elim (lt_tells (k + 1) i) [
  | inl e ↦ before k e.1
  | inr e ↦ let is : k + 1 ≡ i = omega (arith, lt, e.1) in at_hand gs i k is here
]

any_gate : (gs : List Gate) (k : ℕ) (d : Gate) → k < length gs → get_or gs k d ≡ get_or gs k no_gate
any_gate [] k d inside = absurd (omega (arith, inside))
any_gate (x ∷ xs) zero d inside = refl
any_gate (x ∷ xs) (suc k) d inside = any_gate xs k d (omega (arith, inside))

rises : (gs : List Gate) (i n : ℕ) → NeighboursRise gs (length gs) → i + n < length gs
    → (get_or gs i no_gate).entry ≤ (get_or gs (i + n) no_gate).entry
rises gs i zero all inside = let same : i + 0 ≡ i = omega arith in rw same (omega arith)
rises gs i (suc n) all inside =
    let next : i + suc n ≡ i + n + 1 = omega arith in
    let low : (get_or gs i no_gate).entry ≤ (get_or gs (i + n) no_gate).entry = rises gs i n all (omega (arith, inside)) in
    let high : (get_or gs (i + n) no_gate).entry ≤ (get_or gs (i + n + 1) no_gate).entry = all (i + n) (omega (arith, inside)) in
    rw next (omega (arith, low, high))

pub sorted_so : (gs : List Gate) (n : ℕ) → length gs ≤ n → NeighboursRise gs n → AreSorted gs
sorted_so gs n whole all i j d le inside =
    let there : i + (j - i) ≡ j = omega (arith, le) in
    let all_in : NeighboursRise gs (length gs) = λ k lt. all k (omega (arith, lt, whole)) in
    let low : (get_or gs i no_gate).entry ≤ (get_or gs (i + (j - i)) no_gate).entry = rises gs i (j - i) all_in (omega (arith, inside, there)) in
    rw (any_gate gs i d (omega (arith, le, inside)), any_gate gs j d inside) (rw there at low)

-- ---- exports

abbrev pub NoneBefore : List Entry → ℕ → ℕ → Type 0
NoneBefore rows home n = (k : ℕ) → k < n → is_export_of home (row_at rows k) ≡ false

abbrev pub NoneFrom : List Entry → ℕ → ℕ → Type 0
NoneFrom rows home n = (k : ℕ) → n ≤ k → is_export_of home (row_at rows k) ≡ false

abbrev pub AllBetween : List Entry → ℕ → ℕ → ℕ → Type 0
AllBetween rows home low high = (k : ℕ) → low ≤ k → k < high → is_export_of home (row_at rows k) ≡ true

pub none_more : (rows : List Entry) (home n : ℕ) → NoneBefore rows home n → is_export_of home (row_at rows n) ≡ false → NoneBefore rows home (n + 1)
none_more rows home n before here k lt = elim (lt_tells k n) [
  | inl e ↦ before k e.1
  | inr e ↦ let is : n ≡ k = omega (arith, lt, e.1) in subst (λ j. is_export_of home (row_at rows j) ≡ false) is here
]

pub none_past : (rows : List Entry) (home : ℕ) → NoneFrom rows home (length rows)
none_past [] home k past = refl
none_past (r ∷ rs) home zero past = absurd (omega (arith, past))
none_past (r ∷ rs) home (suc k) past = none_past rs home k (omega (arith, past))

pub none_sooner : (rows : List Entry) (home n : ℕ) → 0 < n → NoneFrom rows home n → is_export_of home (row_at rows (n - 1)) ≡ false → NoneFrom rows home (n - 1)
none_sooner rows home n some after here k le = elim (lt_tells k n) [
  | inl e ↦ let is : n - 1 ≡ k = omega (arith, le, e.1) in subst (λ j. is_export_of home (row_at rows j) ≡ false) is here
  | inr e ↦ after k e.1
]

pub all_more : (rows : List Entry) (home low n : ℕ) → AllBetween rows home low n → is_export_of home (row_at rows n) ≡ true → AllBetween rows home low (n + 1)
all_more rows home low n between here k le lt = elim (lt_tells k n) [
  | inl e ↦ between k le e.1
  | inr e ↦ let is : n ≡ k = omega (arith, lt, e.1) in subst (λ j. is_export_of home (row_at rows j) ≡ true) is here
]

pub together_so : (rows : List Entry) (home low high : ℕ) → NoneBefore rows home low → NoneFrom rows home high → AllBetween rows home low high
    → AreTogether rows home
together_so rows home low high before after between i j k ij jk first last =
    between j (above (lt_tells i low)) (below (lt_tells k high))
  where
    above : ((nat_lt i low ≡ true) × (i < low)) ⊎ ((nat_lt i low ≡ false) × (low ≤ i)) → low ≤ j
    above t = elim t [
      | inl e ↦ absurd (let no : is_export_of home (row_at rows i) ≡ false = before i e.1 in let clash : true ≡ false = sym first ∙ no in cc)
      | inr e ↦ omega (arith, e.1, ij)
    ]

    below : ((nat_lt k high ≡ true) × (k < high)) ⊎ ((nat_lt k high ≡ false) × (high ≤ k)) → j < high
    below t = elim t [
      | inl e ↦ omega (arith, e.1, jk)
      | inr e ↦ absurd (let no : is_export_of home (row_at rows k) ≡ false = after k e.1 in let clash : true ≡ false = sym last ∙ no in cc)
    ]

-- a number that is that of an export which can be called, by what was looked at
pub callable_so : (e : Listed) (ram size n index home table : ℕ) (rows : List Entry) → 1 ≤ n → index ≡ n - 1 → home ≡ callee_of e n → rows ≡ e.rows
    → index < length rows → is_export_of home (row_at rows index) ≡ true → AreTogether rows home → table ≡ table_in rows home
    → HeadLies ram size table → IsCallable e ram size n
callable_so e ram size n index home table rows some is home_is rows_is inside export together table_is head = record {
  counted = some;
  export = record {
    inside = subst (λ i. i < length e.rows) is (subst (λ rs. index < length rs) rows_is inside);
    is = subst (λ i. is_export_of (callee_of e n) (row_at e.rows i) ≡ true) is
        (subst (λ rs. is_export_of (callee_of e n) (row_at rs index) ≡ true) rows_is
        (subst (λ h. is_export_of h (row_at rows index) ≡ true) home_is export));
  };
  together = subst (λ rs. AreTogether rs (callee_of e n)) rows_is (subst (λ h. AreTogether rows h) home_is together);
  head = subst (λ k. HeadLies ram size k) (table_is ∙ ap (λ h. table_in rows h) home_is ∙ ap (λ rs. table_in rs (callee_of e n)) rows_is) head;
}

-- ---- memory that reads as zero
