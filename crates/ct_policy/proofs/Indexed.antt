-- The index of all entries, entry by entry.
use Rattle.std.proofs.Common.{◌≡◌, ℕ, suc, ◌+◌, ◌*◌, ◌<◌, ◌≤◌, ◌++◌, List, [], ◌∷◌, ap, sym, ◌∙◌, subst, arith, append_assoc, length, drop, drop-cons}
use Rattle.std.proofs.Math.ListN.{get_or}
use Rattle.std.proofs.lemmas.List.{append-nil, drop_all}
use Rattle.ct_entry.specs.declared.rows.Entry.{Entry}
use Rattle.ct_entry.specs.declared.rows.Gate.{Gate}
use Rattle.ct_entry.specs.Listed.{Listed}
use Rattle.def_reach.specs.Roots.{gate_for}
use Rattle.ct_policy.specs.Gates.{AreGates}
use Rattle.ct_policy.specs.Keys.{IsIndex, all_limits, key_of, keys_from}
use Rattle.ct_policy.specs.Links.{AreLinked, LinksRow}
use Rattle.ct_policy.proofs.Linked.{even_keys}

-- ---- keys

-- those so far, and then the others
abbrev pub SoFarKeys : Listed → ℕ → List ℕ → Type 0
SoFarKeys e place keys = keys ++ keys_from e.gates (place + 1) (drop place e.rows) ≡ keys_from e.gates 1 e.rows

pub next_key : (e : Listed) (place : ℕ) (keys more : List ℕ) (x : Entry) (g : Gate) → place < length e.rows → x ≡ get_or e.rows place x → g ≡ gate_for e.gates (place + 1)
    → more ≡ keys ++ key_of x g ∷ [] → SoFarKeys e place keys → SoFarKeys e (suc place) more
next_key e place keys more x g inside is gate added far =
    let here : drop place e.rows ≡ x ∷ drop (suc place) e.rows = drop-cons e.rows place x inside ∙ ap (λ y. y ∷ drop (suc place) e.rows) (sym is) in
    let on : suc place + 1 ≡ place + 1 + 1 = omega arith in
    let later : List ℕ = keys_from e.gates (suc place + 1) (drop (suc place) e.rows) in
    ap (λ ks. ks ++ later) added
    ∙ append_assoc keys (key_of x g ∷ []) later
    ∙ ap (λ h. keys ++ key_of x h ∷ later) gate
    ∙ ap (λ n. keys ++ key_of x (gate_for e.gates (place + 1)) ∷ keys_from e.gates n (drop (suc place) e.rows)) on
    ∙ ap (λ xs. keys ++ keys_from e.gates (place + 1) xs) (sym here)
    ∙ far

pub all_keys : (e : Listed) (place : ℕ) (keys : List ℕ) → length e.rows ≤ place → SoFarKeys e place keys → keys ≡ keys_from e.gates 1 e.rows
all_keys e place keys past far =
    sym (append-nil keys) ∙ ap (λ xs. keys ++ keys_from e.gates (place + 1) xs) (sym (drop_all place e.rows past)) ∙ far

pub few_keys : (e : Listed) (keys : List ℕ) → keys ≡ keys_from e.gates 1 e.rows → length e.rows < 4294967296 → length keys < 4294967296
few_keys e keys are few = omega (arith, few, ap length are, even_keys e.gates 1 e.rows)

-- ---- limits

pub record SoFarSum (rows : List Entry) (place total : ℕ) : Type 0 where
  pub is : total + all_limits (drop place rows) ≡ all_limits rows
  pub small : total ≤ 4294967296 * place

pub next_limit : (rows : List Entry) (place total : ℕ) (x : Entry) → place < length rows → x ≡ get_or rows place x → x.limit < 4294967296 → SoFarSum rows place total → SoFarSum rows (suc place) (total + x.limit)
next_limit rows place total x inside is few far =
    let here : drop place rows ≡ x ∷ drop (suc place) rows = drop-cons rows place x inside ∙ ap (λ y. y ∷ drop (suc place) rows) (sym is) in
    let sum : all_limits (drop place rows) ≡ x.limit + all_limits (drop (suc place) rows) = ap all_limits here in
    record { is = omega (arith, sum, far.is); small = omega (arith, far.small, few) }

pub last_limit : (rows : List Entry) (place total : ℕ) → length rows ≤ place → SoFarSum rows place total → total ≡ all_limits rows
last_limit rows place total past far = omega (arith, ap all_limits (drop_all place rows past), far.is)

-- ---- all of it

pub indexed : (e : Listed) (gates : List Gate) (keys : List ℕ) (subjects sorts : LinksRow) (total size : ℕ) → AreGates e.gates (length e.rows) gates → keys ≡ keys_from e.gates 1 e.rows
    → 0 < size → AreLinked keys size 0 subjects → AreLinked keys 8 0 sorts → total ≡ all_limits e.rows
    → IsIndex e (record { gates = gates; subjects = subjects; sorts = sorts; total = total })
indexed e gates keys subjects sorts total size are_gates are some by_subject by_sort sum =
    let same : size ≡ length subjects.firsts = sym by_subject.whole in
    record {
      gates_are = are_gates;
      subjects_are = subst (λ ks. AreLinked ks (length subjects.firsts) 0 subjects) are (subst (λ n. AreLinked keys n 0 subjects) same by_subject);
      some = omega (arith, same, some);
      sorts_are = subst (λ ks. AreLinked ks 8 0 sorts) are by_sort;
      total_is = sum;
    }
