-- Entries linked by a key, from the last one to the first; and that what is passed over is idle.
use Rattle.std.proofs.Common.{◌≡◌, ℕ, zero, suc, ◌+◌, ◌-◌, ◌%◌, ◌<◌, ◌≤◌, ◌==◌, ◌++◌, List, [], ◌∷◌, inl, inr, if◌then◌else◌, cond, refl, ap, sym, ◌∙◌, subst, arith, length, length-drop, drop, drop-cons, replicate, slice_set}
use Rattle.std.proofs.Math.ListN.{get_or, get_or-replicate, length-replicate, length-set}
use Rattle.std.proofs.lemmas.Grind.{get_or-set_at}
use Rattle.std.proofs.lemmas.List.{drop_all, drop-drop, get_or-drop, get_or-set_other}
use Rattle.std.proofs.lemmas.Nat.{mod_below}
use Rattle.law_lists.proofs.Tests.{eq_tells}
use Rattle.ct_entry.specs.Listed.{Listed}
use Rattle.ct_entry.specs.declared.rows.Entry.{Entry}
use Rattle.ct_entry.specs.declared.rows.Gate.{Gate}
use Rattle.def_reach.specs.Roots.{gate_for}
use Rattle.def_policy.specs.Breaking.{breaking_from, counted}
use Rattle.def_policy.specs.Rulings.{Ruling}
use Rattle.ct_policy.specs.Links.{AreLinked, LinksRow, place_from}
use Rattle.ct_policy.specs.Keys.{IsIdle, key_of, keys_from}

-- ---- linking

abbrev row : List ℕ → List ℕ → LinksRow
row firsts nexts = record { firsts = firsts; nexts = nexts }

pub starts_linked : (keys : List ℕ) (size left : ℕ) (firsts nexts : List ℕ) → length keys ≡ left → firsts ≡ replicate size left → nexts ≡ replicate left left
    → AreLinked keys size left (record { firsts = firsts; nexts = nexts })
starts_linked keys size left firsts nexts all is_firsts is_nexts = record {
  whole = ap length is_firsts ∙ length-replicate size left;
  even = ap length is_nexts ∙ length-replicate left left ∙ sym all;
  firsts_are = λ k small. rw (is_firsts, drop_all left keys (omega (arith, all))) (get_or-replicate size k left 0 small);
  nexts_are = λ i low inside. absurd (omega (arith, low, inside, all));
}

first_is : (keys : List ℕ) (size k place : ℕ) → place < length keys
    → place_from size k place (drop place keys) ≡ cond (get_or keys place 0 % size == k) place (place_from size k (suc place) (drop (suc place) keys))
first_is keys size k place inside =
    let on : place + 1 ≡ suc place = omega arith in
    ap (place_from size k place) (drop-cons keys place 0 inside)
    ∙ ap (λ n. cond (get_or keys place 0 % size == k) place (place_from size k n (drop (suc place) keys))) on

pub link_one : (keys : List ℕ) (size place slot : ℕ) (firsts nexts : List ℕ) → place < length keys → 0 < size → slot ≡ get_or keys place 0 % size
    → AreLinked keys size (suc place) (record { firsts = firsts; nexts = nexts })
    → AreLinked keys size place (record { firsts = slice_set firsts slot place; nexts = slice_set nexts place (get_or firsts slot 0) })
link_one keys size place slot firsts nexts inside some is are =
    let low : slot < size = rw is (mod_below (get_or keys place 0) size some) in
    record {
      whole = length-set firsts slot place ∙ are.whole;
      even = length-set nexts place (get_or firsts slot 0) ∙ are.even;
      firsts_are = λ k small. elim (eq_tells (get_or keys place 0 % size) k) [
        | inl same ↦
            get_or-set_at firsts slot k place 0 (sym (is ∙ same.1)) (omega (arith, low, are.whole))
            ∙ sym (first_is keys size k place inside ∙ ap (λ b. cond b place (place_from size k (suc place) (drop (suc place) keys))) same.0)
        | inr other ↦
            get_or-set_other firsts slot k place 0 (λ e. other.1 (sym is ∙ sym e))
            ∙ are.firsts_are k small
            ∙ sym (first_is keys size k place inside ∙ ap (λ b. cond b place (place_from size k (suc place) (drop (suc place) keys))) other.0)
      ];
      nexts_are = λ i from within. elim (eq_tells place i) [
        | inl same ↦
            let on : suc place ≡ i + 1 = omega (arith, same.1) in
            get_or-set_at nexts place i (get_or firsts slot 0) 0 (sym same.1) (omega (arith, inside, are.even))
            ∙ are.firsts_are slot low
            ∙ ap (λ k. place_from size k (suc place) (drop (suc place) keys)) (is ∙ ap (λ j. get_or keys j 0 % size) same.1)
            ∙ ap (λ n. place_from size (get_or keys i 0 % size) n (drop n keys)) on
        | inr other ↦
            let past : suc place ≤ i = omega (arith, from, other.1) in
            get_or-set_other nexts place i (get_or firsts slot 0) 0 (λ e. other.1 (sym e)) ∙ are.nexts_are i past within
      ];
    }

-- ---- the same, by what is read

pub read_at : {A : Type 0} (xs : List A) (k : ℕ) (v d : A) → k < length xs → v ≡ get_or xs k v → get_or xs k d ≡ v
read_at [] k v d inside is = absurd (omega (arith, inside))
read_at (x ∷ xs) zero v d inside is = sym is
read_at (x ∷ xs) (suc k) v d inside is = read_at xs k v d (omega (arith, inside)) is

pub fits : (keys : List ℕ) (size left key : ℕ) (l : LinksRow) → 0 < size → AreLinked keys size left l → key % size < length l.firsts
fits keys size left key l some are = let low = mod_below key size some in omega (arith, low, are.whole)

pub link_step : (keys : List ℕ) (size left v : ℕ) (firsts nexts : List ℕ) → 0 < left → left ≤ length keys → 0 < size
    → v ≡ get_or firsts (get_or keys (left - 1) 0 % size) v → AreLinked keys size left (record { firsts = firsts; nexts = nexts })
    → AreLinked keys size (left - 1) (record { firsts = slice_set firsts (get_or keys (left - 1) 0 % size) (left - 1); nexts = slice_set nexts (left - 1) v })
link_step keys size left v firsts nexts more within some taken are =
    let inside : left - 1 < length keys = omega (arith, more, within) in
    let back : left ≡ suc (left - 1) = omega (arith, more) in
    let slot : ℕ = get_or keys (left - 1) 0 % size in
    let low : slot < length firsts = fits keys size left (get_or keys (left - 1) 0) (row firsts nexts) some are in
    subst (λ w. AreLinked keys size (left - 1) (row (slice_set firsts slot (left - 1)) (slice_set nexts (left - 1) w))) (read_at firsts slot v 0 low taken)
    (link_one keys size (left - 1) slot firsts nexts inside some refl (subst (λ n. AreLinked keys size n (row firsts nexts)) back are))

-- ---- where a search stands

pub is_later : (size k place : ℕ) (xs : List ℕ) → place ≤ place_from size k place xs
is_later size k place [] = omega arith
is_later size k place (x ∷ xs) = elim (eq_tells (x % size) k) [
  | inl same ↦
      let here : place_from size k place (x ∷ xs) ≡ place = ap (λ b. cond b place (place_from size k (place + 1) xs)) same.0 in
      omega (arith, here)
  | inr other ↦
      let there : place_from size k place (x ∷ xs) ≡ place_from size k (place + 1) xs = ap (λ b. cond b place (place_from size k (place + 1) xs)) other.0 in
      let on : place + 1 ≤ place_from size k (place + 1) xs = is_later size k (place + 1) xs in
      omega (arith, there, on)
]

lands : (size k place : ℕ) (xs : List ℕ) (q : ℕ) → q ≡ place_from size k place xs → q < place + length xs → get_or xs (q - place) 0 % size ≡ k
lands size k place [] q is inside = absurd (omega (arith, is, inside))
lands size k place (x ∷ xs) q is inside = elim (eq_tells (x % size) k) [
  | inl same ↦
      let here : q ≡ place = is ∙ ap (λ b. cond b place (place_from size k (place + 1) xs)) same.0 in
      let none : q - place ≡ 0 = omega (arith, here) in
      ap (λ i. get_or (x ∷ xs) i 0 % size) none ∙ same.1
  | inr other ↦
      let there : q ≡ place_from size k (place + 1) xs = is ∙ ap (λ b. cond b place (place_from size k (place + 1) xs)) other.0 in
      let on : place + 1 ≤ place_from size k (place + 1) xs = is_later size k (place + 1) xs in
      let back : q - place ≡ suc (q - (place + 1)) = omega (arith, there, on) in
      ap (λ i. get_or (x ∷ xs) i 0 % size) back ∙ lands size k (place + 1) xs q there (omega (arith, inside))
]

pub lands_at : (keys : List ℕ) (size k from to : ℕ) → to ≡ place_from size k from (drop from keys) → to < length keys → get_or keys to 0 % size ≡ k
lands_at keys size k from to is inside =
    let there : from ≤ place_from size k from (drop from keys) = is_later size k from (drop from keys) in
    let whole : from + (to - from) ≡ to = omega (arith, there, is) in
    let left : to < from + length (drop from keys) = omega (arith, there, is, inside, length-drop from keys) in
    ap (λ i. get_or keys i 0 % size) (sym whole) ∙ ap (λ n. n % size) (sym (get_or-drop from keys (to - from) 0))
    ∙ lands size k from (drop from keys) to is left

-- ---- what is passed over

idle_one : (e : Listed) (r : Ruling) (number sum : ℕ) (x : Entry) (xs : List Entry) → IsIdle r x (gate_for e.gates number)
    → breaking_from e r number sum (x ∷ xs) ≡ breaking_from e r (number + 1) sum xs
idle_one e r number sum x xs idle =
    let same : sum + counted r.subject x ≡ sum = omega (arith, idle.counts) in
    ap (λ b. (if b then number ∷ [] else []) ++ breaking_from e r (number + 1) (sum + counted r.subject x) xs) (idle.holds number (sum + counted r.subject x))
    ∙ ap (λ s. breaking_from e r (number + 1) s xs) same

-- entries that fall elsewhere are idle
abbrev pub Idles : Ruling → ℕ → ℕ → Type 0
Idles r size k = (x : Entry) (g : Gate) → (key_of x g % size ≡ k → ⊥) → IsIdle r x g

skips : (e : Listed) (r : Ruling) (size k : ℕ) → Idles r size k → (place sum : ℕ) (xs : List Entry) (q : ℕ) → q ≡ place_from size k place (keys_from e.gates (place + 1) xs)
    → breaking_from e r (place + 1) sum xs ≡ breaking_from e r (q + 1) sum (drop (q - place) xs)
skips e r size k idle place sum [] q is =
    let none : q - place ≡ 0 = omega (arith, is) in
    sym (ap (λ n. breaking_from e r (q + 1) sum (drop n [])) none)
skips e r size k idle place sum (x ∷ xs) q is = elim (eq_tells (key_of x (gate_for e.gates (place + 1)) % size) k) [
  | inl same ↦
      let here : q ≡ place = is ∙ ap (λ b. cond b place (place_from size k (place + 1) (keys_from e.gates (place + 1 + 1) xs))) same.0 in
      let none : q - place ≡ 0 = omega (arith, here) in
      ap (λ n. breaking_from e r (n + 1) sum (x ∷ xs)) (sym here) ∙ sym (ap (λ n. breaking_from e r (q + 1) sum (drop n (x ∷ xs))) none)
  | inr other ↦
      let there : q ≡ place_from size k (place + 1) (keys_from e.gates (place + 1 + 1) xs) = is ∙ ap (λ b. cond b place (place_from size k (place + 1) (keys_from e.gates (place + 1 + 1) xs))) other.0 in
      let on : place + 1 ≤ place_from size k (place + 1) (keys_from e.gates (place + 1 + 1) xs) = is_later size k (place + 1) (keys_from e.gates (place + 1 + 1) xs) in
      let back : suc (q - (place + 1)) ≡ q - place = omega (arith, there, on) in
      idle_one e r (place + 1) sum x xs (idle x (gate_for e.gates (place + 1)) other.1)
      ∙ skips e r size k idle (place + 1) sum xs q there
      ∙ ap (λ n. breaking_from e r (q + 1) sum (drop n (x ∷ xs))) back
]

-- ---- the keys from a place on

pub even_keys : (gates : List Gate) (number : ℕ) (xs : List Entry) → length (keys_from gates number xs) ≡ length xs
even_keys gates number [] = refl
even_keys gates number (x ∷ xs) = ap suc (even_keys gates (number + 1) xs)

keys_at : (gates : List Gate) (number n : ℕ) (xs : List Entry) → drop n (keys_from gates number xs) ≡ keys_from gates (number + n) (drop n xs)
keys_at gates number zero xs = let same : number + 0 ≡ number = omega arith in rw same refl
keys_at gates number (suc n) [] = refl
keys_at gates number (suc n) (x ∷ xs) =
    let same : number + 1 + n ≡ number + suc n = omega arith in
    keys_at gates (number + 1) n xs ∙ ap (λ m. keys_from gates m (drop n xs)) same

pub passes_over : (e : Listed) (r : Ruling) (size k from to sum : ℕ) → Idles r size k → to ≡ place_from size k from (drop from (keys_from e.gates 1 e.rows))
    → breaking_from e r (from + 1) sum (drop from e.rows) ≡ breaking_from e r (to + 1) sum (drop to e.rows)
passes_over e r size k from to sum idle is =
    let numbers : 1 + from ≡ from + 1 = omega arith in
    let there : to ≡ place_from size k from (keys_from e.gates (from + 1) (drop from e.rows)) =
    is ∙ ap (place_from size k from) (keys_at e.gates 1 from e.rows ∙ ap (λ m. keys_from e.gates m (drop from e.rows)) numbers) in
    let later : from ≤ place_from size k from (keys_from e.gates (from + 1) (drop from e.rows)) = is_later size k from (keys_from e.gates (from + 1) (drop from e.rows)) in
    let whole : from + (to - from) ≡ to = omega (arith, later, there) in
    skips e r size k idle from sum (drop from e.rows) to there
    ∙ ap (breaking_from e r (to + 1) sum) (drop-drop (to - from) from e.rows ∙ ap (λ n. drop n e.rows) whole)
