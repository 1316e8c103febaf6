-- Lists made of one block for each member of a list, and where a member's block begins, as a sum.
use Rattle.std.proofs.Common.{ℕ, zero, suc, ◌≡◌, ◌+◌, ◌-◌, ◌≤◌, ◌<◌, ◌⊎◌, inl, inr, List, [], ◌∷◌, ◌++◌, length, Some, slice_get, refl, sym, ap, ◌∙◌, subst, arith, length-append, append_assoc}
use Rattle.law_lists.proofs.Tests.{lt_tells}
use Rattle.def_image.specs.Sizes.{sum_of}
use Rattle.def_image.specs.Members.{number_in}
use Rattle.def_boot.specs.Entries.{rows_from}
use Rattle.ct_entry.specs.declared.rows.Entry.{Entry}

-- ---- a list put before another

pub before : {A : Type 0} (xs ys : List A) (k : ℕ) → k < length xs → slice_get (xs ++ ys) k ≡ slice_get xs k
before [] ys k lt = absurd (omega (arith, lt))
before (x ∷ xs) ys zero lt = refl
before (x ∷ xs) ys (suc k) lt = before xs ys k (omega (arith, lt))

pub further : {A : Type 0} (xs ys : List A) (k : ℕ) → slice_get (xs ++ ys) (length xs + k) ≡ slice_get ys k
further [] ys k = ap (λ i. slice_get ys i) (let same : 0 + k ≡ k = omega arith in same)
further (x ∷ xs) ys k =
    let next : length (x ∷ xs) + k ≡ suc (length xs + k) = omega arith in
    ap (λ i. slice_get (x ∷ (xs ++ ys)) i) next ∙ further xs ys k

-- ---- numbers

pub number_low : {A : Type 0} (entries : A → ℕ) (n : ℕ) (xs : List A) (k : ℕ) (x : A) → slice_get xs k ≡ Some x → n ≤ number_in entries n xs k
number_low entries n [] k x is = cc
number_low entries n (y ∷ ys) zero x is = omega arith
number_low entries n (y ∷ ys) (suc k) x is = let more = number_low entries (n + entries y) ys k x is in omega (arith, more)

pub number_high : {A : Type 0} (entries : A → ℕ) (n : ℕ) (xs : List A) (k : ℕ) (x : A) → slice_get xs k ≡ Some x → number_in entries n xs k + entries x ≤ n + sum_of entries xs
number_high entries n [] k x is = cc
number_high entries n (y ∷ ys) zero x is = let same : y ≡ x = cc in let P : ℕ → Type 0 = λ e. n + e ≤ n + (entries y + sum_of entries ys) in subst P (ap entries same) (omega arith)
number_high entries n (y ∷ ys) (suc k) x is = let more = number_high entries (n + entries y) ys k x is in omega (arith, more)

-- where the first has a number more, so has each
pub number_next : {A : Type 0} (entries : A → ℕ) (n : ℕ) (xs : List A) (k : ℕ) (x : A) → slice_get xs k ≡ Some x → number_in entries (n + 1) xs k ≡ number_in entries n xs k + 1
number_next entries n [] k x is = cc
number_next entries n (y ∷ ys) zero x is = refl
number_next entries n (y ∷ ys) (suc k) x is =
    let same : n + 1 + entries y ≡ n + entries y + 1 = omega arith in
    ap (λ m. number_in entries m ys k) same ∙ number_next entries (n + entries y) ys k x is

-- a place among the blocks is in one of them, or past all
pub record IsAt {A : Type 0} (entries : A → ℕ) (n : ℕ) (xs : List A) (m : ℕ) : Type 0 where
  pub index : ℕ
  pub member : A
  pub offset : ℕ
  pub there : slice_get xs index ≡ Some member
  pub inside : offset < entries member
  pub number : n + m ≡ number_in entries n xs index + offset

pub place_in : {A : Type 0} (entries : A → ℕ) (n : ℕ) (xs : List A) (m : ℕ) → IsAt entries n xs m ⊎ (sum_of entries xs ≤ m)
place_in entries n [] m = inr (omega arith)
place_in entries n (y ∷ ys) m = elim (lt_tells m (entries y)) [
  | inl h ↦ inl (record { index = zero; member = y; offset = m; there = refl; inside = h.1; number = refl })
  | inr h ↦
      let past = h.1 in
      elim (place_in entries (n + entries y) ys (m - entries y)) [
        | inl at ↦
            let number = at.number in
            inl (record { index = suc at.index; member = at.member; offset = at.offset; there = at.there; inside = at.inside; number = omega (arith, number, past) })
        | inr more ↦ inr (omega (arith, more, past))
      ]
]

-- ---- blocks

-- each member's block has as many rows as are counted for it
abbrev pub IsCounted : {A : Type 0} → (ℕ → A → List Entry) → (A → ℕ) → Type 0
IsCounted {A = A} rows entries = (i : ℕ) (x : A) → length (rows i x) ≡ entries x

pub rows_count : {A : Type 0} (rows : ℕ → A → List Entry) (entries : A → ℕ) → IsCounted rows entries → (i : ℕ) (xs : List A) → length (rows_from rows i xs) ≡ sum_of entries xs
rows_count rows entries count i [] = refl
rows_count rows entries count i (x ∷ xs) =
    let rest = rows_count rows entries count (i + 1) xs in
    let one = count i x in
    length-append (rows i x) (rows_from rows (i + 1) xs) ∙ (let both : length (rows i x) + length (rows_from rows (i + 1) xs) ≡ entries x + sum_of entries xs = omega (arith, one, rest) in both)

-- row m is that at an offset of a member's block
pub block_there : {A : Type 0} (rows : ℕ → A → List Entry) (entries : A → ℕ) → IsCounted rows entries → (i n : ℕ) (xs : List A) (tail : List Entry) (k : ℕ) (x : A) (j m : ℕ)
    → slice_get xs k ≡ Some x → j < entries x → n + m ≡ number_in entries n xs k + j → slice_get (rows_from rows i xs ++ tail) m ≡ slice_get (rows (i + k) x) j
block_there rows entries count i n [] tail k x j m is lt at = cc
block_there rows entries count i n (y ∷ ys) tail zero x j m is lt at =
    let same : y ≡ x = cc in
    let place : m ≡ j = omega (arith, at) in
    let size = count i y in
    let few : j < entries y = subst (λ z. j < entries z) (sym same) lt in
    let index : i ≡ i + 0 = omega arith in
    ap (λ l. slice_get l m) (append_assoc (rows i y) (rows_from rows (i + 1) ys) tail)
    ∙ ap (λ q. slice_get (rows i y ++ (rows_from rows (i + 1) ys ++ tail)) q) place
    ∙ before (rows i y) (rows_from rows (i + 1) ys ++ tail) j (omega (arith, size, few))
    ∙ ap (λ q. slice_get (rows q y) j) index
    ∙ ap (λ z. slice_get (rows (i + 0) z) j) same
block_there rows entries count i n (y ∷ ys) tail (suc k) x j m is lt at =
    let low = number_low entries (n + entries y) ys k x is in
    let size = count i y in
    let place : m ≡ length (rows i y) + (m - entries y) = omega (arith, at, low, size) in
    let index : i + 1 + k ≡ i + suc k = omega arith in
    ap (λ l. slice_get l m) (append_assoc (rows i y) (rows_from rows (i + 1) ys) tail)
    ∙ ap (λ q. slice_get (rows i y ++ (rows_from rows (i + 1) ys ++ tail)) q) place
    ∙ further (rows i y) (rows_from rows (i + 1) ys ++ tail) (m - entries y)
    ∙ block_there rows entries count (i + 1) (n + entries y) ys tail k x j (m - entries y) is lt (omega (arith, at, low))
    ∙ ap (λ q. slice_get (rows q x) j) index

-- past all blocks stands what follows them
pub blocks_past : {A : Type 0} (rows : ℕ → A → List Entry) (entries : A → ℕ) → IsCounted rows entries → (i : ℕ) (xs : List A) (tail : List Entry) (m q : ℕ)
    → m ≡ sum_of entries xs + q → slice_get (rows_from rows i xs ++ tail) m ≡ slice_get tail q
blocks_past rows entries count i xs tail m q at =
    let size = rows_count rows entries count i xs in
    let place : m ≡ length (rows_from rows i xs) + q = omega (arith, at, size) in
    ap (λ k. slice_get (rows_from rows i xs ++ tail) k) place ∙ further (rows_from rows i xs) tail q
