-- What is let go and joined: chunks again, of the same size together, of which no two free ones touch.
use Rattle.std.proofs.Common.{ℕ, zero, suc, ◌≡◌, ◌+◌, ◌-◌, ◌*◌, ◌/◌, ◌%◌, ◌^◌, ◌<◌, ◌≤◌, ◌⊎◌, inl, inr, ◌||◌, Bool, true, false, not, cond, nat_eq, List, [], ◌∷◌, ◌++◌, map, refl, sym, ap, ◌∙◌, arith, subst}
use Rattle.law_lists.proofs.Tests.{bool_tells, eq_tells}
use Rattle.def_chunks.specs.Chunks.{Chunk, is_free, total_size, AreChunks, BeginsUsed, NoneTouch}
use Rattle.def_chunks.specs.Changes.{painted_chunk, all_painted, leaves, gap, joined}
use Rattle.law_chunks.proofs.Lays.{total_both, are_join}

-- ---- gaps

pub gap_total : (n : ℕ) → total_size (gap n) ≡ n
gap_total n = elim (eq_tells n 0) [ inl e ↦ rw e.0 (sym e.1) | inr e ↦ rw e.0 (omega arith) ]

pub gap_are : (n : ℕ) → n % 8 ≡ 0 → AreChunks (gap n)
gap_are n even = elim (eq_tells n 0) [
  | inl e ↦ rw e.0 tt
  | inr e ↦ rw e.0 ((
    record {
      whole = even;
      some = some n even e.1;
      used = λ used. absurd (let clash : true ≡ false = used in cc);
      states = omega arith;
      number = omega arith;
      blank = λ f. refl;
    },
    tt,
  ))
]
  where
    one_at_least : (m : ℕ) → (m ≡ 0 → ⊥) → 1 ≤ m
    one_at_least zero other = absurd (other refl)
    one_at_least (suc m) other = omega arith

    some : (n : ℕ) → n % 8 ≡ 0 → (n ≡ 0 → ⊥) → 8 ≤ n
    some n even other = elim (eq_tells (n / 8) 0) [
      | inl e ↦ absurd (other (let z = e.1 in omega (arith, z, even)))
      | inr e ↦ (let more : 1 ≤ n / 8 = one_at_least (n / 8) e.1 in omega (arith, more))
    ]

-- a chunk that stays is used
pub stays_used : (c : Chunk) → leaves c ≡ false → is_free c ≡ false
stays_used c stays = elim (bool_tells (is_free c)) [
  | inl e ↦ absurd (let clash : true ≡ false = sym (ap (λ b. b || nat_eq c.state 3) e) ∙ stays in cc)
  | inr e ↦ e
]

-- ---- what joining keeps

pub joined_total : (before : ℕ) (cs : List Chunk) → total_size (joined before cs) ≡ before + total_size cs
joined_total before [] = gap_total before ∙ omega arith
joined_total before (c ∷ cs) = elim (bool_tells (leaves c)) [
  | inl e ↦ rw e (joined_total (before + c.size) cs ∙ omega arith)
  | inr e ↦ rw e (
      let first = gap_total before in
      let rest = joined_total 0 cs in
      total_both (gap before) (c ∷ joined 0 cs) ∙ omega (arith, first, rest))
]

pub joined_are : (before : ℕ) (cs : List Chunk) → before % 8 ≡ 0 → AreChunks cs → AreChunks (joined before cs)
joined_are before [] even are = gap_are before even
joined_are before (c ∷ cs) even are =
    let whole = are.0.whole in
    elim (bool_tells (leaves c)) [
      | inl e ↦ rw e (joined_are (before + c.size) cs (omega (arith, even, whole)) are.1)
      | inr e ↦ rw e (are_join (gap before) (c ∷ joined 0 cs) (gap_are before even) (are.0, joined_are 0 cs (omega arith) are.1))
    ]

-- free bytes before what begins used touch nothing
gap_apart : (n : ℕ) (c : Chunk) (cs : List Chunk) → is_free c ≡ false → NoneTouch (c ∷ cs) → NoneTouch (gap n ++ c ∷ cs)
gap_apart n c cs used apart = elim (bool_tells (nat_eq n 0)) [ inl e ↦ rw e apart | inr e ↦ rw e ((λ f. used, apart)) ]

gap_alone : (n : ℕ) → NoneTouch (gap n)
gap_alone n = elim (bool_tells (nat_eq n 0)) [ inl e ↦ rw e tt | inr e ↦ rw e ((λ f. tt, tt)) ]

pub joined_apart : (before : ℕ) (cs : List Chunk) → NoneTouch (joined before cs)
joined_apart before [] = gap_alone before
joined_apart before (c ∷ cs) = elim (bool_tells (leaves c)) [
  | inl e ↦ rw e (joined_apart (before + c.size) cs)
  | inr e ↦ rw e (
      let used = stays_used c e in
      gap_apart before c (joined 0 cs) used ((λ f. absurd (let clash : true ≡ false = sym f ∙ used in cc), joined_apart 0 cs)))
]

-- ---- what carving keeps

-- free chunks beside a used one, in place of a free one, touch no other
pub carved_apart : (xs : List Chunk) (c d : Chunk) (ys : List Chunk) (front back : ℕ) → is_free c ≡ true → is_free d ≡ false → NoneTouch (xs ++ c ∷ ys) → NoneTouch (xs ++ (gap front ++ d ∷ (gap back ++ ys)))
carved_apart [] c d ys front back free_ used h =
    let after : NoneTouch (gap back ++ ys) = elim (bool_tells (nat_eq back 0)) [ inl e ↦ rw e h.1 | inr e ↦ rw e ((λ f. h.0 free_, h.1)) ] in
    gap_apart front d (gap back ++ ys) used ((λ f. absurd (let clash : true ≡ false = sym f ∙ used in cc), after))
carved_apart (x ∷ xs) c d ys front back free_ used h =
    (λ f. begins xs c d ys front back free_ used (h.0 f), carved_apart xs c d ys front back free_ used h.1)
  where
    begins : (xs : List Chunk) (c d : Chunk) (ys : List Chunk) (front back : ℕ) → is_free c ≡ true → is_free d ≡ false → BeginsUsed (xs ++ c ∷ ys) → BeginsUsed (xs ++ (gap front ++ d ∷ (gap back ++ ys)))
    begins [] c d ys front back free_ used b = absurd (let clash : true ≡ false = sym free_ ∙ b in cc)
    begins (x ∷ xs) c d ys front back free_ used b = b

-- another state of a used chunk
pub state_apart : (xs : List Chunk) (c d : Chunk) (ys : List Chunk) → is_free c ≡ is_free d → NoneTouch (xs ++ c ∷ ys) → NoneTouch (xs ++ d ∷ ys)
state_apart [] c d ys same h = (λ f. h.0 (same ∙ f), h.1)
state_apart (x ∷ xs) c d ys same h = (λ f. begins xs c d ys same (h.0 f), state_apart xs c d ys same h.1)
  where
    begins : (xs : List Chunk) (c d : Chunk) (ys : List Chunk) → is_free c ≡ is_free d → BeginsUsed (xs ++ c ∷ ys) → BeginsUsed (xs ++ d ∷ ys)
    begins [] c d ys same b = sym same ∙ b
    begins (x ∷ xs) c d ys same b = b

-- ---- painting

pub painted_free : (c : Chunk) → is_free (painted_chunk c) ≡ is_free c
painted_free c = elim (eq_tells c.state 2) [
  | inl e ↦ rw e.0 (let two : nat_eq c.state 0 ≡ false = ap (λ n. nat_eq n 0) e.1 in sym two)
  | inr e ↦ rw e.0 refl
]

pub painted_size : (c : Chunk) → (painted_chunk c).size ≡ c.size
painted_size c = elim (bool_tells (nat_eq c.state 2)) [ inl e ↦ rw e refl | inr e ↦ rw e refl ]

pub all_painted_apart : (cs : List Chunk) → NoneTouch cs → NoneTouch (all_painted cs)
all_painted_apart [] h = tt
all_painted_apart (c ∷ cs) h = (λ f. begins cs (h.0 (sym (painted_free c) ∙ f)), all_painted_apart cs h.1)
  where
    begins : (cs : List Chunk) → BeginsUsed cs → BeginsUsed (all_painted cs)
    begins [] b = tt
    begins (c ∷ cs) b = painted_free c ∙ b
