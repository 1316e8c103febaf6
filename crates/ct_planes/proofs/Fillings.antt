-- A run of a list written with one value, place by place.
use Rattle.std.proofs.Common.{ℕ, ◌≡◌, ◌+◌, ◌-◌, ◌<◌, ◌≤◌, ◌⊎◌, inl, inr, true, false, cond, ◌&&◌, nat_le, nat_lt, List, ◌++◌, length, take, drop, replicate, get_or, refl, sym, ap, ◌∙◌, arith}
use Rattle.std.proofs.lemmas.List.{get_or_default, get_or_past, length-replicate, get_or-replicate}
use Rattle.std.specs.Simd.Lanes.{put_chunk}
use Rattle.std.proofs.lemmas.Simd.{put_chunk_is, length-put_chunk, get_or-put_chunk_below, get_or-put_chunk_at, get_or-put_chunk_above}
use Rattle.std.proofs.lemmas.List.FromFn.{get_or-map-range_with_len, length-map-range_with_len, fill_by_all}
use Rattle.law_lists.proofs.Tests.{lt_tells, le_tells}
use Rattle.ct_planes.specs.Fills.{filled, filled_at}

pub length_filled : {A : Type 0} (from to : ℕ) (x : A) (xs : List A) → length (filled from to x xs) ≡ length xs
length_filled from to x xs = length-map-range_with_len (filled_at from to x xs) 0 (length xs)

-- whether a place lies in the run
pub in_run : (from to k : ℕ) → from ≤ k → k < to → (nat_le from k && nat_lt k to) ≡ true
in_run from to k le lt = elim (le_tells from k) [ inl p ↦ elim (lt_tells k to) [ inl q ↦ rw (p.0, q.0) refl | inr q ↦ absurd (omega (arith, q.1)) ] | inr p ↦ absurd (omega (arith, p.1)) ]

pub out_of_run : (from to k : ℕ) → (k < from) ⊎ (to ≤ k) → (nat_le from k && nat_lt k to) ≡ false
out_of_run from to k out =
    elim (le_tells from k) [ inl p ↦ elim (lt_tells k to) [ inl q ↦ elim out [ inl h ↦ absurd (omega (arith, p.1)) | inr h ↦ absurd (omega (arith, q.1)) ] | inr q ↦ rw (p.0, q.0) refl ] | inr p ↦ rw p.0 refl ]

pub filled_inside : {A : Type 0} (from to : ℕ) (x : A) (xs : List A) (k : ℕ) (d : A) → from ≤ k → k < to → k < length xs → get_or (filled from to x xs) k d ≡ x
filled_inside from to x xs k d le lt within =
    get_or-map-range_with_len (filled_at from to x xs) 0 (length xs) k k d within (omega arith) ∙ ap (λ b. cond b x (get_or xs k x)) (in_run from to k le lt)

pub filled_rest : {A : Type 0} (from to : ℕ) (x : A) (xs : List A) (k : ℕ) (d : A) → (k < from) ⊎ (to ≤ k) → get_or (filled from to x xs) k d ≡ get_or xs k d
filled_rest from to x xs k d out = elim (lt_tells k (length xs)) [
  | inl p ↦ get_or-map-range_with_len (filled_at from to x xs) 0 (length xs) k k d p.1 (omega arith) ∙ ap (λ b. cond b x (get_or xs k x)) (out_of_run from to k out) ∙ get_or_default xs k x d p.1
  | inr p ↦ get_or_past (filled from to x xs) k d (omega (arith, p.1, length_filled from to x xs)) ∙ sym (get_or_past xs k d p.1)
]

-- a list that has the value in the run, and is as it was elsewhere, is the one that was filled
pub filled_from : {A : Type 0} (from to : ℕ) (x d : A) (xs ys : List A) → length ys ≡ length xs → ((k : ℕ) → from ≤ k → k < to → k < length xs → get_or ys k d ≡ x) → ((k : ℕ) → (k < from) ⊎ (to ≤ k) → get_or ys k d ≡ get_or xs k d) → ys ≡ filled from to x xs
filled_from from to x d xs ys size inside rest =
    fill_by_all (filled_at from to x xs) ys (length xs) d size (λ k lt. elim (le_tells from k) [
      | inl p ↦ elim (lt_tells k to) [
        | inl q ↦ inside k p.1 q.1 lt ∙ sym (ap (λ b. cond b x (get_or xs k x)) (in_run from to k p.1 q.1))
        | inr q ↦ rest k (inr q.1) ∙ get_or_default xs k d x lt ∙ sym (ap (λ b. cond b x (get_or xs k x)) (out_of_run from to k (inr q.1)))
      ]
      | inr p ↦ rest k (inl p.1) ∙ get_or_default xs k d x lt ∙ sym (ap (λ b. cond b x (get_or xs k x)) (out_of_run from to k (inl p.1)))
    ])

-- the run as a part between what was before and after it
pub filled_mid : {A : Type 0} (from to : ℕ) (x : A) (xs ys : List A) → from ≤ to → to ≤ length xs → ys ≡ replicate (to - from) x → take from xs ++ (ys ++ drop (to - from) (drop from xs)) ≡ filled from to x xs
filled_mid from to x xs ys order inside same =
    let wide : length ys ≡ to - from = ap length same ∙ length-replicate (to - from) x in
    let put : put_chunk from xs ys ≡ take from xs ++ (ys ++ drop (to - from) (drop from xs)) = put_chunk_is from xs ys (omega (arith, wide)) ∙ ap (λ n. take from xs ++ (ys ++ drop n (drop from xs))) wide in
    sym put ∙ filled_from from to x x xs (put_chunk from xs ys) (length-put_chunk from xs ys)
    (λ k le lt within. let there : from + (k - from) ≡ k = omega arith in
    ap (λ j. get_or (put_chunk from xs ys) j x) (sym there) ∙ get_or-put_chunk_at from xs ys (k - from) x (omega (arith, wide)) (omega (arith, wide)) ∙ ap (λ l. get_or l (k - from) x) same ∙ get_or-replicate (to - from) (k - from) x x (omega arith))
    (λ k out. elim out [ inl p ↦ get_or-put_chunk_below from xs ys k x p | inr p ↦ get_or-put_chunk_above from xs ys k x (omega (arith, wide, p)) ])
