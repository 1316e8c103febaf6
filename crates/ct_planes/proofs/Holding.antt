-- Words and the bytes that hold them.
use Rattle.std.proofs.Common.{ℕ, zero, suc, ◌≡◌, ◌+◌, ◌-◌, ◌*◌, ◌/◌, ◌%◌, ◌^◌, ◌<◌, ◌≤◌, ◌⊎◌, inl, inr, List, [], ◌∷◌, ◌++◌, length, take, drop, get_or, replicate, refl, sym, ap, ◌∙◌, arith, lit<, subst, Vec, Global}
use Rattle.std.proofs.Math.ListN.{set}
use Rattle.std.specs.Vec.{with_items}
use Rattle.std.proofs.lemmas.List.{with_items_is}
use Rattle.std.proofs.lemmas.Nat.{mod_below, pow_pos}
use Rattle.std.specs.Simd.Lanes.{number_l}
use Rattle.std.proofs.lemmas.List.{length-take, length-drop, length-set, length-replicate, get_or-take, get_or-drop, get_or-set_same, get_or-set_other, get_or_past}
use Rattle.std.proofs.lemmas.List.FromFn.{fill_by_all}
use Rattle.law_lists.proofs.Tests.{eq_tells, lt_tells}
use Rattle.law_granules.proofs.Bytes.{byte_small, byte_next, same_from_bytes}
use Rattle.std.specs.Int.{w32, w64, from_le_bytes, to_le_bytes}
use Rattle.std.specs.Simd.Lanes.{put_chunk}
use Rattle.std.proofs.lemmas.Nat.{from_le_bytes-to_le_bytes_8}
use Rattle.std.proofs.lemmas.List.{take_all}
use Rattle.std.proofs.lemmas.Simd.{put_chunk_is, length-put_chunk, get_or-put_chunk_below, get_or-put_chunk_at, get_or-put_chunk_above}
use Rattle.def_memory.specs.Accesses.{byte_of, part_of, with_part}
use Rattle.law_granules.proofs.Words.{pair_of, four_of}
use Rattle.law_granules.proofs.Bytes.{put_byte_below, put_byte_above, put_byte_inside}
use Rattle.ct_mem.proofs.Parts.{replaced_fits, replaced_is}
use Rattle.ct_planes.specs.Bytes.{word_in, words_in, HoldsWords, KeptBytes}
use Rattle.ct_planes.specs.Fills.{filled}
use Rattle.ct_planes.proofs.Fillings.{length_filled, filled_inside, filled_rest}
use Rattle.ct_planes.proofs.Runs.{run_tells}
use Rattle.ct_planes.proofs.Spelling.{same_everywhere}

zero_byte : (i : ℕ) → byte_of 0 i ≡ 0
zero_byte zero = refl
zero_byte (suc i) = byte_next 0 i ∙ zero_byte i

-- the number that bytes spell has those bytes
number_byte : (xs : List ℕ) (i : ℕ) → ((k : ℕ) → get_or xs k 0 < 256) → byte_of (number_l 256 xs) i ≡ get_or xs i 0
number_byte [] i small = zero_byte i
number_byte (x ∷ xs) zero small = let low : (x + 256 * number_l 256 xs) / 1 % 256 ≡ x = omega (arith, small 0) in low
number_byte (x ∷ xs) (suc i) small =
    let high : (x + 256 * number_l 256 xs) / 256 ≡ number_l 256 xs = omega (arith, small 0) in
    byte_next (x + 256 * number_l 256 xs) i ∙ ap (λ n. byte_of n i) high ∙ number_byte xs i (λ k. small (suc k))

number_small : (xs : List ℕ) → ((k : ℕ) → get_or xs k 0 < 256) → number_l 256 xs < 256 ^ length xs
number_small [] small = lit< tt
number_small (x ∷ xs) small =
    let more : 256 ^ suc (length xs) ≡ 256 * 256 ^ length xs = omega arith in
    omega (arith, small 0, number_small xs (λ k. small (suc k)), more)

-- byte i of word k
pub held_byte : (ws bs : List ℕ) (k i : ℕ) → HoldsWords ws bs → i < 8 → get_or bs (8 * k + i) 0 ≡ byte_of (get_or ws k 0) i
held_byte ws bs k i h small =
    let word : (8 * k + i) / 8 ≡ k = omega arith in
    let place : (8 * k + i) % 8 ≡ i = omega arith in
    h.bytes_are (8 * k + i) ∙ ap (λ n. byte_of (get_or ws n 0) ((8 * k + i) % 8)) word ∙ ap (λ n. byte_of (get_or ws k 0) n) place

small_bytes : (ws bs : List ℕ) (j : ℕ) → HoldsWords ws bs → get_or bs j 0 < 256
small_bytes ws bs j h = rw (h.bytes_are j) (byte_small (get_or ws (j / 8) 0) (j % 8))

taken_small : (xs : List ℕ) (n k : ℕ) → ((j : ℕ) → get_or xs j 0 < 256) → get_or (take n xs) k 0 < 256
taken_small xs n k small = elim (lt_tells k n) [
  | inl p ↦ rw (get_or-take n xs k 0 p.1) (small k)
  | inr p ↦ rw (get_or_past (take n xs) k 0 (omega (arith, p.1, length-take n xs))) (lit< tt)
]

dropped_small : (xs : List ℕ) (n k : ℕ) → ((j : ℕ) → get_or xs j 0 < 256) → get_or (drop n xs) k 0 < 256
dropped_small xs n k small = rw (get_or-drop n xs k 0) (small (n + k))

-- a word read from its bytes
pub word_back : (ws bs : List ℕ) (k : ℕ) → HoldsWords ws bs → k < length ws → word_in bs k ≡ get_or ws k 0
word_back ws bs k h lt =
    let xs = take 8 (drop (8 * k) bs) in
    let small : (j : ℕ) → get_or xs j 0 < 256 = λ j. taken_small (drop (8 * k) bs) 8 j (λ i. dropped_small bs (8 * k) i (λ n. small_bytes ws bs n h)) in
    let eight : length xs ≡ 8 = omega (arith, length-take 8 (drop (8 * k) bs), length-drop (8 * k) bs, h.size) in
    let fits : word_in bs k < 256 ^ 8 = subst (λ n. word_in bs k < 256 ^ n) eight (number_small xs small) in
    same_from_bytes 8 (word_in bs k) (get_or ws k 0) fits (h.small k) (λ i few. number_byte xs i small ∙ get_or-take 8 (drop (8 * k) bs) i 0 few ∙ get_or-drop (8 * k) bs i 0 ∙ held_byte ws bs k i h few)

pub words_back : (ws bs : List ℕ) → HoldsWords ws bs → words_in bs ≡ ws
words_back ws bs h =
    let count : length bs / 8 ≡ length ws = omega (arith, h.size) in
    sym (fill_by_all (word_in bs) ws (length bs / 8) 0 (sym count) (λ k lt. sym (word_back ws bs k h (omega (arith, lt, count)))))

pub holds_new : (n : ℕ) → HoldsWords (replicate n 0) (replicate (8 * n) 0)
holds_new n = record {
  size = length-replicate {A = ℕ} (8 * n) 0 ∙ ap (λ k. 8 * k) (sym (length-replicate {A = ℕ} n 0));
  small = λ k. rw (same_everywhere {A = ℕ} n k 0) (lit< tt);
  bytes_are = λ at. rw (same_everywhere {A = ℕ} (8 * n) at 0, same_everywhere {A = ℕ} n (at / 8) 0) (sym (zero_byte (at % 8)));
}

-- a word written anew, where no byte of another word changes
pub holds_word : (ws bs cs : List ℕ) (k w : ℕ) → HoldsWords ws bs → length cs ≡ length bs → k < length ws → w < 2 ^ 64 → ((i : ℕ) → i < 8 → get_or cs (8 * k + i) 0 ≡ byte_of w i) → ((j : ℕ) → (j / 8 ≡ k → ⊥) → get_or cs j 0 ≡ get_or bs j 0) → HoldsWords (set ws k w) cs
holds_word ws bs cs k w h same within fits here rest = record {
  size = same ∙ h.size ∙ ap (λ n. 8 * n) (sym (length-set ws k w));
  small = λ n. elim (eq_tells n k) [
    | inl p ↦ subst (λ q. get_or (set ws k w) q 0 < 2 ^ 64) (sym p.1) (rw (get_or-set_same ws k w 0 within) fits)
    | inr p ↦ rw (get_or-set_other ws k n w 0 p.1) (h.small n)
  ];
  bytes_are = λ at. elim (eq_tells (at / 8) k) [
    | inl p ↦ let there : 8 * k + at % 8 ≡ at = omega (arith, p.1) in
        ap (λ n. get_or cs n 0) (sym there) ∙ here (at % 8) (omega arith) ∙ ap (λ x. byte_of x (at % 8)) (sym (get_or-set_same ws k w 0 within)) ∙ ap (λ n. byte_of (get_or (set ws k w) n 0) (at % 8)) (sym p.1)
    | inr p ↦ rest at p.1 ∙ h.bytes_are at ∙ ap (λ x. byte_of x (at % 8)) (sym (get_or-set_other ws k (at / 8) w 0 p.1))
  ];
}

pub kept_bytes : (ws bs : List ℕ) → length bs < 2 ^ 32 → HoldsWords ws bs → KeptBytes bs
kept_bytes ws bs small h = (small, rw (words_back ws bs h) h)

-- a byte at or after an offset, in the same word
pub held_at : (ws bs : List ℕ) (at i : ℕ) → HoldsWords ws bs → at % 8 + i < 8 → get_or bs (at + i) 0 ≡ byte_of (get_or ws (at / 8) 0) (at % 8 + i)
held_at ws bs at i h small =
    let there : 8 * (at / 8) + (at % 8 + i) ≡ at + i = omega arith in
    ap (λ n. get_or bs n 0) (sym there) ∙ held_byte ws bs (at / 8) (at % 8 + i) h small

-- a whole word, read byte by byte
pub word_read : (ws bs : List ℕ) (at : ℕ) → HoldsWords ws bs → at % 8 ≡ 0
    → from_le_bytes w64 (get_or bs at 0 ∷ get_or bs (at + 1) 0 ∷ get_or bs (at + 2) 0 ∷ get_or bs (at + 3) 0 ∷ get_or bs (at + 4) 0 ∷ get_or bs (at + 5) 0 ∷ get_or bs (at + 6) 0 ∷ get_or bs (at + 7) 0 ∷ []) ≡ get_or ws (at / 8) 0
word_read ws bs at h aligned =
    let w = get_or ws (at / 8) 0 in
    let byte : (i : ℕ) → i < 8 → get_or bs (at + i) 0 ≡ byte_of w i = λ i small. held_at ws bs at i h (omega (arith, aligned, small)) ∙ ap (λ p. byte_of w (p + i)) aligned ∙ ap (λ p. byte_of w p) (omega arith) in
    let first : get_or bs at 0 ≡ w % 256 = ap (λ n. get_or bs n 0) (omega arith) ∙ byte 0 (lit< tt) ∙ omega arith in
    (λ i. from_le_bytes w64 (first i ∷ byte 1 (lit< tt) i ∷ byte 2 (lit< tt) i ∷ byte 3 (lit< tt) i ∷ byte 4 (lit< tt) i ∷ byte 5 (lit< tt) i ∷ byte 6 (lit< tt) i ∷ byte 7 (lit< tt) i ∷ []))
    ∙ from_le_bytes-to_le_bytes_8 w (h.small (at / 8))

pub part_fits : (w p n v : ℕ) → w < 2 ^ 64 → p + n ≤ 8 → with_part w p n v < 2 ^ 64
part_fits w p n v small inside =
    let below : v % 2 ^ (8 * n) < 2 ^ (8 * n) = mod_below v (2 ^ (8 * n)) (pow_pos (8 * n)) in
    omega (arith, replaced_fits w p n (v % 2 ^ (8 * n)) small inside below, replaced_is w p n (v % 2 ^ (8 * n)))

-- the low bytes of a value written into a word
pub holds_put : (ws bs xs : List ℕ) (at n v : ℕ) → HoldsWords ws bs → length xs ≡ n → at % 8 + n ≤ 8 → 0 < n → at + n ≤ length bs → ((j : ℕ) → j < n → get_or xs j 0 ≡ byte_of v j) → HoldsWords (set ws (at / 8) (with_part (get_or ws (at / 8) 0) (at % 8) n v)) (put_chunk at bs xs)
holds_put ws bs xs at n v h many inside some within bytes =
    let k = at / 8 in
    let p = at % 8 in
    let w = get_or ws k 0 in
    holds_word ws bs (put_chunk at bs xs) k (with_part w p n v) h (length-put_chunk at bs xs) (omega (arith, h.size)) (part_fits w p n v (h.small k) inside)
    (λ i small. elim (lt_tells i p) [
      | inl q ↦ get_or-put_chunk_below at bs xs (8 * k + i) 0 (omega (arith, q.1)) ∙ held_byte ws bs k i h small ∙ sym (put_byte_below w p n v i q.1)
      | inr q ↦ elim (lt_tells i (p + n)) [
        | inl r ↦ let there : 8 * k + i ≡ at + (i - p) = omega (arith, q.1) in
            let same : p + (i - p) ≡ i = omega (arith, q.1) in
            ap (λ j. get_or (put_chunk at bs xs) j 0) there ∙ get_or-put_chunk_at at bs xs (i - p) 0 (omega (arith, many, q.1, r.1)) (omega (arith, many)) ∙ bytes (i - p) (omega (arith, q.1, r.1)) ∙ sym (put_byte_inside w p n v (i - p) (omega (arith, q.1, r.1))) ∙ ap (λ j. byte_of (with_part w p n v) j) same
        | inr r ↦ get_or-put_chunk_above at bs xs (8 * k + i) 0 (omega (arith, many, r.1)) ∙ held_byte ws bs k i h small ∙ sym (put_byte_above w p n v i r.1)
      ]
    ])
    (λ j far. elim (lt_tells j at) [
      | inl q ↦ get_or-put_chunk_below at bs xs j 0 q.1
      | inr q ↦ get_or-put_chunk_above at bs xs j 0 (elim (lt_tells j (at + n)) [ inl r ↦ let near : j / 8 ≡ k = omega (arith, q.1, r.1) in absurd (far near) | inr r ↦ omega (arith, many, r.1) ])
    ])

-- each byte of a word as it is written
word_bytes : (w i : ℕ) → i < 8 → get_or (to_le_bytes w64 w) i 0 ≡ byte_of w i
word_bytes w zero small = let e : w % 256 ≡ w / 1 % 256 = omega arith in e
word_bytes w (suc zero) small = refl
word_bytes w (suc (suc zero)) small = refl
word_bytes w (suc (suc (suc zero))) small = refl
word_bytes w (suc (suc (suc (suc zero)))) small = refl
word_bytes w (suc (suc (suc (suc (suc zero))))) small = refl
word_bytes w (suc (suc (suc (suc (suc (suc zero)))))) small = refl
word_bytes w (suc (suc (suc (suc (suc (suc (suc zero))))))) small = refl
word_bytes w (suc (suc (suc (suc (suc (suc (suc (suc i)))))))) small = absurd (omega (arith, small))

-- a whole word written
pub holds_put_word : (ws bs : List ℕ) (at w : ℕ) → HoldsWords ws bs → at % 8 ≡ 0 → at + 8 ≤ length bs → w < 2 ^ 64 → HoldsWords (set ws (at / 8) w) (put_chunk at bs (to_le_bytes w64 w))
holds_put_word ws bs at w h aligned within fits =
    let xs = to_le_bytes w64 w in
    let k = at / 8 in
    holds_word ws bs (put_chunk at bs xs) k w h (length-put_chunk at bs xs) (omega (arith, h.size)) fits
    (λ i small. let there : 8 * k + i ≡ at + i = omega (arith, aligned) in
    ap (λ j. get_or (put_chunk at bs xs) j 0) there ∙ get_or-put_chunk_at at bs xs i 0 small within ∙ word_bytes w i small)
    (λ j far. elim (lt_tells j at) [
      | inl q ↦ get_or-put_chunk_below at bs xs j 0 q.1
      | inr q ↦ get_or-put_chunk_above at bs xs j 0 (elim (lt_tells j (at + 8)) [ inl r ↦ let near : j / 8 ≡ k = omega (arith, q.1, r.1, aligned) in absurd (far near) | inr r ↦ r.1 ])
    ])

pub pair_read : (ws bs : List ℕ) (at : ℕ) → HoldsWords ws bs → at % 2 ≡ 0 → get_or bs at 0 + get_or bs (at + 1) 0 * 256 ≡ part_of (get_or ws (at / 8) 0) (at % 8) 2
pair_read ws bs at h aligned =
    let w = get_or ws (at / 8) 0 in
    omega (arith, pair_of w (at % 8), h.bytes_are at, held_at ws bs at 1 h (omega (arith, aligned)))

pub four_read : (ws bs : List ℕ) (at : ℕ) → HoldsWords ws bs → at % 4 ≡ 0 → get_or bs at 0 + get_or bs (at + 1) 0 * 256 + get_or bs (at + 2) 0 * 65536 + get_or bs (at + 3) 0 * 16777216 ≡ part_of (get_or ws (at / 8) 0) (at % 8) 4
four_read ws bs at h aligned =
    let w = get_or ws (at / 8) 0 in
    omega (arith, four_of w (at % 8), h.bytes_are at, held_at ws bs at 1 h (omega (arith, aligned)), held_at ws bs at 2 h (omega (arith, aligned)), held_at ws bs at 3 h (omega (arith, aligned)))

pub four_left : (width : ℕ) → (width ≡ 1) ⊎ (width ≡ 2) ⊎ (width ≡ 4) → (width ≡ 1 → ⊥) → (width ≡ 2 → ⊥) → width ≡ 4
four_left width (inl e) one two = absurd (one e)
four_left width (inr (inl e)) one two = absurd (two e)
four_left width (inr (inr e)) one two = e

-- the lowest bytes of a number as they are written
low_bytes : (v j : ℕ) → j < 4 → get_or (to_le_bytes w32 v) j 0 ≡ byte_of v j
low_bytes v zero small = let e : v % 256 ≡ v / 1 % 256 = omega arith in e
low_bytes v (suc zero) small = refl
low_bytes v (suc (suc zero)) small = refl
low_bytes v (suc (suc (suc zero))) small = refl
low_bytes v (suc (suc (suc (suc j)))) small = absurd (omega (arith, small))

pub holds_low : (ws bs l : List ℕ) (at n v : ℕ) → HoldsWords ws bs → l ≡ to_le_bytes w32 v → n ≤ 4 → at % 8 + n ≤ 8 → 0 < n → at + n ≤ length bs → HoldsWords (set ws (at / 8) (with_part (get_or ws (at / 8) 0) (at % 8) n v)) (put_chunk at bs (take n l))
holds_low ws bs l at n v h low few inside some within =
    let four : length l ≡ 4 = ap length low in
    holds_put ws bs (take n l) at n v h (omega (arith, length-take n l, four)) inside some within (λ j lt. get_or-take n l j 0 lt ∙ ap (λ m. get_or m j 0) low ∙ low_bytes v j (omega (arith, lt, few)))

-- words cleared
pub holds_zero : (ws bs : List ℕ) (from to : ℕ) → HoldsWords ws bs → from ≤ to → to ≤ length ws → HoldsWords (filled from to 0 ws) (put_chunk (8 * from) bs (replicate (8 * to - 8 * from) 0))
holds_zero ws bs from to h order inside =
    let zs : List ℕ = replicate (8 * to - 8 * from) 0 in
    let many : length zs ≡ 8 * to - 8 * from = length-replicate {A = ℕ} (8 * to - 8 * from) 0 in
    record {
      size = length-put_chunk (8 * from) bs zs ∙ h.size ∙ ap (λ n. 8 * n) (sym (length_filled from to 0 ws));
      small = λ k. elim (run_tells from to k) [
        | inl p ↦ rw (filled_inside {A = ℕ} from to 0 ws k 0 p.0 p.1 (omega (arith, p.1))) (lit< tt)
        | inr r ↦ rw (filled_rest {A = ℕ} from to 0 ws k 0 r) (h.small k)
      ];
      bytes_are = λ at. elim (run_tells from to (at / 8)) [
        | inl p ↦ let there : 8 * from + (at - 8 * from) ≡ at = omega (arith, p.0) in
            ap (λ j. get_or (put_chunk (8 * from) bs zs) j 0) (sym there) ∙ get_or-put_chunk_at (8 * from) bs zs (at - 8 * from) 0 (omega (arith, many, p.0, p.1)) (omega (arith, many, h.size))
            ∙ same_everywhere {A = ℕ} (8 * to - 8 * from) (at - 8 * from) 0 ∙ sym (zero_byte (at % 8)) ∙ ap (λ x. byte_of x (at % 8)) (sym (filled_inside {A = ℕ} from to 0 ws (at / 8) 0 p.0 p.1 (omega (arith, p.1))))
        | inr r ↦ elim r [
          | inl q ↦ get_or-put_chunk_below (8 * from) bs zs at 0 (omega (arith, q)) ∙ h.bytes_are at ∙ ap (λ x. byte_of x (at % 8)) (sym (filled_rest {A = ℕ} from to 0 ws (at / 8) 0 (inl q)))
          | inr q ↦ get_or-put_chunk_above (8 * from) bs zs at 0 (omega (arith, many, q)) ∙ h.bytes_are at ∙ ap (λ x. byte_of x (at % 8)) (sym (filled_rest {A = ℕ} from to 0 ws (at / 8) 0 (inr q)))
        ]
      ];
    }

-- a plane of bytes closed over new bytes
pub closed : (v : Vec ℕ Global) (ws bs : List ℕ) → length bs ≡ v.len → v.len < 2 ^ 32 → HoldsWords ws bs → KeptBytes (with_items v bs).items
closed v ws bs size small h = subst (λ l. KeptBytes l) (sym (with_items_is v bs size)) (kept_bytes ws bs (omega (arith, size, small)) h)

pub closed_words : (v : Vec ℕ Global) (ws bs : List ℕ) → length bs ≡ v.len → HoldsWords ws bs → words_in (with_items v bs).items ≡ ws
closed_words v ws bs size h = ap words_in (with_items_is v bs size) ∙ words_back ws bs h

pub holds_four : (ws bs l : List ℕ) (at v : ℕ) → HoldsWords ws bs → l ≡ to_le_bytes w32 v → at % 4 ≡ 0 → at + 4 ≤ length bs → HoldsWords (set ws (at / 8) (with_part (get_or ws (at / 8) 0) (at % 8) 4 v)) (put_chunk at bs l)
holds_four ws bs l at v h low aligned within =
    let all : take 4 l ≡ l = take_all 4 l (omega (arith, ap length low)) in
    let new = set ws (at / 8) (with_part (get_or ws (at / 8) 0) (at % 8) 4 v) in
    subst (λ m. HoldsWords new (put_chunk at bs m)) all (holds_low ws bs l at 4 v h low (omega arith) (omega (arith, aligned)) (lit< tt) within)

-- the same where the cleared bytes stand between what was before and after them
pub holds_zeros : (ws bs ys : List ℕ) (from to : ℕ) → HoldsWords ws bs → from ≤ to → to ≤ length ws → ys ≡ replicate (8 * to - 8 * from) 0 → HoldsWords (filled from to 0 ws) (take (8 * from) bs ++ (ys ++ drop (8 * to - 8 * from) (drop (8 * from) bs)))
holds_zeros ws bs ys from to h order inside zeros =
    let wide : length ys ≡ 8 * to - 8 * from = ap length zeros ∙ length-replicate {A = ℕ} (8 * to - 8 * from) 0 in
    let put : put_chunk (8 * from) bs ys ≡ take (8 * from) bs ++ (ys ++ drop (length ys) (drop (8 * from) bs)) = put_chunk_is (8 * from) bs ys (omega (arith, wide, h.size)) in
    let same : put_chunk (8 * from) bs ys ≡ take (8 * from) bs ++ (ys ++ drop (8 * to - 8 * from) (drop (8 * from) bs)) = put ∙ ap (λ n. take (8 * from) bs ++ (ys ++ drop n (drop (8 * from) bs))) wide in
    subst (λ l. HoldsWords (filled from to 0 ws) l) same (subst (λ l. HoldsWords (filled from to 0 ws) (put_chunk (8 * from) bs l)) (sym zeros) (holds_zero ws bs from to h order inside))
