-- The smallest image's bytes, cut short or with a byte more.
use Rattle.std.proofs.Common.{ℕ, suc, ◌≡◌, ◌-◌, ◌<◌, ◌≤◌, ◌&&◌, Bool, true, false, nat_le, List, [], ◌∷◌, ◌++◌, length, take, drop, refl, sym, ap, ◌∙◌, subst, arith, inl, inr}
use Rattle.std.specs.Prelude.{bytes_eq}
use Rattle.std.specs.Int.{w32, from_le_bytes, is_in_range}
use Rattle.std.proofs.lemmas.List.{take-append-drop, length-take, length-drop}
use Rattle.std.proofs.lemmas.Slice.Eq.{bytes_eq-Decides}
use Rattle.law_lists.proofs.Tests.{le_tells, bool_tells, all_three}
use Rattle.def_image.specs.Raw.{RawImage}
use Rattle.def_image.specs.Profile.{last_version}
use Rattle.def_image.specs.Spelling.{magic, raw_of, spelled, image_bytes}
use Rattle.def_image.specs.Shapes.{IsShaped}
use Rattle.def_image.specs.Accepted.{is_begun, Spells, FaultAt}
use Rattle.law_image.proofs.OneCut.{ends_whole}
use Rattle.law_image.proofs.Faults.{eight}
use Rattle.law_image_samples.specs.Tiny.{tiny}
use Rattle.law_answers.specs.Altered.{bytes_of_tiny, altered}
use Rattle.law_answers.proofs.Facts.{plain_by}

tiny_shaped : IsShaped (raw_of tiny)
unfolding raw_of
tiny_shaped = plain_by (raw_of tiny) refl

tiny_long : length bytes_of_tiny ≡ 412
unfolding image_bytes raw_of spelled
tiny_long = refl

not_long : (b : Bool) → b ≡ false → (x y : Bool) → (b && x && y) ≡ false
not_long b e x y = rw e refl

pub short : (n : ℕ) → n < 8 → FaultAt (take n bytes_of_tiny) 1 0
short n lt =
    let bytes = take n bytes_of_tiny in
    let few = length-take n bytes_of_tiny in
    let less : nat_le 8 (length bytes) ≡ false = elim (le_tells 8 (length bytes)) [ inl h ↦ absurd (let long = h.1 in omega (arith, long, few, lt)) | inr h ↦ h.0 ] in
    inl (refl, not_long (nat_le 8 (length bytes)) less (bytes_eq (take 4 bytes) magic) (is_in_range 1 last_version (from_le_bytes w32 (take 4 (drop 4 bytes)))), refl)

-- no fields spell what another spelling goes on from
cut_apart : (r : RawImage) (bytes more : List ℕ) → Spells r bytes → bytes ++ more ≡ bytes_of_tiny → 0 < length more → ⊥
unfolding image_bytes
cut_apart r bytes more spells whole some =
    let ends : more ≡ [] = ends_whole r (raw_of tiny) more spells.0 tiny_shaped (ap (λ (b : List ℕ). b ++ more) (sym spells.1) ∙ whole) in
    absurd (let none = ap (λ (l : List ℕ). length l) ends in omega (arith, none, some))

-- eight bytes and more begin an image
begun_after : (k : ℕ) → is_begun (take (suc (suc (suc (suc (suc (suc (suc (suc k)))))))) bytes_of_tiny) ≡ true
unfolding image_bytes raw_of spelled
begun_after k =
    let bytes = take (suc (suc (suc (suc (suc (suc (suc (suc k)))))))) bytes_of_tiny in
    all_three (nat_le 8 (length bytes)) (bytes_eq (take 4 bytes) magic) (is_in_range 1 last_version (from_le_bytes w32 (take 4 (drop 4 bytes)))) (eight (length (drop 8 bytes))) refl refl

begun_at : (n : ℕ) → 8 ≤ n → is_begun (take n bytes_of_tiny) ≡ true
begun_at n low =
    let is : suc (suc (suc (suc (suc (suc (suc (suc (n - 8)))))))) ≡ n = omega (arith, low) in
    subst (λ (m : ℕ). is_begun (take m bytes_of_tiny) ≡ true) is (begun_after (n - 8))

pub cut : (n : ℕ) → 8 ≤ n → n < 412 → FaultAt (take n bytes_of_tiny) 2 n
cut n low high =
    let bytes = take n bytes_of_tiny in
    let long = tiny_long in
    let size = length-take n bytes_of_tiny in
    let left = length-drop n bytes_of_tiny in
    let place : n ≡ length bytes = omega (arith, size, long, high) in
    inr (begun_at n low, inl (refl, (place, λ r spells. cut_apart r bytes (drop n bytes_of_tiny) spells (take-append-drop n bytes_of_tiny) (omega (arith, left, long, high)))))

one_more : (b : ℕ) (r : RawImage) → Spells r (bytes_of_tiny ++ b ∷ []) → ⊥
unfolding image_bytes
one_more b r spells =
    let more : List ℕ = b ∷ [] in
    let ends : more ≡ [] = ends_whole (raw_of tiny) r more tiny_shaped spells.0 spells.1 in
    absurd (let none = ap (λ (l : List ℕ). length l) ends in omega (arith, none))

pub appended : (b : ℕ) → FaultAt (bytes_of_tiny ++ b ∷ []) 2 413
unfolding image_bytes raw_of spelled
appended b = inr (refl, inl (refl, (refl, λ r spells. one_more b r spells)))

pub other_version : FaultAt (altered 4 (9 ∷ [])) 1 0
unfolding image_bytes raw_of spelled
other_version = inl (refl, refl, refl)

other_front : (b : ℕ) (rest : List ℕ) → (b ≡ 67 → ⊥) → bytes_eq (b ∷ rest) magic ≡ false
other_front b rest other = elim (bool_tells (bytes_eq (b ∷ rest) magic)) [
  | inl h ↦ absurd (let same : b ∷ rest ≡ magic = (bytes_eq-Decides (b ∷ rest) magic).0 h in let first : b ≡ 67 = cc in other first)
  | inr h ↦ h
]

front_not : (x y z : Bool) → y ≡ false → (x && y && z) ≡ false
front_not true y z e = rw e refl
front_not false y z e = refl

pub other_begin : (b : ℕ) → (b ≡ 67 → ⊥) → FaultAt (altered 0 (b ∷ [])) 1 0
other_begin b other =
    let bytes = altered 0 (b ∷ []) in
    inl (
      refl,
      front_not (nat_le 8 (length bytes)) (bytes_eq (take 4 bytes) magic) (is_in_range 1 last_version (from_le_bytes w32 (take 4 (drop 4 bytes))))
          (other_front b (take 3 (drop 1 bytes_of_tiny)) other),
      refl,
    )
