-- Names and numbers as fields of an image.
use Rattle.std.proofs.Common.{ℕ, zero, suc, ◌≡◌, ◌+◌, ◌-◌, ◌<◌, ◌≤◌, ◌&&◌, ◌||◌, not, Bool, true, false, cond, nat_le, nat_lt, nat_eq, List, [], ◌∷◌, ◌++◌, length, drop, Some, None, slice_get, refl, sym, ap, ◌∙◌, subst, append_assoc, append-nil, arith, inl, inr}
use Rattle.std.proofs.lemmas.List.{length-append, length-replicate}
use Rattle.std.specs.Prelude.{⊤, bytes_eq}
use Rattle.std.specs.Char.{is_ascii_digit}
use Rattle.std.specs.List.{AllByRecursion, list_all}
use Rattle.std.proofs.lemmas.Slice.Eq.{bytes_eq-Decides}
use Rattle.std.proofs.lemmas.Bool.{le-leb, leb-true, ltb-true, eqb-true}
use Rattle.std.proofs.Math.Seq.{drop_at}
use Rattle.law_lists.proofs.Alls.{all_joined}
use Rattle.law_lists.proofs.Tests.{eq_tells, both_left, both_right}
use Rattle.law_lists.proofs.Places.{still_there}
use Rattle.def_texts.specs.Names.{is_name, is_name_byte, is_lower, among}
use Rattle.def_image.specs.Spelling.{zeros, name_field, padding_after}
use Rattle.def_image.specs.Shapes.{IsField}
use Rattle.def_image.specs.Profile.{outside}
use Rattle.def_image.specs.Sound.{IsWithin}
use Rattle.def_image.specs.Checks.{first, check}
use Rattle.def_image.specs.Limits.{name_in_field, are_zeros, name_checks}
use Rattle.law_link.proofs.Walks.{next_none}
use Rattle.law_image.proofs.Passing.{one_none}
use Rattle.law_image.proofs.Backs.{no_name}

-- ---- tests

pub inside : (low high n : ℕ) → IsWithin low high n → outside low high n ≡ false
inside low high n w = rw (le-leb low n w.0, le-leb n high w.1) refl

-- ---- bytes of a name

byte_small : (b : ℕ) → is_name_byte b ≡ true → (0 < b) × (b < 256)
byte_small b e = by (is_lower b) (is_ascii_digit b) refl refl e
  where
    in_range : (low high : ℕ) → (nat_le low b && nat_le b high) ≡ true → (low ≤ b) × (b ≤ high)
    in_range low high h = (leb-true low b (both_left (nat_le low b) (nat_le b high) h), leb-true b high (both_right (nat_le low b) (nat_le b high) h))

    by : (x y : Bool) → is_lower b ≡ x → is_ascii_digit b ≡ y → (x || y || nat_eq b 95) ≡ true → (0 < b) × (b < 256)
    by true y lower digit h = let r = in_range 97 122 lower in let low = r.0 in let high = r.1 in (omega (arith, low), omega (arith, high))
    by false true lower digit h = let r = in_range 48 57 digit in let low = r.0 in let high = r.1 in (omega (arith, low), omega (arith, high))
    by false false lower digit h = let is = eqb-true b 95 h in (omega (arith, is), omega (arith, is))

lower_small : (b : ℕ) → is_lower b ≡ true → (0 < b) × (b < 256)
lower_small b e =
    let low = leb-true 97 b (both_left (nat_le 97 b) (nat_le b 122) e) in
    let high = leb-true b 122 (both_right (nat_le 97 b) (nat_le b 122) e) in
    (omega (arith, low), omega (arith, high))

-- what the form of a name says
pub record IsName (n : List ℕ) : Type 0 where
  pub few : length n ≤ 32
  pub clean : AllByRecursion (λ b. 0 < b) n
  pub bytes : AllByRecursion (λ b. b < 256) n

rest_clean : (bs : List ℕ) → list_all is_name_byte bs ≡ true → AllByRecursion (λ b. 0 < b) bs
rest_clean [] e = tt
rest_clean (b ∷ bs) e = ((byte_small b (both_left (is_name_byte b) (list_all is_name_byte bs) e)).0, rest_clean bs (both_right (is_name_byte b) (list_all is_name_byte bs) e))

rest_bytes : (bs : List ℕ) → list_all is_name_byte bs ≡ true → AllByRecursion (λ b. b < 256) bs
rest_bytes [] e = tt
rest_bytes (b ∷ bs) e = ((byte_small b (both_left (is_name_byte b) (list_all is_name_byte bs) e)).1, rest_bytes bs (both_right (is_name_byte b) (list_all is_name_byte bs) e))

pub name_is : (n : List ℕ) → is_name n ≡ true → IsName n
name_is [] e = absurd (let no : false ≡ true = e in cc)
name_is (b ∷ bs) e =
    let first = is_lower b in
    let rest = list_all is_name_byte bs in
    let short = nat_lt (length bs) 32 in
    let two = both_left (first && rest) short e in
    let lt = ltb-true (length bs) 32 (both_right (first && rest) short e) in
    let head = lower_small b (both_left first rest two) in
    let tail = both_right first rest two in
    record { few = omega (arith, lt); clean = (head.0, rest_clean bs tail); bytes = (head.1, rest_bytes bs tail) }

-- ---- zeros

pub zeros_bytes : (n : ℕ) → AllByRecursion (λ b. b < 256) (zeros n)
zeros_bytes zero = tt
zeros_bytes (suc n) = (omega arith, zeros_bytes n)

pub zeros_are : (n : ℕ) → are_zeros (zeros n) ≡ true
zeros_are zero = refl
zeros_are (suc n) = zeros_are n

pub padded : (n : ℕ) → IsField (padding_after n) (zeros (padding_after n))
padded n = record { size = length-replicate (padding_after n) 0; each = zeros_bytes (padding_after n) }

-- ---- a name's field

ends : (name : List ℕ) (k : ℕ) → AllByRecursion (λ b. 0 < b) name → name_in_field (name ++ zeros k) ≡ name
ends [] k h = no_name k
ends (b ∷ bs) k h =
    let some = h.0 in
    let other : nat_eq b 0 ≡ false = elim (eq_tells b 0) [ inl t ↦ absurd (let is = t.1 in omega (arith, is, some)) | inr t ↦ t.0 ] in
    ap (λ c. cond c [] (b ∷ name_in_field (bs ++ zeros k))) other ∙ ap (λ l. b ∷ l) (ends bs k h.1)

-- the name that a field gives back
pub name_back : (n : List ℕ) → IsName n → name_in_field (name_field n) ≡ n
name_back n h = ends n (32 - length n) h.clean

pub name_is_field : (n : List ℕ) → IsName n → IsField 32 (name_field n)
name_is_field n h =
    let few = h.few in
    let sum = length-append n (zeros (32 - length n)) in
    let pad : length (zeros (32 - length n)) ≡ 32 - length n = length-replicate (32 - length n) 0 in
    record {
      size = omega (arith, few, sum, pad);
      each = all_joined (λ b. b < 256) n (zeros (32 - length n)) h.bytes (zeros_bytes (32 - length n));
    }

pub name_passes : (at : ℕ) (unwanted : Bool) (seen : List (List ℕ)) (n : List ℕ) → is_name n ≡ true → among n seen ≡ false → unwanted ≡ false
    → first (name_checks at unwanted seen (name_field n)) ≡ None
unfolding name_checks
name_passes at unwanted seen n formed new wanted =
    let h = name_is n formed in
    let back = name_back n h in
    let first_is : (not (is_name (name_in_field (name_field n))) || among (name_in_field (name_field n)) seen || unwanted) ≡ false = rw back (rw (formed, new, wanted) refl) in
    let second_is : not (are_zeros (drop (length (name_in_field (name_field n))) (name_field n))) ≡ false =
    rw back (ap (λ l. not (are_zeros l)) (drop_at n (zeros (32 - length n)) (length n) refl) ∙ ap not (zeros_are (32 - length n))) in
    next_none (check at (not (is_name (name_in_field (name_field n))) || among (name_in_field (name_field n)) seen || unwanted))
    (check (at + length (name_in_field (name_field n))) (not (are_zeros (drop (length (name_in_field (name_field n))) (name_field n)))) ∷ []) first_is
    (one_none (at + length (name_in_field (name_field n))) (not (are_zeros (drop (length (name_in_field (name_field n))) (name_field n)))) second_is)

-- ---- names that stand once

-- none of them is among those seen and those before it
unfoldable pub New : List (List ℕ) → List (List ℕ) → Type 0
New seen [] = ⊤
New seen (n ∷ ns) = (among n seen ≡ false) × New (seen ++ n ∷ []) ns

found_at : (n : List ℕ) (names : List (List ℕ)) → among n names ≡ true → (k : ℕ) × (k < length names) × (slice_get names k ≡ Some n)
found_at n [] e = absurd (let no : false ≡ true = e in cc)
found_at n (m ∷ ms) e = by (bytes_eq n m) refl e (λ h. found_at n ms h)
  where
    by : (b : Bool) → bytes_eq n m ≡ b → (b || among n ms) ≡ true → (among n ms ≡ true → (k : ℕ) × (k < length ms) × (slice_get ms k ≡ Some n))
        → (k : ℕ) × (k < suc (length ms)) × (slice_get (m ∷ ms) k ≡ Some n)
    by true is h rest = (zero, omega arith, ap Some (sym ((bytes_eq-Decides n m).0 is)))
    by false is h rest = let r = rest h in let lt = r.1 in (suc r.0, omega (arith, lt), r.2)

at_length : {A : Type 0} (xs : List A) (x : A) (ys : List A) → slice_get (xs ++ x ∷ ys) (length xs) ≡ Some x
at_length [] x ys = refl
at_length (z ∷ zs) x ys = at_length zs x ys

Once : List (List ℕ) → Type 0
Once names = (i j : ℕ) (n : List ℕ) → slice_get names i ≡ Some n → slice_get names j ≡ Some n → i ≡ j

new_from : (seen names : List (List ℕ)) → Once (seen ++ names) → New seen names
unfolding New Once
new_from seen [] h = tt
new_from seen (n ∷ ns) h = (
  by (among n seen) refl,
  new_from (seen ++ n ∷ []) ns (subst Once (sym (append_assoc seen (n ∷ []) ns)) h),
)
  where
    by : (b : Bool) → among n seen ≡ b → b ≡ false
    by false is = refl
    by true is = absurd (
        let k = found_at n seen is in
        let lt = k.1 in
        let same = h k.0 (length seen) n (still_there seen (n ∷ ns) k.0 n k.2) (at_length seen n ns) in
        omega (arith, lt, same))

pub all_new : (names : List (List ℕ)) → ((i j : ℕ) (n : List ℕ) → slice_get names i ≡ Some n → slice_get names j ≡ Some n → i ≡ j) → New [] names
unfolding Once
all_new names h = new_from [] names h

pub new_left : (seen xs ys : List (List ℕ)) → New seen (xs ++ ys) → New seen xs
unfolding New
new_left seen [] ys h = tt
new_left seen (x ∷ xs) ys h = (h.0, new_left (seen ++ x ∷ []) xs ys h.1)

pub new_right : (seen xs ys : List (List ℕ)) → New seen (xs ++ ys) → New (seen ++ xs) ys
unfolding New
new_right seen [] ys h = subst (λ l. New l ys) (sym (append-nil seen)) h
new_right seen (x ∷ xs) ys h = subst (λ l. New l ys) (append_assoc seen (x ∷ []) xs) (new_right (seen ++ x ∷ []) xs ys h.1)
