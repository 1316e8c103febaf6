-- A reader is exact where what it takes from the front is spelled so, and what is spelled so it takes.
use Rattle.std.proofs.Common.{ℕ, zero, suc, ◌≡◌, ◌+◌, ◌^◌, ◌<◌, ◌≤◌, Bool, true, false, cond, nat_lt, List, [], ◌∷◌, ◌++◌, get_or, take, drop, length, Option, Some, None, refl, sym, ap, ◌∙◌, subst, append_assoc, arith, inl, inr}
use Rattle.std.specs.List.{flat_map, AllByRecursion}
use Rattle.std.specs.Int.{w32, from_le_bytes}
use Rattle.std.proofs.lemmas.Bool.{cases_lt, ltb-false, le-ltb}
use Rattle.std.proofs.lemmas.List.{take_at, drop_at, take-append-drop, length-append, length-take, get_or-drop, get_or-take, get_or_past}
use Rattle.std.proofs.lemmas.List.Concat.{flat_map-cons}
use Rattle.std.proofs.lemmas.Nat.{from_le_bytes-to_le_bytes_4, le_bytes_4}
use Rattle.def_image.specs.Spelling.{number}
use Rattle.def_image.specs.Shapes.{IsField, IsNumber}
use Rattle.ct_image_fields.specs.Reading.{◌>>=◌, field_at, number_at, many_at}

abbrev pub IsBytes : List ℕ → Type 0
IsBytes bytes = (i : ℕ) → get_or bytes i 0 < 256

-- a value taken from the front, and the bytes after it
pub record Took {A : Type 0} (P : A → Type 0) (spell : A → List ℕ) (bytes : List ℕ) (x : A × List ℕ) : Type 0 where
  pub parts : bytes ≡ spell x.0 ++ x.1
  pub holds : P x.0
  pub fits : IsBytes x.1

pub record Exact {A : Type 0} (P : A → Type 0) (spell : A → List ℕ) (read : List ℕ → Option (A × List ℕ)) : Type 0 where
  pub takes : (bytes : List ℕ) (x : A × List ℕ) → IsBytes bytes → read bytes ≡ Some x → Took P spell bytes x
  pub again : (a : A) (rest : List ℕ) → P a → read (spell a ++ rest) ≡ Some (a, rest)

-- ---- one reader after another

-- a reader took a value after what stands in front, and k goes on to z
pub record Stepped {A C : Type 0} (P : A → Type 0) (spell : A → List ℕ) (front bytes : List ℕ) (k : A × List ℕ → Option C) (z : C) : Type 0 where
  pub found : A × List ℕ
  pub whole : bytes ≡ (front ++ spell found.0) ++ found.1
  pub holds : P found.0
  pub fits : IsBytes found.1
  pub goes : k found ≡ Some z

pub bind_some : {A B : Type 0} (r : Option A) (f : A → Option B) (y : B) → (r >>= f) ≡ Some y → (x : A) × (r ≡ Some x) × (f x ≡ Some y)
bind_some (Some x) f y e = (x, refl, e)
bind_some None f y e = absurd cc

step : {A C : Type 0} {P : A → Type 0} {spell : A → List ℕ} {read : List ℕ → Option (A × List ℕ)} → Exact P spell read
    → (front bytes rest : List ℕ) (k : A × List ℕ → Option C) (z : C) → bytes ≡ front ++ rest → IsBytes rest → (read rest >>= k) ≡ Some z → Stepped P spell front bytes k z
step {A = A} {P = P} {spell = spell} {read = read} exact front bytes rest k z whole fits e =
    let s = bind_some (read rest) k z e in
    let t : Took P spell rest s.0 = exact.takes rest s.0 fits s.1 in
    record {
      found = s.0;
      whole = whole ∙ ap (λ (r : List ℕ). front ++ r) t.parts ∙ sym (append_assoc front (spell s.0.0) s.0.1);
      holds = t.holds;
      fits = t.fits;
      goes = s.2;
    }

pub begin : {A C : Type 0} {P : A → Type 0} {spell : A → List ℕ} {read : List ℕ → Option (A × List ℕ)} → Exact P spell read
    → (bytes : List ℕ) (k : A × List ℕ → Option C) (z : C) → IsBytes bytes → (read bytes >>= k) ≡ Some z → Stepped P spell [] bytes k z
begin exact bytes k z fits e = step exact [] bytes bytes k z refl fits e

pub then : {A B C : Type 0} {P : A → Type 0} {spell : A → List ℕ} {front bytes : List ℕ} {j : A × List ℕ → Option C} {z : C}
    {Q : B → Type 0} {tell : B → List ℕ} {read : List ℕ → Option (B × List ℕ)} → Exact Q tell read
    → (s : Stepped P spell front bytes j z) (k : B × List ℕ → Option C) → (read s.found.1 >>= k) ≡ Some z → Stepped Q tell (front ++ spell s.found.0) bytes k z
then {spell = spell} {front = front} {bytes = bytes} {z = z} exact s k e = step exact (front ++ spell s.found.0) bytes s.found.1 k z s.whole s.fits e

abbrev some : {A : Type 0} → A → Option A
some x = Some x

some_is : {A : Type 0} (x y : A) → some x ≡ some y → x ≡ y
some_is x y e = cc

-- what was put together of the values
pub made : {A : Type 0} (P : A → Type 0) (spell : A → List ℕ) (a : A) (bytes rest : List ℕ) (x : A × List ℕ) → bytes ≡ spell a ++ rest → P a → IsBytes rest → some (a, rest) ≡ Some x → Took P spell bytes x
made {A = A} P spell a bytes rest x whole holds fits e =
    let here : Took P spell bytes (a, rest) = record { parts = whole; holds = holds; fits = fits } in
    subst (λ (y : A × List ℕ). Took P spell bytes y) (some_is (a, rest) x e) here

-- what is spelled so is read, and the rest goes on
pub on : {A C : Type 0} {P : A → Type 0} {spell : A → List ℕ} {read : List ℕ → Option (A × List ℕ)} → Exact P spell read
    → (a : A) (rest : List ℕ) (k : A × List ℕ → Option C) → P a → (read (spell a ++ rest) >>= k) ≡ k (a, rest)
on exact a rest k holds = ap (λ r. r >>= k) (exact.again a rest holds)

-- ---- fields

pub bytes_of : (bytes : List ℕ) → IsBytes bytes → AllByRecursion (λ b. b < 256) bytes
bytes_of [] h = tt
bytes_of (b ∷ bs) h = (h 0, bytes_of bs (λ i. h (suc i)))

bytes_take : (n : ℕ) (bytes : List ℕ) → IsBytes bytes → IsBytes (take n bytes)
bytes_take n bytes h i = elim (cases_lt i n) [
  | inl lt ↦ rw (get_or-take n bytes i 0 lt) (h i)
  | inr le ↦ rw (get_or_past (take n bytes) i 0 (omega (arith, length-take n bytes, le))) (omega arith)
]

bytes_drop : (n : ℕ) (bytes : List ℕ) → IsBytes bytes → IsBytes (drop n bytes)
bytes_drop n bytes h i = rw get_or-drop (h (n + i))

guard_some : {A : Type 0} (b : Bool) (x y : A) → cond b None (Some x) ≡ Some y → (b ≡ false) × (x ≡ y)
guard_some true x y e = absurd cc
guard_some false x y e = (refl, cc)

field_takes : (n : ℕ) (bytes : List ℕ) (x : List ℕ × List ℕ) → IsBytes bytes → field_at n bytes ≡ Some x → Took (IsField n) (λ b. b) bytes x
field_takes n bytes x fits e =
    let g = guard_some (nat_lt (length bytes) n) (take n bytes, drop n bytes) x e in
    let long : n ≤ length bytes = ltb-false _ _ g.0 in
    let size : length (take n bytes) ≡ n = omega (arith, length-take n bytes, long) in
    let here : Took (IsField n) (λ b. b) bytes (take n bytes, drop n bytes) = record {
      parts = sym (take-append-drop n bytes);
      holds = record { size = size; each = bytes_of (take n bytes) (bytes_take n bytes fits) };
      fits = bytes_drop n bytes fits;
    } in
    subst (λ (y : List ℕ × List ℕ). Took (IsField n) (λ b. b) bytes y) g.1 here

field_again : (n : ℕ) (b rest : List ℕ) → IsField n b → field_at n (b ++ rest) ≡ Some (b, rest)
field_again n b rest holds =
    let size = holds.size in
    let long : nat_lt (length (b ++ rest)) n ≡ false = le-ltb _ _ (omega (arith, length-append b rest, size)) in
    rw (long, take_at b rest n size, drop_at b rest n size) refl

pub field_exact : (n : ℕ) → Exact (IsField n) (λ b. b) (field_at n)
field_exact n = record { takes = field_takes n; again = field_again n }

number_takes : (bytes : List ℕ) (x : ℕ × List ℕ) → IsBytes bytes → number_at bytes ≡ Some x → Took IsNumber number bytes x
number_takes bytes x fits e =
    let front = take 4 bytes in
    let g = guard_some (nat_lt (length bytes) 4) (from_le_bytes w32 front, drop 4 bytes) x e in
    let long : 4 ≤ length bytes = ltb-false _ _ g.0 in
    let size : length front ≡ 4 = omega (arith, length-take 4 bytes, long) in
    let each : IsBytes front = bytes_take 4 bytes fits in
    let spelled : number (from_le_bytes w32 front) ≡ front = le_bytes_4 front (from_le_bytes w32 front) size each refl in
    let small : from_le_bytes w32 front < 2 ^ 32 = omega (arith, each 0, each 1, each 2, each 3) in
    let here : Took IsNumber number bytes (from_le_bytes w32 front, drop 4 bytes) = record {
      parts = sym (take-append-drop 4 bytes) ∙ ap (λ (f : List ℕ). f ++ drop 4 bytes) (sym spelled);
      holds = small;
      fits = bytes_drop 4 bytes fits;
    } in
    subst (λ (y : ℕ × List ℕ). Took IsNumber number bytes y) g.1 here

number_again : (n : ℕ) (rest : List ℕ) → IsNumber n → number_at (number n ++ rest) ≡ Some (n, rest)
number_again n rest small =
    let long : nat_lt (length (number n ++ rest)) 4 ≡ false = le-ltb _ _ (omega (arith, length-append (number n) rest)) in
    rw long (ap (λ (m : ℕ). some (m, rest)) (from_le_bytes-to_le_bytes_4 n small))

pub number_exact : Exact IsNumber number number_at
number_exact = record { takes = number_takes; again = number_again }

-- ---- so many members

abbrev pub AreSo : {A : Type 0} → (A → Type 0) → ℕ → List A → Type 0
AreSo P n xs = (length xs ≡ n) × AllByRecursion P xs

many_takes : {A : Type 0} {P : A → Type 0} {spell : A → List ℕ} {read : List ℕ → Option (A × List ℕ)} → Exact P spell read
    → (n : ℕ) (bytes : List ℕ) (x : List A × List ℕ) → IsBytes bytes → many_at read n bytes ≡ Some x → Took (AreSo P n) (flat_map spell) bytes x
unfolding many_at
many_takes {A = A} {P = P} {spell = spell} exact zero bytes x fits e = made (AreSo P zero) (flat_map spell) [] bytes bytes x refl (refl, tt) fits e
many_takes {A = A} {P = P} {spell = spell} {read = read} exact (suc n) bytes x fits e =
    let a = begin exact bytes (λ first. many_at read n first.1 >>= λ others. Some (first.0 ∷ others.0, others.1)) x fits e in
    let b = bind_some (many_at read n a.found.1) (λ others. Some (a.found.0 ∷ others.0, others.1)) x a.goes in
    let t : Took (AreSo P n) (flat_map spell) a.found.1 b.0 = many_takes exact n a.found.1 b.0 a.fits b.1 in
    let first = a.found.0 in
    let others = b.0.0 in
    let whole : bytes ≡ flat_map spell (first ∷ others) ++ b.0.1 =
    a.whole ∙ ap (λ (r : List ℕ). spell first ++ r) t.parts ∙ sym (append_assoc (spell first) (flat_map spell others) b.0.1)
    ∙ ap (λ (r : List ℕ). r ++ b.0.1) (sym (flat_map-cons spell first others)) in
    made (AreSo P (suc n)) (flat_map spell) (first ∷ others) bytes b.0.1 x whole (ap suc t.holds.0, (a.holds, t.holds.1)) t.fits b.2

many_again : {A : Type 0} {P : A → Type 0} {spell : A → List ℕ} {read : List ℕ → Option (A × List ℕ)} → Exact P spell read
    → (xs : List A) (rest : List ℕ) → AllByRecursion P xs → many_at read (length xs) (flat_map spell xs ++ rest) ≡ Some (xs, rest)
unfolding many_at
many_again exact [] rest holds = refl
many_again {spell = spell} {read = read} exact (x ∷ xs) rest holds =
    let regrouped : flat_map spell (x ∷ xs) ++ rest ≡ spell x ++ (flat_map spell xs ++ rest) =
    ap (λ (r : List ℕ). r ++ rest) (flat_map-cons spell x xs) ∙ append_assoc (spell x) (flat_map spell xs) rest in
    ap (many_at read (suc (length xs))) regrouped ∙ rw (exact.again x (flat_map spell xs ++ rest) holds.0, many_again exact xs rest holds.1) refl

pub many_exact : {A : Type 0} {P : A → Type 0} {spell : A → List ℕ} {read : List ℕ → Option (A × List ℕ)} → Exact P spell read
    → (n : ℕ) → Exact (AreSo P n) (flat_map spell) (many_at read n)
many_exact {A = A} {P = P} {spell = spell} {read = read} exact n = record {
  takes = many_takes exact n;
  again = λ xs rest holds. subst (λ (m : ℕ). many_at read m (flat_map spell xs ++ rest) ≡ Some (xs, rest)) holds.0 (many_again exact xs rest holds.1);
}
