-- The rows that those kept stand for: what a search tells of them, and what they are after one has gone, after one was
-- put in, and after those that have gone were let out.
use Rattle.std.proofs.Common.{◌≡◌, ℕ, zero, suc, ◌<◌, ◌==◌, ◌||◌, ◌≢◌, Bool, true, false, nat_lt, List, [], ◌∷◌, length, get_or, set, Option, Some, None, inl, inr, sym, ap, ◌∙◌, refl, arith}
use Rattle.std.specs.Prelude.{filter}
use Rattle.std.specs.List.{insert, list_any}
use Rattle.std.proofs.lemmas.Bool.{cases_eq, lt-ltb, eq-eqb}
use Rattle.std.proofs.Math.Bool.{or-false}
use Rattle.std.proofs.lemmas.Bool.Decides.{nat_tests}
use Rattle.ct_token.specs.declared.rows.Standing.{Standing}
use Rattle.ct_token.specs.declared.rows.Standing.TheVariants.{Gone, Key, TokenOf}
use Rattle.ct_token.specs.declared.rows.Row.{Row}
use Rattle.def_machine.specs.State.{Token}
use Rattle.def_step.specs.Quotas.{without_row}
use Rattle.def_step.specs.Tokens.{row_among, is_key_row, is_row_of}
use Rattle.ct_token.specs.Table.{is_number, has_row, row_for}
use Rattle.ct_token.specs.Kept.{before, tokens_in, AllAbove, Rise, no_row, number_at, IsAt, IsGapFor, standing_in, is_kept, standing_for, is_key, is_token_of}
use Rattle.ct_token.proofs.Found.{rises, standing_found}

eq_not : (a b : ℕ) → (a ≡ b → ⊥) → (a == b) ≡ false
eq_not a b isnt = grind (arith, nat_tests, isnt)

lt_not : (a b : ℕ) → b < a → nat_lt a b ≡ false
lt_not a b lt = grind (arith, nat_tests, lt)

-- ---- tests of one number

abbrev pub Only : ℕ → (Token → Bool) → Type 0
Only n p = (k : Token) → (k.number ≡ n → ⊥) → p k ≡ false

none_by : (p : Token → Bool) (n m : ℕ) (t : Standing) (ks : List Token) → Only n p → n < m → list_any p ks ≡ false → list_any p (before m t ks) ≡ false
none_by p n m Gone ks only lt rest = rest
none_by p n m Key ks only lt rest = rw (only (row_for m None) (λ same. omega (arith, lt, same))) rest
none_by p n m (TokenOf key) ks only lt rest = rw (only (row_for m (Some key)) (λ same. omega (arith, lt, same))) rest

none_above : (p : Token → Bool) (n : ℕ) (l : List Row) → Only n p → AllAbove n l → list_any p (tokens_in l) ≡ false
none_above p n [] only all = refl
none_above p n (x ∷ l) only all = none_by p n x.number x.standing (tokens_in l) only all.0 (none_above p n l only all.1)

pub any_told : (p : Token → Bool) (n : ℕ) (l : List Row) → Only n p → Rise l → list_any p (tokens_in l) ≡ list_any p (before n (standing_in l n) [])
any_told p n [] only rise = refl
any_told p n (x ∷ l) only rise = elim (cases_eq x.number n) [
  | inl is ↦ rw (eq-eqb x.number n is) (here is x.standing)
  | inr isnt ↦ rw (eq_not x.number n isnt) (there isnt x.standing ∙ any_told p n l only rise.1)
]
  where
    later : x.number ≡ n → list_any p (tokens_in l) ≡ false
    later is = none_above p x.number l (λ k isnt. only k (λ same. isnt (same ∙ sym is))) rise.0

    here : x.number ≡ n → (t : Standing) → list_any p (before x.number t (tokens_in l)) ≡ list_any p (before n t [])
    here is Gone = later is
    here is Key = rw (is, later is) refl
    here is (TokenOf key) = rw (is, later is) refl

    there : (x.number ≡ n → ⊥) → (t : Standing) → list_any p (before x.number t (tokens_in l)) ≡ list_any p (tokens_in l)
    there isnt Gone = refl
    there isnt Key = rw (only (row_for x.number None) isnt) refl
    there isnt (TokenOf key) = rw (only (row_for x.number (Some key)) isnt) refl

pub key_told : (n : ℕ) (l : List Row) → Rise l → list_any (is_key_row n) (tokens_in l) ≡ list_any (is_key_row n) (before n (standing_in l n) [])
key_told n l rise = any_told (is_key_row n) n l (λ k isnt. rw (eq_not k.number n isnt) refl) rise

pub row_told : (key n : ℕ) (l : List Row) → Rise l → list_any (is_row_of key n) (tokens_in l) ≡ list_any (is_row_of key n) (before n (standing_in l n) [])
row_told key n l rise = any_told (is_row_of key n) n l (λ k isnt. rw (eq_not k.number n isnt) refl) rise

-- ---- a row is dropped

others_by : (n m : ℕ) (t : Standing) (ks js : List Token) → (m ≡ n → ⊥) → js ≡ without_row n ks → before m t js ≡ without_row n (before m t ks)
others_by n m Gone ks js apart rest = rest
others_by n m Key ks js apart rest = rw (eq_not m n apart) (ap (λ ks. (row_for m None) ∷ ks) rest)
others_by n m (TokenOf key) ks js apart rest = rw (eq_not m n apart) (ap (λ ks. (row_for m (Some key)) ∷ ks) rest)

others_stay : (n : ℕ) (l : List Row) → AllAbove n l → tokens_in l ≡ without_row n (tokens_in l)
others_stay n [] all = refl
others_stay n (x ∷ l) all = others_by n x.number x.standing (tokens_in l) (tokens_in l) (λ same. (let gt = all.0 in omega (arith, gt, same))) (others_stay n l all.1)

itself_by : (n m : ℕ) (t : Standing) (ks : List Token) → m ≡ n → ks ≡ without_row n ks → ks ≡ without_row n (before m t ks)
itself_by n m Gone ks is rest = rest
itself_by n m Key ks is rest = rw (eq-eqb m n is) rest
itself_by n m (TokenOf key) ks is rest = rw (eq-eqb m n is) rest

inner_at : (x : Row) (l : List Row) (n i : ℕ) → IsAt (x ∷ l) n (suc i) → IsAt l n i
inner_at x l n i at = record { in_range = (let lt = at.in_range in omega (arith, lt)); has_number = at.has_number }

pub dropped : (n : ℕ) (l : List Row) (i : ℕ) → Rise l → IsAt l n i → tokens_in (set l i (record { number = n; standing = Gone })) ≡ without_row n (tokens_in l)
dropped n [] i rise at = absurd (let lt = at.in_range in omega (arith, lt))
dropped n (x ∷ l) zero rise at = itself_by n x.number x.standing (tokens_in l) at.has_number (rw (sym at.has_number) (others_stay x.number l rise.0))
dropped n (x ∷ l) (suc i) rise at =
    let lt = rises (x ∷ l) rise 0 (suc i) (omega arith) at.in_range in
    others_by n x.number x.standing (tokens_in l) (tokens_in (set l i (record { number = n; standing = Gone }))) (λ same. omega (arith, lt, at.has_number, same)) (dropped n l i rise.1 (inner_at x l n i at))

pub none_dropped : (n : ℕ) (l : List Row) → ((j : ℕ) → j < length l → number_at l j ≢ n) → tokens_in l ≡ without_row n (tokens_in l)
none_dropped n [] none = refl
none_dropped n (x ∷ l) none = others_by n x.number x.standing (tokens_in l) (tokens_in l) (none 0 (omega arith)) (none_dropped n l (λ j lt. none (suc j) (omega (arith, lt))))

pub gap_dropped : (n : ℕ) (l : List Row) (i : ℕ) → IsGapFor l n i → tokens_in l ≡ without_row n (tokens_in l)
gap_dropped n l i gap = none_dropped n l (λ j lt same. grind (arith, gap.smaller_before j, gap.greater_after j))

-- numbers stay, and rise
above_set : (m n : ℕ) (t : Standing) (l : List Row) (i : ℕ) → IsAt l n i → AllAbove m l → AllAbove m (set l i (record { number = n; standing = t }))
above_set m n t [] i at all = tt
above_set m n t (x ∷ l) zero at all = ((let gt = all.0 in omega (arith, gt, at.has_number)), all.1)
above_set m n t (x ∷ l) (suc i) at all = (all.0, above_set m n t l i (record { in_range = (let lt = at.in_range in omega (arith, lt)); has_number = at.has_number }) all.1)

pub rise_set : (n : ℕ) (t : Standing) (l : List Row) (i : ℕ) → IsAt l n i → Rise l → Rise (set l i (record { number = n; standing = t }))
rise_set n t [] i at rise = tt
rise_set n t (x ∷ l) zero at rise = (rw (sym at.has_number) rise.0, rise.1)
rise_set n t (x ∷ l) (suc i) at rise =
    let inner : IsAt l n i = record { in_range = (let lt = at.in_range in omega (arith, lt)); has_number = at.has_number } in
    (above_set x.number n t l i inner rise.0, rise_set n t l i inner rise.1)

-- ---- a row is put in

abbrev pub kept_as : ℕ → Standing → Row
kept_as n t = record { number = n; standing = t }

row_first : (n : ℕ) (k : Option ℕ) (ks : List Token) → before n (standing_for k) ks ≡ row_for n k ∷ ks
row_first n None ks = refl
row_first n (Some key) ks = refl

first_by : (k : Token) (m : ℕ) (t : Standing) (ks : List Token) → k.number < m → row_among k ks ≡ k ∷ ks → row_among k (before m t ks) ≡ k ∷ before m t ks
first_by k m Gone ks lt rest = rest
first_by k m Key ks lt rest = rw (lt-ltb k.number m lt) refl
first_by k m (TokenOf key) ks lt rest = rw (lt-ltb k.number m lt) refl

put_first : (k : Token) (l : List Row) → AllAbove k.number l → row_among k (tokens_in l) ≡ k ∷ tokens_in l
put_first k [] all = refl
put_first k (x ∷ l) all = first_by k x.number x.standing (tokens_in l) all.0 (put_first k l all.1)

later_by : (k : Token) (m : ℕ) (t : Standing) (ks js : List Token) → m < k.number → js ≡ row_among k ks → before m t js ≡ row_among k (before m t ks)
later_by k m Gone ks js lt rest = rest
later_by k m Key ks js lt rest = rw (lt_not k.number m lt) (ap (λ ks. (row_for m None) ∷ ks) rest)
later_by k m (TokenOf key) ks js lt rest = rw (lt_not k.number m lt) (ap (λ ks. (row_for m (Some key)) ∷ ks) rest)

all_above : (n : ℕ) (l : List Row) → ((j : ℕ) → j < length l → n < number_at l j) → AllAbove n l
all_above n [] all = tt
all_above n (x ∷ l) all = (all 0 (omega arith), all_above n l (λ j lt. all (suc j) (omega (arith, lt))))

inner_gap : (x : Row) (l : List Row) (n i : ℕ) → IsGapFor (x ∷ l) n (suc i) → IsGapFor l n i
inner_gap x l n i gap = record {
  in_range = (let le = gap.in_range in omega (arith, le));
  smaller_before = λ j lt. gap.smaller_before (suc j) (omega (arith, lt));
  greater_after = λ j le lt. gap.greater_after (suc j) (omega (arith, le)) (omega (arith, lt));
}

pub inserted : (n : ℕ) (k : Option ℕ) (l : List Row) (i : ℕ) → IsGapFor l n i → tokens_in (insert l i (kept_as n (standing_for k))) ≡ row_among (row_for n k) (tokens_in l)
inserted n k l zero gap = row_first n k (tokens_in l) ∙ sym (put_first (row_for n k) l (all_above n l (λ j lt. gap.greater_after j (omega arith) lt)))
inserted n k [] (suc i) gap = absurd (let le = gap.in_range in omega (arith, le))
inserted n k (x ∷ l) (suc i) gap =
    later_by (row_for n k) x.number x.standing (tokens_in l) (tokens_in (insert l i (kept_as n (standing_for k)))) (gap.smaller_before 0 (omega arith)) (inserted n k l i (inner_gap x l n i gap))

above_insert : (m n : ℕ) (t : Standing) (l : List Row) (i : ℕ) → m < n → AllAbove m l → AllAbove m (insert l i (kept_as n t))
above_insert m n t l zero lt all = (lt, all)
above_insert m n t [] (suc i) lt all = (lt, tt)
above_insert m n t (x ∷ l) (suc i) lt all = (all.0, above_insert m n t l i lt all.1)

pub rise_insert : (n : ℕ) (t : Standing) (l : List Row) (i : ℕ) → IsGapFor l n i → Rise l → Rise (insert l i (kept_as n t))
rise_insert n t l zero gap rise = (all_above n l (λ j lt. gap.greater_after j (omega arith) lt), rise)
rise_insert n t [] (suc i) gap rise = absurd (let le = gap.in_range in omega (arith, le))
rise_insert n t (x ∷ l) (suc i) gap rise = (above_insert x.number n t l i (gap.smaller_before 0 (omega arith)) rise.0, rise_insert n t l i (inner_gap x l n i gap) rise.1)

-- ---- one that is gone is revived

pub revived : (n : ℕ) (k : Option ℕ) (l : List Row) (i : ℕ) → Rise l → IsAt l n i → (get_or l i no_row).standing ≡ Gone → tokens_in (set l i (kept_as n (standing_for k))) ≡ row_among (row_for n k) (tokens_in l)
revived n k [] i rise at gone = absurd (let lt = at.in_range in omega (arith, lt))
revived n k (x ∷ l) zero rise at gone = rw gone (row_first n k (tokens_in l) ∙ sym (put_first (row_for n k) l (rw (sym at.has_number) rise.0)))
revived n k (x ∷ l) (suc i) rise at gone =
    let lt = rises (x ∷ l) rise 0 (suc i) (omega arith) at.in_range in
    later_by (row_for n k) x.number x.standing (tokens_in l) (tokens_in (set l i (kept_as n (standing_for k)))) (omega (arith, lt, at.has_number)) (revived n k l i rise.1 (inner_at x l n i at) gone)

-- ---- the gone ones leave

abbrev pub kept_rows : List Row → List Row
kept_rows l = filter is_kept l

left_by : (n : ℕ) (t : Standing) (l : List Row) → tokens_in (kept_rows (kept_as n t ∷ l)) ≡ before n t (tokens_in (kept_rows l))
left_by n Gone l = refl
left_by n Key l = refl
left_by n (TokenOf key) l = refl

pub left_stand : (l : List Row) → tokens_in (kept_rows l) ≡ tokens_in l
left_stand [] = refl
left_stand (x ∷ l) = left_by x.number x.standing l ∙ ap (λ ks. before x.number x.standing ks) (left_stand l)

above_by : (m n : ℕ) (t : Standing) (l : List Row) → m < n → AllAbove m (kept_rows l) → AllAbove m (kept_rows (kept_as n t ∷ l))
above_by m n Gone l lt rest = rest
above_by m n Key l lt rest = (lt, rest)
above_by m n (TokenOf key) l lt rest = (lt, rest)

left_above : (m : ℕ) (l : List Row) → AllAbove m l → AllAbove m (kept_rows l)
left_above m [] all = tt
left_above m (x ∷ l) all = above_by m x.number x.standing l all.0 (left_above m l all.1)

rise_by : (n : ℕ) (t : Standing) (l : List Row) → AllAbove n (kept_rows l) → Rise (kept_rows l) → Rise (kept_rows (kept_as n t ∷ l))
rise_by n Gone l all rest = rest
rise_by n Key l all rest = (all, rest)
rise_by n (TokenOf key) l all rest = (all, rest)

pub left_rise : (l : List Row) → Rise l → Rise (kept_rows l)
left_rise [] rise = tt
left_rise (x ∷ l) rise = rise_by x.number x.standing l (left_above x.number l rise.0) (left_rise l rise.1)

size_by : (n : ℕ) (t : Standing) (l : List Row) → length (kept_rows l) ≡ length (tokens_in l) → length (kept_rows (kept_as n t ∷ l)) ≡ length (before n t (tokens_in l))
size_by n Gone l rest = rest
size_by n Key l rest = ap suc rest
size_by n (TokenOf key) l rest = ap suc rest

pub left_size : (l : List Row) → length (kept_rows l) ≡ length (tokens_in l)
left_size [] = refl
left_size (x ∷ l) = size_by x.number x.standing l (left_size l)

-- ---- what a search tells

pub is_key_told : (n : ℕ) (l : List Row) → Rise l → is_key (standing_in l n) ≡ list_any (is_key_row n) (tokens_in l)
is_key_told n l rise = by (standing_in l n) ∙ sym (key_told n l rise)
  where
    by : (t : Standing) → is_key t ≡ list_any (is_key_row n) (before n t [])
    by Gone = refl
    by Key = rw (eq-eqb n n refl) refl
    by (TokenOf key) = rw (eq-eqb n n refl) refl

pub is_token_of_told : (key n : ℕ) (l : List Row) → Rise l → is_token_of (standing_in l n) key ≡ list_any (is_row_of key n) (tokens_in l)
is_token_of_told key n l rise = by (standing_in l n) ∙ sym (row_told key n l rise)
  where
    by : (t : Standing) → is_token_of t key ≡ list_any (is_row_of key n) (before n t [])
    by Gone = refl
    by Key = rw (eq-eqb n n refl) refl
    by (TokenOf other) = rw (eq-eqb n n refl) (sym (or-false (other == key)))

-- a number without a row is gone where it stands
pub gone_at : (n i : ℕ) (l : List Row) → Rise l → IsAt l n i → has_row n (tokens_in l) ≡ false → (get_or l i no_row).standing ≡ Gone
gone_at n i l rise at none = sym (standing_found l n i rise at) ∙ by (standing_in l n) (sym (any_told (is_number n) n l (λ k isnt. eq_not k.number n isnt) rise) ∙ none)
  where
    by : (t : Standing) → list_any (is_number n) (before n t []) ≡ false → t ≡ Gone
    by Gone e = refl
    by Key e = absurd (let clash : true ≡ false = sym (ap (λ b. b || false) (eq-eqb n n refl)) ∙ e in cc)
    by (TokenOf key) e = absurd (let clash : true ≡ false = sym (ap (λ b. b || false) (eq-eqb n n refl)) ∙ e in cc)
