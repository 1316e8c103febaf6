-- Rows as one is added and one goes, and what the tests of the routines say of them.
use Rattle.std.proofs.Common.{ℕ, ◌≡◌, ◌⊎◌, inl, inr, ◌==◌, not, Bool, true, false, List, [], ◌∷◌, Option, Some, None, refl, sym, ap, ◌∙◌, nat_lt}
use Rattle.std.specs.List.{list_any}
use Rattle.std.proofs.lemmas.Bool.{eqb-true, and_parts, eq-eqb}
use Rattle.law_lists.proofs.Tests.{chosen, bool_tells}
use Rattle.def_machine.specs.State.{Token}
use Rattle.def_machine.specs.Objects.{Any}
use Rattle.def_machine.specs.Rows.{IsApart, RowsDiffer}
use Rattle.def_step.specs.Quotas.{without_row}
use Rattle.def_step.specs.Tokens.{is_key_row, is_row_of, row_among}
use Rattle.def_safety.specs.Tokened.{IsKeyRow, IsTokenRow}
use Rattle.law_moves.proofs.Rows.{each_take, taken}

pub among_row : (P : Token → Type 0) (k : Token) (ks : List Token) → P k ⊎ Any P ks → Any P (row_among k ks)
among_row P k [] (inl h) = inl h
among_row P k [] (inr h) = absurd h
among_row P k (q ∷ qs) h = chosen (Any P) (nat_lt k.number q.number) (k ∷ q ∷ qs) (q ∷ row_among k qs)
    (λ is. elim h [ inl a ↦ inl a | inr b ↦ inr b ])
    (λ not. elim h [ inl a ↦ inr (among_row P k qs (inl a)) | inr b ↦ elim b [ inl c ↦ inl c | inr d ↦ inr (among_row P k qs (inr d)) ] ])

pub row_of_among : (P : Token → Type 0) (k : Token) (ks : List Token) → Any P (row_among k ks) → P k ⊎ Any P ks
row_of_among P k [] h = h
row_of_among P k (q ∷ qs) h = taken (Any P) (P k ⊎ Any P (q ∷ qs)) (nat_lt k.number q.number) (k ∷ q ∷ qs) (q ∷ row_among k qs)
    (λ is m. m)
    (λ not m. elim m [ inl a ↦ inr (inl a) | inr b ↦ elim (row_of_among P k qs b) [ inl c ↦ inl c | inr d ↦ inr (inr d) ] ])
    h

-- a row of another object stays where one goes, and what is left was there
pub left_row : (P : Token → Type 0) (n : ℕ) (ks : List Token) → ((k : Token) → P k → IsApart n k) → Any P ks → Any P (without_row n ks)
left_row P n [] f h = h
left_row P n (k ∷ ks) f h = chosen (Any P) (not (k.number == n)) (k ∷ without_row n ks) (without_row n ks)
    (λ other. elim h [ inl a ↦ inl a | inr b ↦ inr (left_row P n ks f b) ])
    (λ same. elim h [
      | inl a ↦ absurd (f k a (eqb-true k.number n (double (k.number == n) same)))
      | inr b ↦ left_row P n ks f b
    ])
  where
    double : (b : Bool) → not b ≡ false → b ≡ true
    double true e = refl
    double false e = let clash : true ≡ false = e in cc

pub row_left : (P : Token → Type 0) (n : ℕ) (ks : List Token) → Any P (without_row n ks) → Any P ks
row_left P n [] h = h
row_left P n (k ∷ ks) h = taken (Any P) (Any P (k ∷ ks)) (not (k.number == n)) (k ∷ without_row n ks) (without_row n ks)
    (λ other m. elim m [ inl a ↦ inl a | inr b ↦ inr (row_left P n ks b) ])
    (λ same m. inr (row_left P n ks m))
    h

-- two rows of one object are one
pub one_row : (P Q : Token → Type 0) (G : Type 0) (n : ℕ) (ks : List Token) → ((k : Token) → P k → k.number ≡ n) → ((k : Token) → Q k → k.number ≡ n) → ((k : Token) → P k → Q k → G) → RowsDiffer ks → Any P ks → Any Q ks → G
one_row P Q G n [] a b f d p q = absurd p
one_row P Q G n (k ∷ ks) a b f d (inl p) (inl q) = f k p q
one_row P Q G n (k ∷ ks) a b f d (inl p) (inr q) = each_take (IsApart k.number) Q G ks (λ z apart here. absurd (apart (b z here ∙ sym (a k p)))) d.0 q
one_row P Q G n (k ∷ ks) a b f d (inr p) (inl q) = each_take (IsApart k.number) P G ks (λ z apart here. absurd (apart (a z here ∙ sym (b k q)))) d.0 p
one_row P Q G n (k ∷ ks) a b f d (inr p) (inr q) = one_row P Q G n ks a b f d.1 p q

-- a key's row is no token's
pub key_or_token : (key n : ℕ) (ks : List Token) → RowsDiffer ks → Any (IsKeyRow n) ks → Any (IsTokenRow key n) ks → ⊥
key_or_token key n ks differ is token = one_row (IsKeyRow n) (IsTokenRow key n) ⊥ n ks (λ k h. h.0) (λ k h. h.0) (λ k a b. (let clash : None ≡ Some key = sym a.1 ∙ b.1 in cc)) differ is token

-- ---- what tests say of rows

key_test : (n : ℕ) (k : Token) → is_key_row n k ≡ true → IsKeyRow n k
key_test n k e = by_key k.key refl
  where
    by_key : (o : Option ℕ) → k.key ≡ o → IsKeyRow n k
    by_key None is = (eqb-true k.number n (and_parts (k.number == n) _ e).0, is)
    by_key (Some key) is = absurd (let clash : false ≡ true = sym (no_key is) ∙ e in cc)
      where
        no_key : k.key ≡ Some key → is_key_row n k ≡ false
        no_key is = rw is (elim (bool_tells (k.number == n)) [ inl t ↦ rw t refl | inr t ↦ rw t refl ])

pub key_there : (n : ℕ) (ks : List Token) → list_any (is_key_row n) ks ≡ true → Any (IsKeyRow n) ks
key_there n [] e = let clash : false ≡ true = e in cc
key_there n (k ∷ ks) e = elim (bool_tells (is_key_row n k)) [
  | inl is ↦ inl (key_test n k is)
  | inr not ↦ inr (key_there n ks (rw not at e))
]

row_test : (key n : ℕ) (k : Token) → is_row_of key n k ≡ true → IsTokenRow key n k
row_test key n k e = by_key k.key refl
  where
    by_key : (o : Option ℕ) → k.key ≡ o → IsTokenRow key n k
    by_key None is = absurd (let clash : false ≡ true = sym (no_row is) ∙ e in cc)
      where
        no_row : k.key ≡ None → is_row_of key n k ≡ false
        no_row is = rw is (elim (bool_tells (k.number == n)) [ inl t ↦ rw t refl | inr t ↦ rw t refl ])
    by_key (Some other) is =
        let both = and_parts (k.number == n) _ e in
        (eqb-true k.number n both.0, is ∙ ap (λ m. Some m) (eqb-true other key (rw is at both.1)))

pub row_there : (key n : ℕ) (ks : List Token) → list_any (is_row_of key n) ks ≡ true → Any (IsTokenRow key n) ks
row_there key n [] e = let clash : false ≡ true = e in cc
row_there key n (k ∷ ks) e = elim (bool_tells (is_row_of key n k)) [
  | inl is ↦ inl (row_test key n k is)
  | inr not ↦ inr (row_there key n ks (rw not at e))
]

-- ---- what tests say of rows, the other way round

key_is : (n : ℕ) (k : Token) → IsKeyRow n k → is_key_row n k ≡ true
key_is n k h = rw (eq-eqb k.number n h.0, h.1) refl

pub there_key : (n : ℕ) (ks : List Token) → Any (IsKeyRow n) ks → list_any (is_key_row n) ks ≡ true
there_key n [] h = absurd h
there_key n (k ∷ ks) (inl h) = rw (key_is n k h) refl
there_key n (k ∷ ks) (inr h) = elim (bool_tells (is_key_row n k)) [ inl is ↦ rw is refl | inr not ↦ rw not (there_key n ks h) ]

row_is : (key n : ℕ) (k : Token) → IsTokenRow key n k → is_row_of key n k ≡ true
row_is key n k h = rw (eq-eqb k.number n h.0, h.1, eq-eqb key key refl) refl

pub there_row : (key n : ℕ) (ks : List Token) → Any (IsTokenRow key n) ks → list_any (is_row_of key n) ks ≡ true
there_row key n [] h = absurd h
there_row key n (k ∷ ks) (inl h) = rw (row_is key n k h) refl
there_row key n (k ∷ ks) (inr h) = elim (bool_tells (is_row_of key n k)) [ inl is ↦ rw is refl | inr not ↦ rw not (there_row key n ks h) ]
