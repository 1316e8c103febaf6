-- The table of used chunks: what it tells, and after one entry was set.
use Rattle.std.proofs.Common.{ℕ, ◌≡◌, ◌+◌, ◌-◌, ◌/◌, ◌%◌, ◌<◌, ◌≤◌, ◌⊎◌, inl, inr, true, false, nat_eq, List, [], ◌∷◌, ◌++◌, length, refl, sym, ap, ◌∙◌, arith}
use Rattle.std.proofs.Math.ListN.{get_or, set}
use Rattle.std.proofs.lemmas.List.{get_or-set_same, get_or-set_other}
use Rattle.law_lists.proofs.Tests.{bool_tells, eq_tells}
use Rattle.def_chunks.specs.Chunks.{Chunk, is_free, total_size, AreChunks}
use Rattle.def_chunks.specs.Heaps.{chunk_name, object_name_at, begins_used_chunk, quota_named, is_used_at}
use Rattle.law_chunks.proofs.Rows.{UsedStarts}

-- ---- where used chunks begin

pub used_low : (p at : ℕ) (cs : List Chunk) → UsedStarts p at cs → at ≤ p
used_low p at [] h = absurd h
used_low p at (c ∷ cs) (inl h) = let is = h.1 in omega (arith, is)
used_low p at (c ∷ cs) (inr h) = let rest = used_low p (at + c.size) cs h in omega (arith, rest)

pub used_high : (p at : ℕ) (cs : List Chunk) → AreChunks cs → UsedStarts p at cs → p + 16 ≤ at + total_size cs
used_high p at [] are h = absurd h
used_high p at (c ∷ cs) are (inl h) = let wide = are.0.used h.0 in let is = h.1 in omega (arith, wide, is)
used_high p at (c ∷ cs) are (inr h) = let rest = used_high p (at + c.size) cs are.1 h in omega (arith, rest)

pub used_even : (p at : ℕ) (cs : List Chunk) → AreChunks cs → at % 8 ≡ 0 → UsedStarts p at cs → p % 8 ≡ 0
used_even p at [] are even h = absurd h
used_even p at (c ∷ cs) are even (inl h) = let is = h.1 in omega (arith, is, even)
used_even p at (c ∷ cs) are even (inr h) = let whole = are.0.whole in used_even p (at + c.size) cs are.1 (omega (arith, even, whole)) h

-- two of them are at least sixteen bytes apart
pub used_apart : (p q at : ℕ) (cs : List Chunk) → AreChunks cs → UsedStarts p at cs → UsedStarts q at cs → (p ≡ q) ⊎ (p + 16 ≤ q) ⊎ (q + 16 ≤ p)
used_apart p q at [] are a b = absurd a
used_apart p q at (c ∷ cs) are (inl a) (inl b) = inl (a.1 ∙ sym b.1)
used_apart p q at (c ∷ cs) are (inl a) (inr b) = let wide = are.0.used a.0 in let is = a.1 in let low = used_low q (at + c.size) cs b in inr (inl (omega (arith, wide, is, low)))
used_apart p q at (c ∷ cs) are (inr a) (inl b) = let wide = are.0.used b.0 in let is = b.1 in let low = used_low p (at + c.size) cs a in inr (inr (omega (arith, wide, is, low)))
used_apart p q at (c ∷ cs) are (inr a) (inr b) = used_apart p q (at + c.size) cs are.1 a b

-- the test says it
pub used_test : (p at : ℕ) (cs : List Chunk) → AreChunks cs → UsedStarts p at cs → is_used_at p at cs ≡ true
used_test p at [] are h = absurd h
used_test p at (c ∷ cs) are (inl h) = elim (eq_tells at p) [ inl e ↦ rw (e.0, h.0) refl | inr e ↦ absurd (e.1 (sym h.1)) ]
used_test p at (c ∷ cs) are (inr h) =
    let low = used_low p (at + c.size) cs h in
    let some = are.0.some in
    elim (eq_tells at p) [ inl e ↦ absurd (let is = e.1 in omega (arith, is, low, some)) | inr e ↦ rw e.0 (used_test p (at + c.size) cs are.1 h) ]

pub used_says : (p at : ℕ) (cs : List Chunk) → is_used_at p at cs ≡ true → UsedStarts p at cs
used_says p at [] e = absurd (let clash : false ≡ true = e in cc)
used_says p at (c ∷ cs) e = elim (eq_tells at p) [
  | inl is ↦ elim (bool_tells (is_free c)) [
    | inl f ↦ absurd (let clash : false ≡ true = rw (is.0, f) at e in cc)
    | inr f ↦ inl (f, sym is.1)
  ]
  | inr is ↦ inr (used_says p (at + c.size) cs (rw is.0 at e))
]

-- and where it begins there is one
pub record Used (p at : ℕ) (cs : List Chunk) : Type 0 where
  pub above : List Chunk
  pub chunk : Chunk
  pub below : List Chunk
  pub whole : cs ≡ above ++ chunk ∷ below
  pub place : p ≡ at + total_size above
  pub is : is_free chunk ≡ false

pub used_chunk : (p at : ℕ) (cs : List Chunk) → UsedStarts p at cs → Used p at cs
used_chunk p at [] h = absurd h
used_chunk p at (c ∷ cs) (inl h) = record { above = []; chunk = c; below = cs; whole = refl; place = (let is = h.1 in omega (arith, is)); is = h.0 }
used_chunk p at (c ∷ cs) (inr h) =
    let u = used_chunk p (at + c.size) cs h in
    let place = u.place in
    record { above = c ∷ u.above; chunk = u.chunk; below = u.below; whole = ap (λ l. c ∷ l) u.whole; place = omega (arith, place); is = u.is }

pub used_between : (p at : ℕ) (xs : List Chunk) (c : Chunk) (ys : List Chunk) → is_free c ≡ false → p ≡ at + total_size xs → UsedStarts p at (xs ++ c ∷ ys)
used_between p at [] c ys used is = inl (used, omega (arith, is))
used_between p at (x ∷ xs) c ys used is = inr (used_between p (at + x.size) xs c ys used (omega (arith, is)))

pub used_split : (p at : ℕ) (xs ys : List Chunk) → UsedStarts p at (xs ++ ys) → UsedStarts p at xs ⊎ UsedStarts p (at + total_size xs) ys
used_split p at [] ys h = let here : at + 0 ≡ at = omega arith in inr (rw here h)
used_split p at (x ∷ xs) ys (inl h) = inl (inl h)
used_split p at (x ∷ xs) ys (inr h) =
    let there : at + (x.size + total_size xs) ≡ at + x.size + total_size xs = omega arith in
    elim (used_split p (at + x.size) xs ys h) [ inl k ↦ inl (inr k) | inr k ↦ inr (rw there k) ]

pub used_first : (p at : ℕ) (xs ys : List Chunk) → UsedStarts p at xs → UsedStarts p at (xs ++ ys)
used_first p at [] ys h = absurd h
used_first p at (x ∷ xs) ys (inl h) = inl h
used_first p at (x ∷ xs) ys (inr h) = inr (used_first p (at + x.size) xs ys h)

pub used_second : (p at : ℕ) (xs ys : List Chunk) → UsedStarts p (at + total_size xs) ys → UsedStarts p at (xs ++ ys)
used_second p at [] ys h = let here : at + 0 ≡ at = omega arith in rw here at h
used_second p at (x ∷ xs) ys h =
    let there : at + (x.size + total_size xs) ≡ at + x.size + total_size xs = omega arith in
    inr (used_second p (at + x.size) xs ys (rw there at h))

-- two tests that say the same
pub tests_same : (p at : ℕ) (cs ds : List Chunk) → AreChunks cs → AreChunks ds → (UsedStarts p at cs → UsedStarts p at ds) → (UsedStarts p at ds → UsedStarts p at cs) → is_used_at p at cs ≡ is_used_at p at ds
tests_same p at cs ds a b there back = elim (bool_tells (is_used_at p at cs)) [
  | inl e ↦ e ∙ sym (used_test p at ds b (there (used_says p at cs e)))
  | inr e ↦ elim (bool_tells (is_used_at p at ds)) [
    | inl f ↦ absurd (let clash : true ≡ false = sym (used_test p at cs a (back (used_says p at ds f))) ∙ e in cc)
    | inr f ↦ e ∙ sym f
  ]
]

-- ---- entries

pub name_side : (quota offset : ℕ) → (chunk_name quota offset - 1) % 2 ≡ offset / 8 % 2
name_side quota offset = omega arith

pub name_quota : (quota offset : ℕ) → (chunk_name quota offset - 1) / 2 ≡ quota
name_quota quota offset = omega arith

-- the entry that is set names its chunk
pub set_named : (names : List ℕ) (quota offset : ℕ) → offset / 16 < length names → begins_used_chunk (set names (offset / 16) (chunk_name quota offset)) offset ≡ true
set_named names quota offset inside =
    let same : object_name_at (set names (offset / 16) (chunk_name quota offset)) offset ≡ chunk_name quota offset = get_or-set_same names (offset / 16) (chunk_name quota offset) 0 inside in
    let some : nat_eq (chunk_name quota offset) 0 ≡ false = elim (eq_tells (chunk_name quota offset) 0) [ inl e ↦ absurd (let z = e.1 in omega (arith, z)) | inr e ↦ e.0 ] in
    let side : nat_eq ((chunk_name quota offset - 1) % 2) (offset / 8 % 2) ≡ true = elim (eq_tells ((chunk_name quota offset - 1) % 2) (offset / 8 % 2)) [ inl e ↦ e.0 | inr e ↦ absurd (e.1 (name_side quota offset)) ] in
    rw (same, some, side) refl

pub set_quota : (names : List ℕ) (quota offset : ℕ) → offset / 16 < length names → quota_named (set names (offset / 16) (chunk_name quota offset)) offset ≡ quota
set_quota names quota offset inside =
    let same : object_name_at (set names (offset / 16) (chunk_name quota offset)) offset ≡ chunk_name quota offset = get_or-set_same names (offset / 16) (chunk_name quota offset) 0 inside in
    ap (λ n. (n - 1) / 2) same ∙ name_quota quota offset

-- others stay
pub set_elsewhere : (names : List ℕ) (offset other name : ℕ) → (other / 16 ≡ offset / 16 → ⊥) → object_name_at (set names (offset / 16) name) other ≡ object_name_at names other
set_elsewhere names offset other name apart = get_or-set_other names (offset / 16) (other / 16) name 0 apart

-- and the other granule of the same sixteen bytes isn't named
pub set_beside : (names : List ℕ) (quota offset other : ℕ) → offset / 16 < length names → offset % 8 ≡ 0 → other % 8 ≡ 0 → other / 16 ≡ offset / 16 → (other ≡ offset → ⊥) → begins_used_chunk (set names (offset / 16) (chunk_name quota offset)) other ≡ false
set_beside names quota offset other inside even odd slot apart =
    let same : object_name_at (set names (offset / 16) (chunk_name quota offset)) other ≡ chunk_name quota offset = ap (λ k. get_or (set names (offset / 16) (chunk_name quota offset)) k 0) slot ∙ get_or-set_same names (offset / 16) (chunk_name quota offset) 0 inside in
    let side : nat_eq ((chunk_name quota offset - 1) % 2) (other / 8 % 2) ≡ false = elim (eq_tells ((chunk_name quota offset - 1) % 2) (other / 8 % 2)) [
      | inl e ↦ absurd (apart (let is = e.1 in let mine = name_side quota offset in omega (arith, is, mine, even, odd, slot)))
      | inr e ↦ e.0
    ] in
    elim (bool_tells (nat_eq (chunk_name quota offset) 0)) [ inl e ↦ rw (same, e) refl | inr e ↦ rw (same, e, side) refl ]

pub named_same : (names more : List ℕ) (o : ℕ) → object_name_at more o ≡ object_name_at names o → begins_used_chunk more o ≡ begins_used_chunk names o
named_same names more o same = rw same refl
