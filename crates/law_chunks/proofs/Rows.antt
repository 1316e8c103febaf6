-- What becomes of the rows of objects where chunks change.
use Rattle.std.proofs.Common.{ℕ, zero, suc, ◌≡◌, ◌+◌, ◌-◌, ◌*◌, ◌/◌, ◌%◌, ◌^◌, ◌<◌, ◌≤◌, ◌⊎◌, inl, inr, ◌||◌, ◌&&◌, Bool, true, false, not, cond, nat_eq, nat_lt, List, [], ◌∷◌, ◌++◌, map, length, refl, sym, ap, ◌∙◌, arith, subst}
use Rattle.law_lists.proofs.Tests.{bool_tells, eq_tells, lt_tells}
use Rattle.def_machine.specs.State.{Object}
use Rattle.def_machine.specs.Objects.{Each, charges, quarantine, placed_among, painted, unpainted}
use Rattle.def_chunks.specs.Chunks.{Chunk, is_free, total_size, IsChunk, AreChunks}
use Rattle.def_chunks.specs.Changes.{parts, painted_chunk, all_painted, leaves, gap, joined}
use Rattle.def_chunks.specs.Heaps.{object_at, objects_in, quota_named, Distinct, waiting_in}
use Rattle.law_chunks.proofs.Joins.{gap_total, stays_used}

-- ---- rows one after another

pub objects_both : (names : List ℕ) (base at : ℕ) (xs ys : List Chunk) → objects_in names base at (xs ++ ys) ≡ objects_in names base at xs ++ objects_in names base (at + total_size xs) ys
objects_both names base at [] ys = let here : at + 0 ≡ at = omega arith in rw here refl
objects_both names base at (x ∷ xs) ys =
    let there : at + (x.size + total_size xs) ≡ at + x.size + total_size xs = omega arith in
    let rest = objects_both names base (at + x.size) xs ys in
    rw there (elim (bool_tells (is_free x)) [ inl e ↦ rw e rest | inr e ↦ rw e (ap (λ l. object_at (quota_named names (at - base)) at x ∷ l) rest) ])

pub gap_rows : (names : List ℕ) (base at n : ℕ) → objects_in names base at (gap n) ≡ []
gap_rows names base at n = elim (bool_tells (nat_eq n 0)) [ inl e ↦ rw e refl | inr e ↦ rw e refl ]

-- a used chunk begins at an address
abbrev pub UsedStarts : ℕ → ℕ → List Chunk → Type 0
UsedStarts p at [] = ⊥
UsedStarts p at (c ∷ cs) = ((is_free c ≡ false) × (p ≡ at)) ⊎ UsedStarts p (at + c.size) cs

-- the table counts where used chunks begin alone
pub names_same : (names more : List ℕ) (base at : ℕ) (cs : List Chunk) → ((p : ℕ) → UsedStarts p at cs → quota_named more (p - base) ≡ quota_named names (p - base)) → objects_in more base at cs ≡ objects_in names base at cs
names_same names more base at [] same = refl
names_same names more base at (c ∷ cs) same =
    let rest = names_same names more base (at + c.size) cs (λ p s. same p (inr s)) in
    elim (bool_tells (is_free c)) [
      | inl e ↦ rw e rest
      | inr e ↦ rw e (ap (λ q. object_at q at c ∷ objects_in more base (at + c.size) cs) (same at (inl (e, refl))) ∙ ap (λ l. object_at (quota_named names (at - base)) at c ∷ l) rest)
    ]

-- ---- where rows stand

pub each_both : (P : Object → Type 0) (rs qs : List Object) → Each P rs → Each P qs → Each P (rs ++ qs)
each_both P [] qs a b = b
each_both P (r ∷ rs) qs a b = (a.0, each_both P rs qs a.1 b)

pub each_split : (P : Object → Type 0) (rs qs : List Object) → Each P (rs ++ qs) → Each P rs × Each P qs
each_split P [] qs h = (tt, h)
each_split P (r ∷ rs) qs h = let rest = each_split P rs qs h.1 in ((h.0, rest.0), rest.1)

pub each_more : (P Q : Object → Type 0) (rs : List Object) → ((r : Object) → P r → Q r) → Each P rs → Each Q rs
each_more P Q [] more h = tt
each_more P Q (r ∷ rs) more h = (more r h.0, each_more P Q rs more h.1)

pub rows_low : (names : List ℕ) (base at : ℕ) (cs : List Chunk) → Each (λ q. at + 8 ≤ q.base) (objects_in names base at cs)
rows_low names base at [] = tt
rows_low names base at (c ∷ cs) =
    let rest = each_more (λ q. at + c.size + 8 ≤ q.base) (λ q. at + 8 ≤ q.base) (objects_in names base (at + c.size) cs) (λ r low. omega (arith, low)) (rows_low names base (at + c.size) cs) in
    elim (bool_tells (is_free c)) [ inl e ↦ rw e rest | inr e ↦ rw e ((omega arith, rest)) ]

pub rows_high : (names : List ℕ) (base at : ℕ) (cs : List Chunk) → AreChunks cs → Each (λ q. q.base + q.length ≤ at + total_size cs) (objects_in names base at cs)
rows_high names base at [] are = tt
rows_high names base at (c ∷ cs) are =
    let some = are.0.some in
    let rest = each_more (λ q. q.base + q.length ≤ at + c.size + total_size cs) (λ q. q.base + q.length ≤ at + (c.size + total_size cs)) (objects_in names base (at + c.size) cs) (λ r high. omega (arith, high)) (rows_high names base (at + c.size) cs are.1) in
    elim (bool_tells (is_free c)) [ inl e ↦ rw e rest | inr e ↦ rw e ((omega (arith, some), rest)) ]

-- ---- an object appears between others

pub placed_between : (r : Object) (rs qs : List Object) → Each (λ q. q.base ≤ r.base) rs → Each (λ q. r.base < q.base) qs → placed_among r (rs ++ qs) ≡ rs ++ r ∷ qs
placed_between r [] [] low high = refl
placed_between r [] (q ∷ qs) low high = elim (lt_tells r.base q.base) [ inl e ↦ rw e.0 refl | inr e ↦ absurd (let a = e.1 in let b = high.0 in omega (arith, a, b)) ]
placed_between r (p ∷ rs) qs low high = elim (lt_tells r.base p.base) [
  | inl e ↦ absurd (let a = e.1 in let b = low.0 in omega (arith, a, b))
  | inr e ↦ rw e.0 (ap (λ l. p ∷ l) (placed_between r rs qs low.1 high))
]

pub charges_both : (q : ℕ) (rs qs : List Object) → charges q (rs ++ qs) ≡ charges q rs + charges q qs
charges_both q [] qs = omega arith
charges_both q (r ∷ rs) qs = let rest = charges_both q rs qs in omega (arith, rest)

pub waiting_both : (rs qs : List Object) → waiting_in (rs ++ qs) ≡ waiting_in rs + waiting_in qs
waiting_both [] qs = omega arith
waiting_both (r ∷ rs) qs = let rest = waiting_both rs qs in omega (arith, rest)

abbrev pub Others : ℕ → List Object → Type 0
Others n rs = Each (λ q. q.number ≡ n → ⊥) rs

pub distinct_between : (r : Object) (rs qs : List Object) → Distinct (rs ++ qs) → Others r.number rs → Others r.number qs → Distinct (rs ++ r ∷ qs)
distinct_between r [] qs h a b = (b, h)
distinct_between r (p ∷ rs) qs h a b =
    let parts = each_split (λ q. q.number ≡ p.number → ⊥) rs qs h.0 in
    (each_both (λ q. q.number ≡ p.number → ⊥) rs (r ∷ qs) parts.0 ((λ e. a.0 (sym e)), parts.1), distinct_between r rs qs h.1 a.1 b)

pub distinct_around : (r : Object) (rs qs : List Object) → Distinct (rs ++ r ∷ qs) → Others r.number rs × Others r.number qs
distinct_around r [] qs h = (tt, h.0)
distinct_around r (p ∷ rs) qs h =
    let rest = distinct_around r rs qs h.1 in
    let parts = each_split (λ q. q.number ≡ p.number → ⊥) rs (r ∷ qs) h.0 in
    (((λ e. parts.1.0 (sym e)), rest.0), rest.1)

-- one of them with the same number stands in its place
pub distinct_same : (r q : Object) (rs qs : List Object) → q.number ≡ r.number → Distinct (rs ++ r ∷ qs) → Distinct (rs ++ q ∷ qs)
distinct_same r q [] qs same h = (rw same h.0, h.1)
distinct_same r q (p ∷ rs) qs same h =
    let parts = each_split (λ x. x.number ≡ p.number → ⊥) rs (r ∷ qs) h.0 in
    (each_both (λ x. x.number ≡ p.number → ⊥) rs (q ∷ qs) parts.0 ((λ e. parts.1.0 (sym same ∙ e)), parts.1.1), distinct_same r q rs qs same h.1)

-- ---- an object among others is quarantined

pub quarantine_others : (n : ℕ) (rs : List Object) → Others n rs → quarantine n rs ≡ rs
quarantine_others n [] h = refl
quarantine_others n (r ∷ rs) h = elim (eq_tells r.number n) [ inl e ↦ absurd (h.0 e.1) | inr e ↦ rw e.0 (ap (λ l. r ∷ l) (quarantine_others n rs h.1)) ]

pub quarantine_between : (r : Object) (rs qs : List Object) → Others r.number rs → Others r.number qs → quarantine r.number (rs ++ r ∷ qs) ≡ rs ++ record r { live = false } ∷ qs
quarantine_between r [] qs a b = elim (eq_tells r.number r.number) [ inl e ↦ rw e.0 (ap (λ l. record r { live = false } ∷ l) (quarantine_others r.number qs b)) | inr e ↦ absurd (e.1 refl) ]
quarantine_between r (p ∷ rs) qs a b = elim (eq_tells p.number r.number) [ inl e ↦ absurd (a.0 e.1) | inr e ↦ rw e.0 (ap (λ l. p ∷ l) (quarantine_between r rs qs a.1 b)) ]

-- ---- painting

states_of : (c : Chunk) → IsChunk c → is_free c ≡ false → (c.state ≡ 1) ⊎ (c.state ≡ 2) ⊎ (c.state ≡ 3)
states_of c shape used = elim (eq_tells c.state 0) [
  | inl e ↦ absurd (let clash : true ≡ false = sym e.0 ∙ used in cc)
  | inr e ↦ elim (eq_tells c.state 1) [
    | inl f ↦ inl f.1
    | inr f ↦ elim (eq_tells c.state 2) [
      | inl g ↦ inr (inl g.1)
      | inr g ↦ inr (inr (three c.state shape.states e.1 f.1 g.1))
    ]
  ]
]
  where
    last : (n : ℕ) → n ≤ 2 → (n ≡ 0 → ⊥) → (n ≡ 1 → ⊥) → suc n ≡ 3
    last zero le a b = absurd (a refl)
    last (suc zero) le a b = absurd (b refl)
    last (suc (suc n)) le a b = omega (arith, le)

    three : (n : ℕ) → n ≤ 3 → (n ≡ 0 → ⊥) → (n ≡ 1 → ⊥) → (n ≡ 2 → ⊥) → n ≡ 3
    three zero le a b c = absurd (a refl)
    three (suc n) le a b c = elim (eq_tells n 0) [
      | inl e ↦ absurd (b (let z = e.1 in omega (arith, z)))
      | inr e ↦ elim (eq_tells n 1) [
        | inl f ↦ absurd (c (let z = f.1 in omega (arith, z)))
        | inr f ↦ last n (omega (arith, le)) e.1 f.1
      ]
    ]

painted_row : (quota at : ℕ) (c : Chunk) → IsChunk c → is_free c ≡ false → object_at quota at (painted_chunk c) ≡ record (object_at quota at c) { painted = not (object_at quota at c).live }
painted_row quota at c shape used = elim (states_of c shape used) [
  | inl e ↦ rw e refl
  | inr (inl e) ↦ rw e refl
  | inr (inr e) ↦ rw e refl
]

pub painted_rows : (names : List ℕ) (base at : ℕ) (cs : List Chunk) → AreChunks cs → objects_in names base at (all_painted cs) ≡ painted (objects_in names base at cs)
painted_rows names base at [] are = refl
painted_rows names base at (c ∷ cs) are = elim (eq_tells c.state 2) [
  | inl e ↦
      let used : is_free c ≡ false = ap (λ n. nat_eq n 0) e.1 in
      let row = painted_row (quota_named names (at - base)) at c are.0 used in
      let rest = painted_rows names base (at + c.size) cs are.1 in
      let turned : object_at (quota_named names (at - base)) at (record c { state = 3 }) ≡ record (object_at (quota_named names (at - base)) at c) { painted = not (object_at (quota_named names (at - base)) at c).live } = rw e.0 at row in
      rw (e.0, used) (ap (λ r. r ∷ objects_in names base (at + c.size) (all_painted cs)) turned ∙ ap (λ l. record (object_at (quota_named names (at - base)) at c) { painted = not (object_at (quota_named names (at - base)) at c).live } ∷ l) rest)
  | inr e ↦
      let rest = painted_rows names base (at + c.size) cs are.1 in
      elim (bool_tells (is_free c)) [
        | inl f ↦ rw (e.0, f) rest
        | inr f ↦
            let row = painted_row (quota_named names (at - base)) at c are.0 f in
            let turned : object_at (quota_named names (at - base)) at c ≡ record (object_at (quota_named names (at - base)) at c) { painted = not (object_at (quota_named names (at - base)) at c).live } = rw e.0 at row in
            rw (e.0, f) (ap (λ r. r ∷ objects_in names base (at + c.size) (all_painted cs)) turned ∙ ap (λ l. record (object_at (quota_named names (at - base)) at c) { painted = not (object_at (quota_named names (at - base)) at c).live } ∷ l) rest)
      ]
]

-- ---- the painted leave

pub joined_rows : (names : List ℕ) (base at before : ℕ) (cs : List Chunk) → objects_in names base at (joined before cs) ≡ unpainted (objects_in names base (at + before) cs)
joined_rows names base at before [] = gap_rows names base at before
joined_rows names base at before (c ∷ cs) =
    let there : at + (before + c.size) ≡ at + before + c.size = omega arith in
    elim (bool_tells (leaves c)) [
      | inl e ↦
          let rest : objects_in names base at (joined (before + c.size) cs) ≡ unpainted (objects_in names base (at + before + c.size) cs) = rw (← there) (joined_rows names base at (before + c.size) cs) in
          elim (bool_tells (is_free c)) [
            | inl f ↦ rw (e, f) rest
            | inr f ↦
                let gone : nat_eq c.state 3 ≡ true = sym (ap (λ b. b || nat_eq c.state 3) f) ∙ e in
                rw (f, gone) rest
          ]
      | inr e ↦
          let used = stays_used c e in
          let kept : nat_eq c.state 3 ≡ false = sym (ap (λ b. b || nat_eq c.state 3) used) ∙ e in
          let first = gap_rows names base at before in
          let size = gap_total before in
          let rest : objects_in names base (at + before + c.size) (joined 0 cs) ≡ unpainted (objects_in names base (at + before + c.size) cs) = joined_rows names base (at + before + c.size) 0 cs ∙ (let none_ : at + before + c.size + 0 ≡ at + before + c.size = omega arith in rw none_ refl) in
          let row : Object = object_at (quota_named names (at + before - base)) (at + before) c in
          let others : List Object = objects_in names base (at + before + c.size) cs in
          let stays : unpainted (row ∷ others) ≡ row ∷ unpainted others = ap (λ b. cond b (unpainted others) (row ∷ unpainted others)) kept in
          rw e (objects_both names base at (gap before) (c ∷ joined 0 cs) ∙ rw (first, size, used) (ap (λ l. row ∷ l) rest ∙ sym stays))
    ]
