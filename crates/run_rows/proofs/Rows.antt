-- What holds of each object, where rows change.
use Rattle.std.proofs.Common.{ℕ, ◌≡◌, ◌+◌, ◌≤◌, ◌<◌, inl, inr, ◌&&◌, ◌||◌, Bool, false, not, nat_eq, nat_le, nat_lt, List, [], ◌∷◌, Some, None, find, refl, ap, ◌∙◌, arith}
use Rattle.law_lists.proofs.Tests.{bool_tells, le_tells, lt_tells, chosen}
use Rattle.def_machine.specs.State.{Object}
use Rattle.def_machine.specs.Objects.{Each, InChunk, quarantine, placed_among, painted, unpainted, is_painted_at}
use Rattle.def_chunks.specs.Kept.{InOrder}

pub each_two : (P Q R : Object → Type 0) (rs : List Object) → ((r : Object) → P r → Q r → R r) → Each P rs → Each Q rs → Each R rs
each_two P Q R [] both a b = tt
each_two P Q R (r ∷ rs) both a b = (both r a.0 b.0, each_two P Q R rs both a.1 b.1)

pub each_placed : (P : Object → Type 0) (o : Object) (rs : List Object) → P o → Each P rs → Each P (placed_among o rs)
each_placed P o [] new old = (new, tt)
each_placed P o (q ∷ qs) new old = chosen (Each P) (nat_lt o.base q.base) (o ∷ q ∷ qs) (q ∷ placed_among o qs) (λ e. (new, old)) (λ e. (old.0, each_placed P o qs new old.1))

pub each_painted : (P Q : Object → Type 0) (rs : List Object) → ((r : Object) → P r → Q (record r { painted = not r.live })) → Each P rs → Each Q (painted rs)
each_painted P Q [] more h = tt
each_painted P Q (r ∷ rs) more h = (more r h.0, each_painted P Q rs more h.1)

pub each_unpainted : (P Q : Object → Type 0) (rs : List Object) → ((r : Object) → r.painted ≡ false → P r → Q r) → Each P rs → Each Q (unpainted rs)
each_unpainted P Q [] more h = tt
each_unpainted P Q (r ∷ rs) more h = chosen (Each Q) r.painted (unpainted rs) (r ∷ unpainted rs) (λ e. each_unpainted P Q rs more h.1) (λ e. (more r e h.0, each_unpainted P Q rs more h.1))

pub each_found : (P : Object → Type 0) (test : Object → Bool) (o : Object) (rs : List Object) → find test rs ≡ Some o → Each P rs → P o
each_found P test o [] e h = absurd (let clash : None ≡ Some o = e in cc)
each_found P test o (r ∷ rs) e h = elim (bool_tells (test r)) [
  | inl t ↦ (let is : Some r ≡ Some o = rw t at e in let same : r ≡ o = cc in rw (← same) h.0)
  | inr t ↦ each_found P test o rs (rw t at e) h.1
]

-- ---- addresses of painted chunks

abbrev pub covers : Object → ℕ → Bool
covers r x = r.painted && nat_le r.base (x + 8) && nat_lt x (r.base + r.length)

pub painted_placed : (o : Object) (rs : List Object) (x : ℕ) → o.painted ≡ false → is_painted_at (placed_among o rs) x ≡ is_painted_at rs x
painted_placed o [] x e = rw e refl
painted_placed o (q ∷ qs) x e = elim (bool_tells (nat_lt o.base q.base)) [
  | inl t ↦ rw (t, e) refl
  | inr t ↦ rw t (ap (λ b. covers q x || b) (painted_placed o qs x e))
]

pub painted_quarantined : (n : ℕ) (rs : List Object) (x : ℕ) → is_painted_at (quarantine n rs) x ≡ is_painted_at rs x
painted_quarantined n [] x = refl
painted_quarantined n (r ∷ rs) x = elim (bool_tells (nat_eq r.number n)) [
  | inl t ↦ rw t (ap (λ b. covers r x || b) (painted_quarantined n rs x))
  | inr t ↦ rw t (ap (λ b. covers r x || b) (painted_quarantined n rs x))
]

-- an address of an object that isn't painted is in no painted chunk
abbrev pub Spared : List Object → Object → Type 0
Spared all r = r.painted ≡ false → (x : ℕ) → InChunk r x → is_painted_at all x ≡ false

before_all : (rs : List Object) (end x : ℕ) → x < end → Each (λ q. end + 8 ≤ q.base) rs → is_painted_at rs x ≡ false
before_all [] end x below h = refl
before_all (r ∷ rs) end x below h =
    let later = h.0 in
    let low : nat_le r.base (x + 8) ≡ false = elim (le_tells r.base (x + 8)) [ inl a ↦ absurd (let le = a.1 in omega (arith, le, later, below)) | inr a ↦ a.0 ] in
    let rest = before_all rs end x below h.1 in
    elim (bool_tells r.painted) [ inl p ↦ rw (p, low, rest) refl | inr p ↦ rw (p, rest) refl ]

pub unpainted_spared : (rs : List Object) → InOrder rs → Each (Spared rs) rs
unpainted_spared [] h = tt
unpainted_spared (o ∷ os) h = (
  (λ unpainted_ x inside. (let rest = before_all os (o.base + o.length) x inside.1 h.0 in rw (unpainted_, rest) refl)),
  each_two (λ q. o.base + o.length + 8 ≤ q.base) (Spared os) (Spared (o ∷ os)) os
      (λ q behind spared unpainted_ x inside.
      let low = inside.0 in
      let high : nat_lt x (o.base + o.length) ≡ false = elim (lt_tells x (o.base + o.length)) [ inl a ↦ absurd (let lt = a.1 in omega (arith, lt, low, behind)) | inr a ↦ a.0 ] in
      let rest = spared unpainted_ x inside in
      let here : covers o x ≡ false = elim (bool_tells (o.painted && nat_le o.base (x + 8))) [ inl p ↦ rw (p, high) refl | inr p ↦ rw p refl ] in
      ap (λ b. b || is_painted_at os x) here ∙ rest)
      h.0 (unpainted_spared os h.1),
)
