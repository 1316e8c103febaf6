-- What is live at an address, and so what is hidden, as the objects of the heap change.
use Rattle.std.proofs.Common.{ℕ, ◌≡◌, ◌+◌, ◌≤◌, ◌<◌, ◌&&◌, ◌||◌, Bool, true, false, not, inl, inr, ◌⊎◌, nat_eq, nat_le, nat_lt, List, [], ◌∷◌, refl, sym, ap, ◌∙◌, subst, arith}
use Rattle.std.proofs.lemmas.Bool.{eqb-true, leb-true, ltb-true, and_parts, or_left, or_right, or_cases}
use Rattle.law_lists.proofs.Tests.{chosen, bool_tells}
use Rattle.def_machine.specs.Image.{Image, address_of, trusted_end}
use Rattle.def_machine.specs.State.{Object}
use Rattle.def_machine.specs.Objects.{Each, quarantine, placed_among, painted, unpainted}
use Rattle.def_hidden.specs.Hidden.{is_live_at, is_hidden}

abbrev covers : ℕ → Object → Bool
covers x r = r.live && nat_le r.base x && nat_lt x (r.base + r.length)

-- ---- tests

less_hidden : (a b c old new : Bool) → (old ≡ true → new ≡ true) → (a || (b && c && not new)) ≡ true → (a || (b && c && not old)) ≡ true
less_hidden true b c old new g h = refl
less_hidden false true true false new g h = refl
less_hidden false true true true true g h = h
less_hidden false true true true false g h = absurd (let clash : false ≡ true = g refl in cc)
less_hidden false true false old new g h = h
less_hidden false false c old new g h = h

-- what is hidden by some objects was hidden by others that are live nowhere else
pub hidden_as : (i : Image) (old new : List Object) (k : ℕ) → (is_live_at old (address_of i k) ≡ true → is_live_at new (address_of i k) ≡ true) → is_hidden i new k ≡ true → is_hidden i old k ≡ true
hidden_as i old new k grows h = less_hidden (nat_le i.trusted (address_of i k) && nat_lt (address_of i k) (trusted_end i)) (nat_le i.heap_base (address_of i k)) (nat_lt (address_of i k) i.heap_end) (is_live_at old (address_of i k)) (is_live_at new (address_of i k)) grows h

-- ---- an object more

pub among_live : (r : Object) (rs : List Object) (x : ℕ) → is_live_at rs x ≡ true → is_live_at (placed_among r rs) x ≡ true
among_live r [] x h = absurd (let clash : false ≡ true = h in cc)
among_live r (q ∷ qs) x h = chosen (λ (zs : List Object). is_live_at zs x ≡ true) (nat_lt r.base q.base) (r ∷ q ∷ qs) (q ∷ placed_among r qs)
    (λ first. or_right (covers x r) (is_live_at (q ∷ qs) x) h)
    (λ later. elim (or_cases (covers x q) (is_live_at qs x) h) [
      | inl here ↦ or_left (covers x q) (is_live_at (placed_among r qs) x) here
      | inr there ↦ or_right (covers x q) (is_live_at (placed_among r qs) x) (among_live r qs x there)
    ])

-- ---- an object that is freed

pub quarantine_live : (r : Object) (rs : List Object) (x : ℕ) → Each (λ q. q.number ≡ r.number → q ≡ r) rs → (x < r.base) ⊎ (r.base + r.length ≤ x) → is_live_at rs x ≡ true → is_live_at (quarantine r.number rs) x ≡ true
quarantine_live r [] x one out h = absurd (let clash : false ≡ true = h in cc)
quarantine_live r (q ∷ qs) x one out h = elim (or_cases (covers x q) (is_live_at qs x) h) [
  | inl here ↦ chosen (λ (z : Object). (covers x z || is_live_at (quarantine r.number qs) x) ≡ true) (nat_eq q.number r.number) (record q { live = false }) q
      (λ is. absurd (outside q (one.0 (eqb-true q.number r.number is)) here))
      (λ not. or_left (covers x q) (is_live_at (quarantine r.number qs) x) here)
  | inr there ↦ chosen (λ (z : Object). (covers x z || is_live_at (quarantine r.number qs) x) ≡ true) (nat_eq q.number r.number) (record q { live = false }) q
      (λ is. or_right (covers x (record q { live = false })) (is_live_at (quarantine r.number qs) x) (quarantine_live r qs x one.1 out there))
      (λ not. or_right (covers x q) (is_live_at (quarantine r.number qs) x) (quarantine_live r qs x one.1 out there))
]
  where
    apart : r.base ≤ x → x < r.base + r.length → ⊥
    apart low high = elim out [ inl below ↦ omega (arith, below, low) | inr above ↦ omega (arith, above, high) ]

    outside : (q : Object) → q ≡ r → covers x q ≡ true → ⊥
    outside q same h =
        let at : covers x r ≡ true = subst (λ (z : Object). covers x z ≡ true) same h in
        let parts = and_parts (r.live && nat_le r.base x) (nat_lt x (r.base + r.length)) at in
        apart (leb-true r.base x (and_parts r.live (nat_le r.base x) parts.0).1) (ltb-true x (r.base + r.length) parts.1)

-- ---- a sweep

pub painted_live : (rs : List Object) (x : ℕ) → is_live_at (painted rs) x ≡ is_live_at rs x
painted_live [] x = refl
painted_live (r ∷ rs) x = ap (λ b. covers x r || b) (painted_live rs x)

pub left_live : (rs : List Object) (x : ℕ) → Each (λ r. r.live ≡ true → r.painted ≡ false) rs → is_live_at (unpainted rs) x ≡ is_live_at rs x
left_live [] x fits = refl
left_live (r ∷ rs) x fits = chosen (λ (zs : List Object). is_live_at zs x ≡ (covers x r || is_live_at rs x)) r.painted (unpainted rs) (r ∷ unpainted rs)
    (λ is. elim (bool_tells r.live) [
      | inl lives ↦ absurd (let clash : true ≡ false = sym is ∙ fits.0 lives in cc)
      | inr gone ↦ left_live rs x fits.1 ∙ ap (λ b. (b && nat_le r.base x && nat_lt x (r.base + r.length)) || is_live_at rs x) (sym gone)
    ])
    (λ not. ap (λ b. covers x r || b) (left_live rs x fits.1))
