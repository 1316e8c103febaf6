-- What is live at an address as objects come and are painted.
use Rattle.std.proofs.Common.{ℕ, ◌≡◌, ◌+◌, ◌≤◌, ◌<◌, ◌&&◌, ◌||◌, Bool, true, false, inl, inr, nat_le, nat_lt, List, [], ◌∷◌, refl, ap}
use Rattle.std.proofs.lemmas.Bool.{and_parts, leb-true, ltb-true, or_cases, or_left, or_right}
use Rattle.law_lists.proofs.Tests.{chosen}
use Rattle.def_machine.specs.State.{Object}
use Rattle.def_machine.specs.Objects.{placed_among, painted}
use Rattle.def_hidden.specs.Hidden.{is_live_at}

-- a live object has this address
abbrev pub covers : ℕ → Object → Bool
covers x r = r.live && nat_le r.base x && nat_lt x (r.base + r.length)

pub covers_tells : (r : Object) (x : ℕ) → covers x r ≡ true → (r.base ≤ x) × (x < r.base + r.length)
covers_tells r x h =
    let parts = and_parts (r.live && nat_le r.base x) (nat_lt x (r.base + r.length)) h in
    (leb-true r.base x (and_parts r.live (nat_le r.base x) parts.0).1, ltb-true x (r.base + r.length) parts.1)

-- an object more
pub among_live : (r : Object) (rs : List Object) (x : ℕ) → is_live_at rs x ≡ true → is_live_at (placed_among r rs) x ≡ true
among_live r [] x h = absurd (let clash : false ≡ true = h in cc)
among_live r (q ∷ qs) x h = chosen (λ (zs : List Object). is_live_at zs x ≡ true) (nat_lt r.base q.base) (r ∷ q ∷ qs) (q ∷ placed_among r qs)
    (λ first. or_right (covers x r) (is_live_at (q ∷ qs) x) h)
    (λ later. elim (or_cases (covers x q) (is_live_at qs x) h) [
      | inl here ↦ or_left (covers x q) (is_live_at (placed_among r qs) x) here
      | inr there ↦ or_right (covers x q) (is_live_at (placed_among r qs) x) (among_live r qs x there)
    ])

-- a sweep begins
pub painted_live : (rs : List Object) (x : ℕ) → is_live_at (painted rs) x ≡ is_live_at rs x
painted_live [] x = refl
painted_live (r ∷ rs) x = ap (λ b. covers x r || b) (painted_live rs x)
