-- What is hidden of the heap reads as zero.
use Rattle.std.proofs.Common.{ℕ, ◌≡◌, ◌≤◌, ◌<◌, ◌&&◌, ◌||◌, Bool, true, false, nat_le, nat_lt, inl, inr, refl, arith}
use Rattle.law_lists.proofs.Tests.{le_tells, lt_tells}
use Rattle.def_memory.specs.Granules.{plain}
use Rattle.def_machine.specs.Image.{Image, address_of, trusted_end}
use Rattle.def_machine.specs.State.{State, granule}
use Rattle.def_hidden.specs.Hidden.{Blank, is_live_at}

pub heap_zero : (i : Image) (s : State) (k : ℕ) → Blank i s → i.heap_base ≤ address_of i k → address_of i k < i.heap_end → is_live_at s.objects (address_of i k) ≡ false → (granule s k).cap ≡ plain 0
heap_zero i s k h low high none = h k (elim (le_tells i.heap_base (address_of i k)) [
  | inl a ↦ elim (lt_tells (address_of i k) i.heap_end) [
    | inl b ↦ rw (a.0, b.0, none) (any_true (nat_le i.trusted (address_of i k) && nat_lt (address_of i k) (trusted_end i)))
    | inr b ↦ absurd (let past = b.1 in omega (arith, past, high))
  ]
  | inr a ↦ absurd (let below = a.1 in omega (arith, below, low))
])
  where
    any_true : (b : Bool) → (b || true) ≡ true
    any_true true = refl
    any_true false = refl
