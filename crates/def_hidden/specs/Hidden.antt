-- What of RAM is hidden from firmware, and what that asks of an image.
use Rattle.std.specs.Prelude.{ℕ, ◌+◌, ◌%◌, ◌≡◌, ◌≤◌, ◌<◌, ◌⊎◌, ◌&&◌, ◌||◌, Bool, true, false, not, nat_le, nat_lt, List, [], ◌∷◌}
use Rattle.def_words.specs.Permissions.{bit, load_data, store_data, execute}
use Rattle.def_memory.specs.Granules.{plain}
use Rattle.def_machine.specs.Image.{Image, root, address_of, trusted_end}
use Rattle.def_machine.specs.State.{State, Object, granule}

-- an address of a live object
abbrev pub is_live_at : List Object → ℕ → Bool
is_live_at [] x = false
is_live_at (r ∷ rs) x =
    (r.live && nat_le r.base x && nat_lt x (r.base + r.length)) || is_live_at rs x

-- an address of the trusted region past its first granules, or of the heap outside live objects
abbrev pub is_hidden_at : Image → List Object → ℕ → Bool
is_hidden_at i objects x =
    (nat_le i.trusted x && nat_lt x (trusted_end i))
    || (nat_le i.heap_base x && nat_lt x i.heap_end && not (is_live_at objects x))

-- a granule that is hidden
abbrev pub is_hidden : Image → List Object → ℕ → Bool
is_hidden i objects k = is_hidden_at i objects (address_of i k)

-- what is hidden is zero
abbrev pub Blank : Image → State → Type 0
Blank i s = (k : ℕ) → is_hidden i s.objects k ≡ true → (granule s k).cap ≡ plain 0

-- an entry through which something is loaded, stored or fetched
abbrev pub MayReach : ℕ → Type 0
MayReach rights =
    (bit rights load_data ≡ true) ⊎ (bit rights store_data ≡ true) ⊎ (bit rights execute ≡ true)

-- No entry through which anything is loaded, stored or fetched reaches the trusted region past its first granules, or
-- the heap. Both are whole granules, and the heap comes after the trusted region. All x are addresses.
pub record Shut (i : Image) : Type 0 where
  pub trusted : (n x : ℕ) → MayReach (root i n).rights → (root i n).base ≤ x → x < (root i n).top
      → (x < i.trusted) ⊎ (trusted_end i ≤ x)
  pub heap : (n x : ℕ) → MayReach (root i n).rights → (root i n).base ≤ x → x < (root i n).top
      → (x < i.heap_base) ⊎ (i.heap_end ≤ x)
  pub even : (i.ram % 8 ≡ 0) × (i.trusted % 8 ≡ 0) × (trusted_end i % 8 ≡ 0) × (i.heap_base % 8 ≡ 0)
      × (i.heap_end % 8 ≡ 0)
  pub below : trusted_end i ≤ i.heap_base
