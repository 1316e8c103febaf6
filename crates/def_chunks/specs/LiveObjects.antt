-- Changes of memory and of the heap's objects, as they bear on what is seen.
use Rattle.std.specs.Prelude.{ℕ, ◌+◌, ◌*◌, ◌≡◌, ◌≤◌, ◌<◌, ◌⊎◌, true, List, length}
use Rattle.def_memory.specs.declared.Granule.{Granule}
use Rattle.def_memory.specs.Granules.{plain, granule_at}
use Rattle.def_machine.specs.State.{Object}
use Rattle.def_hidden.specs.Hidden.{is_live_at}
use Rattle.def_chunks.specs.Hides.{hides_heap}

-- where a granule is seen: outside the heap, or in a live object
abbrev pub SeenAt : ℕ → ℕ → List Object → ℕ → Type 0
SeenAt base end objects p = (p < base) ⊎ (end ≤ p) ⊎ (is_live_at objects p ≡ true)

-- what an allocation changes: what was seen stays, marks stay, what is live now was live or is new, and the new reads as
-- zero
pub record Appears (ram base end : ℕ) (old new : List Object) (gs hs : List Granule)
    (low high : ℕ) : Type 0 where
  pub size : length hs ≡ length gs
  pub marks : (k : ℕ) → (granule_at hs k).mark ≡ (granule_at gs k).mark
  pub rest : (k : ℕ) → SeenAt base end old (ram + 8 * k) → granule_at hs k ≡ granule_at gs k
  pub stays : (x : ℕ) → is_live_at old x ≡ true → is_live_at new x ≡ true
  pub comes : (x : ℕ) → is_live_at new x ≡ true
      → ((low ≤ x) × (x < high)) ⊎ (is_live_at old x ≡ true)
  pub zero : (k : ℕ) → low ≤ ram + 8 * k → ram + 8 * k < high → (granule_at hs k).cap ≡ plain 0

-- what a free changes: the object is zeroed and its chunk marked, all else stays; the head was hidden, and is
pub record Vanishes (ram heap end : ℕ) (old new : List Object) (gs hs : List Granule)
    (base top : ℕ) : Type 0 where
  pub size : length hs ≡ length gs
  pub some : 8 ≤ base
  pub zero : (k : ℕ) → base ≤ ram + 8 * k → ram + 8 * k < top → (granule_at hs k).cap ≡ plain 0
  pub marks : (k : ℕ) → base ≤ ram + 8 * k + 8 → ram + 8 * k < top
      → (granule_at hs k).mark ≡ true
  pub rest : (k : ℕ) → (ram + 8 * k + 8 < base) ⊎ (top ≤ ram + 8 * k)
      → granule_at hs k ≡ granule_at gs k
  pub live : (x : ℕ) → (x < base) ⊎ (top ≤ x) → is_live_at new x ≡ is_live_at old x
  pub head : (k : ℕ) → base ≤ ram + 8 * k + 8 → ram + 8 * k < base
      → hides_heap ram heap end old k ≡ true
