-- What each call does. `gs` and `hs` are memory before and after it, `h` and `n` the heap.
use Rattle.std.specs.Prelude.{ℕ, ◌+◌, ◌*◌, ◌/◌, ◌%◌, ◌^◌, ◌≡◌, ◌≤◌, ◌<◌, ◌⊎◌, true, false, cond, List, length, map, replicate, Some}
use Rattle.def_profile.specs.declared.layout.TheConstants.{CHUNK_HEAD}
use Rattle.def_memory.specs.declared.Granule.{Granule}
use Rattle.def_memory.specs.Granules.{plain, granule_at}
use Rattle.def_memory.specs.Ranges.{is_tagged}
use Rattle.def_words.specs.Authority.{cap_base, cap_top}
use Rattle.def_machine.specs.Image.{Image}
use Rattle.def_machine.specs.State.{Object}
use Rattle.def_machine.specs.Objects.{live_object, charges, quarantine, placed_among, painted, unpainted, is_painted_at}
use Rattle.def_machine.specs.Heap.{length_for, charge_for, Fits, IsPlaceFor}
use Rattle.def_hidden.specs.Hidden.{is_live_at}
use Rattle.def_chunks.specs.declared.heads.TheConstants.{NO_CHUNK}
use Rattle.def_chunks.specs.declared.rows.Range.{Range}
use Rattle.def_chunks.specs.declared.rows.Account.{Account}
use Rattle.def_chunks.specs.Tiles.{chunks}
use Rattle.def_chunks.specs.Changes.{NoTagComes, NoHead, OnlyHeads}
use Rattle.def_chunks.specs.Heaps.{HeapRow, objects_of, account, IsHeapOf}
use Rattle.ct_heap.specs.declared.rows.HeapRefusal.{HeapRefusal}
use Rattle.ct_heap.specs.declared.rows.HeapRefusal.TheVariants.{Size, Quota, NoGap}
use Rattle.ct_heap.specs.Lookups.{whole_of}

-- ---- a heap before its first chunk

abbrev pub accounts_for : List ℕ → List Account
accounts_for limits =
    map (λ limit. let a : Account = record { limit = limit; charged = 0 } in a) limits

abbrev pub empty : Range → List ℕ → HeapRow
empty range limits = record {
  range = range;
  accounts = accounts_for limits;
  next = 1;
  waiting = 0;
  names = replicate (range.length / 16) 0;
}

abbrev pub range_of : ℕ → ℕ → ℕ → Range
range_of ram base length = record { ram = ram; base = base; length = length; first = NO_CHUNK }

-- so many limits that each quota can be named in the table
abbrev pub AreFew : List ℕ → Type 0
AreFew limits = length limits ≤ 32767

-- nothing was allocated, and nothing lies in memory yet
pub record Empty (h : HeapRow) : Type 0 where
  pub limits : List ℕ
  pub is : h ≡ empty h.range limits
  pub few : AreFew limits
  pub first : h.range.first ≡ NO_CHUNK
  pub even : (h.range.ram % 16 ≡ 0) × (h.range.base % 16 ≡ 0) × (h.range.length % 16 ≡ 0)
  pub above : h.range.ram ≤ h.range.base
  pub short : h.range.length < 2 ^ 32
  pub small : h.range.base + h.range.length ≤ 2 ^ 32

-- ---- memory

-- an address outside the heap, or of a live object
abbrev pub Seen : Range → List Object → ℕ → Type 0
Seen r objects p = (p < r.base) ⊎ (r.base + r.length ≤ p) ⊎ (is_live_at objects p ≡ true)

-- what is seen stays, and so does every mark; what isn't seen gets no capability
pub record Stays (r : Range) (objects : List Object) (gs hs : List Granule) : Type 0 where
  pub size : length hs ≡ length gs
  pub marks : (k : ℕ) → (granule_at hs k).mark ≡ (granule_at gs k).mark
  pub tags : NoTagComes gs hs
  pub rest : (k : ℕ) → Seen r objects (r.ram + 8 * k) → granule_at hs k ≡ granule_at gs k

-- the heap lies where it lay, and its quotas have their limits
pub record Same (h n : HeapRow) : Type 0 where
  pub range : n.range ≡ record h.range { first = n.range.first }
  pub limits : (q : ℕ) → (account n q).limit ≡ (account h q).limit
  pub quotas : length n.accounts ≡ length h.accounts

-- ---- allocate

abbrev pub made : HeapRow → ℕ → ℕ → ℕ → Object
made h quota size base = live_object h.next quota base (length_for size)

-- A live object of this size, charged to this quota, stands at the least lawful place; it reads as zero and untagged.
-- Beside its granules nothing but heads of chunks was written.
pub record Allocates (h n : HeapRow) (gs hs : List Granule)
    (quota size number base object_length live : ℕ) : Type 0 where
  pub some : 0 < size
  pub most : size ≤ h.range.length
  pub within : charges quota (objects_of h gs) + charge_for size ≤ (account h quota).limit
  pub place : (i : Image) → IsHeapOf i h.range
      → IsPlaceFor i (objects_of h gs) (length_for size) base
  pub objects : objects_of n hs ≡ placed_among (made h quota size base) (objects_of h gs)
  pub number_is : number ≡ h.next
  pub length_is : object_length ≡ length_for size
  pub live_is : live ≡ charges quota (objects_of n hs)
  pub next : n.next ≡ h.next + 1
  pub zero : (k : ℕ) → base ≤ h.range.ram + 8 * k → h.range.ram + 8 * k < base + length_for size
      → (granule_at hs k).cap ≡ plain 0
  pub rest : (k : ℕ) → NoHead h.range (chunks n.range hs) k
      → (h.range.ram + 8 * k < base) ⊎ (base + length_for size ≤ h.range.ram + 8 * k)
      → granule_at hs k ≡ granule_at gs k
  pub stays : Stays h.range (objects_of h gs) gs hs
  pub same : Same h n

-- no place is lawful
abbrev pub NoPlace : HeapRow → List Granule → ℕ → Type 0
NoPlace h gs size =
    (i : Image) → IsHeapOf i h.range → (b : ℕ) → Fits i (objects_of h gs) (length_for size) b → ⊥

-- why nothing is allocated: the first cause
abbrev pub RefusesSize : HeapRow → List Granule → ℕ → ℕ → HeapRefusal → Type 0
RefusesSize h gs quota size Size = (size ≡ 0) ⊎ (h.range.length < size)
RefusesSize h gs quota size Quota =
    (0 < size) × (size ≤ h.range.length)
    × ((account h quota).limit < charges quota (objects_of h gs) + charge_for size)
RefusesSize h gs quota size NoGap =
    (0 < size) × (size ≤ h.range.length)
    × (charges quota (objects_of h gs) + charge_for size ≤ (account h quota).limit)
    × NoPlace h gs size

-- ---- free

-- The live object of this quota with these bounds is quarantined, zeroed, its chunk marked, and its charge taken off.
-- No capability comes, and outside the chunk everything stays.
pub record Frees (h n : HeapRow) (gs hs : List Granule)
    (quota base top number object_base object_length live : ℕ) : Type 0 where
  pub object : Object
  pub is : whole_of quota base top (objects_of h gs) ≡ Some object
  pub objects : objects_of n hs ≡ quarantine object.number (objects_of h gs)
  pub number_is : number ≡ object.number
  pub base_is : object_base ≡ object.base
  pub length_is : object_length ≡ object.length
  pub live_is : live ≡ charges quota (objects_of n hs)
  pub next : n.next ≡ h.next
  pub zero : (k : ℕ) → base ≤ h.range.ram + 8 * k → h.range.ram + 8 * k < top
      → (granule_at hs k).cap ≡ plain 0
  pub marks : (k : ℕ) → base ≤ h.range.ram + 8 * k + CHUNK_HEAD → h.range.ram + 8 * k < top
      → (granule_at hs k).mark ≡ true
  pub tags : NoTagComes gs hs
  pub rest : (k : ℕ) → (h.range.ram + 8 * k + CHUNK_HEAD < base) ⊎ (top ≤ h.range.ram + 8 * k)
      → granule_at hs k ≡ granule_at gs k
  pub size : length hs ≡ length gs
  pub same : Same h n

-- ---- paint and flush

-- each quarantined object is painted, by its chunk's head alone
pub record Paints (h : HeapRow) (gs hs : List Granule) : Type 0 where
  pub objects : objects_of h hs ≡ painted (objects_of h gs)
  pub heads : OnlyHeads h.range (chunks h.range hs) gs hs
  pub stays : Stays h.range (objects_of h gs) gs hs

-- no tagged capability of non-empty authority has its base in a painted chunk
abbrev pub NoneStale : List Object → List Granule → Type 0
NoneStale objects gs =
    (k : ℕ) → is_tagged gs k ≡ true → cap_base (granule_at gs k).cap < cap_top (granule_at gs k).cap
    → is_painted_at objects (cap_base (granule_at gs k).cap) ≡ false

-- The painted objects leave, and their chunks' marks are cleared; beside the marks nothing but heads of the chunks that
-- are left was written. What is seen stays, what isn't gets no capability.
pub record Flushes (h n : HeapRow) (gs hs : List Granule) : Type 0 where
  pub objects : objects_of n hs ≡ unpainted (objects_of h gs)
  pub next : n.next ≡ h.next
  pub size : length hs ≡ length gs
  pub marks : (k : ℕ)
      → (granule_at hs k).mark
      ≡ cond (is_painted_at (objects_of h gs) (h.range.ram + 8 * k)) false (granule_at gs k).mark
  pub heads : (k : ℕ) → NoHead h.range (chunks n.range hs) k
      → (granule_at hs k).cap ≡ (granule_at gs k).cap
  pub tags : NoTagComes gs hs
  pub rest : (k : ℕ) → Seen h.range (objects_of h gs) (h.range.ram + 8 * k)
      → (granule_at hs k).cap ≡ (granule_at gs k).cap
  pub same : Same h n
