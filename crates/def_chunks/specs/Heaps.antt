-- A heap as contracts see it, and the rows of objects that it stands for: the chunks in memory say where each object
-- lies, its number and its state; a table of one number for each 16 bytes says where used chunks begin and which quota
-- each is charged to.
use Rattle.std.specs.Prelude.{ℕ, ◌+◌, ◌-◌, ◌*◌, ◌/◌, ◌%◌, ◌≡◌, ◌≤◌, ◌<◌, ◌&&◌, Bool, true, false, not, cond, nat_eq, List, [], ◌∷◌, length, slice_index_or}
use Rattle.def_profile.specs.declared.layout.TheConstants.{CHUNK_HEAD}
use Rattle.def_memory.specs.declared.Granule.{Granule}
use Rattle.def_machine.specs.Image.{Image}
use Rattle.def_machine.specs.State.{Object}
use Rattle.def_machine.specs.Objects.{Each, charges}
use Rattle.def_chunks.specs.declared.heads.TheConstants.{LIVE, PAINTED, SLOT}
use Rattle.def_chunks.specs.declared.rows.Range.{Range}
use Rattle.def_chunks.specs.declared.rows.Account.{Account}
use Rattle.def_chunks.specs.Chunks.{Chunk, is_free}
use Rattle.def_chunks.specs.Tiles.{chunks, TilesSettled}

-- ---- the table of used chunks

-- what the table has for a used chunk of a quota that begins at an offset: never zero, and it tells which of the two
-- granules of these 16 bytes it begins at
abbrev pub chunk_name : ℕ → ℕ → ℕ
chunk_name quota offset = 1 + 2 * quota + offset / 8 % 2

abbrev pub object_name_at : List ℕ → ℕ → ℕ
object_name_at names offset = slice_index_or names (offset / SLOT) 0

-- a used chunk begins at this offset, a multiple of 8
abbrev pub begins_used_chunk : List ℕ → ℕ → Bool
begins_used_chunk names offset =
    not (nat_eq (object_name_at names offset) 0)
    && nat_eq ((object_name_at names offset - 1) % 2) (offset / 8 % 2)

-- and this is its quota
abbrev pub quota_named : List ℕ → ℕ → ℕ
quota_named names offset = (object_name_at names offset - 1) / 2

-- a used chunk begins at this address
abbrev pub is_used_at : ℕ → ℕ → List Chunk → Bool
is_used_at p at [] = false
is_used_at p at (c ∷ cs) = cond (nat_eq at p) (not (is_free c)) (is_used_at p (at + c.size) cs)

-- ---- rows of objects

abbrev pub object_at : ℕ → ℕ → Chunk → Object
object_at quota at c = record {
  number = c.number;
  quota = quota;
  base = at + CHUNK_HEAD;
  length = c.size - CHUNK_HEAD;
  charge = c.size;
  live = nat_eq c.state LIVE;
  painted = nat_eq c.state PAINTED;
}

-- the objects in these chunks, by their bases
abbrev pub objects_in : List ℕ → ℕ → ℕ → List Chunk → List Object
objects_in names base at [] = []
objects_in names base at (c ∷ cs) =
    cond (is_free c)
    (objects_in names base (at + c.size) cs)
    (object_at (quota_named names (at - base)) at c ∷ objects_in names base (at + c.size) cs)

-- ---- a heap

-- where it lies, its quotas, the next object's number, how many objects are quarantined, and the table
pub record HeapRow : Type 0 where
  pub range : Range
  pub accounts : List Account
  pub next : ℕ
  pub waiting : ℕ
  pub names : List ℕ

-- the heap's rows of objects, over memory
unfoldable pub objects_of : HeapRow → List Granule → List Object
objects_of h gs = objects_in h.names h.range.base h.range.base (chunks h.range gs)

abbrev pub no_account : Account
no_account = record { limit = 0; charged = 0 }

abbrev pub account : HeapRow → ℕ → Account
account h quota = slice_index_or h.accounts quota no_account

-- the image's heap is the one that lies here
pub record IsHeapOf (i : Image) (r : Range) : Type 0 where
  pub ram : i.ram ≡ r.ram
  pub base : i.heap_base ≡ r.base
  pub end : i.heap_end ≡ r.base + r.length

-- multiples of the unit are the multiples of 8 that are aligned
pub record IsUnit (unit alignment : ℕ) : Type 0 where
  pub some : 0 < unit
  pub both : (b : ℕ) → b % 8 ≡ 0 → b % alignment ≡ 0 → b % unit ≡ 0
  pub each : (b : ℕ) → b % unit ≡ 0 → (b % 8 ≡ 0) × (b % alignment ≡ 0)

-- no two objects have one number
abbrev pub Distinct : List Object → Type 0
Distinct [] = Unit {0}
Distinct (r ∷ rs) = Each (λ q. q.number ≡ r.number → ⊥) rs × Distinct rs

abbrev pub waiting_in : List Object → ℕ
waiting_in [] = 0
waiting_in (r ∷ rs) = cond r.live 0 1 + waiting_in rs

-- The chunk heads in memory tile the heap's range, no two free ones touch, and they agree with all that the heap keeps
-- beside memory: the table, what each quota is charged with, the numbers, and how many objects are quarantined.
pub record Laid (h : HeapRow) (gs : List Granule) : Type 0 where
  pub settled : TilesSettled h.range gs
  pub slots : length h.names ≡ h.range.length / SLOT
  pub named : (o : ℕ) → o % 8 ≡ 0
      → begins_used_chunk h.names o ≡ is_used_at (h.range.base + o) h.range.base (chunks h.range gs)
  pub quotas : Each (λ r. r.quota < length h.accounts) (objects_of h gs)
  pub few : length h.accounts ≤ 32767
  pub charged : (q : ℕ) → (account h q).charged ≡ charges q (objects_of h gs)
  pub within : (q : ℕ) → (account h q).charged ≤ (account h q).limit
  pub numbers : Each (λ r. r.number < h.next) (objects_of h gs)
  pub distinct : Distinct (objects_of h gs)
  pub waiting : h.waiting ≡ waiting_in (objects_of h gs)
