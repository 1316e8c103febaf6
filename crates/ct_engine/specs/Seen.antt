-- What contracts see of an engine: memory with hidden granules, its threads as the machine's state has them, its heap's
-- objects as rows, and the rows of those that are keys and tokens.
use Rattle.std.specs.Prelude.{ℕ, ◌+◌, ◌*◌, ◌&&◌, ◌||◌, Bool, false, nat_le, nat_lt, List, [], ◌∷◌, Option, Some, map, slice_set, slice_index_or}
use Rattle.def_profile.specs.declared.layout.TheConstants.{GRANULE}
use Rattle.def_memory.specs.declared.Granule.{Granule}
use Rattle.def_machine.specs.Image.{Image, trusted_end}
use Rattle.def_machine.specs.State.{State, Thread, Object, Token, nobody, at_rest}
use Rattle.def_chunks.specs.declared.rows.Range.{Range}
use Rattle.def_chunks.specs.declared.rows.Account.{Account}
use Rattle.def_chunks.specs.Heaps.{objects_of}
use Rattle.def_chunks.specs.Hides.{hides_heap}
use Rattle.def_machine.specs.Threads.{picked_with, jumped}
use Rattle.def_words.specs.declared.Cap.{Cap}
use Rattle.def_words.specs.Capability.{raised}
use Rattle.def_words.specs.declared.Posture.{Posture}
use Rattle.def_machine.specs.Memory.{filtered_in}
use Rattle.def_hidden.specs.Hiding.{with_hidden}
use Rattle.ct_areas.specs.declared.thread.Area.{Area}
use Rattle.ct_areas.specs.declared.thread.Thread as row
use Rattle.ct_areas.specs.Threads.{thread_of}
use Rattle.ct_engine.specs.declared.rows.Region.{Region}
use Rattle.ct_engine.specs.declared.rows.Rows.{Rows}

-- an image's trusted region, past its first granules
abbrev pub region_of : Image → Region
region_of i = record { ram = i.ram; trusted = i.trusted; end = trusted_end i }

-- a granule of the region is hidden
abbrev pub region_hides : Region → ℕ → Bool
region_hides g k = nat_le g.trusted (g.ram + GRANULE * k) && nat_lt (g.ram + GRANULE * k) g.end

-- the program counter capability and the registers of the thread with this number stand in its row
abbrev pub stands : List Bool → ℕ → Bool
stands standing n = slice_index_or standing n false

-- the threads of these rows, of which the first has number n
abbrev pub threads_of : List Granule → List Bool → ℕ → List row.Thread → List Thread
threads_of gs standing n [] = []
threads_of gs standing n (t ∷ ts) =
    thread_of gs (stands standing n) t ∷ threads_of gs standing (n + 1) ts

-- The machine's state as far as an engine holds it, and where its parts lie, which never changes: RAM's threads'
-- region, the threads' areas, and the heap from its base up to its end, addresses; what quotas may take, in bytes, by
-- the quotas' numbers. What an engine doesn't hold (devices, time, picks, counts, statuses) is as at rest.
pub record EngineRow : Type 0 where
  pub state : State
  pub region : Region
  pub areas : List Area
  pub heap_base : ℕ
  pub heap_end : ℕ
  pub limits : List ℕ

-- what is hidden: the threads' region, and the heap outside live objects
abbrev pub hides : EngineRow → ℕ → Bool
hides s k =
    region_hides s.region k || hides_heap s.region.ram s.heap_base s.heap_end s.state.objects k

-- ---- what is seen of an engine

abbrev pub hides_over : Region → Range → List Object → ℕ → Bool
hides_over g r objects k =
    region_hides g k || hides_heap g.ram r.base (r.base + r.length) objects k

abbrev pub limits_in : List Account → List ℕ
limits_in accounts = map (λ (a : Account). a.limit) accounts

-- of these objects, threads, who stands and who runs
abbrev pub seen_by : List Object → Rows → List Granule → List row.Thread → List Bool → Option ℕ
    → EngineRow
seen_by objects r gs ts standing running = record {
  state = record (at_rest (with_hidden (hides_over r.region r.heap.range objects) gs)
      (threads_of gs standing 0 ts) [] []) {
        running = running;
        objects = objects;
        next = r.heap.next;
        tokens = r.tokens.rows;
        front = r.front;
      };
  region = r.region;
  areas = map (λ (t : row.Thread). t.area) ts;
  heap_base = r.heap.range.base;
  heap_end = r.heap.range.base + r.heap.range.length;
  limits = limits_in r.heap.accounts;
}

abbrev pub seen_of : List Granule → Rows → List row.Thread → List Bool → Option ℕ → EngineRow
seen_of gs r ts standing running = seen_by (objects_of r.heap gs) r gs ts standing running

abbrev pub engine_view : List Granule → Rows → EngineRow
engine_view gs r = seen_of gs r r.list.items r.standing.items r.running

abbrev pub hidden : List Granule → Rows → ℕ → Bool
hidden gs r k = hides_over r.region r.heap.range (objects_of r.heap gs) k

-- ---- what calls make of it

abbrev pub thread : EngineRow → ℕ → Thread
thread s t = slice_index_or s.state.threads t nobody

abbrev pub with_thread : EngineRow → ℕ → Thread → EngineRow
with_thread s t new = record s {
  state = record s.state { threads = slice_set s.state.threads t new };
}

abbrev pub with_running : EngineRow → Option ℕ → EngineRow
with_running s running = record s { state = record s.state { running = running } }

abbrev pub with_tokens : EngineRow → List Token → EngineRow
with_tokens s tokens = record s { state = record s.state { tokens = tokens } }

abbrev pub with_granules : EngineRow → List Granule → EngineRow
with_granules s gs = record s { state = record s.state { granules = gs } }

-- a thread that goes on where it stopped: what it keeps has passed the load filter
abbrev pub resumed : EngineRow → ℕ → EngineRow
resumed s t =
    with_running
    (with_thread s t (picked_with (filtered_in s.region.ram s.state.granules) (thread s t)))
    (Some t)

abbrev pub no_area : Area
no_area = record { ram = 0; stack = 0; stack_length = 0; trusted = 0; trusted_length = 0 }

-- a thread goes on elsewhere, and a register gets a value
abbrev pub after_jump : EngineRow → ℕ → Cap → Posture → ℕ → Cap → EngineRow
after_jump s t pcc posture to value = with_thread s t (jumped (thread s t) pcc posture to value)

-- it goes on after its instruction
abbrev pub advanced : EngineRow → ℕ → ℕ → Cap → EngineRow
advanced s t to value = after_jump s t (raised (thread s t).pcc 4) (thread s t).posture to value

-- where a thread's area and its stack lie
abbrev pub area_at : EngineRow → ℕ → Area
area_at s t = slice_index_or s.areas t no_area

-- what a quota may take
abbrev pub limit_at : EngineRow → ℕ → ℕ
limit_at s quota = slice_index_or s.limits quota 0

-- ---- the running thread's registers

-- each register of a thread passes the load filter
abbrev pub after_filter : EngineRow → ℕ → EngineRow
after_filter s t =
    with_thread s t
    (record (thread s t) {
      registers = map (filtered_in s.region.ram s.state.granules) (thread s t).registers;
    })
