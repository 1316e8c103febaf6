-- A machine put together from booted parts: what contracts see of it, and that it is kept so.
use Rattle.std.proofs.Common.{ℕ, zero, suc, ◌+◌, ◌*◌, ◌≡◌, ◌≤◌, ◌<◌, ◌∙◌, true, false, List, [], ◌∷◌, length, map, replicate, slice_get, slice_index_or, refl, ap, sym, subst, arith}
use Rattle.std.proofs.lemmas.List.{length-map, length-replicate}
use Rattle.ct_entry.specs.Listed.{Listed}
use Rattle.ct_entry.specs.declared.rows.Entry.{Entry}
use Rattle.ct_entry.specs.declared.rows.Gate.{Gate}
use Rattle.def_reach.specs.Roots.{listed_root, root_of, gate_for, is_quota}
use Rattle.def_machine.specs.Image.{Image}
use Rattle.def_machine.specs.State.{Thread, no_counts}
use Rattle.def_machine.specs.Threads.{with_statuses}
use Rattle.def_sched.specs.declared.Status.TheVariants.{Ready}
use Rattle.def_step.specs.Devices.{DeviceStates}
use Rattle.def_machine.specs.Platform.{MachineRow}
use Rattle.def_image.specs.Parts.{ThreadRow, PartsRow}
use Rattle.def_image.specs.Sound.{Sound}
use Rattle.law_image.proofs.Limited.{few_threads}
use Rattle.def_boot.specs.Gates.{entries_of}
use Rattle.def_boot.specs.Entries as listed
use Rattle.law_boot.proofs.Few.{few_entries}
use Rattle.law_boot.proofs.Contents.{granules_count}
use Rattle.def_boot.specs.Boot.{boot_state, booted_machine, first_thread, first_threads, image_of}
use Rattle.def_boot.specs.Contents.{boot_granules, granules_in}
use Rattle.ct_threads.specs.Steps.{IsHeapPlaced}
use Rattle.ct_engine.specs.Seen.{EngineRow}
use Rattle.ct_engine.specs.Written.{HasHeap}
use Rattle.ct_sched.specs.Sched.{SchedRow}
use Rattle.ct_boot.specs.Launching.{launched}
use Rattle.ct_boot.specs.Placed.{ArePlaced}
use Rattle.ct_machine.specs.Parts.{HasQuotas, IsKept, IsCounted}
use Rattle.ct_machine.proofs.Keeping.{machine_by}
use Rattle.law_started.proofs.Starting.{threads_count}
use Rattle.ct_machine.specs.Starting.{IsPlan, bank_of, limits_of, rows_of}

-- ---- what contracts see

ready_with : (p : PartsRow) (n : ℕ) (ts : List ThreadRow) → with_statuses (first_threads p n ts) (replicate (length ts) Ready) ≡ first_threads p n ts
ready_with p n [] = refl
ready_with p n (t ∷ ts) = ap (λ (us : List Thread). first_thread p n t ∷ us) (ready_with p (n + 1) ts)

abbrev pub row_of : Image → EngineRow → SchedRow → DeviceStates → MachineRow
row_of i e r k = machine_by i e r k false 0 no_counts

booted_is : (p : PartsRow) (limits : List ℕ) → row_of (image_of p) (launched p limits) (rows_of p) (bank_of p) ≡ booted_machine p
unfolding boot_state
booted_is p limits = rw (ready_with p 0 p.threads) refl

pub started_is : (p : PartsRow) (limits : List ℕ) (i : Image) (e : EngineRow) (r : SchedRow) (k : DeviceStates) → i ≡ image_of p → e ≡ launched p limits → r ≡ rows_of p → k ≡ bank_of p → row_of i e r k ≡ booted_machine p
started_is p limits i e r k image engine rows bank = rw (image, engine, rows, bank) (booted_is p limits)

-- ---- what it keeps

boot_length : (p : PartsRow) → length (boot_state p).granules ≡ granules_in p
unfolding boot_state boot_granules
boot_length p = granules_count p p.ram (granules_in p)

frames_count : (p : PartsRow) → length (image_of p).frames ≡ length p.threads
unfolding image_of
frames_count p = length-map p.threads (λ (t : ThreadRow). t.frames)

priorities_are : (p : PartsRow) → (rows_of p).priorities ≡ (image_of p).priorities
unfolding image_of
priorities_are p = refl

-- the heap lies in RAM
heap_of : (p : PartsRow) → Sound p → IsHeapPlaced (image_of p).ram (image_of p).heap_base (granules_in p)
unfolding image_of
heap_of p s =
    let size = s.ram.size in
    let end = s.ram.end in
    let below = s.heap.below in
    let inside = s.heap.inside in
    record {
      even = s.ram.base;
      fits = omega (arith, size, end);
      whole = (s.heap.even, omega (arith, size));
      low = omega (arith, below);
      high = omega (arith, size, inside);
    }

statuses_count : (p : PartsRow) → length (rows_of p).statuses ≡ length p.threads
statuses_count p = length-replicate (length p.threads) Ready

-- ---- quotas

-- an entry's limit, by its number
limit_in : (rows : List Entry) (g : Gate) (n : ℕ) → (listed_root (slice_get rows n) g).limit ≡ slice_index_or (map (λ (r : Entry). r.limit) rows) n 0
limit_in [] g n = refl
limit_in (r ∷ rows) g zero = refl
limit_in (r ∷ rows) g (suc n) = limit_in rows g n

limit_of : (e : Listed) (q : ℕ) → (root_of e q).limit ≡ slice_index_or (limits_of e) q 0
unfolding root_of
limit_of e zero = refl
limit_of e (suc n) = limit_in e.rows (gate_for e.gates (suc n)) n

-- what is a quota has an entry
listed_quota : (rows : List Entry) (g : Gate) (n : ℕ) → is_quota (listed_root (slice_get rows n) g).origin ≡ true → n < length rows
listed_quota [] g n is = absurd (let clash : false ≡ true = is in cc)
listed_quota (r ∷ rows) g zero is = omega arith
listed_quota (r ∷ rows) g (suc n) is = let rest = listed_quota rows g n is in omega (arith, rest)

quota_listed : (e : Listed) (q : ℕ) → is_quota (root_of e q).origin ≡ true → q < length (limits_of e)
unfolding root_of
quota_listed e zero is = absurd (let clash : false ≡ true = is in cc)
quota_listed e (suc n) is =
    let within = listed_quota e.rows (gate_for e.gates (suc n)) n is in
    let count = length-map e.rows (λ (r : Entry). r.limit) in
    omega (arith, within, count)

-- a heap has a quota for each
pub few_limits : (p : PartsRow) → Sound p → length (limits_of (entries_of p)) ≤ 32767
unfolding entries_of
few_limits p s =
    let few = few_entries p s in
    let count = length-map (listed.entry_rows p) (λ (r : Entry). r.limit) in
    omega (arith, few, count)

-- what each may take is told by the entries that the plan keeps
pub limits_are : (p : PartsRow) (i : Image) (entries : Listed) (xs : List ℕ) → i ≡ image_of p → entries ≡ i.entries → xs ≡ limits_of entries → xs ≡ limits_of (entries_of p)
unfolding image_of
limits_are p i entries xs image listed is = is ∙ ap limits_of listed ∙ ap (λ (j : Image). limits_of j.entries) image

heap_has : (p : PartsRow) → HasHeap (image_of p) (launched p (limits_of (entries_of p)))
unfolding image_of
heap_has p = record { base = refl; end = refl; limits = limit_of (entries_of p) }

quotas_has : (p : PartsRow) → HasQuotas (image_of p) (launched p (limits_of (entries_of p)))
unfolding image_of
quotas_has p = quota_listed (entries_of p)

-- ---- what is kept

abbrev first : PartsRow → EngineRow
first p = launched p (limits_of (entries_of p))

kept : (p : PartsRow) → Sound p → ArePlaced (image_of p) (8 * length (first p).state.granules) (first p).areas → IsKept (image_of p) (first p) (rows_of p)
kept p s placed =
    let few = few_threads p s.few in
    let count = statuses_count p in
    record {
      region = refl;
      placed = rw (boot_length p) (heap_of p s);
      heap = heap_has p;
      quotas = quotas_has p;
      areas = placed;
      threads = placed.count ∙ frames_count p ∙ sym (threads_count p 0 p.threads);
      priorities = priorities_are p;
      statuses = count ∙ sym (threads_count p 0 p.threads);
      few = omega (arith, few, count);
      ready = λ t runs. absurd cc;
    }

pub started_kept : (p : PartsRow) (i : Image) (e : EngineRow) (r : SchedRow) → Sound p → i ≡ image_of p → e ≡ launched p (limits_of (entries_of p)) → ArePlaced (image_of p) (8 * length e.state.granules) e.areas → r ≡ rows_of p
    → IsKept i e r × IsCounted no_counts 0 e.state.next
started_kept p i e r s image engine placed rows = rw (image, rows, engine) (
  kept p s (subst (λ (x : EngineRow). ArePlaced (image_of p) (8 * length x.state.granules) x.areas) engine placed),
  record { steps = omega arith; ticks = omega arith; sweeps = omega arith; inputs = omega arith; deeds = omega arith; clock = omega arith; made = omega arith },
)

-- what is kept of a sound image
pub plan_of : (p value : PartsRow) (entries : Listed) (handlers : List ℕ) (ram heap sweep : ℕ) → Sound p → value ≡ p → entries ≡ entries_of p → handlers ≡ (image_of p).handlers → ram ≡ p.ram → heap ≡ p.heap → sweep ≡ p.sweep → IsPlan value entries handlers ram heap sweep
unfolding image_of
plan_of p value entries handlers ram heap sweep s is same own begins heaps slices = rw (is, begins, heaps, slices) (record { sound = s; entries_are = same; handlers_are = own; ram_is = refl; heap_is = refl; sweep_is = refl })
