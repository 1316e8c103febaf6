-- An instruction's fetch, load or store that meets nothing hidden is the one of what is seen.
use Rattle.std.proofs.Common.{ℕ, ◌≡◌, ◌-◌, ◌/◌, ◌%◌, ◌≤◌, Bool, true, false, List, length, Option, Some, None, Result, Ok, Err, refl, sym, ap, ◌∙◌, subst}
use Rattle.std.proofs.lemmas.List.{length-set}
use Rattle.law_lists.proofs.Tests.{chosen}
use Rattle.law_granules.proofs.Lists.{store_rest, cap_rest}
use Rattle.law_routines.proofs.Accesses.{by_access, ram_begins}
use Rattle.def_words.specs.declared.Cap.{Cap}
use Rattle.def_words.specs.declared.Trap.{Trap}
use Rattle.def_words.specs.Authority.{cap_address}
use Rattle.def_words.specs.Loaded.{stored_through}
use Rattle.def_memory.specs.declared.Granule.{Granule}
use Rattle.def_memory.specs.Granules.{cap_in}
use Rattle.def_instr.specs.declared.Instr.{Instr}
use Rattle.def_step.specs.declared.Access.{Access}
use Rattle.def_step.specs.Checks.{first_failed}
use Rattle.def_step.specs.Devices.{DeviceStates}
use Rattle.def_step.specs.Accesses.{MemoryAndDevices, Accessed, access_of, access_address, access_checks, access_result, accessed, ram_stored, unless}
use Rattle.def_step.specs.Instructions.{next_at}
use Rattle.def_hidden.specs.Hiding.{with_hidden}
use Rattle.def_safety.specs.HiddenSteps.{hide_space, hide_result, IsSeen, SeesAccess}
use Rattle.law_hidden.proofs.Granules.{with_hidden_length}
use Rattle.law_hidden.proofs.Steps.{access_same, next_same}
use Rattle.ct_loadstore.specs.Shapes.{MovedRow, space_of}
use Rattle.ct_threads.specs.Steps.{no_bank, IsHeapPlaced, IsMoved}
use Rattle.ct_engine.specs.declared.rows.Rows.{Rows}
use Rattle.ct_engine.specs.Seen.{EngineRow, hides, engine_view, with_granules, hidden}
use Rattle.ct_engine.specs.Kept.{IsEngine}
use Rattle.ct_engine.specs.Steps.{space_in, next_in}
use Rattle.ct_engine.proofs.Away.{HiddenStays, away_holds, away_seen, apart, size_is}

-- ---- a fetch

pub even_by : (gs : List Granule) (rows : Rows) (v : EngineRow) → engine_view gs rows ≡ v → v.region.ram % 16 ≡ 0 → rows.region.ram % 16 ≡ 0
even_by gs rows v is even = rw (← is) at even

pub next_is : (gs : List Granule) (rows : Rows) (v : EngineRow) (at : ℕ) → engine_view gs rows ≡ v → IsSeen (hides v) v.region.ram at
    → next_at (space_of rows.region.ram gs no_bank 0) at ≡ next_in v at
next_is gs rows v at is open_ =
    let here : IsSeen (hidden gs rows) rows.region.ram at = rw (← is) at open_ in
    sym (next_same (hidden gs rows) (space_of rows.region.ram gs no_bank 0) at here) ∙ ap (λ (s : EngineRow). next_in s at) is

-- ---- what a load or a store leaves of what is hidden

stored_stays : (h : ℕ → Bool) (a : Access) (x y : Cap) (at ram : ℕ) (gs : List Granule) (k : ℕ) → h ((at - ram) / 8) ≡ false → h k ≡ true
    → cap_in (ram_stored a x y at ram gs) k ≡ cap_in gs k
stored_stays h a x y at ram gs k open_ hidden = chosen (λ (hs : List Granule). cap_in hs k ≡ cap_in gs k) a.whole _ _
    (λ whole. ap (λ (g : Granule). g.cap) (cap_rest gs (at - ram) (stored_through x y) k (apart h k ((at - ram) / 8) open_ hidden)))
    (λ part. ap (λ (g : Granule). g.cap) (store_rest gs (at - ram) a.width (cap_address y) k (apart h k ((at - ram) / 8) open_ hidden)))

accessed_stays : (h : ℕ → Bool) (a : Access) (x y : Cap) (at : ℕ) (p : MemoryAndDevices) (k : ℕ) → (p.ram ≤ at → h ((at - p.ram) / 8) ≡ false) → h k ≡ true
    → cap_in (accessed a x y at p).granules k ≡ cap_in p.granules k
accessed_stays h a x y at p k open_ hidden = by_access (λ (m : Accessed). cap_in m.granules k ≡ cap_in p.granules k) a x y at p (record {
  loads = λ ram is. refl;
  stores = λ ram is. stored_stays h a x y at p.ram p.granules k (open_ (ram_begins p at a.width ram)) hidden;
  reads = λ is. refl;
  writes = λ is. refl;
})

-- what an access comes to whose checks pass
result_is : (P : Accessed → Type 0) (i : Instr) (x y : Cap) (p : MemoryAndDevices) (m : Accessed)
    → (first_failed (access_checks (access_of i) x y (access_address (access_of i) x)) ≡ None → P (accessed (access_of i) x y (access_address (access_of i) x) p))
    → access_result i x y p ≡ Ok m → P m
unfolding access_result
result_is P i x y p m done is = by_checks (first_failed (access_checks (access_of i) x y (access_address (access_of i) x))) done is
  where
    by_checks : (o : Option Trap) → (o ≡ None → P (accessed (access_of i) x y (access_address (access_of i) x) p))
        → unless o (accessed (access_of i) x y (access_address (access_of i) x) p) ≡ Ok m → P m
    by_checks None here e = let same : accessed (access_of i) x y (access_address (access_of i) x) p ≡ m = cc in subst P same (here refl)
    by_checks (Some w) here e = absurd (let clash : Err w ≡ Ok m = e in cc)

pub result_stays : (h : ℕ → Bool) (i : Instr) (x y : Cap) (p : MemoryAndDevices) (m : Accessed) (k : ℕ) → SeesAccess h p.ram i x y → access_result i x y p ≡ Ok m → h k ≡ true
    → cap_in m.granules k ≡ cap_in p.granules k
result_stays h i x y p m k open_ is hidden =
    result_is (λ (n : Accessed). cap_in n.granules k ≡ cap_in p.granules k) i x y p m
    (λ passes. accessed_stays h (access_of i) x y (access_address (access_of i) x) p k (open_ passes) hidden) is

-- ---- how many granules there are

stored_size : (a : Access) (x y : Cap) (at ram : ℕ) (gs : List Granule) → length (ram_stored a x y at ram gs) ≡ length gs
stored_size a x y at ram gs = chosen (λ (hs : List Granule). length hs ≡ length gs) a.whole _ _
    (λ whole. length-set gs ((at - ram) / 8) _) (λ part. length-set gs ((at - ram) / 8) _)

accessed_size : (a : Access) (x y : Cap) (at : ℕ) (p : MemoryAndDevices) → length (accessed a x y at p).granules ≡ length p.granules
accessed_size a x y at p = by_access (λ (m : Accessed). length m.granules ≡ length p.granules) a x y at p (record {
  loads = λ ram is. refl;
  stores = λ ram is. stored_size a x y at p.ram p.granules;
  reads = λ is. refl;
  writes = λ is. refl;
})

pub result_size : (i : Instr) (x y : Cap) (p : MemoryAndDevices) (m : Accessed) → access_result i x y p ≡ Ok m → length m.granules ≡ length p.granules
result_size i x y p m is =
    result_is (λ (n : Accessed). length n.granules ≡ length p.granules) i x y p m (λ passes. accessed_size (access_of i) x y (access_address (access_of i) x) p) is

-- ---- a load or a store, whole

pub moved_stays : (h : ℕ → Bool) (i : Instr) (x y : Cap) (p : MemoryAndDevices) (hs : List Granule) (k : DeviceStates) (r : Result MovedRow Trap) → SeesAccess h p.ram i x y → IsMoved i x y p hs k r
    → (n : ℕ) → h n ≡ true → cap_in hs n ≡ cap_in p.granules n
moved_stays h i x y p hs k (Ok m) open_ c n hidden = result_stays h i x y p (record { value = m.value; act = m.device; granules = hs; bank = k }) n open_ c hidden
moved_stays h i x y p hs k (Err w) open_ c n hidden = ap (λ (gs : List Granule). cap_in gs n) c.1

pub moved_seen : (h : ℕ → Bool) (i : Instr) (x y : Cap) (p : MemoryAndDevices) (hs : List Granule) (k : DeviceStates) (r : Result MovedRow Trap) → SeesAccess h p.ram i x y → IsMoved i x y p hs k r
    → IsMoved i x y (hide_space h p) (with_hidden h hs) k r
moved_seen h i x y p hs k (Ok m) open_ c = access_same h i x y p open_ ∙ ap (λ r. hide_result h r) c
moved_seen h i x y p hs k (Err w) open_ c = (access_same h i x y p open_ ∙ ap (λ r. hide_result h r) c.0, ap (λ gs. with_hidden h gs) c.1, c.2)

pub heap_by : (gs : List Granule) (rows : Rows) (v : EngineRow) (heap : ℕ) → engine_view gs rows ≡ v → IsHeapPlaced v.region.ram heap (length v.state.granules) → IsHeapPlaced rows.region.ram heap (length gs)
heap_by gs rows v heap is placed =
    let here : IsHeapPlaced rows.region.ram heap (length (engine_view gs rows).state.granules) = subst (λ (s : EngineRow). IsHeapPlaced s.region.ram heap (length s.state.granules)) (sym is) placed in
    subst (λ n. IsHeapPlaced rows.region.ram heap n) (with_hidden_length (hidden gs rows) gs) here

-- what is known of an access of seen granules, of which the real ones are gs before it and hs after it
pub record Moving (gs hs : List Granule) (rows : Rows) (v : EngineRow) (i : Instr) (x y : Cap) (k after : DeviceStates) (time : ℕ) (r : Result MovedRow Trap) : Type 0 where
  pub is : engine_view gs rows ≡ v
  pub holds : IsEngine gs rows
  pub meets : SeesAccess (hides v) v.region.ram i x y
  pub moved : IsMoved i x y (space_of rows.region.ram gs k time) hs after r
  pub size : length hs ≡ length gs

module _ {gs hs : List Granule} {rows : Rows} {v : EngineRow} {i : Instr} {x y : Cap} {k after : DeviceStates} {time : ℕ} {r : Result MovedRow Trap}
    (m : Moving gs hs rows v i x y k after time r) where
  meets_here : SeesAccess (hidden gs rows) rows.region.ram i x y
  meets_here = subst (λ (s : EngineRow). SeesAccess (hides s) s.region.ram i x y) (sym m.is) m.meets

  move_stays : HiddenStays gs hs rows
  move_stays = moved_stays (hidden gs rows) i x y (space_of rows.region.ram gs k time) hs after r meets_here m.moved

  whole_is : engine_view hs rows ≡ with_granules (engine_view gs rows) (with_hidden (hidden gs rows) hs)
  whole_is = away_seen gs hs rows m.holds m.size move_stays

  pub move_holds : IsEngine hs rows
  move_holds = away_holds gs hs rows m.holds m.size move_stays

  -- nothing but granules changes
  pub move_kept : engine_view hs rows ≡ with_granules v (engine_view hs rows).state.granules
  move_kept =
      whole_is ∙ ap (λ (xs : List Granule). with_granules (engine_view gs rows) xs) (sym (ap (λ (s : EngineRow). s.state.granules) whole_is))
      ∙ ap (λ (s : EngineRow). with_granules s (engine_view hs rows).state.granules) m.is

  pub move_size : length (engine_view hs rows).state.granules ≡ length v.state.granules
  move_size = with_hidden_length (hidden hs rows) hs ∙ m.size ∙ sym (size_is gs rows v m.is)

  -- it comes to what the written access comes to over the seen granules
  pub move_is : IsMoved i x y (space_in v k time) (engine_view hs rows).state.granules after r
  move_is =
      subst (λ (s : EngineRow). IsMoved i x y (space_in s k time) (engine_view hs rows).state.granules after r) m.is
      (subst (λ (xs : List Granule). IsMoved i x y (space_in (engine_view gs rows) k time) xs after r) (sym (ap (λ (s : EngineRow). s.state.granules) whole_is))
      (moved_seen (hidden gs rows) i x y (space_of rows.region.ram gs k time) hs after r meets_here m.moved))
