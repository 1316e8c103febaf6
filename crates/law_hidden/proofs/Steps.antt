-- An access and a fetch of what isn't hidden are the same with hidden granules as without.
use Rattle.std.proofs.Common.{ℕ, ◌≡◌, ◌-◌, ◌/◌, ◌≤◌, inl, inr, ◌&&◌, Bool, true, false, nat_le, List, Option, Some, None, Ok, refl, sym, ap, ◌∙◌, if◌then◌else◌, cond}
use Rattle.law_lists.proofs.Tests.{bool_tells, le_tells}
use Rattle.def_words.specs.declared.Cap.{Cap}
use Rattle.def_words.specs.declared.Trap.{Trap}
use Rattle.def_words.specs.Authority.{cap_address, cap_base}
use Rattle.def_memory.specs.declared.Granule.{Granule}
use Rattle.def_memory.specs.Accesses.{loaded, stored, loaded_cap, stored_cap}
use Rattle.def_words.specs.Loaded.{attenuated, stored_through}
use Rattle.def_words.specs.Capability.{integer, untagged}
use Rattle.def_instr.specs.declared.Instr.{Instr}
use Rattle.def_machine.specs.Memory.{filtered_in, is_marked_in}
use Rattle.def_step.specs.declared.Access.{Access}
use Rattle.def_step.specs.Accesses.{MemoryAndDevices, Accessed, access_of, access_address, access_result, access_checks, accessed, in_ram, on_device, is_ram, ram_value, ram_stored, widened, unless}
use Rattle.def_step.specs.Checks.{first_failed}
use Rattle.def_step.specs.Instructions.{next_at, fetched}
use Rattle.def_hidden.specs.Hiding.{with_hidden}
use Rattle.def_safety.specs.HiddenSteps.{hide_space, hide_accessed, hide_result}
use Rattle.law_hidden.proofs.Granules.{with_hidden_length, mark_seen, load_cap_seen, load_seen, store_cap_seen, store_seen}

pub marked_same : (h : ℕ → Bool) (ram : ℕ) (gs : List Granule) (x : ℕ) → is_marked_in ram (with_hidden h gs) x ≡ is_marked_in ram gs x
marked_same h ram gs x = ap (λ b. nat_le ram x && b) (mark_seen h gs ((x - ram) / 8))

pub filtered_same : (h : ℕ → Bool) (ram : ℕ) (gs : List Granule) (c : Cap) → filtered_in ram (with_hidden h gs) c ≡ filtered_in ram gs c
filtered_same h ram gs c = ap (λ b. cond (c.tag && b) (untagged c) c) (marked_same h ram gs (cap_base c))

value_same : (h : ℕ → Bool) (a : Access) (x : Cap) (at ram : ℕ) (gs : List Granule) → h ((at - ram) / 8) ≡ false → ram_value a x at ram (with_hidden h gs) ≡ ram_value a x at ram gs
value_same h a x at ram gs open_ = by_whole a.whole
  where
    by_whole : (b : Bool) → (if b then filtered_in ram (with_hidden h gs) (attenuated x (loaded_cap (with_hidden h gs) (at - ram))) else integer (widened a (loaded (with_hidden h gs) (at - ram) a.width))) ≡ (if b then filtered_in ram gs (attenuated x (loaded_cap gs (at - ram))) else integer (widened a (loaded gs (at - ram) a.width)))
    by_whole true = ap (λ c. filtered_in ram (with_hidden h gs) (attenuated x c)) (load_cap_seen h gs (at - ram) open_) ∙ filtered_same h ram gs (attenuated x (loaded_cap gs (at - ram)))
    by_whole false = ap (λ n. integer (widened a n)) (load_seen h gs (at - ram) a.width open_)

stored_same : (h : ℕ → Bool) (a : Access) (x y : Cap) (at ram : ℕ) (gs : List Granule) → h ((at - ram) / 8) ≡ false → ram_stored a x y at ram (with_hidden h gs) ≡ with_hidden h (ram_stored a x y at ram gs)
stored_same h a x y at ram gs open_ = by_whole a.whole
  where
    by_whole : (b : Bool) → (if b then stored_cap (with_hidden h gs) (at - ram) (stored_through x y) else stored (with_hidden h gs) (at - ram) a.width (cap_address y)) ≡ with_hidden h (if b then stored_cap gs (at - ram) (stored_through x y) else stored gs (at - ram) a.width (cap_address y))
    by_whole true = store_cap_seen h gs (at - ram) (stored_through x y) open_
    by_whole false = store_seen h gs (at - ram) a.width (cap_address y) open_

in_ram_same : (h : ℕ → Bool) (a : Access) (x y : Cap) (at : ℕ) (p : MemoryAndDevices) → h ((at - p.ram) / 8) ≡ false → in_ram a x y at (hide_space h p) ≡ hide_accessed h (in_ram a x y at p)
in_ram_same h a x y at p open_ = by_loads a.loads
  where
    by_loads : (b : Bool) → (if b then (let m : Accessed = record { value = Some (ram_value a x at p.ram (with_hidden h p.granules)); act = None; granules = with_hidden h p.granules; bank = p.bank } in m) else record { value = None; act = None; granules = ram_stored a x y at p.ram (with_hidden h p.granules); bank = p.bank })
        ≡ hide_accessed h (if b then record { value = Some (ram_value a x at p.ram p.granules); act = None; granules = p.granules; bank = p.bank } else record { value = None; act = None; granules = ram_stored a x y at p.ram p.granules; bank = p.bank })
    by_loads true = ap (λ v. let m : Accessed = record { value = Some v; act = None; granules = with_hidden h p.granules; bank = p.bank } in m) (value_same h a x at p.ram p.granules open_)
    by_loads false = ap (λ gs. let m : Accessed = record { value = None; act = None; granules = gs; bank = p.bank } in m) (stored_same h a x y at p.ram p.granules open_)

on_device_same : (h : ℕ → Bool) (a : Access) (x y : Cap) (at : ℕ) (p : MemoryAndDevices) → on_device a x y at (hide_space h p) ≡ hide_accessed h (on_device a x y at p)
on_device_same h a x y at p = elim (bool_tells a.loads) [ inl e ↦ rw e refl | inr e ↦ rw e refl ]

accessed_same : (h : ℕ → Bool) (a : Access) (x y : Cap) (at : ℕ) (p : MemoryAndDevices) → (p.ram ≤ at → h ((at - p.ram) / 8) ≡ false) → accessed a x y at (hide_space h p) ≡ hide_accessed h (accessed a x y at p)
accessed_same h a x y at p open_ =
    let size : is_ram (hide_space h p) at a.width ≡ is_ram p at a.width = rw (with_hidden_length h p.granules) refl in
    elim (bool_tells (is_ram p at a.width)) [
      | inl e ↦ rw (size, e) (in_ram_same h a x y at p (open_ (elim (le_tells p.ram at) [ inl k ↦ k.1 | inr k ↦ absurd (let clash : true ≡ false = sym e ∙ rw k.0 refl in cc) ])))
      | inr e ↦ rw (size, e) (on_device_same h a x y at p)
    ]

pub access_same : (h : ℕ → Bool) (k : Instr) (x y : Cap) (p : MemoryAndDevices) → (first_failed (access_checks (access_of k) x y (access_address (access_of k) x)) ≡ None → p.ram ≤ access_address (access_of k) x → h ((access_address (access_of k) x - p.ram) / 8) ≡ false)
    → access_result k x y (hide_space h p) ≡ hide_result h (access_result k x y p)
unfolding access_result
access_same h k x y p open_ = by_checks (first_failed (access_checks (access_of k) x y (access_address (access_of k) x))) open_
  where
    by_checks : (o : Option Trap) → (o ≡ None → p.ram ≤ access_address (access_of k) x → h ((access_address (access_of k) x - p.ram) / 8) ≡ false)
        → unless o (accessed (access_of k) x y (access_address (access_of k) x) (hide_space h p)) ≡ hide_result h (unless o (accessed (access_of k) x y (access_address (access_of k) x) p))
    by_checks None see = ap (λ m. Ok m) (accessed_same h (access_of k) x y (access_address (access_of k) x) p (see refl))
    by_checks (Some t) see = refl

fetched_same : (h : ℕ → Bool) (p : MemoryAndDevices) (at : ℕ) → (p.ram ≤ at → h ((at - p.ram) / 8) ≡ false) → fetched (hide_space h p) at ≡ fetched p at
fetched_same h p at open_ =
    let size = with_hidden_length h p.granules in
    rw size (elim (le_tells p.ram at) [
      | inl e ↦ rw (load_seen h p.granules (at - p.ram) 4 (open_ e.1)) refl
      | inr e ↦ rw e.0 refl
    ])

pub next_same : (h : ℕ → Bool) (p : MemoryAndDevices) (at : ℕ) → (p.ram ≤ at → h ((at - p.ram) / 8) ≡ false) → next_at (hide_space h p) at ≡ next_at p at
next_same h p at open_ = rw (fetched_same h p at open_) refl
