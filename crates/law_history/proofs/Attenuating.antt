-- What a load leaves in its register is attenuated, and what a store leaves in its granule is local through SL alone.
use Rattle.std.proofs.Common.{ℕ, zero, suc, ◌≡◌, ◌-◌, ◌/◌, ◌<◌, ◌⊎◌, inl, inr, ◌==◌, ◌&&◌, not, Bool, true, false, List, Option, None, Ok, Result, refl, sym, ap, ◌∙◌, subst, arith}
use Rattle.std.specs.Prelude.{unwrap_or, slice_set, if◌then◌else◌}
use Rattle.std.proofs.Math.ListN.{get_or}
use Rattle.std.proofs.lemmas.Bool.{and_parts, eqb-true}
use Rattle.law_lists.proofs.Tests.{bool_tells, chosen, le_tells}
use Rattle.law_lists.proofs.Sets.{after_set_split}
use Rattle.ct_entry.specs.declared.acts.Deed.{Deed}
use Rattle.def_words.specs.declared.Cap.{Cap}
use Rattle.def_words.specs.declared.Trap.{Trap}
use Rattle.def_words.specs.Authority.{cap_address, cap_base}
use Rattle.def_words.specs.Capability.{integer, untagged}
use Rattle.def_words.specs.Loaded.{attenuated, lost_through, stored_through}
use Rattle.def_words.specs.Permissions.{has, bit, is_among, removed, cap_perms, global, load_global, load_mutable, memory_capability, store_data, store_local}
use Rattle.def_words.specs.Seals.{cap_seal, is_unsealed}
use Rattle.def_memory.specs.declared.Granule.{Granule}
use Rattle.def_memory.specs.Granules.{plain, nothing, granule_at}
use Rattle.def_memory.specs.Accesses.{loaded, loaded_cap, stored, stored_cap}
use Rattle.def_instr.specs.declared.Instr.{Instr}
use Rattle.def_machine.specs.Image.{granule_of}
use Rattle.def_machine.specs.Memory.{is_marked_in, filtered_in}
use Rattle.def_machine.specs.Platform.{Platform}
use Rattle.def_machine.specs.Registers.{written}
use Rattle.def_machine.specs.State.{State, Thread, granule, nobody, register, thread}
use Rattle.def_step.specs.declared.Access.{Access}
use Rattle.def_step.specs.Accesses.{MemoryAndDevices, Accessed, access_of, access_checks, access_result, accessed, device_value, in_ram, is_ram, on_device, ram_stored, ram_value, store_checks, load_checks, unless, widened}
use Rattle.def_step.specs.Devices.{bank_value}
use Rattle.def_step.specs.Events.{continued, noted}
use Rattle.def_step.specs.Instructions.{Effect, accesses, after_fetch, around, carried_out, executed, goes_on, instruction_end, named_by, space_of}
use Rattle.def_step.specs.Operands.{class_of, operands_of}
use Rattle.law_words.proofs.Away.{loaded_away}
use Rattle.law_words.proofs.Bits.{bit_past, bit_where, where_small}
use Rattle.law_words.proofs.Narrowing.{WithSet, with_set}
use Rattle.law_words.proofs.Passing.{loaded_facts, loaded_narrows}
use Rattle.law_words.proofs.Spellings.{normal_within}
use Rattle.law_moves.proofs.Checks.{AllPass, all_pass}
use Rattle.law_routines.proofs.Accesses.{by_access}
use Rattle.law_events.proofs.Accesses.{store_passes, when_false}
use Rattle.def_safety.specs.Attenuates.{Attenuates, CarriesOut, IsStoredThrough, LoadsAttenuate, StoresLocal}
use Rattle.def_safety.specs.Each.{ready}
use Rattle.def_safety.specs.Used.{access_start, authority_of, value_of}

-- ---- a word

-- what a load takes is gone
lost_gone : (by c : Cap) (p : ℕ) → is_among p (lost_through by c) ≡ true → has (attenuated by c) p ≡ false
unfolding attenuated removed
lost_gone by c p lost = elim (bool_tells (has (attenuated by c) p)) [
  | inl there ↦
      let kept : ℕ → Bool = λ q. bit (cap_perms c) q && not (is_among q (lost_through by c)) in
      let small = where_small (λ q. bit (cap_perms c) q && not (is_among q (lost_through by c))) in
      let w : WithSet c (attenuated by c) (removed (cap_perms c) (lost_through by c)) = with_set c (attenuated by c) (removed (cap_perms c) (lost_through by c)) small refl in
      let stays : bit (removed (cap_perms c) (lost_through by c)) p ≡ true = normal_within (removed (cap_perms c) (lost_through by c)) p (ap (λ s. bit s p) (sym w.rights) ∙ there) in
      elim (le_tells 12 p) [
        | inl t ↦ absurd (let none : bit (removed (cap_perms c) (lost_through by c)) p ≡ false = bit_past (removed (cap_perms c) (lost_through by c)) p small t.1 in cc)
        | inr t ↦
            let parts = and_parts (bit (cap_perms c) p) (not (is_among p (lost_through by c))) (sym (bit_where (λ q. bit (cap_perms c) q && not (is_among q (lost_through by c))) p t.1) ∙ stays) in
            absurd (let other : not true ≡ true = subst (λ x. not x ≡ true) lost parts.1 in cc)
      ]
  | inr off ↦ off
]

module _ (by c : Cap) where
  loses_store : is_unsealed c ≡ true → has by load_mutable ≡ false → is_among store_data (lost_through by c) ≡ true
  loses_store open_one off = rw (open_one, off) refl

  loses_mutable : is_unsealed c ≡ true → has by load_mutable ≡ false → is_among load_mutable (lost_through by c) ≡ true
  loses_mutable open_one off = rw (open_one, off) refl

  loses_global : has by load_global ≡ false → is_among global (lost_through by c) ≡ true
  loses_global off = elim (bool_tells (is_unsealed c)) [
    | inl open_one ↦ elim (bool_tells (has by load_mutable)) [ inl on ↦ rw (open_one, on, off) refl | inr lacks ↦ rw (open_one, lacks, off) refl ]
    | inr sealed ↦ rw (sealed, off) refl
  ]

  loses_capture : is_unsealed c ≡ true → has by load_global ≡ false → is_among load_global (lost_through by c) ≡ true
  loses_capture open_one off = elim (bool_tells (has by load_mutable)) [ inl on ↦ rw (open_one, on, off) refl | inr lacks ↦ rw (open_one, lacks, off) refl ]

  unsealed_test : cap_seal c ≡ 0 → is_unsealed c ≡ true
  unsealed_test e = ap (λ n. n == 0) e

  pub attenuates : (attenuated by c).tag ≡ true → Attenuates by c (attenuated by c)
  attenuates tagged = record {
    carries = (loaded_narrows by c tagged).1;
    narrows = (loaded_narrows by c tagged).0;
    same_seal = elim (bool_tells (is_unsealed c)) [
      | inl open_one ↦ (let zero_ = eqb-true (cap_seal c) 0 open_one in (loaded_facts by c).open_stays zero_ ∙ sym zero_)
      | inr sealed ↦ ((loaded_facts by c).sealed_stays (λ e. absurd (let clash : true ≡ false = sym (unsealed_test e) ∙ sealed in cc))).kind
    ];
    no_store = λ off e. lost_gone by c store_data (loses_store (unsealed_test e) off);
    no_mutable = λ off e. lost_gone by c load_mutable (loses_mutable (unsealed_test e) off);
    no_global = λ off. lost_gone by c global (loses_global off);
    no_capture = λ off e. lost_gone by c load_global (loses_capture (unsealed_test e) off);
    sealed = λ shut. (loaded_facts by c).sealed_stays shut;
  }

-- ---- what an access gives and leaves

-- v, if it is tagged, is c attenuated
abbrev pub IsLoad : Cap → Cap → Cap → Type 0
IsLoad by c v = v.tag ≡ true → Attenuates by c v

no_load : (by c v : Cap) → v.tag ≡ false → IsLoad by c v
no_load by c v off tagged = absurd (let clash : true ≡ false = sym tagged ∙ off in cc)

filtered_load : (by c : Cap) (ram : ℕ) (gs : List Granule) → IsLoad by c (filtered_in ram gs (attenuated by c))
filtered_load by c ram gs = chosen (IsLoad by c) ((attenuated by c).tag && is_marked_in ram gs (cap_base (attenuated by c))) (untagged (attenuated by c)) (attenuated by c)
    (λ is. no_load by c (untagged (attenuated by c)) refl)
    (λ not. attenuates by c)

ram_load : (a : Access) (by : Cap) (at ram : ℕ) (gs : List Granule) → IsLoad by (loaded_cap gs (at - ram)) (ram_value a by at ram gs)
ram_load a by at ram gs = chosen (IsLoad by (loaded_cap gs (at - ram))) a.whole (filtered_in ram gs (attenuated by (loaded_cap gs (at - ram)))) (integer (widened a (loaded gs (at - ram) a.width)))
    (λ whole. filtered_load by (loaded_cap gs (at - ram)) ram gs)
    (λ part. no_load by (loaded_cap gs (at - ram)) _ refl)

device_load : (a : Access) (by c : Cap) (n : ℕ) → IsLoad by c (device_value a by n)
device_load a by c n = chosen (IsLoad by c) a.whole (attenuated by (integer n)) (integer (widened a n))
    (λ whole. no_load by c _ (loaded_away by (integer n) refl))
    (λ part. no_load by c _ refl)

accessed_load : (a : Access) (by y : Cap) (at : ℕ) (p : MemoryAndDevices) → IsLoad by (loaded_cap p.granules (at - p.ram)) (unwrap_or (accessed a by y at p).value (plain 0))
accessed_load a by y at p = by_access (λ (m : Accessed). IsLoad by (loaded_cap p.granules (at - p.ram)) (unwrap_or m.value (plain 0))) a by y at p (record {
  loads = λ ram loads. ram_load a by at p.ram p.granules;
  stores = λ ram stores. no_load by (loaded_cap p.granules (at - p.ram)) (plain 0) refl;
  reads = λ loads. device_load a by (loaded_cap p.granules (at - p.ram)) (bank_value p.bank at a.width p.time);
  writes = λ stores. no_load by (loaded_cap p.granules (at - p.ram)) (plain 0) refl;
})

-- g, if it is tagged, is v as it is stored
abbrev pub IsStore : Cap → Cap → Cap → Type 0
IsStore by v d = d.tag ≡ true → IsStoredThrough by v d

no_store : (by v d : Cap) → d.tag ≡ false → IsStore by v d
no_store by v d off tagged = absurd (let clash : true ≡ false = sym tagged ∙ off in cc)

local_or : (g l : Bool) → (not g && not l) ≡ false → (g ≡ true) ⊎ (l ≡ true)
local_or true l e = inl refl
local_or false true e = inr refl
local_or false false e = absurd (let clash : true ≡ false = e in cc)

pub through_store : (by v : Cap) → (v.tag ≡ true → has by memory_capability ≡ true) → IsStore by v (stored_through by v)
through_store by v carries = chosen (IsStore by v) (v.tag && not (has v global) && not (has by store_local)) (untagged v) v
    (λ is. no_store by v (untagged v) refl)
    (λ stays tagged. record { carries = carries tagged; same = refl; local = local_or (has v global) (has by store_local) (let P : Bool → Type 0 = λ x. (x && not (has v global) && not (has by store_local)) ≡ false in subst P tagged stays) })

ram_store : (a : Access) (by v : Cap) (at ram : ℕ) (gs : List Granule) → (a.whole ≡ true → v.tag ≡ true → has by memory_capability ≡ true) → IsStore by v (granule_at (ram_stored a by v at ram gs) ((at - ram) / 8)).cap
ram_store a by v at ram gs carries = chosen (λ (new : List Granule). IsStore by v (granule_at new ((at - ram) / 8)).cap) a.whole (stored_cap gs (at - ram) (stored_through by v)) (stored gs (at - ram) a.width (cap_address v))
    (λ whole. set_store gs ((at - ram) / 8) _ (through_store by v (carries whole)))
    (λ part. set_store gs ((at - ram) / 8) _ (no_store by v _ refl))
  where
    -- past the end nothing is set, and nothing stands there
    set_store : (xs : List Granule) (n : ℕ) (g : Granule) → IsStore by v g.cap → IsStore by v (granule_at (slice_set xs n g) n).cap
    set_store xs n g h = after_set_split (λ (z : Granule). IsStore by v z.cap) xs n n g nothing (λ e. h) (λ e past. no_store by v (plain 0) refl) (λ away. absurd (away refl))

-- ---- the step

module _ (b : Platform) (s : State) (t : ℕ) (k : Instr) (c : CarriesOut b s t k) where
  abbrev by : Cap
  by = authority_of s t k

  abbrev value : Cap
  value = value_of s t k

  abbrev reached : Accessed
  reached = accessed (access_of k) by value (access_start s t k) (space_of b s)

  abbrev ends : Result Effect Trap → State × Option Deed
  ends e = instruction_end b s t by e

  past_fetch : executed b s t ≡ ends (carried_out (class_of k) k (operands_of k).to by value (named_by b.image by) (around b s t))
  unfolding executed
  past_fetch = ap (after_fetch b s t) c.fetched ∙ ap (goes_on b s t) c.stands

  past_checks : access_result k by value (space_of b s) ≡ Ok reached
  unfolding access_result
  past_checks = ap (λ (o : Option Trap). unless o reached) c.passes

  carried : executed b s t ≡ ends (accesses (around b s t) (operands_of k).to (Ok reached))
  carried =
      past_fetch
      ∙ ap (λ x. ends (carried_out x k (operands_of k).to by value (named_by b.image by) (around b s t))) c.accesses
      ∙ ap (λ m. ends (accesses (around b s t) (operands_of k).to m)) past_checks

  -- what the step leaves
  pub step_carried : (P : State → Type 0) → P (noted (ends (accesses (around b s t) (operands_of k).to (Ok reached)))).0 → P (continued b s s.running).0
  step_carried P h =
      let path : continued b s s.running ≡ noted (ends (accesses (around b s t) (operands_of k).to (Ok reached))) = ap (continued b s) c.runs ∙ ap noted carried in
      subst (λ (r : State × Option Deed). P r.0) (sym path) h

  -- the register that gets a value: past the registers none does, and nothing stands there
  register_set : (rs : List Cap) (to : ℕ) (v : Cap) → 0 < to → IsLoad by (loaded_cap s.granules (access_start s t k - b.image.ram)) v → IsLoad by (loaded_cap s.granules (access_start s t k - b.image.ram)) (get_or (written rs to v) to (plain 0))
  register_set rs zero v some h = absurd (omega (arith, some))
  register_set rs (suc to) v some h = after_set_split (IsLoad by (loaded_cap s.granules (access_start s t k - b.image.ram))) rs (suc to) (suc to) v (plain 0) (λ e. h) (λ e past. no_load by _ (plain 0) refl) (λ away. absurd (away refl))

  pub load_left : 0 < (operands_of k).to → IsLoad by (loaded_cap s.granules (access_start s t k - b.image.ram)) (register (thread (continued b s s.running).0 t) (operands_of k).to)
  load_left some = step_carried (λ z. IsLoad by (loaded_cap s.granules (access_start s t k - b.image.ram)) (register (thread z t) (operands_of k).to))
      (after_set_split (λ (x : Thread). IsLoad by (loaded_cap s.granules (access_start s t k - b.image.ram)) (register x (operands_of k).to)) s.threads t t _ nobody
      (λ e. register_set (thread s t).registers (operands_of k).to (unwrap_or reached.value (plain 0)) some (accessed_load (access_of k) by value (access_start s t k) (space_of b s)))
      (λ e past. no_load by _ (plain 0) refl)
      (λ away. absurd (away refl)))

  pub store_left : (access_of k).loads ≡ false → is_ram (space_of b s) (access_start s t k) (access_of k).width ≡ true → IsStore by value (granule (continued b s s.running).0 (granule_of b.image (access_start s t k))).cap
  store_left stores ram = step_carried (λ z. IsStore by value (granule z (granule_of b.image (access_start s t k))).cap)
      (subst (λ (m : Accessed). IsStore by value (granule_at m.granules (granule_of b.image (access_start s t k))).cap) (sym in_memory)
      (ram_store (access_of k) by value (access_start s t k) b.image.ram s.granules carries))
    where
      in_memory : reached ≡ record { value = None; act = None; granules = ram_stored (access_of k) by value (access_start s t k) b.image.ram s.granules; bank = (space_of b s).bank }
      in_memory = ap (λ (o : Bool). if o then in_ram (access_of k) by value (access_start s t k) (space_of b s) else on_device (access_of k) by value (access_start s t k) (space_of b s)) ram
          ∙ rw stores refl

      checked : AllPass (store_checks (access_of k) by (access_start s t k) ((access_of k).whole && value.tag))
      checked = when_false AllPass (access_of k).loads (load_checks (access_of k) by (access_start s t k)) (store_checks (access_of k) by (access_start s t k) ((access_of k).whole && value.tag)) stores
          (all_pass (access_checks (access_of k) by value (access_start s t k)) c.passes)

      carries : (access_of k).whole ≡ true → value.tag ≡ true → has by memory_capability ≡ true
      carries whole tagged = (store_passes (access_of k) by (access_start s t k) ((access_of k).whole && value.tag) checked).may_carry (let both : ((access_of k).whole && value.tag) ≡ true = rw (whole, tagged) refl in both)

-- ---- an event

pub loads_attenuate : (b : Platform) (s : State) → LoadsAttenuate b s
loads_attenuate b s t k c loads some tagged = load_left b (ready b s) t k c some tagged

pub stores_local : (b : Platform) (s : State) → StoresLocal b s
stores_local b s t k c stores ram tagged = store_left b (ready b s) t k c stores ram tagged
