-- What instructions make comes of their operands, or is a value that was there.
use Rattle.std.proofs.Common.{ℕ, ◌≡◌, ◌-◌, ◌+◌, ◌%◌, ◌^◌, ◌&&◌, Bool, true, not, List, Option, Some, None, Result, Ok, Err, refl, arith}
use Rattle.std.specs.Prelude.{unwrap_or}
use Rattle.law_lists.proofs.Tests.{chosen}
use Rattle.law_lists.proofs.Sets.{after_set}
use Rattle.def_words.specs.declared.Cap.{Cap}
use Rattle.def_words.specs.declared.Trap.{Trap}
use Rattle.def_words.specs.declared.Posture.{Posture}
use Rattle.def_words.specs.Authority.{cap_address, cap_base}
use Rattle.def_words.specs.Permissions.{has, global, store_local}
use Rattle.def_words.specs.Capability.{integer, untagged, with_address, raised}
use Rattle.def_words.specs.Loaded.{attenuated, stored_through}
use Rattle.def_words.specs.Jumped.{opened, return_link}
use Rattle.def_memory.specs.declared.Granule.{Granule}
use Rattle.def_memory.specs.Granules.{plain, nothing, granule_at}
use Rattle.def_memory.specs.Accesses.{loaded, loaded_cap, stored, stored_cap}
use Rattle.def_instr.specs.declared.Instr.{Instr}
use Rattle.def_instr.specs.declared.Instr.TheVariants.{AuiPcc, AuiCgp, Jal, CJalr, Beq, Bne, Blt, Bge, Bltu, Bgeu, CIncAddrImm, CSetBoundsImm, CSetBounds, CSetBoundsExact, CSeal, CUnseal, CAndPerm, CSetAddr, CIncAddr, CMove}
use Rattle.law_words.proofs.Away.{loaded_away}
use Rattle.law_words.proofs.Narrowing.{addressed}
use Rattle.law_words.proofs.Passing.{opened_at, linked_is}
use Rattle.def_capstep.specs.Results.{capability_result, upper_offset}
use Rattle.def_machine.specs.Image.{Image}
use Rattle.def_machine.specs.State.{State}
use Rattle.def_machine.specs.Memory.{is_marked_in, filtered, filtered_in}
use Rattle.def_confined.specs.Capabilities.{Rooted}
use Rattle.def_confined.specs.Confined.{IsPcc}
use Rattle.def_confined.specs.Made.{Links}
use Rattle.def_confined.specs.Partitioned.{Partitioned}
use Rattle.law_moves.proofs.Results.{address_result, raised_result, bounds_result, exact_result, masked_result, sealed_result, unsealed_result, attenuated_result}
use Rattle.law_routines.proofs.Accesses.{by_access}
use Rattle.def_step.specs.declared.Access.{Access}
use Rattle.def_step.specs.Checks.{first_failed}
use Rattle.def_step.specs.Devices.{bank_value}
use Rattle.def_step.specs.Jumps.{Flowed, jumped_to, passed_over, branched, register_jumped, flow_result, target_checks, jump_target, register_jump_checks, register_target}
use Rattle.def_step.specs.Accesses.{MemoryAndDevices, Accessed, ram_value, ram_stored, device_value, widened, accessed, unless, access_result, access_of, access_checks, access_address}
use Rattle.def_events.specs.Passes.{Widens, Passes}

-- ---- as it was, or untagged

pub filtered_in_has : (S C : Cap → Type 0) → Widens S C → (ram : ℕ) (gs : List Granule) (c : Cap) → S c → C (filtered_in ram gs c)
filtered_in_has S C w ram gs c h = chosen C (c.tag && is_marked_in ram gs (cap_base c)) (untagged c) c (λ is. w.none (untagged c) refl) (λ not. w.stays c h)

pub filtered_has : (S C : Cap → Type 0) → Widens S C → (i : Image) (s : State) (c : Cap) → S c → C (filtered i s c)
filtered_has S C w i s c h = filtered_in_has S C w i.ram s.granules c h

stored_has : (S C : Cap → Type 0) → Widens S C → (by c : Cap) → S c → C (stored_through by c)
stored_has S C w by c h = chosen C (c.tag && not (has c global) && not (has by store_local)) (untagged c) c (λ is. w.none (untagged c) refl) (λ not. w.stays c h)

-- ---- results

-- what a jump leaves and where it goes
pub record FlowHas (C : Cap → Type 0) (f : Flowed) : Type 0 where
  pub link : C (unwrap_or f.link (plain 0))
  pub pcc : C f.pcc

abbrev pub IfFlows : (Cap → Type 0) → Result Flowed Trap → Type 0
IfFlows C (Err w) = Unit {0}
IfFlows C (Ok f) = FlowHas C f

-- what an access gives and leaves
pub record AccessHas (C : Cap → Type 0) (m : Accessed) : Type 0 where
  pub value : C (unwrap_or m.value (plain 0))
  pub granules : (k : ℕ) → C (granule_at m.granules k).cap

abbrev pub IfAccesses : (Cap → Type 0) → Result Accessed Trap → Type 0
IfAccesses C (Err w) = Unit {0}
IfAccesses C (Ok m) = AccessHas C m

pub link_links : (i : Image) (pcc : Cap) (before : Posture) → (pcc.tag ≡ true → IsPcc i pcc) → Links pcc before (return_link pcc before)
link_links i pcc before runs = λ tagged.
    linked_is pcc before (runs (addressed pcc ((cap_address pcc + 4) % 2 ^ 32) (omega arith) tagged).tagged).executes tagged

module _ (i : Image) (S R K : Cap → Type 0) (L : Cap → Posture → Type 0) (C : Cap → Type 0) (x : Passes i S R K L C) where
  pub result_has : (k : Instr) (a y pcc : Cap) → Partitioned i → (y.tag ≡ true → Rooted i y) → S a → R a → R pcc → C (capability_result k a y pcc)
  unfolding capability_result
  result_has (AuiPcc v0 v1) a y pcc parts key was h c = x.result pcc (raised pcc (upper_offset v1)) (raised_result pcc (upper_offset v1)) c
  result_has (AuiCgp v0 v1) a y pcc parts key was h c = x.result a (raised a (upper_offset v1)) (raised_result a (upper_offset v1)) h
  result_has (CIncAddrImm v0 v1 v2) a y pcc parts key was h c = x.result a _ (raised_result a v2) h
  result_has (CSetBoundsImm v0 v1 v2) a y pcc parts key was h c = x.result a _ (bounds_result a v2) h
  result_has (CSetBounds v0 v1 v2) a y pcc parts key was h c = x.result a _ (bounds_result a (cap_address y)) h
  result_has (CSetBoundsExact v0 v1 v2) a y pcc parts key was h c = x.result a _ (exact_result a (cap_address y)) h
  result_has (CSeal v0 v1 v2) a y pcc parts key was h c = x.result a _ (sealed_result i a y parts key) h
  result_has (CUnseal v0 v1 v2) a y pcc parts key was h c = x.result a _ (unsealed_result i a y parts key) h
  result_has (CAndPerm v0 v1 v2) a y pcc parts key was h c = x.result a _ (masked_result a (cap_address y)) h
  result_has (CSetAddr v0 v1 v2) a y pcc parts key was h c = x.result a _ (address_result a (cap_address y) (omega arith)) h
  result_has (CIncAddr v0 v1 v2) a y pcc parts key was h c = x.result a _ (raised_result a (cap_address y)) h
  result_has (CMove v0 v1) a y pcc parts key was h c = x.widens.stays a was
  result_has k a y pcc parts key was h c = x.widens.none _ refl

  -- ---- jumps

  unless_flows : (o : Option Trap) (f : Flowed) → FlowHas C f → IfFlows C (unless o f)
  unless_flows None f h = h
  unless_flows (Some w) f h = tt

  to_has : (pcc : Cap) (posture : Posture) (target : ℕ) (link : Option Cap) → C (with_address pcc target) → C (unwrap_or link (plain 0)) → IfFlows C (jumped_to pcc posture target link)
  to_has pcc posture target link goes h = unless_flows (first_failed (target_checks target)) (record { link = link; pcc = with_address pcc target; posture = posture }) (record { link = h; pcc = goes })

  target_has : (pcc : Cap) (offset : ℕ) → R pcc → C (with_address pcc (jump_target pcc offset))
  target_has pcc offset h = x.result pcc (with_address pcc (jump_target pcc offset)) (address_result pcc (jump_target pcc offset) (omega arith)) h

  over_has : (pcc : Cap) (posture : Posture) → R pcc → IfFlows C (passed_over pcc posture)
  over_has pcc posture h = record { link = x.widens.none (plain 0) refl; pcc = x.result pcc (raised pcc 4) (raised_result pcc 4) h }

  branch_has : (taken : Bool) (pcc : Cap) (posture : Posture) (offset : ℕ) → R pcc → IfFlows C (branched taken pcc posture offset)
  branch_has taken pcc posture offset h = chosen (IfFlows C) taken (jumped_to pcc posture (jump_target pcc offset) None) (passed_over pcc posture)
      (λ is. to_has pcc posture (jump_target pcc offset) None (target_has pcc offset h) (x.widens.none (plain 0) refl))
      (λ not. over_has pcc posture h)

  link_has : (pcc : Cap) (before : Posture) → (pcc.tag ≡ true → IsPcc i pcc) → L pcc before → C (return_link pcc before)
  link_has pcc before runs h = x.linked pcc (return_link pcc before) before runs (link_links i pcc before runs) h

  register_has : (to at : ℕ) (a : Cap) (n : ℕ) (pcc : Cap) (posture : Posture) (named : ℕ) → (pcc.tag ≡ true → IsPcc i pcc) → K a → L pcc posture → IfFlows C (register_jumped to at a n pcc posture named)
  register_has to at a n pcc posture named runs h c = unless_flows (first_failed (register_jump_checks to at a n)) _
      (record { link = link_has pcc posture runs c; pcc = x.opened a (with_address (opened a) (register_target a n)) (opened_at a (register_target a n) (omega arith)) h })

  pub flow_has : (k : Instr) (a y pcc : Cap) (posture : Posture) (named : ℕ) → (pcc.tag ≡ true → IsPcc i pcc) → K a → R pcc → L pcc posture → IfFlows C (flow_result k a y pcc posture named)
  unfolding flow_result
  flow_has (Jal v0 v1) a y pcc posture named runs h c link = to_has pcc posture (jump_target pcc v1) (Some (return_link pcc posture)) (target_has pcc v1 c) (link_has pcc posture runs link)
  flow_has (CJalr v0 v1 v2) a y pcc posture named runs h c link = register_has v0 v1 a v2 pcc posture named runs h link
  flow_has (Beq v0 v1 v2) a y pcc posture named runs h c link = branch_has _ pcc posture v2 c
  flow_has (Bne v0 v1 v2) a y pcc posture named runs h c link = branch_has _ pcc posture v2 c
  flow_has (Blt v0 v1 v2) a y pcc posture named runs h c link = branch_has _ pcc posture v2 c
  flow_has (Bge v0 v1 v2) a y pcc posture named runs h c link = branch_has _ pcc posture v2 c
  flow_has (Bltu v0 v1 v2) a y pcc posture named runs h c link = branch_has _ pcc posture v2 c
  flow_has (Bgeu v0 v1 v2) a y pcc posture named runs h c link = branch_has _ pcc posture v2 c
  flow_has k a y pcc posture named runs h c link = over_has pcc posture c

  -- ---- accesses

  unless_accesses : (o : Option Trap) (m : Accessed) → (o ≡ None → AccessHas C m) → IfAccesses C (unless o m)
  unless_accesses None m h = h refl
  unless_accesses (Some w) m h = tt

  loaded_has : (by c : Cap) (ram : ℕ) (gs : List Granule) → R c → C (filtered_in ram gs (attenuated by c))
  loaded_has by c ram gs h = chosen C ((attenuated by c).tag && is_marked_in ram gs (cap_base (attenuated by c))) (untagged (attenuated by c)) (attenuated by c)
      (λ is. x.widens.none (untagged (attenuated by c)) refl)
      (λ not. x.result c (attenuated by c) (attenuated_result by c) h)

  pub ram_value_has : (a : Access) (by : Cap) (at ram : ℕ) (gs : List Granule) → R (loaded_cap gs (at - ram)) → C (ram_value a by at ram gs)
  ram_value_has a by at ram gs h = chosen C a.whole (filtered_in ram gs (attenuated by (loaded_cap gs (at - ram)))) (integer (widened a (loaded gs (at - ram) a.width)))
      (λ whole. loaded_has by (loaded_cap gs (at - ram)) ram gs h)
      (λ part. x.widens.none _ refl)

  pub device_value_has : (a : Access) (by : Cap) (n : ℕ) → C (device_value a by n)
  device_value_has a by n = chosen C a.whole (attenuated by (integer n)) (integer (widened a n)) (λ whole. x.widens.none (attenuated by (integer n)) (loaded_away by (integer n) refl)) (λ part. x.widens.none _ refl)

  ram_stored_has : (a : Access) (by y : Cap) (at ram : ℕ) (gs : List Granule) → S y → ((k : ℕ) → S (granule_at gs k).cap) → (k : ℕ) → C (granule_at (ram_stored a by y at ram gs) k).cap
  ram_stored_has a by y at ram gs value h k = chosen (λ (new : List Granule). C (granule_at new k).cap) a.whole (stored_cap gs (at - ram) (stored_through by y)) (stored gs (at - ram) a.width (cap_address y))
      (λ whole. after_set (λ g. C g.cap) gs _ k _ nothing (stored_has S C x.widens by y value) (x.widens.stays _ (h k)))
      (λ part. after_set (λ g. C g.cap) gs _ k _ nothing (x.widens.none _ refl) (x.widens.stays _ (h k)))

  pub accessed_has : (k : Instr) (by y : Cap) (p : MemoryAndDevices) → S y → ((n : ℕ) → S (granule_at p.granules n).cap)
      → ((access_of k).loads ≡ true → first_failed (access_checks (access_of k) by y (access_address (access_of k) by)) ≡ None → R (loaded_cap p.granules (access_address (access_of k) by - p.ram)))
      → IfAccesses C (access_result k by y p)
  unfolding access_result
  accessed_has k by y p value h reads = unless_accesses (first_failed (access_checks (access_of k) by y (access_address (access_of k) by))) (accessed (access_of k) by y (access_address (access_of k) by) p)
      (λ passes. whole (access_of k) (access_address (access_of k) by) (λ loads. reads loads passes))
    where
      whole : (a : Access) (at : ℕ) → (a.loads ≡ true → R (loaded_cap p.granules (at - p.ram))) → AccessHas C (accessed a by y at p)
      whole a at loaded_from = by_access (AccessHas C) a by y at p (record {
        loads = λ ram loads. record { value = ram_value_has a by at p.ram p.granules (loaded_from loads); granules = λ n. x.widens.stays _ (h n) };
        stores = λ ram stores. record { value = x.widens.none (plain 0) refl; granules = ram_stored_has a by y at p.ram p.granules value h };
        reads = λ loads. record { value = device_value_has a by (bank_value p.bank at a.width p.time); granules = λ n. x.widens.stays _ (h n) };
        writes = λ stores. record { value = x.widens.none (plain 0) refl; granules = λ n. x.widens.stays _ (h n) };
      })
