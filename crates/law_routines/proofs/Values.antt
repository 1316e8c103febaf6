-- What instructions make is settled, or is a value that was there.
use Rattle.std.proofs.Common.{ℕ, ◌-◌, ◌&&◌, Bool, not, List, Option, Some, None, Result, Ok, Err, refl}
use Rattle.std.specs.Prelude.{unwrap_or}
use Rattle.law_lists.proofs.Tests.{chosen}
use Rattle.law_lists.proofs.Sets.{after_set}
use Rattle.def_words.specs.declared.Cap.{Cap}
use Rattle.def_words.specs.declared.Trap.{Trap}
use Rattle.def_words.specs.declared.Posture.{Posture}
use Rattle.def_words.specs.Authority.{cap_address, cap_base}
use Rattle.def_words.specs.Permissions.{has, global, store_local}
use Rattle.def_words.specs.Capability.{IsSettled, integer, untagged, with_address}
use Rattle.def_words.specs.Loaded.{attenuated, stored_through}
use Rattle.def_words.specs.Jumped.{opened}
use Rattle.def_memory.specs.declared.Granule.{Granule}
use Rattle.def_memory.specs.Granules.{plain, nothing, granule_at}
use Rattle.def_memory.specs.Accesses.{loaded, loaded_cap, stored, stored_cap}
use Rattle.def_instr.specs.declared.Instr.{Instr}
use Rattle.def_instr.specs.declared.Instr.TheVariants.{AuiPcc, AuiCgp, Jal, CJalr, Beq, Bne, Blt, Bge, Bltu, Bgeu, CIncAddrImm, CSetBoundsImm, CSetBounds, CSetBoundsExact, CSeal, CUnseal, CAndPerm, CSetAddr, CIncAddr, CMove, CClearTag}
use Rattle.law_words.proofs.Away.{address_settles, bounds_settles, exact_settles, mask_settles, seals_settles, unseals_settles, loads_settles, clears_settles, links_settles}
use Rattle.def_capstep.specs.Results.{capability_result}
use Rattle.def_machine.specs.Image.{Image}
use Rattle.def_machine.specs.State.{State}
use Rattle.def_machine.specs.Memory.{is_marked_in, filtered, filtered_in}
use Rattle.law_routines.proofs.Accesses.{by_access}
use Rattle.law_granules.proofs.Lists.{plain_settled}
use Rattle.def_step.specs.declared.Access.{Access}
use Rattle.def_step.specs.Checks.{first_failed}
use Rattle.def_step.specs.Devices.{bank_value}
use Rattle.def_step.specs.Jumps.{Flowed, jumped_to, passed_over, branched, register_jumped, flow_result, target_checks, jump_target, register_jump_checks, register_target}
use Rattle.def_step.specs.Accesses.{MemoryAndDevices, Accessed, ram_value, ram_stored, device_value, widened, accessed, unless, access_result, access_of, access_checks, access_address}

-- ---- single values

filtered_in_settled : (ram : ℕ) (gs : List Granule) (c : Cap) → IsSettled c → IsSettled (filtered_in ram gs c)
filtered_in_settled ram gs c h = chosen IsSettled (c.tag && is_marked_in ram gs (cap_base c)) (untagged c) c (λ is e. refl) (λ not. h)

pub filtered_settled : (i : Image) (s : State) (c : Cap) → IsSettled c → IsSettled (filtered i s c)
filtered_settled i s = filtered_in_settled i.ram s.granules

stored_settled : (by c : Cap) → IsSettled c → IsSettled (stored_through by c)
stored_settled by c h = chosen IsSettled (c.tag && not (has c global) && not (has by store_local)) (untagged c) c (λ is e. refl) (λ not. h)

-- ---- results

pub result_settled : (k : Instr) (x y pcc : Cap) → IsSettled x → IsSettled (capability_result k x y pcc)
unfolding capability_result
result_settled (AuiPcc v0 v1) x y pcc h = address_settles pcc _
result_settled (AuiCgp v0 v1) x y pcc h = address_settles x _
result_settled (CIncAddrImm v0 v1 v2) x y pcc h = address_settles x _
result_settled (CSetBoundsImm v0 v1 v2) x y pcc h = bounds_settles x _
result_settled (CSetBounds v0 v1 v2) x y pcc h = bounds_settles x _
result_settled (CSetBoundsExact v0 v1 v2) x y pcc h = exact_settles x _
result_settled (CSeal v0 v1 v2) x y pcc h = seals_settles x y
result_settled (CUnseal v0 v1 v2) x y pcc h = unseals_settles x y
result_settled (CAndPerm v0 v1 v2) x y pcc h = mask_settles x _
result_settled (CSetAddr v0 v1 v2) x y pcc h = address_settles x _
result_settled (CIncAddr v0 v1 v2) x y pcc h = address_settles x _
result_settled (CMove v0 v1) x y pcc h = h
result_settled (CClearTag v0 v1) x y pcc h = clears_settles x
result_settled k x y pcc h = λ e. refl

-- ---- jumps

pub record FlowSettled (f : Flowed) : Type 0 where
  pub link : IsSettled (unwrap_or f.link (plain 0))
  pub pcc : IsSettled f.pcc

abbrev pub IfFlows : Result Flowed Trap → Type 0
IfFlows (Err w) = Unit {0}
IfFlows (Ok f) = FlowSettled f

unless_flows : (o : Option Trap) (f : Flowed) → FlowSettled f → IfFlows (unless o f)
unless_flows None f h = h
unless_flows (Some w) f h = tt

to_settled : (pcc : Cap) (posture : Posture) (target : ℕ) (link : Option Cap) → IsSettled (unwrap_or link (plain 0)) → IfFlows (jumped_to pcc posture target link)
to_settled pcc posture target link h = unless_flows (first_failed (target_checks target)) (record { link = link; pcc = with_address pcc target; posture = posture }) (record { link = h; pcc = address_settles pcc target })

over_settled : (pcc : Cap) (posture : Posture) → IfFlows (passed_over pcc posture)
over_settled pcc posture = record { link = plain_settled 0; pcc = address_settles pcc _ }

branch_settled : (taken : Bool) (pcc : Cap) (posture : Posture) (offset : ℕ) → IfFlows (branched taken pcc posture offset)
branch_settled taken pcc posture offset = chosen IfFlows taken (jumped_to pcc posture (jump_target pcc offset) None) (passed_over pcc posture) (λ is. to_settled pcc posture (jump_target pcc offset) None (plain_settled 0)) (λ not. over_settled pcc posture)

register_settled : (to at : ℕ) (x : Cap) (n : ℕ) (pcc : Cap) (posture : Posture) (named : ℕ) → IfFlows (register_jumped to at x n pcc posture named)
register_settled to at x n pcc posture named = unless_flows (first_failed (register_jump_checks to at x n)) _ (record { link = links_settles pcc posture; pcc = address_settles (opened x) (register_target x n) })

pub flow_settled : (k : Instr) (x y pcc : Cap) (posture : Posture) (named : ℕ) → IfFlows (flow_result k x y pcc posture named)
unfolding flow_result
flow_settled (Jal v0 v1) x y pcc posture named = to_settled pcc posture _ _ (links_settles pcc posture)
flow_settled (CJalr v0 v1 v2) x y pcc posture named = register_settled v0 v1 x v2 pcc posture named
flow_settled (Beq v0 v1 v2) x y pcc posture named = branch_settled _ pcc posture v2
flow_settled (Bne v0 v1 v2) x y pcc posture named = branch_settled _ pcc posture v2
flow_settled (Blt v0 v1 v2) x y pcc posture named = branch_settled _ pcc posture v2
flow_settled (Bge v0 v1 v2) x y pcc posture named = branch_settled _ pcc posture v2
flow_settled (Bltu v0 v1 v2) x y pcc posture named = branch_settled _ pcc posture v2
flow_settled (Bgeu v0 v1 v2) x y pcc posture named = branch_settled _ pcc posture v2
flow_settled k x y pcc posture named = over_settled pcc posture

-- ---- accesses

pub record AccessSettled (m : Accessed) : Type 0 where
  pub value : IsSettled (unwrap_or m.value (plain 0))
  pub granules : (k : ℕ) → IsSettled (granule_at m.granules k).cap

abbrev pub IfAccesses : Result Accessed Trap → Type 0
IfAccesses (Err w) = Unit {0}
IfAccesses (Ok m) = AccessSettled m

unless_accesses : (o : Option Trap) (m : Accessed) → AccessSettled m → IfAccesses (unless o m)
unless_accesses None m h = h
unless_accesses (Some w) m h = tt

ram_value_settled : (a : Access) (x : Cap) (at ram : ℕ) (gs : List Granule) → IsSettled (ram_value a x at ram gs)
ram_value_settled a x at ram gs = chosen IsSettled a.whole (filtered_in ram gs (attenuated x (loaded_cap gs (at - ram)))) (integer (widened a (loaded gs (at - ram) a.width)))
    (λ whole. filtered_in_settled ram gs (attenuated x (loaded_cap gs (at - ram))) (loads_settles x (loaded_cap gs (at - ram))))
    (λ part e. refl)

device_value_settled : (a : Access) (x : Cap) (n : ℕ) → IsSettled (device_value a x n)
device_value_settled a x n = chosen IsSettled a.whole (attenuated x (integer n)) (integer (widened a n)) (λ whole. loads_settles x (integer n)) (λ part e. refl)

ram_stored_settled : (a : Access) (x y : Cap) (at ram : ℕ) (gs : List Granule) → IsSettled y → ((k : ℕ) → IsSettled (granule_at gs k).cap) → (k : ℕ) → IsSettled (granule_at (ram_stored a x y at ram gs) k).cap
ram_stored_settled a x y at ram gs value h k = chosen (λ (new : List Granule). IsSettled (granule_at new k).cap) a.whole (stored_cap gs (at - ram) (stored_through x y)) (stored gs (at - ram) a.width (cap_address y))
    (λ whole. after_set (λ g. IsSettled g.cap) gs _ k _ nothing (stored_settled x y value) (h k))
    (λ part. after_set (λ g. IsSettled g.cap) gs _ k _ nothing (λ e. refl) (h k))

pub accessed_settled : (k : Instr) (x y : Cap) (p : MemoryAndDevices) → IsSettled y → ((n : ℕ) → IsSettled (granule_at p.granules n).cap) → IfAccesses (access_result k x y p)
unfolding access_result
accessed_settled k x y p value h = unless_accesses (first_failed (access_checks (access_of k) x y (access_address (access_of k) x))) (accessed (access_of k) x y (access_address (access_of k) x) p) (whole (access_of k) (access_address (access_of k) x))
  where
    whole : (a : Access) (at : ℕ) → AccessSettled (accessed a x y at p)
    whole a at = by_access AccessSettled a x y at p (record {
      loads = λ ram loads. record { value = ram_value_settled a x at p.ram p.granules; granules = h };
      stores = λ ram stores. record { value = plain_settled 0; granules = ram_stored_settled a x y at p.ram p.granules value h };
      reads = λ loads. record { value = device_value_settled a x (bank_value p.bank at a.width p.time); granules = h };
      writes = λ stores. record { value = plain_settled 0; granules = h };
    })
