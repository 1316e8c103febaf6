-- What branches and jumps leave.
use Rattle.std.proofs.Common.{ℕ, ◌^◌, ◌<◌, Bool, inl, Option, Some, None, refl, arith}
use Rattle.std.specs.Prelude.{unwrap_or}
use Rattle.law_lists.proofs.Tests.{chosen}
use Rattle.def_words.specs.Authority.{cap_address}
use Rattle.def_words.specs.Capability.{with_address}
use Rattle.def_words.specs.Jumped.{return_link}
use Rattle.def_words.specs.declared.Cap.{Cap}
use Rattle.def_memory.specs.Granules.{plain}
use Rattle.def_instr.specs.declared.Instr.{Instr}
use Rattle.def_instr.specs.declared.Instr.TheVariants.{Jal, CJalr, Beq, Bne, Blt, Bge, Bltu, Bgeu}
use Rattle.def_machine.specs.Image.{Image}
use Rattle.def_machine.specs.State.{State, thread, register}
use Rattle.def_profile.specs.declared.traps.TheConstants.{MISALIGNED_FETCH}
use Rattle.def_step.specs.Accesses.{unless}
use Rattle.def_step.specs.Jumps.{jump_target, target_checks, jumped_to, passed_over, branched, is_taken, flow_result}
use Rattle.def_step.specs.Operands.{operands_of}
use Rattle.def_step.specs.Instructions.{operand, named_by}
use Rattle.def_machine.specs.Platform.{Platform}
use Rattle.def_safety.specs.Wired.{Wired}
use Rattle.law_moves.proofs.Results.{address_derived, address_runs}
use Rattle.def_confined.specs.Changes.{Puts}
use Rattle.law_moves.proofs.Moves.{untagged_puts}
use Rattle.law_moves.proofs.Checks.{by_checks, plain_tells}
use Rattle.law_events.proofs.Goings.{FlowFits, Fetching, goes_to, goes_on, leaves_link}
use Rattle.law_events.proofs.RegisterJumps.{jump_fits}

target_fits : (i : Image) (s : State) (t at : ℕ) (link : Option Cap) → at < 2 ^ 32 → Fetching i s t → Puts i s t (unwrap_or link (plain 0)) → FlowFits i s t (jumped_to (thread s t).pcc (thread s t).posture at link)
target_fits i s t at link small x puts = by_checks
    (λ o. FlowFits i s t (unless o (record { link = link; pcc = with_address (thread s t).pcc at; posture = (thread s t).posture })))
    (target_checks at)
    (plain_tells MISALIGNED_FETCH (inl refl), tt)
    (λ w tells. tells)
    (λ passes. goes_to i s t (with_address (thread s t).pcc at) (unwrap_or link (plain 0)) x puts (address_derived (thread s t).pcc at small) (address_runs (thread s t).pcc at small x.fetched.executes))

passed_fits : (i : Image) (s : State) (t : ℕ) → Fetching i s t → FlowFits i s t (passed_over (thread s t).pcc (thread s t).posture)
passed_fits i s t x = goes_on i s t (plain 0) x (untagged_puts i s t (plain 0) refl)

branch_fits : (i : Image) (s : State) (t offset : ℕ) (taken : Bool) → Fetching i s t → FlowFits i s t (branched taken (thread s t).pcc (thread s t).posture offset)
branch_fits i s t offset taken x = chosen (FlowFits i s t) taken (jumped_to (thread s t).pcc (thread s t).posture (jump_target (thread s t).pcc offset) None) (passed_over (thread s t).pcc (thread s t).posture)
    (λ is. target_fits i s t (jump_target (thread s t).pcc offset) None (omega arith) x (untagged_puts i s t (plain 0) refl))
    (λ not. passed_fits i s t x)

-- the values are of its registers, and the first is below 16: so a trap may tell it
pub flow_fits : (b : Platform) (s : State) (t : ℕ) (k : Instr) → Wired b → Fetching b.image s t → (operands_of k).first < 16
    → FlowFits b.image s t (flow_result k (operand s t (operands_of k).first) (operand s t (operands_of k).second) (thread s t).pcc (thread s t).posture (named_by b.image (operand s t (operands_of k).first)))
unfolding flow_result
flow_fits b s t (Jal v0 v1) wired x small = target_fits b.image s t (jump_target (thread s t).pcc v1) (Some (return_link (thread s t).pcc (thread s t).posture)) (omega arith) x (leaves_link b.image s t x)
flow_fits b s t (CJalr v0 v1 v2) wired x small = jump_fits b s t v0 v1 v2 wired x small
flow_fits b s t (Beq v0 v1 v2) wired x small = branch_fits b.image s t v2 (is_taken (Beq v0 v1 v2) (cap_address (register (thread s t) v0)) (cap_address (register (thread s t) v1))) x
flow_fits b s t (Bne v0 v1 v2) wired x small = branch_fits b.image s t v2 (is_taken (Bne v0 v1 v2) (cap_address (register (thread s t) v0)) (cap_address (register (thread s t) v1))) x
flow_fits b s t (Blt v0 v1 v2) wired x small = branch_fits b.image s t v2 (is_taken (Blt v0 v1 v2) (cap_address (register (thread s t) v0)) (cap_address (register (thread s t) v1))) x
flow_fits b s t (Bge v0 v1 v2) wired x small = branch_fits b.image s t v2 (is_taken (Bge v0 v1 v2) (cap_address (register (thread s t) v0)) (cap_address (register (thread s t) v1))) x
flow_fits b s t (Bltu v0 v1 v2) wired x small = branch_fits b.image s t v2 (is_taken (Bltu v0 v1 v2) (cap_address (register (thread s t) v0)) (cap_address (register (thread s t) v1))) x
flow_fits b s t (Bgeu v0 v1 v2) wired x small = branch_fits b.image s t v2 (is_taken (Bgeu v0 v1 v2) (cap_address (register (thread s t) v0)) (cap_address (register (thread s t) v1))) x
flow_fits b s t k wired x small = passed_fits b.image s t x
