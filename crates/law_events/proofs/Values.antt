-- What an instruction that doesn't load may put in a register.
use Rattle.std.proofs.Common.{ℕ, ◌≡◌, false, Some, refl, arith}
use Rattle.def_words.specs.Authority.{cap_address}
use Rattle.def_words.specs.Capability.{raised, with_address, with_bounds, with_exact_bounds, masked, sealed_by, unsealed_by}
use Rattle.def_instr.specs.declared.Instr.{Instr}
use Rattle.def_instr.specs.declared.Instr.TheVariants.{AuiPcc, AuiCgp, CIncAddrImm, CSetBoundsImm, CSetBounds, CSetBoundsExact, CSeal, CUnseal, CAndPerm, CSetAddr, CIncAddr, CMove}
use Rattle.def_capstep.specs.Results.{capability_result, upper_offset}
use Rattle.def_reach.specs.Roots.{is_native}
use Rattle.def_machine.specs.Image.{Image, root}
use Rattle.def_machine.specs.State.{State, thread, register}
use Rattle.def_confined.specs.Confined.{Confined}
use Rattle.def_confined.specs.Partitioned.{Partitioned}
use Rattle.def_confined.specs.Changes.{Puts}
use Rattle.law_moves.proofs.Moves.{untagged_puts, same_puts, register_puts, pcc_puts}
use Rattle.law_moves.proofs.JumpsMoves.{in_rooted}
use Rattle.law_moves.proofs.Results.{address_derived, raised_derived, bounds_derived, exact_derived, masked_derived, sealed_derived, unsealed_derived}

-- a result made of capabilities: derived from the first source or from the program counter, or untagged
pub result_puts : (i : Image) (s : State) (t m n : ℕ) (k : Instr) → Partitioned i → Confined i s → s.running ≡ Some t → is_native (root i (thread s t).pcc.shadow.root).origin ≡ false
    → Puts i s t (capability_result k (register (thread s t) m) (register (thread s t) n) (thread s t).pcc)
unfolding capability_result
result_puts i s t m n (AuiPcc v0 v1) parts h runs other = pcc_puts i s t (raised (thread s t).pcc (upper_offset v1)) h other (raised_derived (thread s t).pcc (upper_offset v1))
result_puts i s t m n (AuiCgp v0 v1) parts h runs other = register_puts i s t m (raised (register (thread s t) m) (upper_offset v1)) h runs (raised_derived (register (thread s t) m) (upper_offset v1))
result_puts i s t m n (CIncAddrImm v0 v1 v2) parts h runs other = register_puts i s t m (raised (register (thread s t) m) v2) h runs (raised_derived (register (thread s t) m) v2)
result_puts i s t m n (CSetBoundsImm v0 v1 v2) parts h runs other = register_puts i s t m (with_bounds (register (thread s t) m) v2) h runs (bounds_derived (register (thread s t) m) v2)
result_puts i s t m n (CSetBounds v0 v1 v2) parts h runs other = register_puts i s t m (with_bounds (register (thread s t) m) (cap_address (register (thread s t) n))) h runs (bounds_derived (register (thread s t) m) (cap_address (register (thread s t) n)))
result_puts i s t m n (CSetBoundsExact v0 v1 v2) parts h runs other = register_puts i s t m (with_exact_bounds (register (thread s t) m) (cap_address (register (thread s t) n))) h runs (exact_derived (register (thread s t) m) (cap_address (register (thread s t) n)))
result_puts i s t m n (CSeal v0 v1 v2) parts h runs other = register_puts i s t m (sealed_by (register (thread s t) m) (register (thread s t) n)) h runs (sealed_derived i (register (thread s t) m) (register (thread s t) n) parts (in_rooted i s.objects t (thread s t).frames (register (thread s t) n) (h.registers t n)))
result_puts i s t m n (CUnseal v0 v1 v2) parts h runs other = register_puts i s t m (unsealed_by (register (thread s t) m) (register (thread s t) n)) h runs (unsealed_derived i (register (thread s t) m) (register (thread s t) n) parts (in_rooted i s.objects t (thread s t).frames (register (thread s t) n) (h.registers t n)))
result_puts i s t m n (CAndPerm v0 v1 v2) parts h runs other = register_puts i s t m (masked (register (thread s t) m) (cap_address (register (thread s t) n))) h runs (masked_derived (register (thread s t) m) (cap_address (register (thread s t) n)))
result_puts i s t m n (CSetAddr v0 v1 v2) parts h runs other = register_puts i s t m (with_address (register (thread s t) m) (cap_address (register (thread s t) n))) h runs (address_derived (register (thread s t) m) (cap_address (register (thread s t) n)) (omega arith))
result_puts i s t m n (CIncAddr v0 v1 v2) parts h runs other = register_puts i s t m (raised (register (thread s t) m) (cap_address (register (thread s t) n))) h runs (raised_derived (register (thread s t) m) (cap_address (register (thread s t) n)))
result_puts i s t m n (CMove v0 v1) parts h runs other = same_puts i s t m h runs
result_puts i s t m n k parts h runs other = untagged_puts i s t _ refl
