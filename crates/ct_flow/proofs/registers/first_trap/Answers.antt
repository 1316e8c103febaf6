use Rattle.std.proofs.Common.{arith}
use Rattle.ct_perm.proofs.Tests.{has_ex}
use Rattle.ct_flow.proofs.registers.first_trap.Goals as goal
use Rattle.ct_flow.proofs.registers.first_trap.Goals.{then-is_jump_taken+then-x-eq0, then-is_jump_taken+else-x-eq0, else-is_jump_taken}

pub returns-then-target_of-ne0 : goal.returns-then-target_of-ne0
returns-then-target_of-ne0 c = elim c.if-is_jump_taken.branch [
  | then-is_jump_taken+then-x-eq0 w ↦ grind (arith, has_ex)
  | then-is_jump_taken+else-x-eq0 w ↦ grind (arith, has_ex)
  | else-is_jump_taken w ↦ grind (arith, has_ex)
]
