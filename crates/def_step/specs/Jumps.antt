-- Branches and jumps: their checks, the next program counter capability, the posture and the link.
use Rattle.std.specs.Prelude.{ℕ, ◌+◌, ◌*◌, ◌/◌, ◌%◌, ◌^◌, ◌==◌, ◌&&◌, ◌||◌, Bool, false, not, nat_lt, int_lt, List, [], ◌∷◌, Option, Some, None, Result, Ok, if◌then◌else◌}
use Rattle.def_words.specs.declared.Cap.{Cap}
use Rattle.def_words.specs.declared.Trap.{Trap}
use Rattle.def_words.specs.declared.Posture.{Posture}
use Rattle.def_words.specs.Authority.{cap_address}
use Rattle.def_words.specs.Permissions.{has, execute}
use Rattle.def_words.specs.Seals.{cap_seal, is_unsealed, is_jump_taken, posture_through}
use Rattle.def_words.specs.Capability.{raised, with_address}
use Rattle.def_words.specs.Jumped.{opened, return_link}
use Rattle.def_instr.specs.declared.Instr.{Instr}
use Rattle.def_instr.specs.declared.Instr.TheVariants.{Jal, CJalr, Beq, Bne, Blt, Bge, Bltu, Bgeu}
use Rattle.def_instr.specs.Results.{signed}
use Rattle.def_profile.specs.declared.traps.TheConstants.{TAG_CODE, SEAL_CODE, EXECUTE_CODE, MISALIGNED_FETCH}
use Rattle.def_words.specs.Traps.{capability_trap, plain_trap}
use Rattle.def_step.specs.Checks.{Check, first_failed}
use Rattle.def_step.specs.Accesses.{unless}

-- where execution goes on: the link that the jump leaves, if any, pcc and posture
pub record Flowed : Type 0 where
  pub link : Option Cap
  pub pcc : Cap
  pub posture : Posture

-- ---- branches and jal

-- whether a branch is taken, for the words of its two registers
abbrev pub is_taken : Instr → ℕ → ℕ → Bool
is_taken (Beq rs1 rs2 offset) x y = x == y
is_taken (Bne rs1 rs2 offset) x y = not (x == y)
is_taken (Blt rs1 rs2 offset) x y = int_lt (signed x) (signed y)
is_taken (Bge rs1 rs2 offset) x y = not (int_lt (signed x) (signed y))
is_taken (Bltu rs1 rs2 offset) x y = nat_lt x y
is_taken (Bgeu rs1 rs2 offset) x y = not (nat_lt x y)
is_taken _ x y = false

-- the target: the sum modulo 2^32
abbrev pub jump_target : Cap → ℕ → ℕ
jump_target pcc offset = (cap_address pcc + offset) % 2 ^ 32

abbrev pub target_checks : ℕ → List Check
target_checks target = (target % 4 == 0, plain_trap MISALIGNED_FETCH) ∷ []

-- pcc's address is set by the address rule; its bounds are checked by the next fetch
abbrev pub jumped_to : Cap → Posture → ℕ → Option Cap → Result Flowed Trap
jumped_to pcc posture target link =
    unless (first_failed (target_checks target))
    (record { link = link; pcc = with_address pcc target; posture = posture })

abbrev pub passed_over : Cap → Posture → Result Flowed Trap
passed_over pcc posture = Ok (record { link = None; pcc = raised pcc 4; posture = posture })

abbrev pub branched : Bool → Cap → Posture → ℕ → Result Flowed Trap
branched taken pcc posture offset =
    if taken then jumped_to pcc posture (jump_target pcc offset) None else passed_over pcc posture

-- ---- the register jump

-- the target's address: bit 0 of the sum is cleared first
abbrev pub register_target : Cap → ℕ → ℕ
register_target x n = (cap_address x + n) % 2 ^ 32 / 2 * 2

-- `to` gets the link, `at` holds the target x; a sealed target takes no immediate
abbrev pub register_jump_checks : ℕ → ℕ → Cap → ℕ → List Check
register_jump_checks to at x n =
    (x.tag, capability_trap TAG_CODE at)
    ∷ (is_jump_taken to at (cap_seal x) && (is_unsealed x || (n == 0)), capability_trap SEAL_CODE at)
    ∷ (has x execute, capability_trap EXECUTE_CODE at)
    ∷ (register_target x n % 4 == 0, plain_trap MISALIGNED_FETCH)
    ∷ []

-- `named` is the export that the target's root entry names, or 0
abbrev pub register_jumped : ℕ → ℕ → Cap → ℕ → Cap → Posture → ℕ → Result Flowed Trap
register_jumped to at x n pcc posture named =
    unless
    (first_failed (register_jump_checks to at x n))
    (record {
      link = Some (return_link pcc posture);
      pcc = with_address (opened x) (register_target x n);
      posture = posture_through posture (cap_seal x) named x.shadow.source;
    })

-- ---- whole

-- x and y are the values of the registers; a write of the link to c0 is dropped
unfoldable pub flow_result : Instr → Cap → Cap → Cap → Posture → ℕ → Result Flowed Trap
flow_result (Jal rd offset) x y pcc posture named =
    jumped_to pcc posture (jump_target pcc offset) (Some (return_link pcc posture))
flow_result (CJalr rd rs1 n) x y pcc posture named = register_jumped rd rs1 x n pcc posture named
flow_result (Beq rs1 rs2 offset) x y pcc posture named =
    branched (is_taken (Beq rs1 rs2 offset) (cap_address x) (cap_address y)) pcc posture offset
flow_result (Bne rs1 rs2 offset) x y pcc posture named =
    branched (is_taken (Bne rs1 rs2 offset) (cap_address x) (cap_address y)) pcc posture offset
flow_result (Blt rs1 rs2 offset) x y pcc posture named =
    branched (is_taken (Blt rs1 rs2 offset) (cap_address x) (cap_address y)) pcc posture offset
flow_result (Bge rs1 rs2 offset) x y pcc posture named =
    branched (is_taken (Bge rs1 rs2 offset) (cap_address x) (cap_address y)) pcc posture offset
flow_result (Bltu rs1 rs2 offset) x y pcc posture named =
    branched (is_taken (Bltu rs1 rs2 offset) (cap_address x) (cap_address y)) pcc posture offset
flow_result (Bgeu rs1 rs2 offset) x y pcc posture named =
    branched (is_taken (Bgeu rs1 rs2 offset) (cap_address x) (cap_address y)) pcc posture offset
flow_result _ x y pcc posture named = passed_over pcc posture
