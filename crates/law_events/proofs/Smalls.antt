-- The register of an instruction's first source is below 16, and so is the one that authorises an access: traps tell
-- them.
use Rattle.std.proofs.Common.{ℕ, ◌≡◌, ◌<◌, ◌==◌, ◌&&◌, ◌||◌, Bool, true, false, nat_lt, nat_le, Option, Some, None, if◌then◌else◌, arith}
use Rattle.std.proofs.lemmas.Bool.{ltb-true, and_parts}
use Rattle.law_lists.proofs.Tests.{chosen}
use Rattle.def_instr.specs.declared.Instr.{Instr}
use Rattle.def_instr.specs.declared.Instr.TheVariants.{Lb, Lh, Lw, Clc, Lbu, Lhu, Sb, Sh, Sw, Csc}
use Rattle.def_instr.specs.declared.Fields.{Fields}
use Rattle.def_instr.specs.Reading.{upper_of, jump_of, register_jump_of, branch_of, load_instruction, store_instruction, shift_of, immediate_of, base_instruction, alternate_of, multiply_of, register_instruction, fence_of, call_of, system_of, one_source_of, two_source_of, unnumbered_of, capability_of, instruction_of, instruction_in, cut_of, one_small, two_small, three_small}
use Rattle.def_step.specs.Accesses.{access_of}
use Rattle.def_step.specs.Operands.{operands_of}

abbrev pub IsSmall : Option Instr → Type 0
IsSmall None = Unit {0}
IsSmall (Some k) = (operands_of k).first < 16

pub by_small : (k : Instr) → (operands_of k).first < 16 → (access_of k).by < 16
by_small (Lb v0 v1 v2) small = small
by_small (Lh v0 v1 v2) small = small
by_small (Lw v0 v1 v2) small = small
by_small (Clc v0 v1 v2) small = small
by_small (Lbu v0 v1 v2) small = small
by_small (Lhu v0 v1 v2) small = small
by_small (Sb v0 v1 v2) small = small
by_small (Sh v0 v1 v2) small = small
by_small (Sw v0 v1 v2) small = small
by_small (Csc v0 v1 v2) small = small
by_small k small = omega arith

either : (b : Bool) (x y : Option Instr) → IsSmall x → IsSmall y → IsSmall (if b then x else y)
either true x y here there = here
either false x y here there = there

-- where registers are tested first
tested : (b : Bool) (x : Option Instr) → (b ≡ true → IsSmall x) → IsSmall (if b then x else None)
tested b x h = chosen IsSmall b x None h (λ none. tt)

first : (a b : ℕ) → two_small a b ≡ true → a < 16
first a b is = let parts = and_parts (nat_lt a 16) (nat_lt b 16) is in ltb-true a 16 parts.0

second : (a b : ℕ) → two_small a b ≡ true → b < 16
second a b is = let parts = and_parts (nat_lt a 16) (nat_lt b 16) is in ltb-true b 16 parts.1

small_upper : (f : Fields) → IsSmall (upper_of f)
small_upper f = tested (one_small f.rd) _ (λ is. either (f.opcode == 0x37) _ _ (omega arith) (either (f.opcode == 0x17) _ _ (omega arith) (omega arith)))

small_jump : (f : Fields) → IsSmall (jump_of f)
small_jump f = tested (one_small f.rd) _ (λ is. omega arith)

small_register_jump : (f : Fields) → IsSmall (register_jump_of f)
small_register_jump f = tested (f.funct3 == 0 && two_small f.rd f.rs1) _ (λ is. let parts = and_parts (f.funct3 == 0) (two_small f.rd f.rs1) is in second f.rd f.rs1 parts.1)

small_branch : (f : Fields) → IsSmall (branch_of f)
small_branch f = tested (two_small f.rs1 f.rs2) _ (λ is. either (f.funct3 == 0) _ _ (first f.rs1 f.rs2 is) (either (f.funct3 == 1) _ _ (first f.rs1 f.rs2 is) (either (f.funct3 == 4) _ _ (first f.rs1 f.rs2 is) (either (f.funct3 == 5) _ _ (first f.rs1 f.rs2 is) (either (f.funct3 == 6) _ _ (first f.rs1 f.rs2 is) (either (f.funct3 == 7) _ _ (first f.rs1 f.rs2 is) tt))))))

small_load : (f : Fields) → IsSmall (load_instruction f)
small_load f = tested (two_small f.rd f.rs1) _ (λ is. either (f.funct3 == 0) _ _ (second f.rd f.rs1 is) (either (f.funct3 == 1) _ _ (second f.rd f.rs1 is) (either (f.funct3 == 2) _ _ (second f.rd f.rs1 is) (either (f.funct3 == 3) _ _ (second f.rd f.rs1 is) (either (f.funct3 == 4) _ _ (second f.rd f.rs1 is) (either (f.funct3 == 5) _ _ (second f.rd f.rs1 is) tt))))))

small_store : (f : Fields) → IsSmall (store_instruction f)
small_store f = tested (two_small f.rs1 f.rs2) _ (λ is. either (f.funct3 == 0) _ _ (first f.rs1 f.rs2 is) (either (f.funct3 == 1) _ _ (first f.rs1 f.rs2 is) (either (f.funct3 == 2) _ _ (first f.rs1 f.rs2 is) (either (f.funct3 == 3) _ _ (first f.rs1 f.rs2 is) tt))))

small_shift : (f : Fields) → f.rs1 < 16 → IsSmall (shift_of f)
small_shift f small = either (f.funct3 == 1 && f.funct7 == 0x00) _ _ small (either (f.funct3 == 5 && f.funct7 == 0x00) _ _ small (either (f.funct3 == 5 && f.funct7 == 0x20) _ _ small tt))

small_immediate : (f : Fields) → IsSmall (immediate_of f)
small_immediate f = tested (two_small f.rd f.rs1) _ (λ is. either (f.funct3 == 0) _ _ (second f.rd f.rs1 is) (either (f.funct3 == 2) _ _ (second f.rd f.rs1 is) (either (f.funct3 == 3) _ _ (second f.rd f.rs1 is) (either (f.funct3 == 4) _ _ (second f.rd f.rs1 is) (either (f.funct3 == 6) _ _ (second f.rd f.rs1 is) (either (f.funct3 == 7) _ _ (second f.rd f.rs1 is) (small_shift f (second f.rd f.rs1 is))))))))

small_base : (f : Fields) → f.rs1 < 16 → IsSmall (base_instruction f)
small_base f small = either (f.funct3 == 0) _ _ small (either (f.funct3 == 1) _ _ small (either (f.funct3 == 2) _ _ small (either (f.funct3 == 3) _ _ small (either (f.funct3 == 4) _ _ small (either (f.funct3 == 5) _ _ small (either (f.funct3 == 6) _ _ small (either (f.funct3 == 7) _ _ small tt)))))))

small_alternate : (f : Fields) → f.rs1 < 16 → IsSmall (alternate_of f)
small_alternate f small = either (f.funct3 == 0) _ _ small (either (f.funct3 == 5) _ _ small tt)

small_multiply : (f : Fields) → f.rs1 < 16 → IsSmall (multiply_of f)
small_multiply f small = either (f.funct3 == 0) _ _ small (either (f.funct3 == 1) _ _ small (either (f.funct3 == 2) _ _ small (either (f.funct3 == 3) _ _ small (either (f.funct3 == 4) _ _ small (either (f.funct3 == 5) _ _ small (either (f.funct3 == 6) _ _ small (either (f.funct3 == 7) _ _ small tt)))))))

small_register : (f : Fields) → IsSmall (register_instruction f)
small_register f = tested (three_small f.rd f.rs1 f.rs2) _ (λ is.
    let parts = and_parts (two_small f.rd f.rs1) (nat_lt f.rs2 16) is in
    let small = second f.rd f.rs1 parts.0 in
    either (f.funct7 == 0x00) _ _ (small_base f small) (either (f.funct7 == 0x20) _ _ (small_alternate f small) (either (f.funct7 == 0x01) _ _ (small_multiply f small) tt)))

small_fence : (f : Fields) → IsSmall (fence_of f)
small_fence f = either (f.funct3 == 0 && f.rd == 0 && f.rs1 == 0) _ _ (omega arith) tt

small_call : (f : Fields) → IsSmall (call_of f)
small_call f = either (f.rd == 0 && f.rs1 == 0 && f.funct7 == 0) _ _ (either (f.rs2 == 0) _ _ (omega arith) (either (f.rs2 == 1) _ _ (omega arith) tt)) tt

small_system : (f : Fields) → IsSmall (system_of f)
small_system f = either (f.funct3 == 0) _ _ (small_call f) (either (f.funct3 == 4) _ _ tt (either (one_small f.rd && (nat_le 5 f.funct3 || nat_lt f.rs1 16)) _ _ (omega arith) tt))

small_one_source : (f : Fields) → f.rs1 < 16 → IsSmall (one_source_of f)
small_one_source f small = either (f.rs2 == 0x00) _ _ small (either (f.rs2 == 0x01) _ _ small (either (f.rs2 == 0x02) _ _ small (either (f.rs2 == 0x03) _ _ small (either (f.rs2 == 0x04) _ _ small (either (f.rs2 == 0x08) _ _ small (either (f.rs2 == 0x09) _ _ small (either (f.rs2 == 0x0A) _ _ small (either (f.rs2 == 0x0B) _ _ small (either (f.rs2 == 0x0F) _ _ small (either (f.rs2 == 0x17) _ _ small (either (f.rs2 == 0x18) _ _ small tt)))))))))))

small_two_source : (f : Fields) → f.rs1 < 16 → IsSmall (two_source_of f)
small_two_source f small = either (f.funct7 == 0x08) _ _ small (either (f.funct7 == 0x09) _ _ small (either (f.funct7 == 0x0B) _ _ small (either (f.funct7 == 0x0C) _ _ small (either (f.funct7 == 0x0D) _ _ small (either (f.funct7 == 0x10) _ _ small (either (f.funct7 == 0x11) _ _ small (either (f.funct7 == 0x14) _ _ small (either (f.funct7 == 0x16) _ _ small (either (f.funct7 == 0x20) _ _ small (either (f.funct7 == 0x21) _ _ small tt))))))))))

small_unnumbered : (f : Fields) → f.rs1 < 16 → IsSmall (unnumbered_of f)
small_unnumbered f small = either (f.funct7 == 0x7F) _ _ (small_one_source f small) (either (f.funct7 == 0x01) _ _ (omega arith) (either (one_small f.rs2) _ _ (small_two_source f small) tt))

small_capability : (f : Fields) → IsSmall (capability_of f)
small_capability f = tested (two_small f.rd f.rs1) _ (λ is. either (f.funct3 == 1) _ _ (second f.rd f.rs1 is) (either (f.funct3 == 2) _ _ (second f.rd f.rs1 is) (either (f.funct3 == 0) _ _ (small_unnumbered f (second f.rd f.rs1 is)) tt)))

small_instruction : (f : Fields) → IsSmall (instruction_of f)
small_instruction f = either (f.opcode == 0x13) _ _ (small_immediate f) (either (f.opcode == 0x33) _ _ (small_register f) (either (f.opcode == 0x03) _ _ (small_load f) (either (f.opcode == 0x23) _ _ (small_store f) (either (f.opcode == 0x63) _ _ (small_branch f) (either (f.opcode == 0x5B) _ _ (small_capability f) (either (f.opcode == 0x37) _ _ (small_upper f) (either (f.opcode == 0x17) _ _ (small_upper f) (either (f.opcode == 0x7B) _ _ (small_upper f) (either (f.opcode == 0x6F) _ _ (small_jump f) (either (f.opcode == 0x67) _ _ (small_register_jump f) (either (f.opcode == 0x0F) _ _ (small_fence f) (either (f.opcode == 0x73) _ _ (small_system f) tt))))))))))))

pub read_small : (word : ℕ) → IsSmall (instruction_in word)
read_small word = small_instruction (cut_of word)
