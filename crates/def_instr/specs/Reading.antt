-- The table read backwards, as a function: a word's six fields, and a class of instructions for
-- each opcode. What a word means is the table (Table); that this function gives an instruction
-- exactly where the table gives it that word is proved of `decode` in ct_isa. A definition that has
-- to compute, as a step of the machine, takes `instruction_in`.
use Rattle.std.specs.Prelude.{ℕ, ◌+◌, ◌-◌, ◌*◌, ◌/◌, ◌%◌, ◌^◌, ◌<◌, Bool, ◌==◌, ◌&&◌, ◌||◌, nat_lt, nat_le, if◌then◌else◌, Option, Some, None}
use Rattle.def_bits.specs.Bits.{extended}
use Rattle.def_instr.specs.Table.{format_r}
use Rattle.def_instr.specs.declared.Instr.{Instr}
use Rattle.def_instr.specs.declared.Instr.TheVariants.{Lui, AuiPcc, AuiCgp, Jal, CJalr, Beq, Bne, Blt, Bge, Bltu, Bgeu, Lb, Lh, Lw, Clc, Lbu, Lhu, Sb, Sh, Sw, Csc, Addi, Slti, Sltiu, Xori, Ori, Andi, Slli, Srli, Srai, Add, Sub, Sll, Slt, Sltu, Xor, Srl, Sra, Or, And, Mul, Mulh, Mulhsu, Mulhu, Div, Divu, Rem, Remu, Fence, Ecall, Ebreak, Csr, CIncAddrImm, CSetBoundsImm, CSpecialRw, CSetBounds, CSetBoundsExact, CSeal, CUnseal, CAndPerm, CSetAddr, CIncAddr, CSub, CSetHigh, CTestSubset, CSetEqualExact, CGetPerm, CGetType, CGetBase, CGetLen, CGetTag, Crrl, Cram, CMove, CClearTag, CGetAddr, CGetHigh, CGetTop}
use Rattle.def_instr.specs.declared.Fields.{Fields}

-- the six fields of a word
abbrev pub cut_of : ℕ → Fields
cut_of word = record {
  opcode = word % 2 ^ 7;
  rd = word / 2 ^ 7 % 2 ^ 5;
  funct3 = word / 2 ^ 12 % 2 ^ 3;
  rs1 = word / 2 ^ 15 % 2 ^ 5;
  rs2 = word / 2 ^ 20 % 2 ^ 5;
  funct7 = word / 2 ^ 25;
}

-- the word that has these fields
abbrev pub word_of_fields : Fields → ℕ
word_of_fields f = format_r f.opcode f.funct3 f.funct7 f.rd f.rs1 f.rs2

-- each field has its width
pub record IsCut (f : Fields) : Type 0 where
  pub opcode : f.opcode < 2 ^ 7
  pub rd : f.rd < 2 ^ 5
  pub funct3 : f.funct3 < 2 ^ 3
  pub rs1 : f.rs1 < 2 ^ 5
  pub rs2 : f.rs2 < 2 ^ 5
  pub funct7 : f.funct7 < 2 ^ 7

abbrev pub low_immediate : Fields → ℕ
low_immediate f = f.rs2 + f.funct7 * 2 ^ 5

abbrev pub signed_immediate : Fields → ℕ
signed_immediate f = extended 12 (f.rs2 + f.funct7 * 2 ^ 5)

abbrev pub store_immediate : Fields → ℕ
store_immediate f = extended 12 (f.rd + f.funct7 * 2 ^ 5)

abbrev pub branch_offset : Fields → ℕ
branch_offset f =
    extended 13
    (f.rd / 2 * 2 + f.funct7 % 2 ^ 6 * 2 ^ 5 + f.rd % 2 * 2 ^ 11 + f.funct7 / 2 ^ 6 * 2 ^ 12)

abbrev pub jump_offset : Fields → ℕ
jump_offset f =
    extended 21
    (f.rs2 / 2 * 2 + f.funct7 % 2 ^ 6 * 2 ^ 5 + f.rs2 % 2 * 2 ^ 11 + f.funct3 * 2 ^ 12
    + f.rs1 * 2 ^ 15 + f.funct7 / 2 ^ 6 * 2 ^ 20)

abbrev pub upper_immediate : Fields → ℕ
upper_immediate f = f.funct3 + f.rs1 * 2 ^ 3 + f.rs2 * 2 ^ 8 + f.funct7 * 2 ^ 13

abbrev pub one_small : ℕ → Bool
one_small a = nat_lt a 16

abbrev pub two_small : ℕ → ℕ → Bool
two_small a b = nat_lt a 16 && nat_lt b 16

abbrev pub three_small : ℕ → ℕ → ℕ → Bool
three_small a b c = nat_lt a 16 && nat_lt b 16 && nat_lt c 16

abbrev pub upper_of : Fields → Option Instr
upper_of f =
    if one_small f.rd then (
    if f.opcode == 0x37 then Some (Lui f.rd (upper_immediate f)) else
    if f.opcode == 0x17 then Some (AuiPcc f.rd (upper_immediate f)) else
    Some (AuiCgp f.rd (upper_immediate f))
    ) else None

abbrev pub jump_of : Fields → Option Instr
jump_of f = if one_small f.rd then Some (Jal f.rd (jump_offset f)) else None

abbrev pub register_jump_of : Fields → Option Instr
register_jump_of f =
    if f.funct3 == 0 && two_small f.rd f.rs1 then Some (CJalr f.rd f.rs1 (signed_immediate f))
    else None

abbrev pub branch_of : Fields → Option Instr
branch_of f =
    if two_small f.rs1 f.rs2 then (
    if f.funct3 == 0 then Some (Beq f.rs1 f.rs2 (branch_offset f)) else
    if f.funct3 == 1 then Some (Bne f.rs1 f.rs2 (branch_offset f)) else
    if f.funct3 == 4 then Some (Blt f.rs1 f.rs2 (branch_offset f)) else
    if f.funct3 == 5 then Some (Bge f.rs1 f.rs2 (branch_offset f)) else
    if f.funct3 == 6 then Some (Bltu f.rs1 f.rs2 (branch_offset f)) else
    if f.funct3 == 7 then Some (Bgeu f.rs1 f.rs2 (branch_offset f)) else
    None
    ) else None

abbrev pub load_instruction : Fields → Option Instr
load_instruction f =
    if two_small f.rd f.rs1 then (
    if f.funct3 == 0 then Some (Lb f.rd f.rs1 (signed_immediate f)) else
    if f.funct3 == 1 then Some (Lh f.rd f.rs1 (signed_immediate f)) else
    if f.funct3 == 2 then Some (Lw f.rd f.rs1 (signed_immediate f)) else
    if f.funct3 == 3 then Some (Clc f.rd f.rs1 (signed_immediate f)) else
    if f.funct3 == 4 then Some (Lbu f.rd f.rs1 (signed_immediate f)) else
    if f.funct3 == 5 then Some (Lhu f.rd f.rs1 (signed_immediate f)) else
    None
    ) else None

abbrev pub store_instruction : Fields → Option Instr
store_instruction f =
    if two_small f.rs1 f.rs2 then (
    if f.funct3 == 0 then Some (Sb f.rs1 f.rs2 (store_immediate f)) else
    if f.funct3 == 1 then Some (Sh f.rs1 f.rs2 (store_immediate f)) else
    if f.funct3 == 2 then Some (Sw f.rs1 f.rs2 (store_immediate f)) else
    if f.funct3 == 3 then Some (Csc f.rs1 f.rs2 (store_immediate f)) else
    None
    ) else None

abbrev pub shift_of : Fields → Option Instr
shift_of f =
    if f.funct3 == 1 && f.funct7 == 0x00 then Some (Slli f.rd f.rs1 f.rs2) else
    if f.funct3 == 5 && f.funct7 == 0x00 then Some (Srli f.rd f.rs1 f.rs2) else
    if f.funct3 == 5 && f.funct7 == 0x20 then Some (Srai f.rd f.rs1 f.rs2) else
    None

abbrev pub immediate_of : Fields → Option Instr
immediate_of f =
    if two_small f.rd f.rs1 then (
    if f.funct3 == 0 then Some (Addi f.rd f.rs1 (signed_immediate f)) else
    if f.funct3 == 2 then Some (Slti f.rd f.rs1 (signed_immediate f)) else
    if f.funct3 == 3 then Some (Sltiu f.rd f.rs1 (signed_immediate f)) else
    if f.funct3 == 4 then Some (Xori f.rd f.rs1 (signed_immediate f)) else
    if f.funct3 == 6 then Some (Ori f.rd f.rs1 (signed_immediate f)) else
    if f.funct3 == 7 then Some (Andi f.rd f.rs1 (signed_immediate f)) else
    shift_of f
    ) else None

abbrev pub base_instruction : Fields → Option Instr
base_instruction f =
    if f.funct3 == 0 then Some (Add f.rd f.rs1 f.rs2) else
    if f.funct3 == 1 then Some (Sll f.rd f.rs1 f.rs2) else
    if f.funct3 == 2 then Some (Slt f.rd f.rs1 f.rs2) else
    if f.funct3 == 3 then Some (Sltu f.rd f.rs1 f.rs2) else
    if f.funct3 == 4 then Some (Xor f.rd f.rs1 f.rs2) else
    if f.funct3 == 5 then Some (Srl f.rd f.rs1 f.rs2) else
    if f.funct3 == 6 then Some (Or f.rd f.rs1 f.rs2) else
    if f.funct3 == 7 then Some (And f.rd f.rs1 f.rs2) else
    None

abbrev pub alternate_of : Fields → Option Instr
alternate_of f =
    if f.funct3 == 0 then Some (Sub f.rd f.rs1 f.rs2) else
    if f.funct3 == 5 then Some (Sra f.rd f.rs1 f.rs2) else
    None

abbrev pub multiply_of : Fields → Option Instr
multiply_of f =
    if f.funct3 == 0 then Some (Mul f.rd f.rs1 f.rs2) else
    if f.funct3 == 1 then Some (Mulh f.rd f.rs1 f.rs2) else
    if f.funct3 == 2 then Some (Mulhsu f.rd f.rs1 f.rs2) else
    if f.funct3 == 3 then Some (Mulhu f.rd f.rs1 f.rs2) else
    if f.funct3 == 4 then Some (Div f.rd f.rs1 f.rs2) else
    if f.funct3 == 5 then Some (Divu f.rd f.rs1 f.rs2) else
    if f.funct3 == 6 then Some (Rem f.rd f.rs1 f.rs2) else
    if f.funct3 == 7 then Some (Remu f.rd f.rs1 f.rs2) else
    None

abbrev pub register_instruction : Fields → Option Instr
register_instruction f =
    if three_small f.rd f.rs1 f.rs2 then (
    if f.funct7 == 0x00 then base_instruction f else
    if f.funct7 == 0x20 then alternate_of f else
    if f.funct7 == 0x01 then multiply_of f else
    None
    ) else None

abbrev pub fence_of : Fields → Option Instr
fence_of f =
    if f.funct3 == 0 && f.rd == 0 && f.rs1 == 0 then Some (Fence (signed_immediate f)) else None

abbrev pub call_of : Fields → Option Instr
call_of f = if f.rd == 0 && f.rs1 == 0 && f.funct7 == 0 then (
    if f.rs2 == 0 then Some Ecall else
    if f.rs2 == 1 then Some Ebreak else
    None
    ) else None

abbrev pub system_of : Fields → Option Instr
system_of f =
    if f.funct3 == 0 then call_of f else
    if f.funct3 == 4 then None else
    if one_small f.rd && (nat_le 5 f.funct3 || nat_lt f.rs1 16)
    then Some (Csr f.funct3 f.rd f.rs1 (low_immediate f))
    else None

abbrev pub one_source_of : Fields → Option Instr
one_source_of f =
    if f.rs2 == 0x00 then Some (CGetPerm f.rd f.rs1) else
    if f.rs2 == 0x01 then Some (CGetType f.rd f.rs1) else
    if f.rs2 == 0x02 then Some (CGetBase f.rd f.rs1) else
    if f.rs2 == 0x03 then Some (CGetLen f.rd f.rs1) else
    if f.rs2 == 0x04 then Some (CGetTag f.rd f.rs1) else
    if f.rs2 == 0x08 then Some (Crrl f.rd f.rs1) else
    if f.rs2 == 0x09 then Some (Cram f.rd f.rs1) else
    if f.rs2 == 0x0A then Some (CMove f.rd f.rs1) else
    if f.rs2 == 0x0B then Some (CClearTag f.rd f.rs1) else
    if f.rs2 == 0x0F then Some (CGetAddr f.rd f.rs1) else
    if f.rs2 == 0x17 then Some (CGetHigh f.rd f.rs1) else
    if f.rs2 == 0x18 then Some (CGetTop f.rd f.rs1) else
    None

abbrev pub two_source_of : Fields → Option Instr
two_source_of f =
    if f.funct7 == 0x08 then Some (CSetBounds f.rd f.rs1 f.rs2) else
    if f.funct7 == 0x09 then Some (CSetBoundsExact f.rd f.rs1 f.rs2) else
    if f.funct7 == 0x0B then Some (CSeal f.rd f.rs1 f.rs2) else
    if f.funct7 == 0x0C then Some (CUnseal f.rd f.rs1 f.rs2) else
    if f.funct7 == 0x0D then Some (CAndPerm f.rd f.rs1 f.rs2) else
    if f.funct7 == 0x10 then Some (CSetAddr f.rd f.rs1 f.rs2) else
    if f.funct7 == 0x11 then Some (CIncAddr f.rd f.rs1 f.rs2) else
    if f.funct7 == 0x14 then Some (CSub f.rd f.rs1 f.rs2) else
    if f.funct7 == 0x16 then Some (CSetHigh f.rd f.rs1 f.rs2) else
    if f.funct7 == 0x20 then Some (CTestSubset f.rd f.rs1 f.rs2) else
    if f.funct7 == 0x21 then Some (CSetEqualExact f.rd f.rs1 f.rs2) else
    None

abbrev pub unnumbered_of : Fields → Option Instr
unnumbered_of f =
    if f.funct7 == 0x7F then one_source_of f else
    if f.funct7 == 0x01 then Some (CSpecialRw f.rd f.rs1 f.rs2) else
    if one_small f.rs2 then two_source_of f else
    None

abbrev pub capability_of : Fields → Option Instr
capability_of f =
    if two_small f.rd f.rs1 then (
    if f.funct3 == 1 then Some (CIncAddrImm f.rd f.rs1 (signed_immediate f)) else
    if f.funct3 == 2 then Some (CSetBoundsImm f.rd f.rs1 (low_immediate f)) else
    if f.funct3 == 0 then unnumbered_of f else
    None
    ) else None

-- the instruction of a word by its opcode
abbrev pub instruction_of : Fields → Option Instr
instruction_of f =
    if f.opcode == 0x13 then immediate_of f else
    if f.opcode == 0x33 then register_instruction f else
    if f.opcode == 0x03 then load_instruction f else
    if f.opcode == 0x23 then store_instruction f else
    if f.opcode == 0x63 then branch_of f else
    if f.opcode == 0x5B then capability_of f else
    if f.opcode == 0x37 then upper_of f else
    if f.opcode == 0x17 then upper_of f else
    if f.opcode == 0x7B then upper_of f else
    if f.opcode == 0x6F then jump_of f else
    if f.opcode == 0x67 then register_jump_of f else
    if f.opcode == 0x0F then fence_of f else
    if f.opcode == 0x73 then system_of f else
    None

abbrev pub instruction_in : ℕ → Option Instr
instruction_in word = instruction_of (cut_of word)
