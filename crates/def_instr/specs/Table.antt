-- Which word each instruction has: *Instruction table*.
-- The formats R, I, S, B, U and J are those of the RISC-V Unprivileged ISA, "Base Instruction
-- Formats": an instruction's word is the sum of its fields, each at its place. Immediates are cut
-- into their pieces by arithmetic on the 32-bit word that they stand for.
use Rattle.std.specs.Prelude.{◌≡◌, ℕ, ◌+◌, ◌-◌, ◌*◌, ◌/◌, ◌%◌, ◌^◌, ◌<◌, ◌≤◌, ◌⊎◌}
use Rattle.def_instr.specs.declared.Instr.{Instr}
use Rattle.def_instr.specs.declared.shapes.Shape.{Shape}
use Rattle.def_instr.specs.declared.shapes.Shape.TheVariants as shape
use Rattle.def_instr.specs.declared.shapes.IntegerOperation.{IntegerOperation}
use Rattle.def_instr.specs.declared.shapes.IntegerOperation.TheVariants as integers
use Rattle.def_instr.specs.declared.shapes.CapabilityOperation.{CapabilityOperation}
use Rattle.def_instr.specs.declared.shapes.CapabilityOperation.TheVariants as capabilities
use Rattle.def_instr.specs.declared.shapes.RegisterOperation.TheVariants as registers
use Rattle.def_instr.specs.declared.shapes.SignedOperation.{SignedOperation}
use Rattle.def_instr.specs.declared.shapes.SignedOperation.TheVariants as signeds
use Rattle.def_instr.specs.declared.shapes.ShiftOperation.{ShiftOperation}
use Rattle.def_instr.specs.declared.shapes.ShiftOperation.TheVariants as shifts
use Rattle.def_instr.specs.declared.shapes.ImmediateOperation.{ImmediateOperation}
use Rattle.def_instr.specs.declared.shapes.ImmediateOperation.TheVariants as immediates
use Rattle.def_instr.specs.declared.shapes.UpperOperation.{UpperOperation}
use Rattle.def_instr.specs.declared.shapes.UpperOperation.TheVariants as uppers
use Rattle.def_instr.specs.declared.shapes.LoadOperation.{LoadOperation}
use Rattle.def_instr.specs.declared.shapes.LoadOperation.TheVariants as loads
use Rattle.def_instr.specs.declared.shapes.StoreOperation.{StoreOperation}
use Rattle.def_instr.specs.declared.shapes.StoreOperation.TheVariants as stores
use Rattle.def_instr.specs.declared.shapes.BranchOperation.{BranchOperation}
use Rattle.def_instr.specs.declared.shapes.BranchOperation.TheVariants as branches
use Rattle.def_instr.specs.declared.shapes.SourceOperation.{SourceOperation}
use Rattle.def_instr.specs.declared.shapes.SourceOperation.TheVariants as sources
use Rattle.def_instr.specs.Shapes.{shape_of}

-- the fields of format R, which cut a word into six; the other formats join some of them
abbrev pub format_r : ℕ → ℕ → ℕ → ℕ → ℕ → ℕ → ℕ
format_r opcode funct3 funct7 rd rs1 rs2 =
    opcode + rd * 2 ^ 7 + funct3 * 2 ^ 12 + rs1 * 2 ^ 15 + rs2 * 2 ^ 20 + funct7 * 2 ^ 25

-- twelve bits of immediate above rs1
abbrev pub format_i : ℕ → ℕ → ℕ → ℕ → ℕ → ℕ
format_i opcode funct3 rd rs1 immediate =
    opcode + rd * 2 ^ 7 + funct3 * 2 ^ 12 + rs1 * 2 ^ 15 + immediate % 2 ^ 12 * 2 ^ 20

-- the immediate's low five bits in rd's place, the next seven at the top
abbrev pub format_s : ℕ → ℕ → ℕ → ℕ → ℕ → ℕ
format_s opcode funct3 rs1 rs2 immediate =
    opcode + immediate % 2 ^ 5 * 2 ^ 7 + funct3 * 2 ^ 12 + rs1 * 2 ^ 15 + rs2 * 2 ^ 20
    + immediate / 2 ^ 5 % 2 ^ 7 * 2 ^ 25

-- the offset's bit 11, bits 4 to 1, bits 10 to 5, and bit 12
abbrev pub format_b : ℕ → ℕ → ℕ → ℕ → ℕ → ℕ
format_b opcode funct3 rs1 rs2 offset =
    opcode + offset / 2 ^ 11 % 2 * 2 ^ 7 + offset / 2 % 2 ^ 4 * 2 ^ 8 + funct3 * 2 ^ 12
    + rs1 * 2 ^ 15 + rs2 * 2 ^ 20 + offset / 2 ^ 5 % 2 ^ 6 * 2 ^ 25 + offset / 2 ^ 12 % 2 * 2 ^ 31

-- twenty bits of immediate above rd
abbrev pub format_u : ℕ → ℕ → ℕ → ℕ
format_u opcode rd immediate = opcode + rd * 2 ^ 7 + immediate * 2 ^ 12

-- the offset's bits 19 to 12, bit 11, bits 10 to 1, and bit 20
abbrev pub format_j : ℕ → ℕ → ℕ → ℕ
format_j opcode rd offset =
    opcode + rd * 2 ^ 7 + offset / 2 ^ 12 % 2 ^ 8 * 2 ^ 12 + offset / 2 ^ 11 % 2 * 2 ^ 20
    + offset / 2 % 2 ^ 10 * 2 ^ 21 + offset / 2 ^ 20 % 2 * 2 ^ 31

-- a register of the machine, which has sixteen
abbrev pub IsRegister : ℕ → Type 0
IsRegister n = n < 16

-- a 32-bit word that stands for a signed number of so many bits
abbrev pub IsSigned : ℕ → ℕ → Type 0
IsSigned width n = (n < 2 ^ 32) × ((n + 2 ^ (width - 1)) % 2 ^ 32 < 2 ^ width)

-- the same, and even: a distance between two places of code
abbrev pub IsOffset : ℕ → ℕ → Type 0
IsOffset width n = IsSigned width n × (n % 2 ≡ 0)

-- what an access of a control and status register may hold: functions 1 to 3 have a source register, functions 5 to 7 any five bits
abbrev pub IsCsr : ℕ → ℕ → ℕ → ℕ → Type 0
IsCsr function rd source number =
    IsRegister rd
    × (((1 ≤ function) × (function ≤ 3) × IsRegister source)
    ⊎ ((5 ≤ function) × (function ≤ 7) × (source < 32)))
    × (number < 2 ^ 12)

-- the immediate of an operation with a number
abbrev pub FitsImmediate : ImmediateOperation → ℕ → Type 0
FitsImmediate (immediates.Signed operation) n = IsSigned 12 n
FitsImmediate (immediates.Shift operation) n = n < 32
FitsImmediate immediates.CIncAddrImm n = IsSigned 12 n
FitsImmediate immediates.CSetBoundsImm n = n < 2 ^ 12

-- what the fields of a shape may hold
abbrev pub FieldsFit : Shape → Type 0
FieldsFit (shape.Registers operation rd rs1 rs2) = IsRegister rd × IsRegister rs1 × IsRegister rs2
FieldsFit (shape.Immediate operation rd rs1 n) =
    IsRegister rd × IsRegister rs1 × FitsImmediate operation n
FieldsFit (shape.Upper operation rd n) = IsRegister rd × (n < 2 ^ 20)
FieldsFit (shape.Load operation rd rs1 n) = IsRegister rd × IsRegister rs1 × IsSigned 12 n
FieldsFit (shape.Store operation rs1 rs2 n) = IsRegister rs1 × IsRegister rs2 × IsSigned 12 n
FieldsFit (shape.Branch operation rs1 rs2 offset) =
    IsRegister rs1 × IsRegister rs2 × IsOffset 13 offset
FieldsFit (shape.Jump rd offset) = IsRegister rd × IsOffset 21 offset
FieldsFit (shape.RegisterJump rd rs1 n) = IsRegister rd × IsRegister rs1 × IsSigned 12 n
FieldsFit (shape.OneSource operation rd rs1) = IsRegister rd × IsRegister rs1
FieldsFit (shape.Fence n) = IsSigned 12 n
FieldsFit shape.Call = Unit {0}
FieldsFit shape.Break = Unit {0}
FieldsFit (shape.Status function rd source number) = IsCsr function rd source number
FieldsFit (shape.Special rd rs1 number) = IsRegister rd × IsRegister rs1 × (number < 32)

abbrev pub InRange : Instr → Type 0
InRange i = FieldsFit (shape_of i)

-- ---- which word each instruction has

-- what tells an operation from others of its opcode
pub record Code : Type 0 where
  pub funct3 : ℕ
  pub funct7 : ℕ

abbrev pub function_code : ℕ → ℕ → Code
function_code funct3 funct7 = record { funct3 = funct3; funct7 = funct7 }

-- opcode 33
abbrev pub integer_code : IntegerOperation → Code
integer_code integers.Add = function_code 0 0x00
integer_code integers.Sub = function_code 0 0x20
integer_code integers.Sll = function_code 1 0x00
integer_code integers.Slt = function_code 2 0x00
integer_code integers.Sltu = function_code 3 0x00
integer_code integers.Xor = function_code 4 0x00
integer_code integers.Srl = function_code 5 0x00
integer_code integers.Sra = function_code 5 0x20
integer_code integers.Or = function_code 6 0x00
integer_code integers.And = function_code 7 0x00
integer_code integers.Mul = function_code 0 0x01
integer_code integers.Mulh = function_code 1 0x01
integer_code integers.Mulhsu = function_code 2 0x01
integer_code integers.Mulhu = function_code 3 0x01
integer_code integers.Div = function_code 4 0x01
integer_code integers.Divu = function_code 5 0x01
integer_code integers.Rem = function_code 6 0x01
integer_code integers.Remu = function_code 7 0x01

-- opcode 13
abbrev pub signed_funct3 : SignedOperation → ℕ
signed_funct3 signeds.Addi = 0
signed_funct3 signeds.Slti = 2
signed_funct3 signeds.Sltiu = 3
signed_funct3 signeds.Xori = 4
signed_funct3 signeds.Ori = 6
signed_funct3 signeds.Andi = 7

-- opcode 13
abbrev pub shift_code : ShiftOperation → Code
shift_code shifts.Slli = function_code 1 0x00
shift_code shifts.Srli = function_code 5 0x00
shift_code shifts.Srai = function_code 5 0x20

abbrev pub upper_opcode : UpperOperation → ℕ
upper_opcode uppers.Lui = 0x37
upper_opcode uppers.AuiPcc = 0x17
upper_opcode uppers.AuiCgp = 0x7B

-- opcode 03
abbrev pub load_funct3 : LoadOperation → ℕ
load_funct3 loads.Lb = 0
load_funct3 loads.Lh = 1
load_funct3 loads.Lw = 2
load_funct3 loads.Clc = 3
load_funct3 loads.Lbu = 4
load_funct3 loads.Lhu = 5

-- opcode 23
abbrev pub store_funct3 : StoreOperation → ℕ
store_funct3 stores.Sb = 0
store_funct3 stores.Sh = 1
store_funct3 stores.Sw = 2
store_funct3 stores.Csc = 3

-- opcode 63
abbrev pub branch_funct3 : BranchOperation → ℕ
branch_funct3 branches.Beq = 0
branch_funct3 branches.Bne = 1
branch_funct3 branches.Blt = 4
branch_funct3 branches.Bge = 5
branch_funct3 branches.Bltu = 6
branch_funct3 branches.Bgeu = 7

-- opcode 5B, funct3 0
abbrev pub capability_funct7 : CapabilityOperation → ℕ
capability_funct7 capabilities.CSetBounds = 0x08
capability_funct7 capabilities.CSetBoundsExact = 0x09
capability_funct7 capabilities.CSeal = 0x0B
capability_funct7 capabilities.CUnseal = 0x0C
capability_funct7 capabilities.CAndPerm = 0x0D
capability_funct7 capabilities.CSetAddr = 0x10
capability_funct7 capabilities.CIncAddr = 0x11
capability_funct7 capabilities.CSub = 0x14
capability_funct7 capabilities.CSetHigh = 0x16
capability_funct7 capabilities.CTestSubset = 0x20
capability_funct7 capabilities.CSetEqualExact = 0x21

-- opcode 5B, funct3 0, funct7 7F: what stands in rs2's place
abbrev pub source_number : SourceOperation → ℕ
source_number sources.CGetPerm = 0x00
source_number sources.CGetType = 0x01
source_number sources.CGetBase = 0x02
source_number sources.CGetLen = 0x03
source_number sources.CGetTag = 0x04
source_number sources.Crrl = 0x08
source_number sources.Cram = 0x09
source_number sources.CMove = 0x0A
source_number sources.CClearTag = 0x0B
source_number sources.CGetAddr = 0x0F
source_number sources.CGetHigh = 0x17
source_number sources.CGetTop = 0x18

-- the word of a shape: opcode, funct3 and funct7 where the format has them, and the fields
abbrev pub shape_word : Shape → ℕ
shape_word (shape.Registers (registers.Integer operation) rd rs1 rs2) =
    format_r 0x33 (integer_code operation).funct3 (integer_code operation).funct7 rd rs1 rs2
shape_word (shape.Registers (registers.Capability operation) rd rs1 rs2) =
    format_r 0x5B 0 (capability_funct7 operation) rd rs1 rs2
shape_word (shape.Immediate (immediates.Signed operation) rd rs1 n) =
    format_i 0x13 (signed_funct3 operation) rd rs1 n
shape_word (shape.Immediate (immediates.Shift operation) rd rs1 n) =
    format_r 0x13 (shift_code operation).funct3 (shift_code operation).funct7 rd rs1 n
shape_word (shape.Immediate immediates.CIncAddrImm rd rs1 n) = format_i 0x5B 1 rd rs1 n
shape_word (shape.Immediate immediates.CSetBoundsImm rd rs1 n) = format_i 0x5B 2 rd rs1 n
shape_word (shape.Upper operation rd n) = format_u (upper_opcode operation) rd n
shape_word (shape.Load operation rd rs1 n) = format_i 0x03 (load_funct3 operation) rd rs1 n
shape_word (shape.Store operation rs1 rs2 n) = format_s 0x23 (store_funct3 operation) rs1 rs2 n
shape_word (shape.Branch operation rs1 rs2 offset) =
    format_b 0x63 (branch_funct3 operation) rs1 rs2 offset
shape_word (shape.Jump rd offset) = format_j 0x6F rd offset
shape_word (shape.RegisterJump rd rs1 n) = format_i 0x67 0 rd rs1 n
shape_word (shape.OneSource operation rd rs1) =
    format_r 0x5B 0 0x7F rd rs1 (source_number operation)
shape_word (shape.Fence n) = format_i 0x0F 0 0 0 n
shape_word shape.Call = 0x00000073
shape_word shape.Break = 0x00100073
shape_word (shape.Status function rd source number) = format_i 0x73 function rd source number
shape_word (shape.Special rd rs1 number) = format_r 0x5B 0 0x01 rd rs1 number

abbrev pub encoded : Instr → ℕ
encoded i = shape_word (shape_of i)

-- the instruction's fields are in range, and the word is its row's
pub record EncodesTo (instruction : Instr) (word : ℕ) : Type 0 where
  pub ranged : InRange instruction
  pub row : word ≡ encoded instruction
