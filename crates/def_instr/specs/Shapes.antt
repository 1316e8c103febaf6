-- The shape of each instruction, and the instruction of each shape. Whoever only asks what kind of
-- instruction one is, or which registers it has, goes by the shape.
use Rattle.std.specs.Prelude.{Bool, true, false}
use Rattle.def_instr.specs.declared.Instr.{Instr}
use Rattle.def_instr.specs.declared.Instr.TheVariants as instr
use Rattle.def_instr.specs.declared.shapes.Shape.{Shape}
use Rattle.def_instr.specs.declared.shapes.Shape.TheVariants as shape
use Rattle.def_instr.specs.declared.shapes.RegisterOperation.TheVariants as registers
use Rattle.def_instr.specs.declared.shapes.IntegerOperation.TheVariants as integers
use Rattle.def_instr.specs.declared.shapes.CapabilityOperation.TheVariants as capabilities
use Rattle.def_instr.specs.declared.shapes.ImmediateOperation.TheVariants as immediates
use Rattle.def_instr.specs.declared.shapes.SignedOperation.TheVariants as signeds
use Rattle.def_instr.specs.declared.shapes.ShiftOperation.TheVariants as shifts
use Rattle.def_instr.specs.declared.shapes.UpperOperation.TheVariants as uppers
use Rattle.def_instr.specs.declared.shapes.LoadOperation.TheVariants as loads
use Rattle.def_instr.specs.declared.shapes.StoreOperation.TheVariants as stores
use Rattle.def_instr.specs.declared.shapes.BranchOperation.TheVariants as branches
use Rattle.def_instr.specs.declared.shapes.SourceOperation.TheVariants as sources

abbrev pub shape_of : Instr → Shape
shape_of (instr.Lui rd immediate) = shape.Upper uppers.Lui rd immediate
shape_of (instr.AuiPcc rd immediate) = shape.Upper uppers.AuiPcc rd immediate
shape_of (instr.AuiCgp rd immediate) = shape.Upper uppers.AuiCgp rd immediate
shape_of (instr.Jal rd offset) = shape.Jump rd offset
shape_of (instr.CJalr rd rs1 immediate) = shape.RegisterJump rd rs1 immediate
shape_of (instr.Beq rs1 rs2 offset) = shape.Branch branches.Beq rs1 rs2 offset
shape_of (instr.Bne rs1 rs2 offset) = shape.Branch branches.Bne rs1 rs2 offset
shape_of (instr.Blt rs1 rs2 offset) = shape.Branch branches.Blt rs1 rs2 offset
shape_of (instr.Bge rs1 rs2 offset) = shape.Branch branches.Bge rs1 rs2 offset
shape_of (instr.Bltu rs1 rs2 offset) = shape.Branch branches.Bltu rs1 rs2 offset
shape_of (instr.Bgeu rs1 rs2 offset) = shape.Branch branches.Bgeu rs1 rs2 offset
shape_of (instr.Lb rd rs1 immediate) = shape.Load loads.Lb rd rs1 immediate
shape_of (instr.Lh rd rs1 immediate) = shape.Load loads.Lh rd rs1 immediate
shape_of (instr.Lw rd rs1 immediate) = shape.Load loads.Lw rd rs1 immediate
shape_of (instr.Clc rd rs1 immediate) = shape.Load loads.Clc rd rs1 immediate
shape_of (instr.Lbu rd rs1 immediate) = shape.Load loads.Lbu rd rs1 immediate
shape_of (instr.Lhu rd rs1 immediate) = shape.Load loads.Lhu rd rs1 immediate
shape_of (instr.Sb rs1 rs2 immediate) = shape.Store stores.Sb rs1 rs2 immediate
shape_of (instr.Sh rs1 rs2 immediate) = shape.Store stores.Sh rs1 rs2 immediate
shape_of (instr.Sw rs1 rs2 immediate) = shape.Store stores.Sw rs1 rs2 immediate
shape_of (instr.Csc rs1 rs2 immediate) = shape.Store stores.Csc rs1 rs2 immediate
shape_of (instr.Addi rd rs1 immediate) =
    shape.Immediate (immediates.Signed signeds.Addi) rd rs1 immediate
shape_of (instr.Slti rd rs1 immediate) =
    shape.Immediate (immediates.Signed signeds.Slti) rd rs1 immediate
shape_of (instr.Sltiu rd rs1 immediate) =
    shape.Immediate (immediates.Signed signeds.Sltiu) rd rs1 immediate
shape_of (instr.Xori rd rs1 immediate) =
    shape.Immediate (immediates.Signed signeds.Xori) rd rs1 immediate
shape_of (instr.Ori rd rs1 immediate) =
    shape.Immediate (immediates.Signed signeds.Ori) rd rs1 immediate
shape_of (instr.Andi rd rs1 immediate) =
    shape.Immediate (immediates.Signed signeds.Andi) rd rs1 immediate
shape_of (instr.Slli rd rs1 amount) = shape.Immediate (immediates.Shift shifts.Slli) rd rs1 amount
shape_of (instr.Srli rd rs1 amount) = shape.Immediate (immediates.Shift shifts.Srli) rd rs1 amount
shape_of (instr.Srai rd rs1 amount) = shape.Immediate (immediates.Shift shifts.Srai) rd rs1 amount
shape_of (instr.Add rd rs1 rs2) = shape.Registers (registers.Integer integers.Add) rd rs1 rs2
shape_of (instr.Sub rd rs1 rs2) = shape.Registers (registers.Integer integers.Sub) rd rs1 rs2
shape_of (instr.Sll rd rs1 rs2) = shape.Registers (registers.Integer integers.Sll) rd rs1 rs2
shape_of (instr.Slt rd rs1 rs2) = shape.Registers (registers.Integer integers.Slt) rd rs1 rs2
shape_of (instr.Sltu rd rs1 rs2) = shape.Registers (registers.Integer integers.Sltu) rd rs1 rs2
shape_of (instr.Xor rd rs1 rs2) = shape.Registers (registers.Integer integers.Xor) rd rs1 rs2
shape_of (instr.Srl rd rs1 rs2) = shape.Registers (registers.Integer integers.Srl) rd rs1 rs2
shape_of (instr.Sra rd rs1 rs2) = shape.Registers (registers.Integer integers.Sra) rd rs1 rs2
shape_of (instr.Or rd rs1 rs2) = shape.Registers (registers.Integer integers.Or) rd rs1 rs2
shape_of (instr.And rd rs1 rs2) = shape.Registers (registers.Integer integers.And) rd rs1 rs2
shape_of (instr.Mul rd rs1 rs2) = shape.Registers (registers.Integer integers.Mul) rd rs1 rs2
shape_of (instr.Mulh rd rs1 rs2) = shape.Registers (registers.Integer integers.Mulh) rd rs1 rs2
shape_of (instr.Mulhsu rd rs1 rs2) = shape.Registers (registers.Integer integers.Mulhsu) rd rs1 rs2
shape_of (instr.Mulhu rd rs1 rs2) = shape.Registers (registers.Integer integers.Mulhu) rd rs1 rs2
shape_of (instr.Div rd rs1 rs2) = shape.Registers (registers.Integer integers.Div) rd rs1 rs2
shape_of (instr.Divu rd rs1 rs2) = shape.Registers (registers.Integer integers.Divu) rd rs1 rs2
shape_of (instr.Rem rd rs1 rs2) = shape.Registers (registers.Integer integers.Rem) rd rs1 rs2
shape_of (instr.Remu rd rs1 rs2) = shape.Registers (registers.Integer integers.Remu) rd rs1 rs2
shape_of (instr.Fence immediate) = shape.Fence immediate
shape_of instr.Ecall = shape.Call
shape_of instr.Ebreak = shape.Break
shape_of (instr.Csr function rd source number) = shape.Status function rd source number
shape_of (instr.CIncAddrImm rd rs1 immediate) =
    shape.Immediate immediates.CIncAddrImm rd rs1 immediate
shape_of (instr.CSetBoundsImm rd rs1 immediate) =
    shape.Immediate immediates.CSetBoundsImm rd rs1 immediate
shape_of (instr.CSpecialRw rd rs1 number) = shape.Special rd rs1 number
shape_of (instr.CSetBounds rd rs1 rs2) =
    shape.Registers (registers.Capability capabilities.CSetBounds) rd rs1 rs2
shape_of (instr.CSetBoundsExact rd rs1 rs2) =
    shape.Registers (registers.Capability capabilities.CSetBoundsExact) rd rs1 rs2
shape_of (instr.CSeal rd rs1 rs2) =
    shape.Registers (registers.Capability capabilities.CSeal) rd rs1 rs2
shape_of (instr.CUnseal rd rs1 rs2) =
    shape.Registers (registers.Capability capabilities.CUnseal) rd rs1 rs2
shape_of (instr.CAndPerm rd rs1 rs2) =
    shape.Registers (registers.Capability capabilities.CAndPerm) rd rs1 rs2
shape_of (instr.CSetAddr rd rs1 rs2) =
    shape.Registers (registers.Capability capabilities.CSetAddr) rd rs1 rs2
shape_of (instr.CIncAddr rd rs1 rs2) =
    shape.Registers (registers.Capability capabilities.CIncAddr) rd rs1 rs2
shape_of (instr.CSub rd rs1 rs2) =
    shape.Registers (registers.Capability capabilities.CSub) rd rs1 rs2
shape_of (instr.CSetHigh rd rs1 rs2) =
    shape.Registers (registers.Capability capabilities.CSetHigh) rd rs1 rs2
shape_of (instr.CTestSubset rd rs1 rs2) =
    shape.Registers (registers.Capability capabilities.CTestSubset) rd rs1 rs2
shape_of (instr.CSetEqualExact rd rs1 rs2) =
    shape.Registers (registers.Capability capabilities.CSetEqualExact) rd rs1 rs2
shape_of (instr.CGetPerm rd rs1) = shape.OneSource sources.CGetPerm rd rs1
shape_of (instr.CGetType rd rs1) = shape.OneSource sources.CGetType rd rs1
shape_of (instr.CGetBase rd rs1) = shape.OneSource sources.CGetBase rd rs1
shape_of (instr.CGetLen rd rs1) = shape.OneSource sources.CGetLen rd rs1
shape_of (instr.CGetTag rd rs1) = shape.OneSource sources.CGetTag rd rs1
shape_of (instr.Crrl rd rs1) = shape.OneSource sources.Crrl rd rs1
shape_of (instr.Cram rd rs1) = shape.OneSource sources.Cram rd rs1
shape_of (instr.CMove rd rs1) = shape.OneSource sources.CMove rd rs1
shape_of (instr.CClearTag rd rs1) = shape.OneSource sources.CClearTag rd rs1
shape_of (instr.CGetAddr rd rs1) = shape.OneSource sources.CGetAddr rd rs1
shape_of (instr.CGetHigh rd rs1) = shape.OneSource sources.CGetHigh rd rs1
shape_of (instr.CGetTop rd rs1) = shape.OneSource sources.CGetTop rd rs1

-- back
abbrev pub shaped : Shape → Instr
shaped (shape.Upper uppers.Lui rd immediate) = instr.Lui rd immediate
shaped (shape.Upper uppers.AuiPcc rd immediate) = instr.AuiPcc rd immediate
shaped (shape.Upper uppers.AuiCgp rd immediate) = instr.AuiCgp rd immediate
shaped (shape.Jump rd offset) = instr.Jal rd offset
shaped (shape.RegisterJump rd rs1 immediate) = instr.CJalr rd rs1 immediate
shaped (shape.Branch branches.Beq rs1 rs2 offset) = instr.Beq rs1 rs2 offset
shaped (shape.Branch branches.Bne rs1 rs2 offset) = instr.Bne rs1 rs2 offset
shaped (shape.Branch branches.Blt rs1 rs2 offset) = instr.Blt rs1 rs2 offset
shaped (shape.Branch branches.Bge rs1 rs2 offset) = instr.Bge rs1 rs2 offset
shaped (shape.Branch branches.Bltu rs1 rs2 offset) = instr.Bltu rs1 rs2 offset
shaped (shape.Branch branches.Bgeu rs1 rs2 offset) = instr.Bgeu rs1 rs2 offset
shaped (shape.Load loads.Lb rd rs1 immediate) = instr.Lb rd rs1 immediate
shaped (shape.Load loads.Lh rd rs1 immediate) = instr.Lh rd rs1 immediate
shaped (shape.Load loads.Lw rd rs1 immediate) = instr.Lw rd rs1 immediate
shaped (shape.Load loads.Clc rd rs1 immediate) = instr.Clc rd rs1 immediate
shaped (shape.Load loads.Lbu rd rs1 immediate) = instr.Lbu rd rs1 immediate
shaped (shape.Load loads.Lhu rd rs1 immediate) = instr.Lhu rd rs1 immediate
shaped (shape.Store stores.Sb rs1 rs2 immediate) = instr.Sb rs1 rs2 immediate
shaped (shape.Store stores.Sh rs1 rs2 immediate) = instr.Sh rs1 rs2 immediate
shaped (shape.Store stores.Sw rs1 rs2 immediate) = instr.Sw rs1 rs2 immediate
shaped (shape.Store stores.Csc rs1 rs2 immediate) = instr.Csc rs1 rs2 immediate
shaped (shape.Immediate (immediates.Signed signeds.Addi) rd rs1 immediate) =
    instr.Addi rd rs1 immediate
shaped (shape.Immediate (immediates.Signed signeds.Slti) rd rs1 immediate) =
    instr.Slti rd rs1 immediate
shaped (shape.Immediate (immediates.Signed signeds.Sltiu) rd rs1 immediate) =
    instr.Sltiu rd rs1 immediate
shaped (shape.Immediate (immediates.Signed signeds.Xori) rd rs1 immediate) =
    instr.Xori rd rs1 immediate
shaped (shape.Immediate (immediates.Signed signeds.Ori) rd rs1 immediate) =
    instr.Ori rd rs1 immediate
shaped (shape.Immediate (immediates.Signed signeds.Andi) rd rs1 immediate) =
    instr.Andi rd rs1 immediate
shaped (shape.Immediate (immediates.Shift shifts.Slli) rd rs1 amount) = instr.Slli rd rs1 amount
shaped (shape.Immediate (immediates.Shift shifts.Srli) rd rs1 amount) = instr.Srli rd rs1 amount
shaped (shape.Immediate (immediates.Shift shifts.Srai) rd rs1 amount) = instr.Srai rd rs1 amount
shaped (shape.Registers (registers.Integer integers.Add) rd rs1 rs2) = instr.Add rd rs1 rs2
shaped (shape.Registers (registers.Integer integers.Sub) rd rs1 rs2) = instr.Sub rd rs1 rs2
shaped (shape.Registers (registers.Integer integers.Sll) rd rs1 rs2) = instr.Sll rd rs1 rs2
shaped (shape.Registers (registers.Integer integers.Slt) rd rs1 rs2) = instr.Slt rd rs1 rs2
shaped (shape.Registers (registers.Integer integers.Sltu) rd rs1 rs2) = instr.Sltu rd rs1 rs2
shaped (shape.Registers (registers.Integer integers.Xor) rd rs1 rs2) = instr.Xor rd rs1 rs2
shaped (shape.Registers (registers.Integer integers.Srl) rd rs1 rs2) = instr.Srl rd rs1 rs2
shaped (shape.Registers (registers.Integer integers.Sra) rd rs1 rs2) = instr.Sra rd rs1 rs2
shaped (shape.Registers (registers.Integer integers.Or) rd rs1 rs2) = instr.Or rd rs1 rs2
shaped (shape.Registers (registers.Integer integers.And) rd rs1 rs2) = instr.And rd rs1 rs2
shaped (shape.Registers (registers.Integer integers.Mul) rd rs1 rs2) = instr.Mul rd rs1 rs2
shaped (shape.Registers (registers.Integer integers.Mulh) rd rs1 rs2) = instr.Mulh rd rs1 rs2
shaped (shape.Registers (registers.Integer integers.Mulhsu) rd rs1 rs2) = instr.Mulhsu rd rs1 rs2
shaped (shape.Registers (registers.Integer integers.Mulhu) rd rs1 rs2) = instr.Mulhu rd rs1 rs2
shaped (shape.Registers (registers.Integer integers.Div) rd rs1 rs2) = instr.Div rd rs1 rs2
shaped (shape.Registers (registers.Integer integers.Divu) rd rs1 rs2) = instr.Divu rd rs1 rs2
shaped (shape.Registers (registers.Integer integers.Rem) rd rs1 rs2) = instr.Rem rd rs1 rs2
shaped (shape.Registers (registers.Integer integers.Remu) rd rs1 rs2) = instr.Remu rd rs1 rs2
shaped (shape.Fence immediate) = instr.Fence immediate
shaped shape.Call = instr.Ecall
shaped shape.Break = instr.Ebreak
shaped (shape.Status function rd source number) = instr.Csr function rd source number
shaped (shape.Immediate immediates.CIncAddrImm rd rs1 immediate) =
    instr.CIncAddrImm rd rs1 immediate
shaped (shape.Immediate immediates.CSetBoundsImm rd rs1 immediate) =
    instr.CSetBoundsImm rd rs1 immediate
shaped (shape.Special rd rs1 number) = instr.CSpecialRw rd rs1 number
shaped (shape.Registers (registers.Capability capabilities.CSetBounds) rd rs1 rs2) =
    instr.CSetBounds rd rs1 rs2
shaped (shape.Registers (registers.Capability capabilities.CSetBoundsExact) rd rs1 rs2) =
    instr.CSetBoundsExact rd rs1 rs2
shaped (shape.Registers (registers.Capability capabilities.CSeal) rd rs1 rs2) =
    instr.CSeal rd rs1 rs2
shaped (shape.Registers (registers.Capability capabilities.CUnseal) rd rs1 rs2) =
    instr.CUnseal rd rs1 rs2
shaped (shape.Registers (registers.Capability capabilities.CAndPerm) rd rs1 rs2) =
    instr.CAndPerm rd rs1 rs2
shaped (shape.Registers (registers.Capability capabilities.CSetAddr) rd rs1 rs2) =
    instr.CSetAddr rd rs1 rs2
shaped (shape.Registers (registers.Capability capabilities.CIncAddr) rd rs1 rs2) =
    instr.CIncAddr rd rs1 rs2
shaped (shape.Registers (registers.Capability capabilities.CSub) rd rs1 rs2) = instr.CSub rd rs1 rs2
shaped (shape.Registers (registers.Capability capabilities.CSetHigh) rd rs1 rs2) =
    instr.CSetHigh rd rs1 rs2
shaped (shape.Registers (registers.Capability capabilities.CTestSubset) rd rs1 rs2) =
    instr.CTestSubset rd rs1 rs2
shaped (shape.Registers (registers.Capability capabilities.CSetEqualExact) rd rs1 rs2) =
    instr.CSetEqualExact rd rs1 rs2
shaped (shape.OneSource sources.CGetPerm rd rs1) = instr.CGetPerm rd rs1
shaped (shape.OneSource sources.CGetType rd rs1) = instr.CGetType rd rs1
shaped (shape.OneSource sources.CGetBase rd rs1) = instr.CGetBase rd rs1
shaped (shape.OneSource sources.CGetLen rd rs1) = instr.CGetLen rd rs1
shaped (shape.OneSource sources.CGetTag rd rs1) = instr.CGetTag rd rs1
shaped (shape.OneSource sources.Crrl rd rs1) = instr.Crrl rd rs1
shaped (shape.OneSource sources.Cram rd rs1) = instr.Cram rd rs1
shaped (shape.OneSource sources.CMove rd rs1) = instr.CMove rd rs1
shaped (shape.OneSource sources.CClearTag rd rs1) = instr.CClearTag rd rs1
shaped (shape.OneSource sources.CGetAddr rd rs1) = instr.CGetAddr rd rs1
shaped (shape.OneSource sources.CGetHigh rd rs1) = instr.CGetHigh rd rs1
shaped (shape.OneSource sources.CGetTop rd rs1) = instr.CGetTop rd rs1

-- ---- kinds of instructions

-- those that have an integer result from words alone
abbrev pub is_integer_shape : Shape → Bool
is_integer_shape (shape.Registers (registers.Integer operation) rd rs1 rs2) = true
is_integer_shape (shape.Immediate (immediates.Signed operation) rd rs1 n) = true
is_integer_shape (shape.Immediate (immediates.Shift operation) rd rs1 n) = true
is_integer_shape (shape.Upper uppers.Lui rd n) = true
is_integer_shape _ = false

abbrev pub is_integer : Instr → Bool
is_integer i = is_integer_shape (shape_of i)

-- those that write a result made of capabilities
abbrev pub is_capability_shape : Shape → Bool
is_capability_shape (shape.Registers (registers.Capability operation) rd rs1 rs2) = true
is_capability_shape (shape.Immediate immediates.CIncAddrImm rd rs1 n) = true
is_capability_shape (shape.Immediate immediates.CSetBoundsImm rd rs1 n) = true
is_capability_shape (shape.Upper uppers.AuiPcc rd n) = true
is_capability_shape (shape.Upper uppers.AuiCgp rd n) = true
is_capability_shape (shape.OneSource operation rd rs1) = true
is_capability_shape _ = false

abbrev pub is_capability : Instr → Bool
is_capability i = is_capability_shape (shape_of i)

-- those that name a system register: they trap whatever they name
abbrev pub is_system_shape : Shape → Bool
is_system_shape (shape.Status function rd source number) = true
is_system_shape (shape.Special rd rs1 number) = true
is_system_shape _ = false

abbrev pub is_system : Instr → Bool
is_system i = is_system_shape (shape_of i)

-- loads and stores
abbrev pub is_access_shape : Shape → Bool
is_access_shape (shape.Load operation rd rs1 n) = true
is_access_shape (shape.Store operation rs1 rs2 n) = true
is_access_shape _ = false

abbrev pub is_access : Instr → Bool
is_access i = is_access_shape (shape_of i)

-- branches and jumps
abbrev pub is_jump_shape : Shape → Bool
is_jump_shape (shape.Branch operation rs1 rs2 offset) = true
is_jump_shape (shape.Jump rd offset) = true
is_jump_shape (shape.RegisterJump rd rs1 n) = true
is_jump_shape _ = false

abbrev pub is_jump : Instr → Bool
is_jump i = is_jump_shape (shape_of i)
