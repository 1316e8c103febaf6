-- The registers of each instruction, and what kind of work it is, by its shape.
use Rattle.std.specs.Prelude.{ℕ}
use Rattle.def_instr.specs.declared.Instr.{Instr}
use Rattle.def_instr.specs.declared.shapes.Shape.{Shape}
use Rattle.def_instr.specs.declared.shapes.Shape.TheVariants as shape
use Rattle.def_instr.specs.declared.shapes.RegisterOperation.TheVariants as registers
use Rattle.def_instr.specs.declared.shapes.ImmediateOperation.TheVariants as immediates
use Rattle.def_instr.specs.declared.shapes.UpperOperation.TheVariants as uppers
use Rattle.def_instr.specs.Shapes.{shape_of}
use Rattle.def_step.specs.declared.Operands.{Operands}
use Rattle.def_step.specs.declared.Class.{Class}
use Rattle.def_step.specs.declared.Class.TheVariants as class

abbrev pub operands : ℕ → ℕ → ℕ → Operands
operands to first second = record { to = to; first = first; second = second }

-- rd, rs1 and rs2; the globals capability is c3
abbrev pub shape_operands : Shape → Operands
shape_operands (shape.Registers operation rd rs1 rs2) = operands rd rs1 rs2
shape_operands (shape.Immediate operation rd rs1 n) = operands rd rs1 0
shape_operands (shape.Upper uppers.AuiCgp rd n) = operands rd 3 0
shape_operands (shape.Upper operation rd n) = operands rd 0 0
shape_operands (shape.Load operation rd rs1 n) = operands rd rs1 0
shape_operands (shape.Store operation rs1 rs2 n) = operands 0 rs1 rs2
shape_operands (shape.Branch operation rs1 rs2 offset) = operands 0 rs1 rs2
shape_operands (shape.Jump rd offset) = operands rd 0 0
shape_operands (shape.RegisterJump rd rs1 n) = operands rd rs1 0
shape_operands (shape.OneSource operation rd rs1) = operands rd rs1 0
shape_operands _ = operands 0 0 0

abbrev pub operands_of : Instr → Operands
operands_of i = shape_operands (shape_of i)

abbrev pub shape_class : Shape → Class
shape_class (shape.Registers (registers.Integer operation) rd rs1 rs2) = class.Integer
shape_class (shape.Registers (registers.Capability operation) rd rs1 rs2) = class.Capability
shape_class (shape.Immediate (immediates.Signed operation) rd rs1 n) = class.Integer
shape_class (shape.Immediate (immediates.Shift operation) rd rs1 n) = class.Integer
shape_class (shape.Immediate operation rd rs1 n) = class.Capability
shape_class (shape.Upper uppers.Lui rd n) = class.Integer
shape_class (shape.Upper operation rd n) = class.Capability
shape_class (shape.Load operation rd rs1 n) = class.Access
shape_class (shape.Store operation rs1 rs2 n) = class.Access
shape_class (shape.Branch operation rs1 rs2 offset) = class.Jump
shape_class (shape.Jump rd offset) = class.Jump
shape_class (shape.RegisterJump rd rs1 n) = class.Jump
shape_class (shape.OneSource operation rd rs1) = class.Capability
shape_class (shape.Fence n) = class.Fence
shape_class shape.Call = class.Call
shape_class shape.Break = class.Break
shape_class (shape.Status function rd source number) = class.System
shape_class (shape.Special rd rs1 number) = class.System

abbrev pub class_of : Instr → Class
class_of i = shape_class (shape_of i)
