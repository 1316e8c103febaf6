-- A shape is one instruction's: from an instruction to its shape and back, and from a shape.
use Rattle.std.proofs.Common.{◌≡◌, refl}
use Rattle.def_instr.specs.declared.Instr.{Instr}
use Rattle.def_instr.specs.declared.Instr.TheVariants.{Ecall}
use Rattle.def_instr.specs.declared.shapes.IntegerOperation.TheVariants as integers
use Rattle.def_instr.specs.declared.shapes.CapabilityOperation.TheVariants as capabilities
use Rattle.def_instr.specs.declared.shapes.RegisterOperation.TheVariants as registers
use Rattle.def_instr.specs.declared.shapes.SignedOperation.TheVariants as signeds
use Rattle.def_instr.specs.declared.shapes.ShiftOperation.TheVariants as shifts
use Rattle.def_instr.specs.declared.shapes.ImmediateOperation.TheVariants as immediates
use Rattle.def_instr.specs.declared.shapes.UpperOperation.TheVariants as uppers
use Rattle.def_instr.specs.declared.shapes.LoadOperation.TheVariants as loads
use Rattle.def_instr.specs.declared.shapes.StoreOperation.TheVariants as stores
use Rattle.def_instr.specs.declared.shapes.BranchOperation.TheVariants as branches
use Rattle.def_instr.specs.declared.shapes.SourceOperation.TheVariants as sources
use Rattle.def_instr.specs.declared.shapes.Shape.TheVariants as shape
use Rattle.def_instr.specs.declared.shapes.Shape.{Shape}
use Rattle.def_instr.specs.Shapes.{shape_of, shaped}

pub shaped_back : (i : Instr) → shaped (shape_of i) ≡ i
shaped_back Ecall = refl
shaped_back i = refl

pub shape_back : (s : Shape) → shape_of (shaped s) ≡ s
shape_back (shape.Registers (registers.Integer integers.Add) d a b) = refl
shape_back (shape.Registers (registers.Capability capabilities.CSeal) d a b) = refl
shape_back (shape.Immediate (immediates.Signed signeds.Addi) d a n) = refl
shape_back (shape.Immediate (immediates.Shift shifts.Slli) d a n) = refl
shape_back (shape.Upper uppers.Lui d n) = refl
shape_back (shape.Load loads.Lb d a n) = refl
shape_back (shape.Store stores.Sb a b n) = refl
shape_back (shape.Branch branches.Beq a b n) = refl
shape_back (shape.OneSource sources.CMove d a) = refl
shape_back s = refl
