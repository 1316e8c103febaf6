-- What statements in few bytes stand for, and which statements fit them.
use Rattle.std.specs.Prelude.{◌<◌, ◌^◌}
use Rattle.def_source.specs.Source.{Name}
use Rattle.def_source.specs.declared.parts.Number.{Number}
use Rattle.def_source.specs.declared.parts.Part.{Part}
use Rattle.def_source.specs.declared.parts.Part.TheVariants as part
use Rattle.def_source.specs.declared.parts.Target.{Target}
use Rattle.def_source.specs.declared.parts.Target.TheVariants as target
use Rattle.ct_source.specs.declared.compact.CompactNumber.{CompactNumber}
use Rattle.ct_source.specs.declared.compact.CompactTarget.{CompactTarget}
use Rattle.ct_source.specs.declared.compact.CompactTarget.TheVariants as few_target
use Rattle.ct_source.specs.declared.compact.CompactPart.{CompactPart}
use Rattle.ct_source.specs.declared.compact.CompactPart.TheVariants as few

abbrev pub compact_number : CompactNumber → Number
compact_number n = record { negative = n.negative; magnitude = n.magnitude }

abbrev pub compact_target : CompactTarget → Target Name
compact_target (few_target.Label name) = target.Label name.now
compact_target (few_target.Offset n) = target.Offset (compact_number n)

abbrev pub compact_part : CompactPart → Part Name
compact_part (few.Label name) = part.Label name.now
compact_part few.Text = part.Text
compact_part few.Data = part.Data
compact_part (few.Word number) = part.Word (compact_number number)
compact_part (few.Byte number) = part.Byte (compact_number number)
compact_part (few.Zero number) = part.Zero (compact_number number)
compact_part (few.Align number) = part.Align (compact_number number)
compact_part (few.Registers operation rd rs1 rs2) = part.Registers operation rd rs1 rs2
compact_part (few.Immediate operation rd rs1 number) =
    part.Immediate operation rd rs1 (compact_number number)
compact_part (few.Upper operation rd number) = part.Upper operation rd (compact_number number)
compact_part (few.Load operation rd number rs1) =
    part.Load operation rd (compact_number number) rs1
compact_part (few.RegisterJump rd number rs1) = part.RegisterJump rd (compact_number number) rs1
compact_part (few.JumpCapability rd rs1) = part.JumpCapability rd rs1
compact_part (few.Store operation rs2 number rs1) =
    part.Store operation rs2 (compact_number number) rs1
compact_part (few.Branch operation rs1 rs2 target) =
    part.Branch operation rs1 rs2 (compact_target target)
compact_part (few.Jal rd target) = part.Jal rd (compact_target target)
compact_part (few.Source operation rd rs1) = part.Source operation rd rs1
compact_part (few.Bare operation) = part.Bare operation
compact_part few.Nop = part.Nop
compact_part (few.Move rd rs) = part.Move rd rs
compact_part (few.Jump target) = part.Jump (compact_target target)
compact_part (few.JumpAndLink rd target) = part.JumpAndLink rd (compact_target target)
compact_part few.Return = part.Return
compact_part (few.JumpRegister rs) = part.JumpRegister rs
compact_part (few.IfZero rs target) = part.IfZero rs (compact_target target)
compact_part (few.IfNotZero rs target) = part.IfNotZero rs (compact_target target)
compact_part (few.LoadImmediate rd number) = part.LoadImmediate rd (compact_number number)
compact_part (few.Import rd name) = part.Import rd name.now
compact_part (few.TextAddress rd label) = part.TextAddress rd label.now
compact_part (few.GlobalAddress rd label) = part.GlobalAddress rd label.now

-- an offset that fits 32 bits, where a target is one
abbrev pub IsSmall : Target Name → Type 0
IsSmall (target.Label name) = Unit {0}
IsSmall (target.Offset n) = n.magnitude < 2 ^ 32

-- each number fits 32 bits
abbrev pub AreSmall : Part Name → Type 0
AreSmall (part.Word number) = number.magnitude < 2 ^ 32
AreSmall (part.Byte number) = number.magnitude < 2 ^ 32
AreSmall (part.Zero number) = number.magnitude < 2 ^ 32
AreSmall (part.Align number) = number.magnitude < 2 ^ 32
AreSmall (part.Immediate operation rd rs1 number) = number.magnitude < 2 ^ 32
AreSmall (part.Upper operation rd number) = number.magnitude < 2 ^ 32
AreSmall (part.Load operation rd number rs1) = number.magnitude < 2 ^ 32
AreSmall (part.RegisterJump rd number rs1) = number.magnitude < 2 ^ 32
AreSmall (part.Store operation rs2 number rs1) = number.magnitude < 2 ^ 32
AreSmall (part.Branch operation rs1 rs2 target) = IsSmall target
AreSmall (part.Jal rd target) = IsSmall target
AreSmall (part.Jump target) = IsSmall target
AreSmall (part.JumpAndLink rd target) = IsSmall target
AreSmall (part.IfZero rs target) = IsSmall target
AreSmall (part.IfNotZero rs target) = IsSmall target
AreSmall (part.LoadImmediate rd number) = number.magnitude < 2 ^ 32
AreSmall _ = Unit {0}
