-- The numbers of a lawful statement fit 32 bits.
use Rattle.std.proofs.Common.{◌≡◌, ℕ, ◌-◌, ◌<◌, ◌^◌, ◌%◌, ◌==◌, ◌&&◌, Bool, true, false, arith, cond, nat_le, nat_lt}
use Rattle.std.proofs.lemmas.Bool.{and_parts}
use Rattle.def_instr.specs.declared.shapes.ImmediateOperation.{ImmediateOperation}
use Rattle.def_instr.specs.declared.shapes.ImmediateOperation.TheVariants as immediates
use Rattle.def_profile.specs.declared.limits.TheConstants.{MOST_BYTES}
use Rattle.def_source.specs.declared.reaches.TheConstants.{BRANCH_REACH, JUMP_REACH, MOST_ALIGNMENT}
use Rattle.def_source.specs.declared.parts.Number.{Number}
use Rattle.def_source.specs.declared.parts.Part.{Part}
use Rattle.def_source.specs.declared.parts.Part.TheVariants as part
use Rattle.def_source.specs.declared.parts.Target.{Target}
use Rattle.def_source.specs.declared.parts.Target.TheVariants as target
use Rattle.def_source.specs.Source.{Name, within, numbers_fit, fits_immediate, fits_target}
use Rattle.ct_source.specs.Compact.{IsSmall, AreSmall}

small : (low high : ℕ) (n : Number) → low < 2 ^ 32 → high < 2 ^ 32 → within low high n ≡ true → n.magnitude < 2 ^ 32
small low high n l h e = by_sign n.negative e
  where
    by_sign : (b : Bool) → cond b (nat_le n.magnitude low) (nat_le n.magnitude high) ≡ true → n.magnitude < 2 ^ 32
    by_sign true e = grind (arith, l, e)
    by_sign false e = grind (arith, h, e)

immediate_small : (operation : ImmediateOperation) (n : Number) → fits_immediate operation n ≡ true → n.magnitude < 2 ^ 32
immediate_small (immediates.Signed operation) n e = small 2048 2047 n (omega arith) (omega arith) e
immediate_small (immediates.Shift operation) n e = small 0 31 n (omega arith) (omega arith) e
immediate_small immediates.CIncAddrImm n e = small 2048 2047 n (omega arith) (omega arith) e
immediate_small immediates.CSetBoundsImm n e = small 0 4095 n (omega arith) (omega arith) e

target_small : (reach : ℕ) (t : Target Name) → reach < 2 ^ 32 → fits_target reach t ≡ true → IsSmall t
target_small reach (target.Label name) h e = tt
target_small reach (target.Offset n) h e = small reach (reach - 2) n h (omega (arith, h)) (and_parts (within reach (reach - 2) n) (n.magnitude % 2 == 0) e).0

pub numbers_small : (p : Part Name) → numbers_fit p ≡ true → AreSmall p
numbers_small (part.Word number) e = small (2 ^ 31) (2 ^ 32 - 1) number (omega arith) (omega arith) e
numbers_small (part.Byte number) e = small 128 255 number (omega arith) (omega arith) e
numbers_small (part.Zero number) e = small 0 MOST_BYTES number (omega arith) (omega arith) e
numbers_small (part.Align number) e =
    let one = and_parts (within 0 MOST_ALIGNMENT number && nat_lt 0 number.magnitude) (MOST_ALIGNMENT % number.magnitude == 0) e in
    small 0 MOST_ALIGNMENT number (omega arith) (omega arith) (and_parts (within 0 MOST_ALIGNMENT number) (nat_lt 0 number.magnitude) one.0).0
numbers_small (part.Immediate operation rd rs1 number) e = immediate_small operation number e
numbers_small (part.Upper operation rd number) e = small 524288 1048575 number (omega arith) (omega arith) e
numbers_small (part.Load operation rd number rs1) e = small 2048 2047 number (omega arith) (omega arith) e
numbers_small (part.RegisterJump rd number rs1) e = small 2048 2047 number (omega arith) (omega arith) e
numbers_small (part.Store operation rs2 number rs1) e = small 2048 2047 number (omega arith) (omega arith) e
numbers_small (part.Branch operation rs1 rs2 target) e = target_small BRANCH_REACH target (omega arith) e
numbers_small (part.Jal rd target) e = target_small JUMP_REACH target (omega arith) e
numbers_small (part.Jump target) e = target_small JUMP_REACH target (omega arith) e
numbers_small (part.JumpAndLink rd target) e = target_small JUMP_REACH target (omega arith) e
numbers_small (part.IfZero rs target) e = target_small BRANCH_REACH target (omega arith) e
numbers_small (part.IfNotZero rs target) e = target_small BRANCH_REACH target (omega arith) e
numbers_small (part.LoadImmediate rd number) e = small (2 ^ 31) (2 ^ 32 - 1) number (omega arith) (omega arith) e
numbers_small _ e = tt
