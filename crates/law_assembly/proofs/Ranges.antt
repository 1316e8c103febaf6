-- The instructions of a lawful statement hold what their fields may hold.
use Rattle.std.proofs.Common.{◌≡◌, ℕ, ◌-◌, ◌/◌, ◌%◌, ◌^◌, ◌<◌, ◌≤◌, Bool, true, false, cond, nat_lt, refl, sym, subst, arith, Option, Some, None}
use Rattle.def_instr.specs.Table.{InRange, FieldsFit, FitsImmediate, IsSigned, IsOffset}
use Rattle.def_instr.specs.Shapes.{shaped}
use Rattle.def_instr.specs.declared.shapes.Shape.{Shape}
use Rattle.def_instr.specs.declared.shapes.ImmediateOperation.{ImmediateOperation}
use Rattle.def_instr.specs.declared.shapes.ImmediateOperation.TheVariants as immediates
use Rattle.ct_isa.proofs.Back.{shape_back}
use Rattle.def_source.specs.declared.reaches.TheConstants.{BRANCH_REACH, JUMP_REACH}
use Rattle.def_source.specs.declared.parts.BareOperation.{BareOperation}
use Rattle.def_source.specs.declared.parts.BareOperation.TheVariants as bare
use Rattle.def_bits.specs.Bits.{extended}
use Rattle.def_source.specs.declared.parts.Number.{Number}
use Rattle.def_source.specs.declared.parts.Target.{Target}
use Rattle.def_source.specs.declared.parts.Target.TheVariants as target
use Rattle.def_object.specs.declared.Label.{Label}
use Rattle.def_source.specs.Source.{Name, within, fits_immediate, fits_target, is_data}
use Rattle.def_object.specs.Object.{Labels, number_word, is_short, bare_instruction, label_offset, target_word, target_fault, reach_fault, is_near, high_piece, low_piece, upper_part, rest_part}
use Rattle.ct_asm.proofs.Reach.{signed_word, small_word, branch_word, jump_word, near_branch, near_jump}

-- ---- shapes

-- an instruction by its shape has the ranges of the shape
pub shaped_range : (s : Shape) → FieldsFit s → InRange (shaped s)
shaped_range s h = subst FieldsFit (sym (shape_back s)) h

under32 : (n : Number) → within 0 31 n ≡ true → number_word n < 32
under32 n e = let h : number_word n ≤ 31 = small_word n 31 (omega arith) e in omega (arith, h)

under4096 : (n : Number) → within 0 4095 n ≡ true → number_word n < 2 ^ 12
under4096 n e = let h : number_word n ≤ 4095 = small_word n 4095 (omega arith) e in omega (arith, h)

pub immediate_range : (operation : ImmediateOperation) (n : Number) → fits_immediate operation n ≡ true → FitsImmediate operation (number_word n)
immediate_range (immediates.Signed operation) n e = signed_word n e
immediate_range (immediates.Shift operation) n e = under32 n e
immediate_range immediates.CIncAddrImm n e = signed_word n e
immediate_range immediates.CSetBoundsImm n e = under4096 n e

pub bares_range : (operation : BareOperation) → InRange (bare_instruction operation)
bares_range bare.Fence = (omega arith, omega arith)
bares_range bare.Ecall = tt
bares_range bare.Ebreak = tt

-- ---- pieces of ways and of numbers

pub high_range : (at to : ℕ) → high_piece at to < 2 ^ 20
high_range at to = by_test (nat_lt to at)
  where
    by_test : (b : Bool) → cond b ((2 ^ 20 - (at - to) / 2 ^ 11 % 2 ^ 20) % 2 ^ 20) ((to - at) / 2 ^ 11 % 2 ^ 20) < 2 ^ 20
    by_test true = omega arith
    by_test false = omega arith

pub low_range : (at to : ℕ) → IsSigned 12 (low_piece at to)
low_range at to = by_test (nat_lt to at)
  where
    by_test : (b : Bool) → IsSigned 12 (cond b ((2 ^ 32 - (at - to) % 2 ^ 11) % 2 ^ 32) ((to - at) % 2 ^ 11))
    by_test true = (omega arith, omega arith)
    by_test false = (omega arith, omega arith)

pub upper_range : (word : ℕ) → upper_part word < 2 ^ 20
upper_range word = omega arith

rest_by : (low : ℕ) → low < 2 ^ 12 → IsSigned 12 (extended 12 low)
rest_by low h = (grind (arith, h), grind (arith, h))

pub rest_range : (word : ℕ) → IsSigned 12 (rest_part word)
rest_range word = rest_by (word % 2 ^ 12) (omega arith)

pub word_small : (n : Number) → number_word n < 2 ^ 32
word_small n = by_test n.negative
  where
    by_test : (b : Bool) → cond b ((2 ^ 32 - n.magnitude % 2 ^ 32) % 2 ^ 32) (n.magnitude % 2 ^ 32) < 2 ^ 32
    by_test true = omega arith
    by_test false = omega arith

pub short_range : (word : ℕ) → word < 2 ^ 32 → is_short word ≡ true → IsSigned 12 word
short_range word small e = (small, grind (arith, e))

pub cut_range : (word : ℕ) → word % 2 ^ 20 < 2 ^ 20
cut_range word = omega arith

-- ---- targets

near_of : (reach at : ℕ) (l : Option Label) → reach_fault reach at l ≡ None → is_near reach at (label_offset l) ≡ true
near_of reach at None e = absurd (cc e)
near_of reach at (Some l) e = by_data (is_data l.section) (is_near reach at l.offset) e
  where
    by_data : (d near : Bool) → cond {A = Option ℕ} d (Some 6) (cond near None (Some 4)) ≡ None → near ≡ true
    by_data true near e = absurd (cc e)
    by_data false true e = refl
    by_data false false e = absurd (cc e)

pub branch_range : (labels : Labels) (at : ℕ) (t : Target Name) → fits_target BRANCH_REACH t ≡ true → target_fault labels BRANCH_REACH at t ≡ None → IsOffset 13 (target_word labels at t)
branch_range labels at (target.Label name) fits found = near_branch at (label_offset (labels name)) (near_of BRANCH_REACH at (labels name) found)
branch_range labels at (target.Offset n) fits found = branch_word n fits

pub jump_range : (labels : Labels) (at : ℕ) (t : Target Name) → fits_target JUMP_REACH t ≡ true → target_fault labels JUMP_REACH at t ≡ None → IsOffset 21 (target_word labels at t)
jump_range labels at (target.Label name) fits found = near_jump at (label_offset (labels name)) (near_of JUMP_REACH at (labels name) found)
jump_range labels at (target.Offset n) fits found = jump_word n fits
