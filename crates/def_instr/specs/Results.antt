-- What the integer instructions give, from the words of their operands: *Integer results*.
-- RISC-V Unprivileged ISA, "RV32I Base Integer Instruction Set" and "M Extension for Integer
-- Multiplication and Division". Signed results are said on signed numbers, and a number becomes a
-- word modulo 2^32.
use Rattle.std.specs.Prelude.{ℕ, ◌+◌, ◌-◌, ◌*◌, ◌/◌, ◌%◌, ◌^◌, Bool, ◌==◌, nat_lt, if◌then◌else◌, ℤ, pos, ◌*ℤ◌, int_div, int_rem, int_lt, unsigned_abs, bit_and, bit_or, bit_xor}
use Rattle.std.specs.Int.{w32, cast_signed, int_rem_euclid, int_shr}
use Rattle.def_instr.specs.declared.Instr.{Instr}
use Rattle.def_instr.specs.declared.Instr.TheVariants.{Lui, Addi, Slti, Sltiu, Xori, Ori, Andi, Slli, Srli, Srai, Add, Sub, Sll, Slt, Sltu, Xor, Srl, Sra, Or, And, Mul, Mulh, Mulhsu, Mulhu, Div, Divu, Rem, Remu}

-- the signed number that a 32-bit word stands for
abbrev pub signed : ℕ → ℤ
signed n = cast_signed w32 n

-- the 32-bit word that stands for a number modulo 2^32, and the word above it
abbrev pub low_word : ℤ → ℕ
low_word z = unsigned_abs (int_rem_euclid z (pos (2 ^ 32)))

abbrev pub high_word : ℤ → ℕ
high_word z = low_word (int_shr z 32)

-- 1 or 0
abbrev pub truth : Bool → ℕ
truth b = if b then 1 else 0

-- shifts by the low five bits of the amount; right shifts round down
abbrev pub shifted_left : ℕ → ℕ → ℕ
shifted_left x by = x * 2 ^ (by % 32) % 2 ^ 32

abbrev pub shifted_right : ℕ → ℕ → ℕ
shifted_right x by = x / 2 ^ (by % 32)

abbrev pub shifted_right_signed : ℕ → ℕ → ℕ
shifted_right_signed x by = low_word (int_shr (signed x) (by % 32))

-- the result for the words x of rs1 and y of rs2; 0 where the instruction is no integer instruction
abbrev pub integer_result : Instr → ℕ → ℕ → ℕ
integer_result (Lui rd immediate) x y = immediate * 2 ^ 12 % 2 ^ 32
integer_result (Addi rd rs1 immediate) x y = (x + immediate) % 2 ^ 32
integer_result (Slti rd rs1 immediate) x y = truth (int_lt (signed x) (signed immediate))
integer_result (Sltiu rd rs1 immediate) x y = truth (nat_lt x immediate)
integer_result (Xori rd rs1 immediate) x y = bit_xor x immediate
integer_result (Ori rd rs1 immediate) x y = bit_or x immediate
integer_result (Andi rd rs1 immediate) x y = bit_and x immediate
integer_result (Slli rd rs1 amount) x y = shifted_left x amount
integer_result (Srli rd rs1 amount) x y = shifted_right x amount
integer_result (Srai rd rs1 amount) x y = shifted_right_signed x amount
integer_result (Add rd rs1 rs2) x y = (x + y) % 2 ^ 32
integer_result (Sub rd rs1 rs2) x y = (x + (2 ^ 32 - y)) % 2 ^ 32
integer_result (Sll rd rs1 rs2) x y = shifted_left x y
integer_result (Slt rd rs1 rs2) x y = truth (int_lt (signed x) (signed y))
integer_result (Sltu rd rs1 rs2) x y = truth (nat_lt x y)
integer_result (Xor rd rs1 rs2) x y = bit_xor x y
integer_result (Srl rd rs1 rs2) x y = shifted_right x y
integer_result (Sra rd rs1 rs2) x y = shifted_right_signed x y
integer_result (Or rd rs1 rs2) x y = bit_or x y
integer_result (And rd rs1 rs2) x y = bit_and x y
integer_result (Mul rd rs1 rs2) x y = x * y % 2 ^ 32
integer_result (Mulh rd rs1 rs2) x y = high_word (signed x *ℤ signed y)
integer_result (Mulhsu rd rs1 rs2) x y = high_word (signed x *ℤ pos y)
integer_result (Mulhu rd rs1 rs2) x y = high_word (pos (x * y))
integer_result (Div rd rs1 rs2) x y =
    if y == 0 then 2 ^ 32 - 1 else low_word (int_div (signed x) (signed y))
integer_result (Divu rd rs1 rs2) x y = if y == 0 then 2 ^ 32 - 1 else x / y
integer_result (Rem rd rs1 rs2) x y = if y == 0 then x else low_word (int_rem (signed x) (signed y))
integer_result (Remu rd rs1 rs2) x y = if y == 0 then x else x % y
integer_result _ x y = 0
