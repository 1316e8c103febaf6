-- Where the table gives an instruction a word, that instruction is read from the word: one case for
-- each shape, over one lemma for each format.
use Rattle.std.proofs.Common.{◌≡◌, ℕ, ◌+◌, ◌*◌, ◌/◌, ◌%◌, ◌^◌, ◌<◌, ◌≤◌, cond, Option, Some, None, IsNone, IfSome, refl, ap, subst, ◌∙◌, arith, lit<, ◌⊎◌, inl, inr}
use Rattle.def_instr.specs.Table.{format_r, format_i, format_s, format_b, format_u, format_j, IsSigned, IsOffset, EncodesTo, FieldsFit, shape_word, integer_code, capability_funct7, signed_funct3, shift_code, upper_opcode, load_funct3, store_funct3, branch_funct3, source_number}
use Rattle.def_instr.specs.Shapes.{shape_of, shaped}
use Rattle.ct_isa.proofs.Back.{shaped_back}
use Rattle.def_bits.specs.Bits.{extended}
use Rattle.def_instr.specs.Reading.{cut_of, instruction_of, instruction_in, one_small, two_small, three_small}
use Rattle.def_instr.specs.declared.shapes.IntegerOperation.{IntegerOperation}
use Rattle.def_instr.specs.declared.shapes.IntegerOperation.TheVariants as integers
use Rattle.def_instr.specs.declared.shapes.CapabilityOperation.{CapabilityOperation}
use Rattle.def_instr.specs.declared.shapes.CapabilityOperation.TheVariants as capabilities
use Rattle.def_instr.specs.declared.shapes.RegisterOperation.TheVariants as registers
use Rattle.def_instr.specs.declared.shapes.SignedOperation.{SignedOperation}
use Rattle.def_instr.specs.declared.shapes.SignedOperation.TheVariants as signeds
use Rattle.def_instr.specs.declared.shapes.ShiftOperation.{ShiftOperation}
use Rattle.def_instr.specs.declared.shapes.ShiftOperation.TheVariants as shifts
use Rattle.def_instr.specs.declared.shapes.ImmediateOperation.TheVariants as immediates
use Rattle.def_instr.specs.declared.shapes.UpperOperation.{UpperOperation}
use Rattle.def_instr.specs.declared.shapes.UpperOperation.TheVariants as uppers
use Rattle.def_instr.specs.declared.shapes.LoadOperation.{LoadOperation}
use Rattle.def_instr.specs.declared.shapes.LoadOperation.TheVariants as loads
use Rattle.def_instr.specs.declared.shapes.StoreOperation.{StoreOperation}
use Rattle.def_instr.specs.declared.shapes.StoreOperation.TheVariants as stores
use Rattle.def_instr.specs.declared.shapes.BranchOperation.{BranchOperation}
use Rattle.def_instr.specs.declared.shapes.BranchOperation.TheVariants as branches
use Rattle.def_instr.specs.declared.shapes.SourceOperation.{SourceOperation}
use Rattle.def_instr.specs.declared.shapes.SourceOperation.TheVariants as sources
use Rattle.def_instr.specs.declared.shapes.Shape.{Shape}
use Rattle.def_instr.specs.declared.shapes.Shape.TheVariants as shape
use Rattle.def_instr.specs.declared.Fields.{Fields}
use Rattle.def_instr.specs.declared.Instr.{Instr}
use Rattle.def_instr.specs.declared.Instr.TheVariants.{Lui, Jal, CJalr, Beq, Lb, Sb, Addi, CIncAddrImm, CSetBoundsImm, Fence, Csr}

-- six fields in a row
abbrev fields : ℕ → ℕ → ℕ → ℕ → ℕ → ℕ → Fields
fields opcode funct3 funct7 rd rs1 rs2 = record { opcode = opcode; rd = rd; funct3 = funct3; rs1 = rs1; rs2 = rs2; funct7 = funct7 }

-- what is joined is cut again
cut_r : (o f g d a b : ℕ) → o < 2 ^ 7 → f < 2 ^ 3 → g < 2 ^ 7 → d < 2 ^ 5 → a < 2 ^ 5 → b < 2 ^ 5 → cut_of (format_r o f g d a b) ≡ fields o f g d a b
cut_r o f g d a b ho hf hg hd ha hb =
    let w : ℕ = o + d * 2 ^ 7 + f * 2 ^ 12 + a * 2 ^ 15 + b * 2 ^ 20 + g * 2 ^ 25 in
    let e1 : w % 2 ^ 7 ≡ o = omega arith in
    let e2 : w / 2 ^ 7 % 2 ^ 5 ≡ d = omega arith in
    let e3 : w / 2 ^ 12 % 2 ^ 3 ≡ f = omega arith in
    let e4 : w / 2 ^ 15 % 2 ^ 5 ≡ a = omega arith in
    let e5 : w / 2 ^ 20 % 2 ^ 5 ≡ b = omega arith in
    let e6 : w / 2 ^ 25 ≡ g = omega arith in
    cc

-- the other formats are format R with the immediate in pieces
cut_i : (o f d a n : ℕ) → o < 2 ^ 7 → f < 2 ^ 3 → d < 2 ^ 5 → a < 2 ^ 5 → cut_of (format_i o f d a n) ≡ fields o f (n / 2 ^ 5 % 2 ^ 7) d a (n % 2 ^ 5)
cut_i o f d a n ho hf hd ha =
    let e : format_i o f d a n ≡ format_r o f (n / 2 ^ 5 % 2 ^ 7) d a (n % 2 ^ 5) = omega arith in
    ap cut_of e ∙ cut_r o f (n / 2 ^ 5 % 2 ^ 7) d a (n % 2 ^ 5) ho hf (omega arith) hd ha (omega arith)

cut_s : (o f a b n : ℕ) → o < 2 ^ 7 → f < 2 ^ 3 → a < 2 ^ 5 → b < 2 ^ 5 → cut_of (format_s o f a b n) ≡ fields o f (n / 2 ^ 5 % 2 ^ 7) (n % 2 ^ 5) a b
cut_s o f a b n ho hf ha hb = cut_r o f (n / 2 ^ 5 % 2 ^ 7) (n % 2 ^ 5) a b ho hf (omega arith) (omega arith) ha hb

cut_b : (o f a b n : ℕ) → o < 2 ^ 7 → f < 2 ^ 3 → a < 2 ^ 5 → b < 2 ^ 5 → cut_of (format_b o f a b n) ≡ fields o f (n / 2 ^ 5 % 2 ^ 6 + n / 2 ^ 12 % 2 * 2 ^ 6) (n / 2 ^ 11 % 2 + n / 2 % 2 ^ 4 * 2) a b
cut_b o f a b n ho hf ha hb =
    let e : format_b o f a b n ≡ format_r o f (n / 2 ^ 5 % 2 ^ 6 + n / 2 ^ 12 % 2 * 2 ^ 6) (n / 2 ^ 11 % 2 + n / 2 % 2 ^ 4 * 2) a b = omega arith in
    ap cut_of e ∙ cut_r o f (n / 2 ^ 5 % 2 ^ 6 + n / 2 ^ 12 % 2 * 2 ^ 6) (n / 2 ^ 11 % 2 + n / 2 % 2 ^ 4 * 2) a b ho hf (omega arith) (omega arith) ha hb

cut_u : (o d n : ℕ) → o < 2 ^ 7 → d < 2 ^ 5 → n < 2 ^ 20 → cut_of (format_u o d n) ≡ fields o (n % 2 ^ 3) (n / 2 ^ 13) d (n / 2 ^ 3 % 2 ^ 5) (n / 2 ^ 8 % 2 ^ 5)
cut_u o d n ho hd hn =
    let e : format_u o d n ≡ format_r o (n % 2 ^ 3) (n / 2 ^ 13) d (n / 2 ^ 3 % 2 ^ 5) (n / 2 ^ 8 % 2 ^ 5) = omega arith in
    ap cut_of e ∙ cut_r o (n % 2 ^ 3) (n / 2 ^ 13) d (n / 2 ^ 3 % 2 ^ 5) (n / 2 ^ 8 % 2 ^ 5) ho (omega arith) (omega arith) hd (omega arith) (omega arith)

cut_j : (o d n : ℕ) → o < 2 ^ 7 → d < 2 ^ 5 → cut_of (format_j o d n) ≡ fields o (n / 2 ^ 12 % 2 ^ 3) (n / 2 ^ 5 % 2 ^ 6 + n / 2 ^ 20 % 2 * 2 ^ 6) d (n / 2 ^ 15 % 2 ^ 5) (n / 2 ^ 11 % 2 + n / 2 % 2 ^ 4 * 2)
cut_j o d n ho hd =
    let e : format_j o d n ≡ format_r o (n / 2 ^ 12 % 2 ^ 3) (n / 2 ^ 5 % 2 ^ 6 + n / 2 ^ 20 % 2 * 2 ^ 6) d (n / 2 ^ 15 % 2 ^ 5) (n / 2 ^ 11 % 2 + n / 2 % 2 ^ 4 * 2) = omega arith in
    ap cut_of e ∙ cut_r o (n / 2 ^ 12 % 2 ^ 3) (n / 2 ^ 5 % 2 ^ 6 + n / 2 ^ 20 % 2 * 2 ^ 6) d (n / 2 ^ 15 % 2 ^ 5) (n / 2 ^ 11 % 2 + n / 2 % 2 ^ 4 * 2) ho (omega arith) (omega arith) hd (omega arith) (omega arith)

-- a signed number comes back from its low bits
back12 : (n : ℕ) → IsSigned 12 n → extended 12 (n % 2 ^ 5 + n / 2 ^ 5 % 2 ^ 7 * 2 ^ 5) ≡ n
back12 n h = grind (arith, h.0, h.1)

back_pieces : (n : ℕ) → n < 2 ^ 12 → n % 2 ^ 5 + n / 2 ^ 5 % 2 ^ 7 * 2 ^ 5 ≡ n
back_pieces n h = omega arith

back13 : (n m : ℕ) → IsOffset 13 n → m ≡ n % 2 ^ 13 → extended 13 m ≡ n
back13 n m h e = grind (arith, h.0.0, h.0.1, e)

back21 : (n m : ℕ) → IsOffset 21 n → m ≡ n % 2 ^ 21 → extended 21 m ≡ n
back21 n m h e = grind (arith, h.0.0, h.0.1, e)

branch_pieces : (n d g : ℕ) → n % 2 ≡ 0 → d ≡ n / 2 ^ 11 % 2 + n / 2 % 2 ^ 4 * 2 → g ≡ n / 2 ^ 5 % 2 ^ 6 + n / 2 ^ 12 % 2 * 2 ^ 6 → d / 2 * 2 + g % 2 ^ 6 * 2 ^ 5 + d % 2 * 2 ^ 11 + g / 2 ^ 6 * 2 ^ 12 ≡ n % 2 ^ 13
branch_pieces n d g even hd hg = omega arith

jump_pieces : (n b g f a : ℕ) → n % 2 ≡ 0 → b ≡ n / 2 ^ 11 % 2 + n / 2 % 2 ^ 4 * 2 → g ≡ n / 2 ^ 5 % 2 ^ 6 + n / 2 ^ 20 % 2 * 2 ^ 6 → f ≡ n / 2 ^ 12 % 2 ^ 3 → a ≡ n / 2 ^ 15 % 2 ^ 5 → b / 2 * 2 + g % 2 ^ 6 * 2 ^ 5 + b % 2 * 2 ^ 11 + f * 2 ^ 12 + a * 2 ^ 15 + g / 2 ^ 6 * 2 ^ 20 ≡ n % 2 ^ 21
jump_pieces n b g f a even hb hg hf ha = omega arith

upper_pieces : (n : ℕ) → n < 2 ^ 20 → n % 2 ^ 3 + n / 2 ^ 3 % 2 ^ 5 * 2 ^ 3 + n / 2 ^ 8 % 2 ^ 5 * 2 ^ 8 + n / 2 ^ 13 * 2 ^ 13 ≡ n
upper_pieces n h = omega arith

-- registers that the machine has
keep1 : {A : Type 0} (a : ℕ) (x y : A) → a < 16 → cond (one_small a) x y ≡ x
keep1 a x y h = grind (arith, h)

keep2 : {A : Type 0} (a b : ℕ) (x y : A) → a < 16 → b < 16 → cond (two_small a b) x y ≡ x
keep2 a b x y h k = grind (arith, h, k)

keep3 : {A : Type 0} (a b c : ℕ) (x y : A) → a < 16 → b < 16 → c < 16 → cond (three_small a b c) x y ≡ x
keep3 a b c x y h k l = grind (arith, h, k, l)

wide : (n : ℕ) → n < 16 → n < 2 ^ 5
wide n h = omega arith

-- from the fields of a word to the instruction that is read
from_cut : (w v : ℕ) (f : Fields) (i : Instr) → w ≡ v → cut_of v ≡ f → instruction_of f ≡ Some i → instruction_in w ≡ Some i
from_cut w v f i e cut read = ap instruction_in e ∙ ap instruction_of cut ∙ read

-- the functions of a system register that is read: the source is a register, or any five bits
csr_read : (f d s g b : ℕ) → d < 16 → ((1 ≤ f) × (f ≤ 3) × (s < 16)) ⊎ ((5 ≤ f) × (f ≤ 7) × (s < 32)) → instruction_of (fields 0x73 f g d s b) ≡ Some (Csr f d s (b + g * 2 ^ 5))
csr_read f d s g b hd (inl h) = grind (arith, hd, h.0, h.1, h.2)
csr_read f d s g b hd (inr h) = grind (arith, hd, h.0, h.1, h.2)

csr_complete : (function rd source number w : ℕ) → w ≡ format_i 0x73 function rd source number → rd < 16 → ((1 ≤ function) × (function ≤ 3) × (source < 16)) ⊎ ((5 ≤ function) × (function ≤ 7) × (source < 32)) → number < 2 ^ 12 → instruction_in w ≡ Some (Csr function rd source number)
csr_complete f d s n w e hd h hn =
    let small : f < 2 ^ 3 = elim h [ inl k ↦ omega (arith, k.1) | inr k ↦ omega (arith, k.1) ] in
    let five : s < 2 ^ 5 = elim h [ inl k ↦ omega (arith, k.2) | inr k ↦ omega (arith, k.2) ] in
    from_cut w _ _ _ e (cut_i 0x73 f d s n (lit< tt) small (wide d hd) five) (csr_read f d s _ _ hd h ∙ ap (λ m. Some (Csr f d s m)) (back_pieces n hn))

-- ---- the operations of each shape

integer_small : (o : IntegerOperation) → ((integer_code o).funct3 < 2 ^ 3) × ((integer_code o).funct7 < 2 ^ 7)
integer_small integers.Add = (lit< tt, lit< tt)
integer_small o = (lit< tt, lit< tt)

integer_read : (o : IntegerOperation) (d a b : ℕ) → d < 16 → a < 16 → b < 16
    → instruction_of (fields 0x33 (integer_code o).funct3 (integer_code o).funct7 d a b)
    ≡ Some (shaped (shape.Registers (registers.Integer o) d a b))
integer_read integers.Add d a b hd ha hb = keep3 d a b _ _ hd ha hb
integer_read o d a b hd ha hb = keep3 d a b _ _ hd ha hb

capability_small : (o : CapabilityOperation) → capability_funct7 o < 2 ^ 7
capability_small capabilities.CSeal = lit< tt
capability_small o = lit< tt

capability_read : (o : CapabilityOperation) (d a b : ℕ) → d < 16 → a < 16 → b < 16
    → instruction_of (fields 0x5B 0 (capability_funct7 o) d a b)
    ≡ Some (shaped (shape.Registers (registers.Capability o) d a b))
capability_read capabilities.CSeal d a b hd ha hb = keep2 d a _ _ hd ha ∙ keep1 b _ _ hb
capability_read o d a b hd ha hb = keep2 d a _ _ hd ha ∙ keep1 b _ _ hb

signed_small : (o : SignedOperation) → signed_funct3 o < 2 ^ 3
signed_small signeds.Addi = lit< tt
signed_small o = lit< tt

signed_read : (o : SignedOperation) (d a n : ℕ) → d < 16 → a < 16 → IsSigned 12 n
    → instruction_of (fields 0x13 (signed_funct3 o) (n / 2 ^ 5 % 2 ^ 7) d a (n % 2 ^ 5))
    ≡ Some (shaped (shape.Immediate (immediates.Signed o) d a n))
signed_read signeds.Addi d a n hd ha hn = keep2 d a _ _ hd ha ∙ ap (λ m. Some (Addi d a m)) (back12 n hn)
signed_read o d a n hd ha hn =
    keep2 d a _ _ hd ha ∙ ap (λ m. Some (shaped (shape.Immediate (immediates.Signed o) d a m))) (back12 n hn)

shift_small : (o : ShiftOperation) → ((shift_code o).funct3 < 2 ^ 3) × ((shift_code o).funct7 < 2 ^ 7)
shift_small shifts.Slli = (lit< tt, lit< tt)
shift_small o = (lit< tt, lit< tt)

shift_read : (o : ShiftOperation) (d a n : ℕ) → d < 16 → a < 16
    → instruction_of (fields 0x13 (shift_code o).funct3 (shift_code o).funct7 d a n)
    ≡ Some (shaped (shape.Immediate (immediates.Shift o) d a n))
shift_read shifts.Slli d a n hd ha = keep2 d a _ _ hd ha
shift_read o d a n hd ha = keep2 d a _ _ hd ha

upper_small : (o : UpperOperation) → upper_opcode o < 2 ^ 7
upper_small uppers.Lui = lit< tt
upper_small o = lit< tt

upper_read : (o : UpperOperation) (d n : ℕ) → d < 16 → n < 2 ^ 20
    → instruction_of (fields (upper_opcode o) (n % 2 ^ 3) (n / 2 ^ 13) d (n / 2 ^ 3 % 2 ^ 5) (n / 2 ^ 8 % 2 ^ 5))
    ≡ Some (shaped (shape.Upper o d n))
upper_read uppers.Lui d n hd hn = keep1 d _ _ hd ∙ ap (λ m. Some (Lui d m)) (upper_pieces n hn)
upper_read o d n hd hn = keep1 d _ _ hd ∙ ap (λ m. Some (shaped (shape.Upper o d m))) (upper_pieces n hn)

load_small : (o : LoadOperation) → load_funct3 o < 2 ^ 3
load_small loads.Lb = lit< tt
load_small o = lit< tt

load_read : (o : LoadOperation) (d a n : ℕ) → d < 16 → a < 16 → IsSigned 12 n
    → instruction_of (fields 0x03 (load_funct3 o) (n / 2 ^ 5 % 2 ^ 7) d a (n % 2 ^ 5))
    ≡ Some (shaped (shape.Load o d a n))
load_read loads.Lb d a n hd ha hn = keep2 d a _ _ hd ha ∙ ap (λ m. Some (Lb d a m)) (back12 n hn)
load_read o d a n hd ha hn = keep2 d a _ _ hd ha ∙ ap (λ m. Some (shaped (shape.Load o d a m))) (back12 n hn)

store_small : (o : StoreOperation) → store_funct3 o < 2 ^ 3
store_small stores.Sb = lit< tt
store_small o = lit< tt

store_read : (o : StoreOperation) (a b n : ℕ) → a < 16 → b < 16 → IsSigned 12 n
    → instruction_of (fields 0x23 (store_funct3 o) (n / 2 ^ 5 % 2 ^ 7) (n % 2 ^ 5) a b)
    ≡ Some (shaped (shape.Store o a b n))
store_read stores.Sb a b n ha hb hn = keep2 a b _ _ ha hb ∙ ap (λ m. Some (Sb a b m)) (back12 n hn)
store_read o a b n ha hb hn = keep2 a b _ _ ha hb ∙ ap (λ m. Some (shaped (shape.Store o a b m))) (back12 n hn)

branch_small : (o : BranchOperation) → branch_funct3 o < 2 ^ 3
branch_small branches.Beq = lit< tt
branch_small o = lit< tt

branch_read : (o : BranchOperation) (a b n : ℕ) → a < 16 → b < 16 → IsOffset 13 n
    → instruction_of (fields 0x63 (branch_funct3 o) (n / 2 ^ 5 % 2 ^ 6 + n / 2 ^ 12 % 2 * 2 ^ 6) (n / 2 ^ 11 % 2 + n / 2 % 2 ^ 4 * 2) a b)
    ≡ Some (shaped (shape.Branch o a b n))
branch_read branches.Beq a b n ha hb hn = keep2 a b _ _ ha hb
    ∙ ap (λ m. Some (Beq a b m)) (back13 n _ hn (branch_pieces n _ _ hn.1 refl refl))
branch_read o a b n ha hb hn = keep2 a b _ _ ha hb
    ∙ ap (λ m. Some (shaped (shape.Branch o a b m))) (back13 n _ hn (branch_pieces n _ _ hn.1 refl refl))

source_small : (o : SourceOperation) → source_number o < 2 ^ 5
source_small sources.CMove = lit< tt
source_small o = lit< tt

source_read : (o : SourceOperation) (d a : ℕ) → d < 16 → a < 16
    → instruction_of (fields 0x5B 0 0x7F d a (source_number o)) ≡ Some (shaped (shape.OneSource o d a))
source_read sources.CMove d a hd ha = keep2 d a _ _ hd ha
source_read o d a hd ha = keep2 d a _ _ hd ha

-- ---- each shape

shape_read : (s : Shape) (w : ℕ) → FieldsFit s → w ≡ shape_word s → instruction_in w ≡ Some (shaped s)
shape_read (shape.Registers (registers.Integer o) d a b) w h e =
    let small = integer_small o in
    let cut = cut_r 0x33 _ _ d a b (lit< tt) small.0 small.1 (wide d h.0) (wide a h.1) (wide b h.2) in
    from_cut w _ _ _ e cut (integer_read o d a b h.0 h.1 h.2)
shape_read (shape.Registers (registers.Capability o) d a b) w h e =
    let cut = cut_r 0x5B 0 _ d a b (lit< tt) (lit< tt) (capability_small o) (wide d h.0) (wide a h.1) (wide b h.2) in
    from_cut w _ _ _ e cut (capability_read o d a b h.0 h.1 h.2)
shape_read (shape.Immediate (immediates.Signed o) d a n) w h e =
    let cut = cut_i 0x13 _ d a n (lit< tt) (signed_small o) (wide d h.0) (wide a h.1) in
    from_cut w _ _ _ e cut (signed_read o d a n h.0 h.1 h.2)
shape_read (shape.Immediate (immediates.Shift o) d a n) w h e =
    let small = shift_small o in
    let cut = cut_r 0x13 _ _ d a n (lit< tt) small.0 small.1 (wide d h.0) (wide a h.1) h.2 in
    from_cut w _ _ _ e cut (shift_read o d a n h.0 h.1)
shape_read (shape.Immediate immediates.CIncAddrImm d a n) w h e =
    let cut = cut_i 0x5B 1 d a n (lit< tt) (lit< tt) (wide d h.0) (wide a h.1) in
    from_cut w _ _ _ e cut (keep2 d a _ _ h.0 h.1 ∙ ap (λ m. Some (CIncAddrImm d a m)) (back12 n h.2))
shape_read (shape.Immediate immediates.CSetBoundsImm d a n) w h e =
    let cut = cut_i 0x5B 2 d a n (lit< tt) (lit< tt) (wide d h.0) (wide a h.1) in
    from_cut w _ _ _ e cut (keep2 d a _ _ h.0 h.1 ∙ ap (λ m. Some (CSetBoundsImm d a m)) (back_pieces n h.2))
shape_read (shape.Upper o d n) w h e =
    from_cut w _ _ _ e (cut_u _ d n (upper_small o) (wide d h.0) h.1) (upper_read o d n h.0 h.1)
shape_read (shape.Load o d a n) w h e =
    let cut = cut_i 0x03 _ d a n (lit< tt) (load_small o) (wide d h.0) (wide a h.1) in
    from_cut w _ _ _ e cut (load_read o d a n h.0 h.1 h.2)
shape_read (shape.Store o a b n) w h e =
    let cut = cut_s 0x23 _ a b n (lit< tt) (store_small o) (wide a h.0) (wide b h.1) in
    from_cut w _ _ _ e cut (store_read o a b n h.0 h.1 h.2)
shape_read (shape.Branch o a b n) w h e =
    let cut = cut_b 0x63 _ a b n (lit< tt) (branch_small o) (wide a h.0) (wide b h.1) in
    from_cut w _ _ _ e cut (branch_read o a b n h.0 h.1 h.2)
shape_read (shape.Jump d n) w h e =
    from_cut w _ _ _ e (cut_j 0x6F d n (lit< tt) (wide d h.0))
    (keep1 d _ _ h.0 ∙ ap (λ m. Some (Jal d m)) (back21 n _ h.1 (jump_pieces n _ _ _ _ h.1.1 refl refl refl refl)))
shape_read (shape.RegisterJump d a n) w h e =
    let cut = cut_i 0x67 0 d a n (lit< tt) (lit< tt) (wide d h.0) (wide a h.1) in
    from_cut w _ _ _ e cut (keep2 d a _ _ h.0 h.1 ∙ ap (λ m. Some (CJalr d a m)) (back12 n h.2))
shape_read (shape.OneSource o d a) w h e =
    let cut = cut_r 0x5B 0 0x7F d a _ (lit< tt) (lit< tt) (lit< tt) (wide d h.0) (wide a h.1) (source_small o) in
    from_cut w _ _ _ e cut (source_read o d a h.0 h.1)
shape_read (shape.Fence n) w h e =
    from_cut w _ _ _ e (cut_i 0x0F 0 0 0 n (lit< tt) (lit< tt) (lit< tt) (lit< tt)) (ap (λ m. Some (Fence m)) (back12 n h))
shape_read shape.Call w h e = ap instruction_in e
shape_read shape.Break w h e = ap instruction_in e
shape_read (shape.Status function rd source number) w h e = csr_complete function rd source number w e h.0 h.1 h.2
shape_read (shape.Special d a n) w h e =
    let cut = cut_r 0x5B 0 0x01 d a n (lit< tt) (lit< tt) (lit< tt) (wide d h.0) (wide a h.1) h.2 in
    from_cut w _ _ _ e cut (keep2 d a _ _ h.0 h.1)

pub complete : (i : Instr) (w : ℕ) → EncodesTo i w → instruction_in w ≡ Some i
complete i w e = shape_read (shape_of i) w e.ranged e.row ∙ ap (λ j. Some j) (shaped_back i)

-- None is no instruction
pub nothing_read : (o : Option Instr) (i : Instr) → IsNone o → o ≡ Some i → ⊥
nothing_read None i none e = cc e
nothing_read (Some j) i none e = cc none

-- what was read is in the table
pub read_encodes : (o : Option Instr) (i : Instr) (w : ℕ) → IfSome o (λ j. EncodesTo j w) → o ≡ Some i → EncodesTo i w
read_encodes None i w found e = absurd (cc e)
read_encodes (Some j) i w found e = let same : j ≡ i = cc e in subst (λ k. EncodesTo k w) same found

-- a word belongs to at most one instruction
pub one_instruction : (i j : Instr) (w : ℕ) → EncodesTo i w → EncodesTo j w → i ≡ j
one_instruction i j w a b =
    let here : instruction_in w ≡ Some i = complete i w a in
    let there : instruction_in w ≡ Some j = complete j w b in
    cc (here, there)
