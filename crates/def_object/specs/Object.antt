-- Which object statements stand for: *Source and object*, its second half (docs/use/assembler.md).
-- A label's value is the sum of the lengths of the statements before it in its section, and the
-- object is the statements' bytes in order, with each reference replaced by its value.
use Rattle.std.specs.Prelude.{ℕ, ◌+◌, ◌*◌, ◌-◌, ◌/◌, ◌%◌, ◌^◌, Bool, false, ◌==◌, ◌&&◌, ◌||◌, nat_lt, nat_le, if◌then◌else◌, List, [], ◌∷◌, ◌++◌, length, option_map, Option, Some, None, is_none, replicate}
use Rattle.std.specs.List.{flat_map}
use Rattle.std.specs.Int.{w32, to_le_bytes}
use Rattle.std.specs.Str.{bytes_eq}
use Rattle.def_instr.specs.Table.{encoded}
use Rattle.def_bits.specs.Bits.{extended}
use Rattle.def_instr.specs.declared.Instr.{Instr}
use Rattle.def_instr.specs.declared.Instr.TheVariants as instr
use Rattle.def_instr.specs.declared.shapes.Shape.TheVariants as shape
use Rattle.def_instr.specs.Shapes.{shaped}
use Rattle.def_source.specs.declared.parts.BareOperation.{BareOperation}
use Rattle.def_source.specs.declared.parts.BareOperation.TheVariants as bare
use Rattle.def_profile.specs.declared.limits.TheConstants.{MOST_BYTES}
use Rattle.def_source.specs.declared.reaches.TheConstants.{BRANCH_REACH, JUMP_REACH}
use Rattle.def_source.specs.Source.{Name, Statements, is_text, is_data, or_else}
use Rattle.def_source.specs.declared.parts.Number.{Number}
use Rattle.def_source.specs.declared.parts.Section.{Section}
use Rattle.def_source.specs.declared.parts.Section.TheVariants as section
use Rattle.def_source.specs.declared.parts.Target.{Target}
use Rattle.def_source.specs.declared.parts.Target.TheVariants as target
use Rattle.def_source.specs.declared.parts.Part.{Part}
use Rattle.def_source.specs.declared.parts.Part.TheVariants as part
use Rattle.def_object.specs.declared.Place.{Place}
use Rattle.def_object.specs.declared.Label.{Label}
use Rattle.def_object.specs.declared.Fault.{Fault}

-- ---- lengths and places

-- the 32-bit word of a number that is written
abbrev pub number_word : Number → ℕ
number_word n =
    if n.negative then (2 ^ 32 - n.magnitude % 2 ^ 32) % 2 ^ 32 else n.magnitude % 2 ^ 32

-- a word that stands for -2048 to 2047
abbrev pub is_short : ℕ → Bool
is_short word = nat_lt ((word + 2 ^ 11) % 2 ^ 32) (2 ^ 12)

-- from a place to the next multiple
abbrev pub padding : ℕ → ℕ → ℕ
padding multiple at = (multiple - at % multiple) % multiple

-- how many bytes a statement has at a place of its section
abbrev pub size_at : Part Name → ℕ → ℕ
size_at (part.Label name) at = 0
size_at part.Text at = 0
size_at part.Data at = 0
size_at (part.Byte number) at = 1
size_at (part.Zero number) at = number.magnitude
size_at (part.Align number) at = padding number.magnitude at
size_at (part.LoadImmediate rd number) at = if is_short (number_word number) then 4 else 8
size_at (part.Import rd name) at = 8
size_at (part.TextAddress rd label) at = 8
size_at (part.GlobalAddress rd label) at = 8
size_at _ at = 4

abbrev pub offset : Place → ℕ
offset p = if is_text p.section then p.text else p.initial

abbrev pub grown : Place → ℕ → Place
grown p n =
    if is_text p.section then record p { text = p.text + n }
    else record p { initial = p.initial + n }

-- the place after a statement
abbrev pub place_after : Place → Part Name → Place
place_after p part.Text = record p { section = section.Text }
place_after p part.Data = record p { section = section.Data }
place_after p q = grown p (size_at q (offset p))

abbrev pub start : Place
start = record { section = section.Text; text = 0; initial = 0 }

-- ---- labels

abbrev pub is_label : Name → Part Name → Bool
is_label name (part.Label n) = bytes_eq name n
is_label name _ = false

-- the first label of that name in statements from a place on, of which the first is number k
abbrev pub label_from : Name → Place → ℕ → Statements → Option Label
label_from name p k [] = None
label_from name p k (s ∷ ss) =
    if is_label name s.part then Some (record { section = p.section; offset = offset p; index = k })
    else label_from name (place_after p s.part) (k + 1) ss

unfoldable pub label_in : Statements → Name → Option Label
label_in all name = label_from name start 0 all

-- what stands for the labels of a source: the label of each name
abbrev pub Labels : Type 0
Labels = Name → Option Label

-- the offset of a label of the text
abbrev pub text_offset : Option Label → Option ℕ
text_offset None = None
text_offset (Some l) = if is_text l.section then Some l.offset else None

-- ---- faults

-- whether a label lies within a reach that is even, backwards by at most so many bytes and forwards by two less
abbrev pub is_near : ℕ → ℕ → ℕ → Bool
is_near reach at to =
    (if nat_lt to at then nat_le (at - to) reach else nat_le (to - at) (reach - 2))
    && at % 2 == to % 2

-- A label out of a branch's reach, or one that isn't defined in the text.
abbrev pub reach_fault : ℕ → ℕ → Option Label → Option ℕ
reach_fault reach at None = Some 6
reach_fault reach at (Some l) =
    if is_data l.section then Some 6 else if is_near reach at l.offset then None else Some 4

abbrev pub target_fault : Labels → ℕ → ℕ → Target Name → Option ℕ
target_fault labels reach at (target.Offset n) = None
target_fault labels reach at (target.Label name) = reach_fault reach at (labels name)

abbrev pub text_fault : Option Label → Option ℕ
text_fault None = Some 6
text_fault (Some l) = if is_text l.section then None else Some 6

abbrev pub data_fault : Option Label → Option ℕ
data_fault None = Some 6
data_fault (Some l) = if is_data l.section then None else Some 6

-- a label that isn't the first of its name
abbrev pub second_fault : ℕ → Option Label → Option ℕ
second_fault k None = None
second_fault k (Some l) = if l.index == k then None else Some 5

-- what a statement at a place of its section refers to, or what it defines again; it is number k
abbrev pub reference_fault : Labels → ℕ → ℕ → Part Name → Option ℕ
reference_fault labels k at (part.Label name) = second_fault k (labels name)
reference_fault labels k at (part.Branch operation rs1 rs2 target) =
    target_fault labels BRANCH_REACH at target
reference_fault labels k at (part.IfZero rs target) = target_fault labels BRANCH_REACH at target
reference_fault labels k at (part.IfNotZero rs target) = target_fault labels BRANCH_REACH at target
reference_fault labels k at (part.Jal rd target) = target_fault labels JUMP_REACH at target
reference_fault labels k at (part.Jump target) = target_fault labels JUMP_REACH at target
reference_fault labels k at (part.JumpAndLink rd target) = target_fault labels JUMP_REACH at target
reference_fault labels k at (part.TextAddress rd label) = text_fault (labels label)
reference_fault labels k at (part.GlobalAddress rd label) = data_fault (labels label)
reference_fault labels k at _ = None

-- a section has at most so many bytes
abbrev pub limit : ℕ
limit = MOST_BYTES

abbrev pub size_fault : ℕ → Part Name → Option ℕ
size_fault at q = if nat_lt limit (at + size_at q at) then Some 8 else None

-- the least number of what a statement breaks
abbrev pub statement_fault : Labels → Place → ℕ → Part Name → Option ℕ
statement_fault labels p k q =
    or_else (reference_fault labels k (offset p) q) (size_fault (offset p) q)

-- the lesser line, and on one line the lesser number
abbrev pub is_least : Fault → Fault → Bool
is_least a b = nat_lt a.line b.line || (a.line == b.line && nat_le a.number b.number)

-- the fault of the lesser line, and on one line of the lesser number
abbrev pub lesser : Option Fault → Option Fault → Option Fault
lesser None b = b
lesser (Some a) None = Some a
lesser (Some a) (Some b) = if is_least a b then Some a else Some b

abbrev pub on_line : ℕ → Option ℕ → Option Fault
on_line line o = option_map (λ n. record { number = n; line = line }) o

-- the least fault of statements from a place on, of which the first is number k
abbrev pub fault_from : Labels → Place → ℕ → Statements → Option Fault
fault_from labels p k [] = None
fault_from labels p k (s ∷ ss) =
    lesser (on_line s.line (statement_fault labels p k s.part))
    (fault_from labels (place_after p s.part) (k + 1) ss)

unfoldable pub fault_in : Statements → Option Fault
fault_in all = fault_from (label_in all) start 0 all

-- the first line that names an import which isn't there
abbrev pub slot_from : ℕ → List Name → Name → Option ℕ
slot_from k [] name = None
slot_from k (n ∷ ns) name = if bytes_eq name n then Some k else slot_from (k + 1) ns name

-- the number of the slot of that name
unfoldable pub slot_of : List Name → Name → Option ℕ
slot_of slots name = slot_from 0 slots name

abbrev pub is_undeclared : List Name → Part Name → Bool
is_undeclared slots (part.Import rd name) = is_none (slot_of slots name)
is_undeclared slots _ = false

abbrev pub undeclared_in : List Name → Statements → Option ℕ
undeclared_in slots [] = None
undeclared_in slots (s ∷ ss) =
    if is_undeclared slots s.part then Some s.line else undeclared_in slots ss

-- ---- instructions

abbrev pub bare_instruction : BareOperation → Instr
bare_instruction bare.Fence = instr.Fence 0
bare_instruction bare.Ecall = instr.Ecall
bare_instruction bare.Ebreak = instr.Ebreak

-- the 32-bit word of the way from one place to another
abbrev pub way : ℕ → ℕ → ℕ
way at to = (to + (2 ^ 32 - at % 2 ^ 32)) % 2 ^ 32

abbrev pub label_offset : Option Label → ℕ
label_offset None = 0
label_offset (Some l) = l.offset

abbrev pub target_word : Labels → ℕ → Target Name → ℕ
target_word labels at (target.Label name) = way at (label_offset (labels name))
target_word labels at (target.Offset n) = number_word n

-- a way in two pieces, each rounded toward zero: 2048 times the first, a field of twenty bits, and the second, a 32-bit word
abbrev pub high_piece : ℕ → ℕ → ℕ
high_piece at to =
    if nat_lt to at then (2 ^ 20 - (at - to) / 2 ^ 11 % 2 ^ 20) % 2 ^ 20
    else (to - at) / 2 ^ 11 % 2 ^ 20

abbrev pub low_piece : ℕ → ℕ → ℕ
low_piece at to =
    if nat_lt to at then (2 ^ 32 - (at - to) % 2 ^ 11) % 2 ^ 32 else (to - at) % 2 ^ 11

-- a word as upper bits and a signed rest of twelve bits
abbrev pub upper_part : ℕ → ℕ
upper_part word = (word + 2 ^ 11) / 2 ^ 12 % 2 ^ 20

abbrev pub rest_part : ℕ → ℕ
rest_part word = extended 12 (word % 2 ^ 12)

abbrev pub number_instructions : ℕ → ℕ → List Instr
number_instructions rd word =
    if is_short word then instr.Addi rd 0 word ∷ []
    else instr.Lui rd (upper_part word) ∷ instr.Addi rd rd (rest_part word) ∷ []

abbrev pub slot_or_zero : Option ℕ → ℕ
slot_or_zero None = 0
slot_or_zero (Some k) = k

-- slots of eight bytes stand before the text
abbrev pub import_instructions : List Name → ℕ → ℕ → Name → List Instr
import_instructions slots at rd name =
    let from = 8 * length slots + at in
    let to = 8 * slot_or_zero (slot_of slots name) in
    instr.AuiPcc rd (high_piece from to) ∷ instr.Clc rd rd (low_piece from to) ∷ []

abbrev pub text_instructions : ℕ → ℕ → ℕ → List Instr
text_instructions at rd to =
    instr.AuiPcc rd (high_piece at to) ∷ instr.CIncAddrImm rd rd (low_piece at to) ∷ []

abbrev pub global_instructions : ℕ → ℕ → List Instr
global_instructions rd to =
    instr.AuiCgp rd (high_piece 0 to) ∷ instr.CIncAddrImm rd rd (low_piece 0 to) ∷ []

-- the instructions of a statement at a place of the text
abbrev pub instructions_at : Labels → List Name → ℕ → Part Name → List Instr
instructions_at labels slots at (part.Registers operation rd rs1 rs2) =
    shaped (shape.Registers operation rd rs1 rs2) ∷ []
instructions_at labels slots at (part.Immediate operation rd rs1 number) =
    shaped (shape.Immediate operation rd rs1 (number_word number)) ∷ []
instructions_at labels slots at (part.Upper operation rd number) =
    shaped (shape.Upper operation rd (number_word number % 2 ^ 20)) ∷ []
instructions_at labels slots at (part.Load operation rd number rs1) =
    shaped (shape.Load operation rd rs1 (number_word number)) ∷ []
instructions_at labels slots at (part.RegisterJump rd number rs1) =
    instr.CJalr rd rs1 (number_word number) ∷ []
instructions_at labels slots at (part.JumpCapability rd rs1) = instr.CJalr rd rs1 0 ∷ []
instructions_at labels slots at (part.Store operation rs2 number rs1) =
    shaped (shape.Store operation rs1 rs2 (number_word number)) ∷ []
instructions_at labels slots at (part.Branch operation rs1 rs2 target) =
    shaped (shape.Branch operation rs1 rs2 (target_word labels at target)) ∷ []
instructions_at labels slots at (part.Jal rd target) =
    instr.Jal rd (target_word labels at target) ∷ []
instructions_at labels slots at (part.Source operation rd rs1) =
    shaped (shape.OneSource operation rd rs1) ∷ []
instructions_at labels slots at (part.Bare operation) = bare_instruction operation ∷ []
instructions_at labels slots at part.Nop = instr.Addi 0 0 0 ∷ []
instructions_at labels slots at (part.Move rd rs) = instr.Addi rd rs 0 ∷ []
instructions_at labels slots at (part.Jump target) = instr.Jal 0 (target_word labels at target) ∷ []
instructions_at labels slots at (part.JumpAndLink rd target) =
    instr.Jal rd (target_word labels at target) ∷ []
instructions_at labels slots at part.Return = instr.CJalr 0 1 0 ∷ []
instructions_at labels slots at (part.JumpRegister rs) = instr.CJalr 0 rs 0 ∷ []
instructions_at labels slots at (part.IfZero rs target) =
    instr.Beq rs 0 (target_word labels at target) ∷ []
instructions_at labels slots at (part.IfNotZero rs target) =
    instr.Bne rs 0 (target_word labels at target) ∷ []
instructions_at labels slots at (part.LoadImmediate rd number) =
    number_instructions rd (number_word number)
instructions_at labels slots at (part.Import rd name) = import_instructions slots at rd name
instructions_at labels slots at (part.TextAddress rd label) =
    text_instructions at rd (label_offset (labels label))
instructions_at labels slots at (part.GlobalAddress rd label) =
    global_instructions rd (label_offset (labels label))
instructions_at labels slots at _ = []

-- ---- bytes

abbrev pub word_bytes : ℕ → List ℕ
word_bytes word = to_le_bytes w32 word

abbrev pub instruction_bytes : List Instr → List ℕ
instruction_bytes is = flat_map (λ i. word_bytes (encoded i)) is

-- the bytes of a statement at a place of its section
abbrev pub bytes_at : Labels → List Name → ℕ → Part Name → List ℕ
bytes_at labels slots at (part.Word number) = word_bytes (number_word number)
bytes_at labels slots at (part.Byte number) = (number_word number % 256) ∷ []
bytes_at labels slots at (part.Zero number) = replicate number.magnitude 0
bytes_at labels slots at (part.Align number) = replicate (padding number.magnitude at) 0
bytes_at labels slots at q = instruction_bytes (instructions_at labels slots at q)

abbrev pub same_section : Section → Section → Bool
same_section section.Text s = is_text s
same_section section.Data s = is_data s

-- the bytes of a statement, if it stands in the wanted section
abbrev pub section_bytes : Section → Labels → List Name → Place → Part Name → List ℕ
section_bytes wanted labels slots p q =
    if same_section p.section wanted then bytes_at labels slots (offset p) q else []

-- the bytes of a section, of statements from a place on
abbrev pub bytes_from : Section → Labels → List Name → Place → Statements → List ℕ
bytes_from wanted labels slots p [] = []
bytes_from wanted labels slots p (s ∷ ss) =
    section_bytes wanted labels slots p s.part
    ++ bytes_from wanted labels slots (place_after p s.part) ss

unfoldable pub text_of : Statements → List Name → List ℕ
text_of all slots = bytes_from section.Text (label_in all) slots start all

unfoldable pub initial_of : Statements → List Name → List ℕ
initial_of all slots = bytes_from section.Data (label_in all) slots start all
