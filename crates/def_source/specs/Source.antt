-- Which statements a text stands for: *Source and object*, its first half (docs/use/assembler.md).
-- A text is a list of lines, a line a row of tokens before its comment, and each statement has one
-- of the written forms. The answer is the first line's fault, and on it the least number.
use Rattle.std.specs.Prelude.{◌≡◌, ℕ, ◌+◌, ◌*◌, ◌-◌, ◌%◌, ◌^◌, Bool, true, false, ◌==◌, ◌&&◌, ◌||◌, not, nat_lt, nat_le, if◌then◌else◌, List, [], ◌∷◌, ◌++◌, length, option_and_then, option_map, Option, Some, None, Result, Ok, Err, IsTrue}
use Rattle.std.specs.Char.{is_ascii_digit}
use Rattle.std.specs.List.{list_all}
use Rattle.std.specs.Str.{bytes_eq}
use Rattle.def_profile.specs.declared.limits.TheConstants.{MOST_BYTES}
use Rattle.def_source.specs.declared.reaches.TheConstants.{BRANCH_REACH, JUMP_REACH, MOST_ALIGNMENT}
use Rattle.def_source.specs.declared.words.TheConstants.{HEADS, DIRECTIVES, REGISTERS}
use Rattle.def_source.specs.declared.AsmFault.{AsmFault}
use Rattle.def_source.specs.declared.AsmFault.TheVariants.{At, NoMemory}
use Rattle.def_instr.specs.declared.shapes.ImmediateOperation.{ImmediateOperation}
use Rattle.def_instr.specs.declared.shapes.ImmediateOperation.TheVariants as immediates
use Rattle.def_source.specs.declared.words.Head.{Head}
use Rattle.def_source.specs.declared.words.Head.TheVariants as head
use Rattle.def_source.specs.declared.words.Directive.{Directive}
use Rattle.def_source.specs.declared.words.Directive.TheVariants as directive
use Rattle.def_source.specs.declared.parts.Number.{Number}
use Rattle.def_source.specs.declared.parts.Token.{Token}
use Rattle.def_source.specs.declared.parts.Token.TheVariants as token
use Rattle.def_source.specs.declared.parts.Section.{Section}
use Rattle.def_source.specs.declared.parts.Section.TheVariants as section
use Rattle.def_source.specs.declared.parts.Target.{Target}
use Rattle.def_source.specs.declared.parts.Target.TheVariants as target
use Rattle.def_source.specs.declared.parts.Part.{Part}
use Rattle.def_source.specs.declared.parts.Part.TheVariants as part
use Rattle.def_source.specs.declared.parts.Line.{Line}
use Rattle.def_source.specs.declared.parts.Statement.{Statement}

-- names are bytes here
abbrev pub Name : Type 0
Name = List ℕ

-- ---- characters

abbrev pub is_blank : ℕ → Bool
is_blank c = c == 32 || c == 9

-- comma, colon and the two brackets
abbrev pub is_mark : ℕ → Bool
is_mark c = c == 44 || c == 58 || c == 40 || c == 41

-- what a name, a directive word or a number may be made of: anything else
abbrev pub is_inner : ℕ → Bool
is_inner c = not (is_blank c) && not (is_mark c)

abbrev pub is_letter : ℕ → Bool
is_letter c = (nat_le 65 c && nat_le c 90) || (nat_le 97 c && nat_le c 122) || c == 95

abbrev pub is_symbol_byte : ℕ → Bool
is_symbol_byte c = is_letter c || is_ascii_digit c

abbrev pub is_hexadecimal : ℕ → Bool
is_hexadecimal c = is_ascii_digit c || (nat_le 65 c && nat_le c 70) || (nat_le 97 c && nat_le c 102)

abbrev pub digit : ℕ → ℕ
digit c = if nat_le c 57 then c - 48 else if nat_le c 70 then c - 55 else c - 87

-- ---- tokens

-- a byte before the pieces that follow it: alone, or with the first of them
abbrev pub before : ℕ → List (List ℕ) → List (List ℕ)
before c [] = (c ∷ []) ∷ []
before c (p ∷ ps) = (c ∷ p) ∷ ps

abbrev pub begins_inner : List ℕ → Bool
begins_inner [] = false
begins_inner (c ∷ cs) = is_inner c

-- a text cut at blanks, with each mark a piece of its own: its pieces are marks and longest runs of other bytes
abbrev pub pieces : List ℕ → List (List ℕ)
pieces [] = []
pieces (c ∷ cs) =
    if is_blank c then pieces cs else if is_inner c && begins_inner cs then before c (pieces cs)
    else (c ∷ []) ∷ pieces cs

abbrev pub is_symbol : List ℕ → Bool
is_symbol [] = false
is_symbol (c ∷ cs) = is_letter c && list_all is_symbol_byte cs && nat_le (length (c ∷ cs)) 64

-- the value of digits after a number so far
abbrev pub value_from : ℕ → ℕ → List ℕ → ℕ
value_from base n [] = n
value_from base n (c ∷ cs) = value_from base (n * base + digit c) cs

-- digits, at least one, whose value is at most so large
abbrev pub digits_of : (ℕ → Bool) → ℕ → ℕ → List ℕ → Option ℕ
digits_of test base most [] = None
digits_of test base most (c ∷ cs) =
    if list_all test (c ∷ cs) && nat_le (value_from base 0 (c ∷ cs)) most
    then Some (value_from base 0 (c ∷ cs))
    else None

abbrev pub positive : ℕ → Number
positive n = record { negative = false; magnitude = n }

abbrev pub negative : ℕ → Number
negative n = record { negative = true; magnitude = n }

-- a number: decimal, hexadecimal after 0x, or decimal after a minus, that fits 128 bits
abbrev pub number_of : List ℕ → Option Number
number_of [] = None
number_of (c ∷ cs) =
    if c == 45 then option_map negative (digits_of is_ascii_digit 10 (2 ^ 127) cs)
    else hexadecimal_or_decimal c cs
  where
    hexadecimal_or_decimal : ℕ → List ℕ → Option Number
    hexadecimal_or_decimal c [] = option_map positive (digits_of is_ascii_digit 10 (2 ^ 128 - 1) (c ∷ []))
    hexadecimal_or_decimal c (d ∷ ds) =
        if c == 48 && d == 120
        then option_map positive (digits_of is_hexadecimal 16 (2 ^ 128 - 1) ds)
        else option_map positive (digits_of is_ascii_digit 10 (2 ^ 128 - 1) (c ∷ d ∷ ds))

-- the token that a piece is: a mark, a directive word, a name or a number
abbrev pub token_of : List ℕ → Option (Token Name)
token_of [] = None
token_of (c ∷ cs) =
    if c == 44 then Some token.Comma else
    if c == 58 then Some token.Colon else
    if c == 40 then Some token.Open else
    if c == 41 then Some token.Close else
    if c == 46 then (if is_symbol cs then Some (token.Directive cs) else None) else
    if is_letter c then (if is_symbol (c ∷ cs) then Some (token.Name (c ∷ cs)) else None) else
    option_map (λ n. token.Number n) (number_of (c ∷ cs))

-- a row of tokens, if each piece is one
abbrev pub row_of : List (List ℕ) → Option (List (Token Name))
row_of [] = Some []
row_of (p ∷ ps) = option_and_then (λ t. option_map (λ ts. t ∷ ts) (row_of ps)) (token_of p)

abbrev pub is_ascii : ℕ → Bool
is_ascii c = nat_lt c 128

-- a line up to its comment, which begins with a number sign
abbrev pub before_comment : List ℕ → List ℕ
before_comment [] = []
before_comment (c ∷ cs) = if c == 35 then [] else c ∷ before_comment cs

-- the tokens of a line, which is ASCII throughout, before its comment
unfoldable pub line_tokens : List ℕ → Option (List (Token Name))
line_tokens line = if list_all is_ascii line then row_of (pieces (before_comment line)) else None

-- ---- words

-- what the first row of that name says, in a table of rows
abbrev pub first_named : {R A : Type 0} → (R → Name) → (R → A) → Name → List R → Option A
first_named named says name [] = None
first_named named says name (row ∷ rows) =
    if bytes_eq name (named row) then Some (says row) else first_named named says name rows

unfoldable pub statement_head : Name → Option Head
statement_head name = first_named (λ row. row.0.now) (λ row. row.1) name HEADS

unfoldable pub directive_of : Name → Option Directive
directive_of name = first_named (λ row. row.0.now) (λ row. row.1) name DIRECTIVES

unfoldable pub register_of : Name → Option ℕ
register_of name = first_named (λ row. row.0.now) (λ row. row.1) name REGISTERS

-- ---- operands: what stands at the front of a row of tokens, and the tokens after it

infixl 10 ◌>>=◌
abbrev pub ◌>>=◌ : {A B : Type 0} → Option A → (A → Option B) → Option B
o >>= f = option_and_then f o

abbrev pub Row : Type 0
Row = List (Token Name)

abbrev pub ended : {A : Type 0} → Row → A → Option A
ended [] x = Some x
ended (t ∷ ts) x = None

abbrev pub comma_at : Row → Option Row
comma_at (token.Comma ∷ ts) = Some ts
comma_at _ = None

abbrev pub open_at : Row → Option Row
open_at (token.Open ∷ ts) = Some ts
open_at _ = None

abbrev pub close_at : Row → Option Row
close_at (token.Close ∷ ts) = Some ts
close_at _ = None

abbrev pub name_at : Row → Option (Name × Row)
name_at (token.Name n ∷ ts) = Some (n, ts)
name_at _ = None

abbrev pub number_at : Row → Option (Number × Row)
number_at (token.Number n ∷ ts) = Some (n, ts)
number_at _ = None

abbrev pub target_at : Row → Option (Target Name × Row)
target_at (token.Name n ∷ ts) = Some (target.Label n, ts)
target_at (token.Number n ∷ ts) = Some (target.Offset n, ts)
target_at _ = None

unfoldable pub register_at : Row → Option (ℕ × Row)
register_at ts = do
  n ← name_at ts
  r ← register_of n.0
  Some (r, n.1)

unfoldable pub register_comma : Row → Option (ℕ × Row)
register_comma ts = do
  r ← register_at ts
  us ← comma_at r.1
  Some (r.0, us)

-- number(register)
unfoldable pub address_at : Row → Option (Number × ℕ × Row)
address_at ts = do
  n ← number_at ts
  us ← open_at n.1
  r ← register_at us
  vs ← close_at r.1
  Some (n.0, r.0, vs)

-- ---- operand forms, whole

unfoldable pub two_registers : Row → Option (ℕ × ℕ)
two_registers ts = do
  a ← register_comma ts
  b ← register_at a.1
  ended b.1 (a.0, b.0)

unfoldable pub three_registers : Row → Option (ℕ × ℕ × ℕ)
three_registers ts = do
  a ← register_comma ts
  b ← register_comma a.1
  c ← register_at b.1
  ended c.1 (a.0, b.0, c.0)

unfoldable pub two_registers_number : Row → Option (ℕ × ℕ × Number)
two_registers_number ts = do
  a ← register_comma ts
  b ← register_comma a.1
  n ← number_at b.1
  ended n.1 (a.0, b.0, n.0)

unfoldable pub two_registers_target : Row → Option (ℕ × ℕ × Target Name)
two_registers_target ts = do
  a ← register_comma ts
  b ← register_comma a.1
  t ← target_at b.1
  ended t.1 (a.0, b.0, t.0)

unfoldable pub register_number : Row → Option (ℕ × Number)
register_number ts = do
  a ← register_comma ts
  n ← number_at a.1
  ended n.1 (a.0, n.0)

unfoldable pub register_and_target : Row → Option (ℕ × Target Name)
register_and_target ts = do
  a ← register_comma ts
  t ← target_at a.1
  ended t.1 (a.0, t.0)

unfoldable pub register_name : Row → Option (ℕ × Name)
register_name ts = do
  a ← register_comma ts
  n ← name_at a.1
  ended n.1 (a.0, n.0)

unfoldable pub register_address : Row → Option (ℕ × Number × ℕ)
register_address ts = do
  a ← register_comma ts
  n ← address_at a.1
  ended n.2 (a.0, n.0, n.1)

unfoldable pub one_register : Row → Option ℕ
one_register ts = do
  a ← register_at ts
  ended a.1 a.0

unfoldable pub one_number : Row → Option Number
one_number ts = do
  n ← number_at ts
  ended n.1 n.0

unfoldable pub one_target : Row → Option (Target Name)
one_target ts = do
  t ← target_at ts
  ended t.1 t.0

-- the first of two, if there is one
abbrev pub or_else : {A : Type 0} → Option A → Option A → Option A
or_else (Some x) o = Some x
or_else None o = o

abbrev pub result_map : {A B : Type 0} → (A → B) → Result A ℕ → Result B ℕ
result_map f (Ok x) = Ok (f x)
result_map f (Err e) = Err e

-- ---- statements

-- `cjalr` has two forms
abbrev pub register_jump_form : Row → Option (Part Name)
register_jump_form ts = or_else
    (option_map (λ o. part.RegisterJump o.0 o.1 o.2) (register_address ts))
    (option_map (λ o. part.JumpCapability o.0 o.1) (two_registers ts))

-- the statement of a word and the tokens after it, if they are one of its operand forms
abbrev pub statement_form : Head → Row → Option (Part Name)
statement_form (head.Registers operation) ts =
    option_map (λ o. part.Registers operation o.0 o.1 o.2) (three_registers ts)
statement_form (head.Immediate operation) ts =
    option_map (λ o. part.Immediate operation o.0 o.1 o.2) (two_registers_number ts)
statement_form (head.Upper operation) ts =
    option_map (λ o. part.Upper operation o.0 o.1) (register_number ts)
statement_form (head.Load operation) ts =
    option_map (λ o. part.Load operation o.0 o.1 o.2) (register_address ts)
statement_form (head.Store operation) ts =
    option_map (λ o. part.Store operation o.0 o.1 o.2) (register_address ts)
statement_form (head.Branch operation) ts =
    option_map (λ o. part.Branch operation o.0 o.1 o.2) (two_registers_target ts)
statement_form (head.Source operation) ts =
    option_map (λ o. part.Source operation o.0 o.1) (two_registers ts)
statement_form (head.Bare operation) ts = ended ts (part.Bare operation)
statement_form head.Jal ts = option_map (λ o. part.Jal o.0 o.1) (register_and_target ts)
statement_form head.RegisterJump ts = register_jump_form ts
statement_form head.Nop ts = ended ts part.Nop
statement_form head.Move ts = option_map (λ o. part.Move o.0 o.1) (two_registers ts)
statement_form head.Jump ts = option_map (λ o. part.Jump o) (one_target ts)
statement_form head.JumpAndLink ts = option_map (λ o. part.JumpAndLink o.0 o.1) (register_and_target ts)
statement_form head.Return ts = ended ts part.Return
statement_form head.JumpRegister ts = option_map (λ o. part.JumpRegister o) (one_register ts)
statement_form head.IfZero ts = option_map (λ o. part.IfZero o.0 o.1) (register_and_target ts)
statement_form head.IfNotZero ts = option_map (λ o. part.IfNotZero o.0 o.1) (register_and_target ts)
statement_form head.LoadImmediate ts = option_map (λ o. part.LoadImmediate o.0 o.1) (register_number ts)
statement_form head.Import ts = option_map (λ o. part.Import o.0 o.1) (register_name ts)
statement_form head.TextAddress ts = option_map (λ o. part.TextAddress o.0 o.1) (register_name ts)
statement_form head.GlobalAddress ts = option_map (λ o. part.GlobalAddress o.0 o.1) (register_name ts)

abbrev pub directive_form : Directive → Row → Option (Part Name)
directive_form directive.Text ts = ended ts part.Text
directive_form directive.Data ts = ended ts part.Data
directive_form directive.Word ts = option_map (λ n. part.Word n) (one_number ts)
directive_form directive.Byte ts = option_map (λ n. part.Byte n) (one_number ts)
directive_form directive.Zero ts = option_map (λ n. part.Zero n) (one_number ts)
directive_form directive.Align ts = option_map (λ n. part.Align n) (one_number ts)

-- ---- what a statement may hold

-- instructions stand in text; bytes, zeros and alignment among the initial bytes; the rest in both
abbrev pub is_text : Section → Bool
is_text section.Text = true
is_text section.Data = false

abbrev pub is_data : Section → Bool
is_data section.Text = false
is_data section.Data = true

abbrev pub in_section : Section → Part Name → Bool
in_section s (part.Label name) = true
in_section s part.Text = true
in_section s part.Data = true
in_section s (part.Word number) = true
in_section s (part.Byte number) = is_data s
in_section s (part.Zero number) = is_data s
in_section s (part.Align number) = is_data s
in_section s _ = is_text s

-- a number that isn't below -low, nor above high
abbrev pub within : ℕ → ℕ → Number → Bool
within low high n = if n.negative then nat_le n.magnitude low else nat_le n.magnitude high

abbrev pub fits_immediate : ImmediateOperation → Number → Bool
fits_immediate (immediates.Signed operation) n = within 2048 2047 n
fits_immediate (immediates.Shift operation) n = within 0 31 n
fits_immediate immediates.CIncAddrImm n = within 2048 2047 n
fits_immediate immediates.CSetBoundsImm n = within 0 4095 n

-- an even offset of at most so many bytes; a label's reach is a matter of the object
abbrev pub fits_target : ℕ → Target Name → Bool
fits_target reach (target.Label name) = true
fits_target reach (target.Offset n) = within reach (reach - 2) n && n.magnitude % 2 == 0

abbrev pub numbers_fit : Part Name → Bool
numbers_fit (part.Word number) = within (2 ^ 31) (2 ^ 32 - 1) number
numbers_fit (part.Byte number) = within 128 255 number
numbers_fit (part.Zero number) = within 0 MOST_BYTES number
numbers_fit (part.Align number) =
    within 0 MOST_ALIGNMENT number && nat_lt 0 number.magnitude
    && MOST_ALIGNMENT % number.magnitude == 0
numbers_fit (part.Immediate operation rd rs1 number) = fits_immediate operation number
numbers_fit (part.Upper operation rd number) = within 524288 1048575 number
numbers_fit (part.Load operation rd number rs1) = within 2048 2047 number
numbers_fit (part.RegisterJump rd number rs1) = within 2048 2047 number
numbers_fit (part.Store operation rs2 number rs1) = within 2048 2047 number
numbers_fit (part.Branch operation rs1 rs2 target) = fits_target BRANCH_REACH target
numbers_fit (part.Jal rd target) = fits_target JUMP_REACH target
numbers_fit (part.Jump target) = fits_target JUMP_REACH target
numbers_fit (part.JumpAndLink rd target) = fits_target JUMP_REACH target
numbers_fit (part.IfZero rs target) = fits_target BRANCH_REACH target
numbers_fit (part.IfNotZero rs target) = fits_target BRANCH_REACH target
numbers_fit (part.LoadImmediate rd number) = within (2 ^ 31) (2 ^ 32 - 1) number
numbers_fit _ = true

-- the registers that the machine has
abbrev pub exists : ℕ → Bool
exists r = nat_lt r 16

abbrev pub registers_exist : Part Name → Bool
registers_exist (part.Registers operation rd rs1 rs2) = exists rd && exists rs1 && exists rs2
registers_exist (part.Immediate operation rd rs1 number) = exists rd && exists rs1
registers_exist (part.Upper operation rd number) = exists rd
registers_exist (part.Load operation rd number rs1) = exists rd && exists rs1
registers_exist (part.RegisterJump rd number rs1) = exists rd && exists rs1
registers_exist (part.JumpCapability rd rs1) = exists rd && exists rs1
registers_exist (part.Store operation rs2 number rs1) = exists rs2 && exists rs1
registers_exist (part.Branch operation rs1 rs2 target) = exists rs1 && exists rs2
registers_exist (part.Jal rd target) = exists rd
registers_exist (part.Source operation rd rs1) = exists rd && exists rs1
registers_exist (part.Move rd rs) = exists rd && exists rs
registers_exist (part.JumpAndLink rd target) = exists rd
registers_exist (part.JumpRegister rs) = exists rs
registers_exist (part.IfZero rs target) = exists rs
registers_exist (part.IfNotZero rs target) = exists rs
registers_exist (part.LoadImmediate rd number) = exists rd
registers_exist (part.Import rd name) = exists rd
registers_exist (part.TextAddress rd label) = exists rd
registers_exist (part.GlobalAddress rd label) = exists rd
registers_exist _ = true

abbrev pub is_lawful_statement : Section → Part Name → Bool
is_lawful_statement s p = in_section s p && numbers_fit p && registers_exist p

-- ---- lines

-- a statement that has its form, or the least number of what it breaks
abbrev pub lawful_or_fault : Section → Part Name → Result (Part Name) ℕ
lawful_or_fault s p =
    if not (in_section s p) then Err 3 else
    if not (numbers_fit p) then Err 4 else
    if not (registers_exist p) then Err 7 else
    Ok p

abbrev pub formed : Section → Option (Part Name) → Result (Option (Part Name)) ℕ
formed s None = Err 3
formed s (Some p) = result_map (λ q. Some q) (lawful_or_fault s p)

abbrev pub headed : Section → Row → Option Head → Result (Option (Part Name)) ℕ
headed s ts None = Err 2
headed s ts (Some h) = formed s (statement_form h ts)

abbrev pub directed : Section → Row → Option Directive → Result (Option (Part Name)) ℕ
directed s ts None = Err 2
directed s ts (Some d) = formed s (directive_form d ts)

-- the statement of a row of tokens, which may be none
abbrev pub statement_of : Section → Row → Result (Option (Part Name)) ℕ
statement_of s [] = Ok None
statement_of s (token.Name n ∷ ts) = headed s ts (statement_head n)
statement_of s (token.Directive n ∷ ts) = directed s ts (directive_of n)
statement_of s _ = Err 2

-- a label at the front, and what stands after it
abbrev pub label_of : Row → Option Name
label_of (token.Name n ∷ token.Colon ∷ ts) = Some n
label_of _ = None

abbrev pub after_label : Row → Row
after_label (token.Name n ∷ token.Colon ∷ ts) = ts
after_label ts = ts

unfoldable pub row_line : Section → Row → Result (Line Name) ℕ
row_line s ts =
    result_map (λ p. record { label = label_of ts; part = p }) (statement_of s (after_label ts))

abbrev pub tokens_line : Section → Option Row → Result (Line Name) ℕ
tokens_line s None = Err 1
tokens_line s (Some ts) = row_line s ts

-- what stands on a line, or the number of its fault
unfoldable pub line_of : Section → List ℕ → Result (Line Name) ℕ
line_of s line = tokens_line s (line_tokens line)

-- ---- the whole text

-- a text cut at its line feeds; after the last one stands no line
abbrev pub lines_of : List ℕ → List (List ℕ)
lines_of [] = []
lines_of (c ∷ cs) = if c == 10 then [] ∷ lines_of cs else before c (lines_of cs)

abbrev pub section_after : Section → Option (Part Name) → Section
section_after s (Some part.Text) = section.Text
section_after s (Some part.Data) = section.Data
section_after s _ = s

abbrev pub label_statements : ℕ → Option Name → List (Statement Name)
label_statements n None = []
label_statements n (Some name) = (record { line = n; part = part.Label name }) ∷ []

abbrev pub part_statements : ℕ → Option (Part Name) → List (Statement Name)
part_statements n None = []
part_statements n (Some p) = (record { line = n; part = p }) ∷ []

abbrev pub line_statements : ℕ → Line Name → List (Statement Name)
line_statements n l = label_statements n l.label ++ part_statements n l.part

abbrev pub Statements : Type 0
Statements = List (Statement Name)

abbrev pub with_front : Statements → Result Statements AsmFault → Result Statements AsmFault
with_front front (Ok rest) = Ok (front ++ rest)
with_front front (Err e) = Err e

-- a line's statements before those of the lines after it, or its fault
abbrev pub line_then : ℕ → Section → Result (Line Name) ℕ → (Section → Result Statements AsmFault)
    → Result Statements AsmFault
line_then n s (Err number) rest = Err (At number n)
line_then n s (Ok l) rest = with_front (line_statements n l) (rest (section_after s l.part))

-- the statements of the lines from line n on, in the section in which it begins, or the first fault
abbrev pub program_from : Section → ℕ → List (List ℕ) → Result Statements AsmFault
program_from s n [] = Ok []
program_from s n (l ∷ ls) = line_then n s (line_of s l) (λ t. program_from t (n + 1) ls)

-- the statements that a text stands for, or the first line's fault
unfoldable pub program_of : List ℕ → Result Statements AsmFault
program_of text = program_from section.Text 1 (lines_of text)

-- each statement is one that its section allows, with registers and numbers in range
abbrev pub lawful_from : Section → Statements → Bool
lawful_from s [] = true
lawful_from s (x ∷ xs) = is_lawful_statement s x.part && lawful_from (section_after s (Some x.part)) xs

abbrev pub IsLawful : Statements → Type 0
IsLawful xs = IsTrue (lawful_from section.Text xs)

-- ---- what a call gives

-- what a call returned, seen by view, is what the definition gives, unless memory ran out
abbrev pub Fails : {Y : Type 0} → AsmFault → Result Y AsmFault → Type 0
Fails NoMemory wanted = Unit {0}
Fails (At number line) wanted = wanted ≡ Err (At number line)

abbrev pub Gives : {X Y : Type 0} → (X → Y) → Result X AsmFault → Result Y AsmFault → Type 0
Gives view (Ok x) wanted = wanted ≡ Ok (view x)
Gives view (Err e) wanted = Fails e wanted
