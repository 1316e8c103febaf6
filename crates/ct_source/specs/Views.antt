-- What a contract sees of tokens, statements and lines whose names are slices or texts: the same
-- with the bytes of each name.
use Rattle.std.specs.Prelude.{ℕ, List, map, option_map, Result, Ok, Err, Bool, true, false}
use denote.Ref.{Bor}
use Rattle.ct_source.specs.declared.Program.{Program}
use Rattle.ct_source.specs.declared.compact.CompactLine.{CompactLine}
use Rattle.ct_source.specs.declared.compact.CompactStatement.{CompactStatement}
use Rattle.ct_source.specs.Compact.{compact_part}
use Rattle.def_source.specs.Source.{Name, Statements}
use Rattle.def_source.specs.declared.parts.Token.{Token}
use Rattle.def_source.specs.declared.parts.Token.TheVariants as token
use Rattle.def_source.specs.declared.words.Directive.{Directive}
use Rattle.def_source.specs.declared.words.Directive.TheVariants as directive
use Rattle.def_source.specs.declared.parts.Line.{Line}
use Rattle.def_source.specs.declared.parts.Statement.{Statement}
use Rattle.def_source.specs.declared.AsmFault.{AsmFault}
use Rattle.def_source.specs.declared.AsmFault.TheVariants.{At}
use Rattle.def_source.specs.declared.parts.Part.{Part}
use Rattle.def_source.specs.declared.parts.Part.TheVariants as part
use Rattle.def_source.specs.declared.parts.Target.{Target}
use Rattle.def_source.specs.declared.parts.Target.TheVariants as target

abbrev pub token_named : {A : Type 0} → (A → Name) → Token A → Token Name
token_named name (token.Name n) = token.Name (name n)
token_named name (token.Directive n) = token.Directive (name n)
token_named name (token.Number n) = token.Number n
token_named name token.Comma = token.Comma
token_named name token.Colon = token.Colon
token_named name token.Open = token.Open
token_named name token.Close = token.Close

abbrev pub target_named : {A : Type 0} → (A → Name) → Target A → Target Name
target_named name (target.Label n) = target.Label (name n)
target_named name (target.Offset n) = target.Offset n

abbrev pub target_view : Target (Bor (List ℕ)) → Target Name
target_view t = target_named (λ n. n.now) t

abbrev pub token_view : Token (Bor (List ℕ)) → Token Name
token_view t = token_named (λ n. n.now) t

abbrev pub row_view : List (Token (Bor (List ℕ))) → List (Token Name)
row_view ts = map token_view ts

-- a part with the bytes of its names
abbrev pub part_named : {A : Type 0} → (A → Name) → Part A → Part Name
part_named name (part.Label text) = part.Label (name text)
part_named name part.Text = part.Text
part_named name part.Data = part.Data
part_named name (part.Word number) = part.Word number
part_named name (part.Byte number) = part.Byte number
part_named name (part.Zero number) = part.Zero number
part_named name (part.Align number) = part.Align number
part_named name (part.Registers operation rd rs1 rs2) = part.Registers operation rd rs1 rs2
part_named name (part.Immediate operation rd rs1 number) = part.Immediate operation rd rs1 number
part_named name (part.Upper operation rd number) = part.Upper operation rd number
part_named name (part.Load operation rd number rs1) = part.Load operation rd number rs1
part_named name (part.RegisterJump rd number rs1) = part.RegisterJump rd number rs1
part_named name (part.JumpCapability rd rs1) = part.JumpCapability rd rs1
part_named name (part.Store operation rs2 number rs1) = part.Store operation rs2 number rs1
part_named name (part.Branch operation rs1 rs2 target) =
    part.Branch operation rs1 rs2 (target_named name target)
part_named name (part.Jal rd target) = part.Jal rd (target_named name target)
part_named name (part.Source operation rd rs1) = part.Source operation rd rs1
part_named name (part.Bare operation) = part.Bare operation
part_named name part.Nop = part.Nop
part_named name (part.Move rd rs) = part.Move rd rs
part_named name (part.Jump target) = part.Jump (target_named name target)
part_named name (part.JumpAndLink rd target) = part.JumpAndLink rd (target_named name target)
part_named name part.Return = part.Return
part_named name (part.JumpRegister rs) = part.JumpRegister rs
part_named name (part.IfZero rs target) = part.IfZero rs (target_named name target)
part_named name (part.IfNotZero rs target) = part.IfNotZero rs (target_named name target)
part_named name (part.LoadImmediate rd number) = part.LoadImmediate rd number
part_named name (part.Import rd text) = part.Import rd (name text)
part_named name (part.TextAddress rd label) = part.TextAddress rd (name label)
part_named name (part.GlobalAddress rd label) = part.GlobalAddress rd (name label)

abbrev pub part_view : Part (Bor (List ℕ)) → Part Name
part_view p = part_named (λ n. n.now) p

-- a line with the bytes of its names
abbrev pub line_view : CompactLine → Line Name
line_view l =
    record { label = option_map (λ n. n.now) l.label; part = option_map compact_part l.part }

-- the directives with a number
abbrev pub takes_number : Directive → Bool
takes_number directive.Text = false
takes_number directive.Data = false
takes_number _ = true

abbrev pub statement_view : CompactStatement → Statement Name
statement_view s = record { line = s.line; part = compact_part s.part }

abbrev pub statements_view : List CompactStatement → Statements
statements_view ss = map statement_view ss

-- the statements that a program holds
abbrev pub program_view : Program → Statements
program_view p = statements_view p.statements.items

-- a fault of a line, with the line's number
abbrev pub at_line : {A : Type 0} → ℕ → Result A ℕ → Result A AsmFault
at_line n (Ok x) = Ok x
at_line n (Err number) = Err (At number n)
