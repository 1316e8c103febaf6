-- How a statement is written: the operands of each, and the tokens of which an operand is made. Whoever
-- reads a source needs none of this; that the reader reads just this is proved.
use Rattle.std.specs.Prelude.{ℕ, ◌≡◌, List, [], ◌∷◌, ◌++◌, Option, Some, None}
use Rattle.def_source.specs.Source.{Name, Row, register_of}
use Rattle.def_source.specs.declared.words.Head.{Head}
use Rattle.def_source.specs.declared.words.Head.TheVariants as head
use Rattle.def_source.specs.declared.words.Directive.{Directive}
use Rattle.def_source.specs.declared.words.Directive.TheVariants as directive
use Rattle.def_source.specs.declared.parts.Number.{Number}
use Rattle.def_source.specs.declared.parts.Token.TheVariants as token
use Rattle.def_source.specs.declared.parts.Target.{Target}
use Rattle.def_source.specs.declared.parts.Target.TheVariants as target
use Rattle.def_source.specs.declared.parts.Part.{Part}
use Rattle.def_source.specs.declared.parts.Part.TheVariants as part

-- what may stand between two commas: a register, a number, a name, a target, or a number before a register in
-- brackets
pub data Operand : Type 0 where
  Register : ℕ → Operand
  Numbered : Number → Operand
  Named : Name → Operand
  Towards : Target Name → Operand
  Address : Number → ℕ → Operand

-- the tokens of an operand
abbrev pub AreOperandTokens : Operand → Row → Type 0
AreOperandTokens (Register r) ts = (n : Name) × ((ts ≡ token.Name n ∷ []) × (register_of n ≡ Some r))
AreOperandTokens (Numbered n) ts = ts ≡ token.Number n ∷ []
AreOperandTokens (Named n) ts = ts ≡ token.Name n ∷ []
AreOperandTokens (Towards (target.Label n)) ts = ts ≡ token.Name n ∷ []
AreOperandTokens (Towards (target.Offset n)) ts = ts ≡ token.Number n ∷ []
AreOperandTokens (Address n r) ts =
    (m : Name)
    × ((ts ≡ token.Number n ∷ token.Open ∷ token.Name m ∷ token.Close ∷ [])
    × (register_of m ≡ Some r))

-- operands in a row, a comma between each two
abbrev pub AreWritten : List Operand → Row → Type 0
AreWritten [] ts = ts ≡ []
AreWritten (o ∷ []) ts = AreOperandTokens o ts
AreWritten (o ∷ p ∷ os) ts =
    (front : Row)
    × ((rest : Row)
    × ((ts ≡ front ++ token.Comma ∷ rest) × AreOperandTokens o front × AreWritten (p ∷ os) rest))

-- the operands of a statement, in the order in which they stand
abbrev pub written_operands : Part Name → List Operand
written_operands (part.Word n) = Numbered n ∷ []
written_operands (part.Byte n) = Numbered n ∷ []
written_operands (part.Zero n) = Numbered n ∷ []
written_operands (part.Align n) = Numbered n ∷ []
written_operands (part.Registers operation rd rs1 rs2) = Register rd ∷ Register rs1 ∷ Register rs2 ∷ []
written_operands (part.Immediate operation rd rs1 n) = Register rd ∷ Register rs1 ∷ Numbered n ∷ []
written_operands (part.Upper operation rd n) = Register rd ∷ Numbered n ∷ []
written_operands (part.Load operation rd n rs1) = Register rd ∷ Address n rs1 ∷ []
written_operands (part.RegisterJump rd n rs1) = Register rd ∷ Address n rs1 ∷ []
written_operands (part.JumpCapability rd rs1) = Register rd ∷ Register rs1 ∷ []
written_operands (part.Store operation rs2 n rs1) = Register rs2 ∷ Address n rs1 ∷ []
written_operands (part.Branch operation rs1 rs2 t) = Register rs1 ∷ Register rs2 ∷ Towards t ∷ []
written_operands (part.Jal rd t) = Register rd ∷ Towards t ∷ []
written_operands (part.Source operation rd rs1) = Register rd ∷ Register rs1 ∷ []
written_operands (part.Move rd rs) = Register rd ∷ Register rs ∷ []
written_operands (part.Jump t) = Towards t ∷ []
written_operands (part.JumpAndLink rd t) = Register rd ∷ Towards t ∷ []
written_operands (part.JumpRegister rs) = Register rs ∷ []
written_operands (part.IfZero rs t) = Register rs ∷ Towards t ∷ []
written_operands (part.IfNotZero rs t) = Register rs ∷ Towards t ∷ []
written_operands (part.LoadImmediate rd n) = Register rd ∷ Numbered n ∷ []
written_operands (part.Import rd name) = Register rd ∷ Named name ∷ []
written_operands (part.TextAddress rd label) = Register rd ∷ Named label ∷ []
written_operands (part.GlobalAddress rd label) = Register rd ∷ Named label ∷ []
written_operands _ = []

-- what the first word of a statement says; labels and directives have none
abbrev pub head_by : Part Name → Option Head
head_by (part.Registers operation rd rs1 rs2) = Some (head.Registers operation)
head_by (part.Immediate operation rd rs1 n) = Some (head.Immediate operation)
head_by (part.Upper operation rd n) = Some (head.Upper operation)
head_by (part.Load operation rd n rs1) = Some (head.Load operation)
head_by (part.RegisterJump rd n rs1) = Some head.RegisterJump
head_by (part.JumpCapability rd rs1) = Some head.RegisterJump
head_by (part.Store operation rs2 n rs1) = Some (head.Store operation)
head_by (part.Branch operation rs1 rs2 t) = Some (head.Branch operation)
head_by (part.Jal rd t) = Some head.Jal
head_by (part.Source operation rd rs1) = Some (head.Source operation)
head_by (part.Bare operation) = Some (head.Bare operation)
head_by part.Nop = Some head.Nop
head_by (part.Move rd rs) = Some head.Move
head_by (part.Jump t) = Some head.Jump
head_by (part.JumpAndLink rd t) = Some head.JumpAndLink
head_by part.Return = Some head.Return
head_by (part.JumpRegister rs) = Some head.JumpRegister
head_by (part.IfZero rs t) = Some head.IfZero
head_by (part.IfNotZero rs t) = Some head.IfNotZero
head_by (part.LoadImmediate rd n) = Some head.LoadImmediate
head_by (part.Import rd name) = Some head.Import
head_by (part.TextAddress rd label) = Some head.TextAddress
head_by (part.GlobalAddress rd label) = Some head.GlobalAddress
head_by _ = None

abbrev pub directive_by : Part Name → Option Directive
directive_by part.Text = Some directive.Text
directive_by part.Data = Some directive.Data
directive_by (part.Word n) = Some directive.Word
directive_by (part.Byte n) = Some directive.Byte
directive_by (part.Zero n) = Some directive.Zero
directive_by (part.Align n) = Some directive.Align
directive_by _ = None

-- the statement begins with such a word, and the tokens after it are its operands
abbrev pub WritesStatement : Head → Row → Part Name → Type 0
WritesStatement h ts p = (head_by p ≡ Some h) × AreWritten (written_operands p) ts

abbrev pub WritesDirective : Directive → Row → Part Name → Type 0
WritesDirective d ts p = (directive_by p ≡ Some d) × AreWritten (written_operands p) ts
