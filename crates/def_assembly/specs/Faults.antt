-- What a line of a source breaks, the faults A1, A2, A3, A4 and A7 of docs/use/errors.md ("5 assembly"), each by its
-- own condition, however many it breaks; and the fault of a line, and of all lines of a source, as the least of them.
use Rattle.std.specs.Prelude.{ℕ, zero, suc, ◌≡◌, ◌+◌, ◌<◌, ◌≤◌, ◌⊎◌, Bool, true, false, is_none, is_some, List, [], ◌∷◌, Option, Some, None, option_and_then, Result, Ok, Err, slice_get}
use Rattle.std.specs.List.{list_all}
use Rattle.def_source.specs.declared.parts.Line.{Line}
use Rattle.def_source.specs.declared.parts.Part.{Part}
use Rattle.def_source.specs.declared.parts.Section.{Section}
use Rattle.def_source.specs.declared.parts.Section.TheVariants as section
use Rattle.def_source.specs.declared.parts.Token.TheVariants as token
use Rattle.def_source.specs.Source.{Name, Row, is_ascii, before_comment, pieces, token_of, line_tokens, after_label, statement_head, directive_of, statement_form, directive_form, in_section, numbers_fit, registers_exist, line_of, lines_of, section_after}

-- a piece that is no token
abbrev pub HasUnread : List (List ℕ) → Type 0
HasUnread [] = ⊥
HasUnread (p ∷ ps) = (token_of p ≡ None) ⊎ HasUnread ps

-- A1: a byte that isn't ASCII, or a piece before the comment that is no token
abbrev pub IsUnread : List ℕ → Type 0
IsUnread line = (list_all is_ascii line ≡ false) ⊎ HasUnread (pieces (before_comment line))

-- A2: a first token that is no word of a statement
abbrev pub is_unknown : Row → Bool
is_unknown [] = false
is_unknown (token.Name n ∷ ts) = is_none (statement_head n)
is_unknown (token.Directive n ∷ ts) = is_none (directive_of n)
is_unknown _ = true

-- a first token that is a word of a statement
abbrev pub is_known : Row → Bool
is_known [] = false
is_known (token.Name n ∷ ts) = is_some (statement_head n)
is_known (token.Directive n ∷ ts) = is_some (directive_of n)
is_known _ = false

-- the statement of a row, if it has a form, whatever its numbers and wherever it stands
abbrev pub form_in : Row → Option (Part Name)
form_in [] = None
form_in (token.Name n ∷ ts) = option_and_then (λ h. statement_form h ts) (statement_head n)
form_in (token.Directive n ∷ ts) = option_and_then (λ d. directive_form d ts) (directive_of n)
form_in _ = None

-- what a statement that has a form breaks: A3 its section, A4 a number's range, A7 a register
abbrev pub PartBreaks : Section → Part Name → ℕ → Type 0
PartBreaks s p n =
    ((n ≡ 3) × (in_section s p ≡ false))
    ⊎ ((n ≡ 4) × (numbers_fit p ≡ false))
    ⊎ ((n ≡ 7) × (registers_exist p ≡ false))

-- what a row of tokens breaks after its label: A2, A3 where the operands have no form, or what its statement breaks
abbrev pub RowBreaks : Section → Row → ℕ → Type 0
RowBreaks s ts n =
    ((n ≡ 2) × (is_unknown ts ≡ true))
    ⊎ ((n ≡ 3) × (is_known ts ≡ true) × (form_in ts ≡ None))
    ⊎ ((p : Part Name) × (form_in ts ≡ Some p) × PartBreaks s p n)

-- what a line breaks
abbrev pub LineBreaks : Section → List ℕ → ℕ → Type 0
LineBreaks s line n =
    ((n ≡ 1) × IsUnread line)
    ⊎ ((ts : Row) × (line_tokens line ≡ Some ts) × RowBreaks s (after_label ts) n)

-- a line's fault: the least number that it breaks
pub record IsLineFault (s : Section) (line : List ℕ) (n : ℕ) : Type 0 where
  pub breaks : LineBreaks s line n
  pub least : (m : ℕ) → LineBreaks s line m → n ≤ m

-- the section behind a line that begins in one
abbrev pub section_behind : Section → Result (Line Name) ℕ → Section
section_behind s (Ok l) = section_after s l.part
section_behind s (Err n) = s

-- the section in which a line stands, counted from 0, where the first begins in one
abbrev pub section_in : Section → List (List ℕ) → ℕ → Section
section_in s [] i = s
section_in s (l ∷ ls) zero = s
section_in s (l ∷ ls) (suc i) = section_in (section_behind s (line_of s l)) ls i

-- no line before one, counted from 0, breaks anything
abbrev pub NoneBreaks : Section → List (List ℕ) → ℕ → Type 0
NoneBreaks s ls at = (i : ℕ) (line : List ℕ) → i < at → slice_get ls i ≡ Some line
    → (n : ℕ) → LineBreaks (section_in s ls i) line n → ⊥

-- the fault of lines, the first of which has a number and begins in a section: that of the first line that breaks anything
pub record IsFirstFault (s : Section) (from : ℕ) (ls : List (List ℕ)) (number line : ℕ) : Type 0 where
  pub at : ℕ
  pub text : List ℕ
  pub counted : line ≡ from + at
  pub there : slice_get ls at ≡ Some text
  pub least : IsLineFault (section_in s ls at) text number
  pub first : NoneBreaks s ls at

-- the fault of a source
abbrev pub IsSourceFault : List ℕ → ℕ → ℕ → Type 0
IsSourceFault source number line = IsFirstFault section.Text 1 (lines_of source) number line
