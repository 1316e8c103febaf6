-- A row of tokens is read as a statement just where the statement is written so.
use Rattle.std.proofs.Common.{◌≡◌, ℕ, [], ◌∷◌, Option, Some, None, refl, sym, ap, ◌∙◌, subst, ◌↔◌}
use Rattle.std.specs.Prelude.{option_map}
use Rattle.def_source.specs.Source.{Name, Row, statement_form, directive_form, or_else, ended, two_registers, three_registers, two_registers_number, two_registers_target, register_number, register_and_target, register_name, register_address, one_register, one_number, one_target}
use Rattle.def_source.specs.declared.words.Head.{Head}
use Rattle.def_source.specs.declared.words.Head.TheVariants as head
use Rattle.def_source.specs.declared.words.Directive.{Directive}
use Rattle.def_source.specs.declared.words.Directive.TheVariants as directive
use Rattle.def_source.specs.declared.parts.Number.{Number}
use Rattle.def_source.specs.declared.parts.Target.{Target}
use Rattle.def_source.specs.declared.parts.Part.{Part}
use Rattle.def_source.specs.declared.parts.Part.TheVariants as part
use Rattle.def_assembly.specs.Written.{AreWritten, written_operands, head_by, directive_by, WritesStatement, WritesDirective}
use Rattle.law_assembly.proofs.Operands.{two_registers_says, three_registers_says, two_registers_number_says, two_registers_target_says, register_number_says, register_target_says, register_name_says, register_address_says, one_register_says, one_number_says, one_target_says, two_registers_reads, three_registers_reads, two_registers_number_reads, two_registers_target_reads, register_number_reads, register_target_reads, register_name_reads, register_address_reads, two_registers_no_address, one_register_reads, one_number_reads, one_target_reads}

-- ---- read, so written

-- a form by what it is made of: what is read of the tokens says how they are written
by_form : {A : Type 0} (h : Head) (ts : Row) (make : A → Part Name) (read : Option A) (p : Part Name)
    → ((o : A) → read ≡ Some o → WritesStatement h ts (make o)) → option_map make read ≡ Some p → WritesStatement h ts p
by_form h ts make None p says e = absurd (cc e)
by_form h ts make (Some o) p says e = let same : make o ≡ p = cc e in subst (WritesStatement h ts) same (says o refl)

by_end : (h : Head) (ts : Row) (q p : Part Name) → head_by q ≡ Some h → written_operands q ≡ [] → ended ts q ≡ Some p → WritesStatement h ts p
by_end h [] q p begins none e = let same : q ≡ p = cc e in subst (WritesStatement h []) same (begins, subst (λ os. AreWritten os []) (sym none) refl)
by_end h (t ∷ ts) q p begins none e = absurd (cc e)

jump_says : (ts : Row) (a : Option (ℕ × Number × ℕ)) (b : Option (ℕ × ℕ)) (p : Part Name)
    → ((o : ℕ × Number × ℕ) → a ≡ Some o → WritesStatement head.RegisterJump ts (part.RegisterJump o.0 o.1 o.2))
    → ((o : ℕ × ℕ) → b ≡ Some o → WritesStatement head.RegisterJump ts (part.JumpCapability o.0 o.1))
    → or_else (option_map (λ o. part.RegisterJump o.0 o.1 o.2) a) (option_map (λ o. part.JumpCapability o.0 o.1) b) ≡ Some p
    → WritesStatement head.RegisterJump ts p
jump_says ts (Some o) b p first second e = by_form head.RegisterJump ts (λ o. part.RegisterJump o.0 o.1 o.2) (Some o) p first e
jump_says ts None b p first second e = by_form head.RegisterJump ts (λ o. part.JumpCapability o.0 o.1) b p second e

read_written : (h : Head) (ts : Row) (p : Part Name) → statement_form h ts ≡ Some p → WritesStatement h ts p
read_written (head.Registers k) ts p e = by_form (head.Registers k) ts _ (three_registers ts) p (λ o is. (refl, three_registers_says ts o is)) e
read_written (head.Immediate k) ts p e = by_form (head.Immediate k) ts _ (two_registers_number ts) p (λ o is. (refl, two_registers_number_says ts o is)) e
read_written (head.Upper k) ts p e = by_form (head.Upper k) ts _ (register_number ts) p (λ o is. (refl, register_number_says ts o is)) e
read_written (head.Load k) ts p e = by_form (head.Load k) ts _ (register_address ts) p (λ o is. (refl, register_address_says ts o is)) e
read_written (head.Store k) ts p e = by_form (head.Store k) ts _ (register_address ts) p (λ o is. (refl, register_address_says ts o is)) e
read_written (head.Branch k) ts p e = by_form (head.Branch k) ts _ (two_registers_target ts) p (λ o is. (refl, two_registers_target_says ts o is)) e
read_written (head.Source k) ts p e = by_form (head.Source k) ts _ (two_registers ts) p (λ o is. (refl, two_registers_says ts o is)) e
read_written (head.Bare k) ts p e = by_end (head.Bare k) ts (part.Bare k) p refl refl e
read_written head.Jal ts p e = by_form head.Jal ts _ (register_and_target ts) p (λ o is. (refl, register_target_says ts o is)) e
read_written head.RegisterJump ts p e = jump_says ts (register_address ts) (two_registers ts) p
    (λ o is. (refl, register_address_says ts o is)) (λ o is. (refl, two_registers_says ts o is)) e
read_written head.Nop ts p e = by_end head.Nop ts part.Nop p refl refl e
read_written head.Move ts p e = by_form head.Move ts _ (two_registers ts) p (λ o is. (refl, two_registers_says ts o is)) e
read_written head.Jump ts p e = by_form head.Jump ts _ (one_target ts) p (λ o is. (refl, one_target_says ts o is)) e
read_written head.JumpAndLink ts p e = by_form head.JumpAndLink ts _ (register_and_target ts) p (λ o is. (refl, register_target_says ts o is)) e
read_written head.Return ts p e = by_end head.Return ts part.Return p refl refl e
read_written head.JumpRegister ts p e = by_form head.JumpRegister ts _ (one_register ts) p (λ o is. (refl, one_register_says ts o is)) e
read_written head.IfZero ts p e = by_form head.IfZero ts _ (register_and_target ts) p (λ o is. (refl, register_target_says ts o is)) e
read_written head.IfNotZero ts p e = by_form head.IfNotZero ts _ (register_and_target ts) p (λ o is. (refl, register_target_says ts o is)) e
read_written head.LoadImmediate ts p e = by_form head.LoadImmediate ts _ (register_number ts) p (λ o is. (refl, register_number_says ts o is)) e
read_written head.Import ts p e = by_form head.Import ts _ (register_name ts) p (λ o is. (refl, register_name_says ts o is)) e
read_written head.TextAddress ts p e = by_form head.TextAddress ts _ (register_name ts) p (λ o is. (refl, register_name_says ts o is)) e
read_written head.GlobalAddress ts p e = by_form head.GlobalAddress ts _ (register_name ts) p (λ o is. (refl, register_name_says ts o is)) e

-- ---- written, so read

written_read : (p : Part Name) (h : Head) (ts : Row) → head_by p ≡ Some h → AreWritten (written_operands p) ts → statement_form h ts ≡ Some p
written_read (part.Registers k a b c) h ts e w = let same : head.Registers k ≡ h = cc e in
    subst (λ (z : Head). statement_form z ts ≡ Some (part.Registers k a b c)) same (ap (option_map (λ (o : ℕ × ℕ × ℕ). part.Registers k o.0 o.1 o.2)) (three_registers_reads ts a b c w))
written_read (part.Immediate k a b n) h ts e w = let same : head.Immediate k ≡ h = cc e in
    subst (λ (z : Head). statement_form z ts ≡ Some (part.Immediate k a b n)) same (ap (option_map (λ (o : ℕ × ℕ × Number). part.Immediate k o.0 o.1 o.2)) (two_registers_number_reads ts a b n w))
written_read (part.Upper k a n) h ts e w = let same : head.Upper k ≡ h = cc e in
    subst (λ (z : Head). statement_form z ts ≡ Some (part.Upper k a n)) same (ap (option_map (λ (o : ℕ × Number). part.Upper k o.0 o.1)) (register_number_reads ts a n w))
written_read (part.Load k a n r) h ts e w = let same : head.Load k ≡ h = cc e in
    subst (λ (z : Head). statement_form z ts ≡ Some (part.Load k a n r)) same (ap (option_map (λ (o : ℕ × Number × ℕ). part.Load k o.0 o.1 o.2)) (register_address_reads ts a n r w))
written_read (part.RegisterJump a n r) h ts e w = let same : head.RegisterJump ≡ h = cc e in
    subst (λ (z : Head). statement_form z ts ≡ Some (part.RegisterJump a n r)) same
    (ap (λ (o : Option (ℕ × Number × ℕ)). or_else (option_map (λ (o : ℕ × Number × ℕ). part.RegisterJump o.0 o.1 o.2) o) (option_map (λ (o : ℕ × ℕ). part.JumpCapability o.0 o.1) (two_registers ts)))
    (register_address_reads ts a n r w))
written_read (part.JumpCapability a b) h ts e w = let same : head.RegisterJump ≡ h = cc e in
    subst (λ (z : Head). statement_form z ts ≡ Some (part.JumpCapability a b)) same
    (ap (λ (o : Option (ℕ × Number × ℕ)). or_else (option_map (λ (o : ℕ × Number × ℕ). part.RegisterJump o.0 o.1 o.2) o) (option_map (λ (o : ℕ × ℕ). part.JumpCapability o.0 o.1) (two_registers ts)))
    (two_registers_no_address ts a b w)
    ∙ ap (option_map (λ (o : ℕ × ℕ). part.JumpCapability o.0 o.1)) (two_registers_reads ts a b w))
written_read (part.Store k a n r) h ts e w = let same : head.Store k ≡ h = cc e in
    subst (λ (z : Head). statement_form z ts ≡ Some (part.Store k a n r)) same (ap (option_map (λ (o : ℕ × Number × ℕ). part.Store k o.0 o.1 o.2)) (register_address_reads ts a n r w))
written_read (part.Branch k a b t) h ts e w = let same : head.Branch k ≡ h = cc e in
    subst (λ (z : Head). statement_form z ts ≡ Some (part.Branch k a b t)) same (ap (option_map (λ (o : ℕ × ℕ × Target Name). part.Branch k o.0 o.1 o.2)) (two_registers_target_reads ts a b t w))
written_read (part.Jal a t) h ts e w = let same : head.Jal ≡ h = cc e in
    subst (λ (z : Head). statement_form z ts ≡ Some (part.Jal a t)) same (ap (option_map (λ (o : ℕ × Target Name). part.Jal o.0 o.1)) (register_target_reads ts a t w))
written_read (part.Source k a b) h ts e w = let same : head.Source k ≡ h = cc e in
    subst (λ (z : Head). statement_form z ts ≡ Some (part.Source k a b)) same (ap (option_map (λ (o : ℕ × ℕ). part.Source k o.0 o.1)) (two_registers_reads ts a b w))
written_read (part.Bare k) h ts e w = let same : head.Bare k ≡ h = cc e in
    subst (λ (z : Head). statement_form z ts ≡ Some (part.Bare k)) same (ap (λ (z : Row). ended z (part.Bare k)) w)
written_read part.Nop h ts e w = let same : head.Nop ≡ h = cc e in
    subst (λ (z : Head). statement_form z ts ≡ Some part.Nop) same (ap (λ (z : Row). ended z part.Nop) w)
written_read (part.Move a b) h ts e w = let same : head.Move ≡ h = cc e in
    subst (λ (z : Head). statement_form z ts ≡ Some (part.Move a b)) same (ap (option_map (λ (o : ℕ × ℕ). part.Move o.0 o.1)) (two_registers_reads ts a b w))
written_read (part.Jump t) h ts e w = let same : head.Jump ≡ h = cc e in
    subst (λ (z : Head). statement_form z ts ≡ Some (part.Jump t)) same (ap (option_map (λ (o : Target Name). part.Jump o)) (one_target_reads ts t w))
written_read (part.JumpAndLink a t) h ts e w = let same : head.JumpAndLink ≡ h = cc e in
    subst (λ (z : Head). statement_form z ts ≡ Some (part.JumpAndLink a t)) same (ap (option_map (λ (o : ℕ × Target Name). part.JumpAndLink o.0 o.1)) (register_target_reads ts a t w))
written_read part.Return h ts e w = let same : head.Return ≡ h = cc e in
    subst (λ (z : Head). statement_form z ts ≡ Some part.Return) same (ap (λ (z : Row). ended z part.Return) w)
written_read (part.JumpRegister a) h ts e w = let same : head.JumpRegister ≡ h = cc e in
    subst (λ (z : Head). statement_form z ts ≡ Some (part.JumpRegister a)) same (ap (option_map (λ (o : ℕ). part.JumpRegister o)) (one_register_reads ts a w))
written_read (part.IfZero a t) h ts e w = let same : head.IfZero ≡ h = cc e in
    subst (λ (z : Head). statement_form z ts ≡ Some (part.IfZero a t)) same (ap (option_map (λ (o : ℕ × Target Name). part.IfZero o.0 o.1)) (register_target_reads ts a t w))
written_read (part.IfNotZero a t) h ts e w = let same : head.IfNotZero ≡ h = cc e in
    subst (λ (z : Head). statement_form z ts ≡ Some (part.IfNotZero a t)) same (ap (option_map (λ (o : ℕ × Target Name). part.IfNotZero o.0 o.1)) (register_target_reads ts a t w))
written_read (part.LoadImmediate a n) h ts e w = let same : head.LoadImmediate ≡ h = cc e in
    subst (λ (z : Head). statement_form z ts ≡ Some (part.LoadImmediate a n)) same (ap (option_map (λ (o : ℕ × Number). part.LoadImmediate o.0 o.1)) (register_number_reads ts a n w))
written_read (part.Import a n) h ts e w = let same : head.Import ≡ h = cc e in
    subst (λ (z : Head). statement_form z ts ≡ Some (part.Import a n)) same (ap (option_map (λ (o : ℕ × Name). part.Import o.0 o.1)) (register_name_reads ts a n w))
written_read (part.TextAddress a n) h ts e w = let same : head.TextAddress ≡ h = cc e in
    subst (λ (z : Head). statement_form z ts ≡ Some (part.TextAddress a n)) same (ap (option_map (λ (o : ℕ × Name). part.TextAddress o.0 o.1)) (register_name_reads ts a n w))
written_read (part.GlobalAddress a n) h ts e w = let same : head.GlobalAddress ≡ h = cc e in
    subst (λ (z : Head). statement_form z ts ≡ Some (part.GlobalAddress a n)) same (ap (option_map (λ (o : ℕ × Name). part.GlobalAddress o.0 o.1)) (register_name_reads ts a n w))
written_read p h ts e w = absurd (cc e)

pub forms : (h : Head) (ts : Row) (p : Part Name) → (statement_form h ts ≡ Some p) ↔ WritesStatement h ts p
forms h ts p = (read_written h ts p, λ w. written_read p h ts w.0 w.1)

-- ---- directives

directive_end : (d : Directive) (ts : Row) (q p : Part Name) → directive_by q ≡ Some d → written_operands q ≡ [] → ended ts q ≡ Some p → WritesDirective d ts p
directive_end d [] q p begins none e = let same : q ≡ p = cc e in subst (WritesDirective d []) same (begins, subst (λ os. AreWritten os []) (sym none) refl)
directive_end d (t ∷ ts) q p begins none e = absurd (cc e)

directive_number : (d : Directive) (ts : Row) (make : Number → Part Name) (read : Option Number) (p : Part Name)
    → ((n : Number) → read ≡ Some n → WritesDirective d ts (make n)) → option_map make read ≡ Some p → WritesDirective d ts p
directive_number d ts make None p says e = absurd (cc e)
directive_number d ts make (Some n) p says e = let same : make n ≡ p = cc e in subst (WritesDirective d ts) same (says n refl)

directive_written : (d : Directive) (ts : Row) (p : Part Name) → directive_form d ts ≡ Some p → WritesDirective d ts p
directive_written directive.Text ts p e = directive_end directive.Text ts part.Text p refl refl e
directive_written directive.Data ts p e = directive_end directive.Data ts part.Data p refl refl e
directive_written directive.Word ts p e = directive_number directive.Word ts _ (one_number ts) p (λ n is. (refl, one_number_says ts n is)) e
directive_written directive.Byte ts p e = directive_number directive.Byte ts _ (one_number ts) p (λ n is. (refl, one_number_says ts n is)) e
directive_written directive.Zero ts p e = directive_number directive.Zero ts _ (one_number ts) p (λ n is. (refl, one_number_says ts n is)) e
directive_written directive.Align ts p e = directive_number directive.Align ts _ (one_number ts) p (λ n is. (refl, one_number_says ts n is)) e

directive_read : (p : Part Name) (d : Directive) (ts : Row) → directive_by p ≡ Some d → AreWritten (written_operands p) ts → directive_form d ts ≡ Some p
directive_read part.Text d ts e w = let same : directive.Text ≡ d = cc e in
    subst (λ (z : Directive). directive_form z ts ≡ Some part.Text) same (ap (λ (z : Row). ended z part.Text) w)
directive_read part.Data d ts e w = let same : directive.Data ≡ d = cc e in
    subst (λ (z : Directive). directive_form z ts ≡ Some part.Data) same (ap (λ (z : Row). ended z part.Data) w)
directive_read (part.Word n) d ts e w = let same : directive.Word ≡ d = cc e in
    subst (λ (z : Directive). directive_form z ts ≡ Some (part.Word n)) same (ap (option_map (λ (n : Number). part.Word n)) (one_number_reads ts n w))
directive_read (part.Byte n) d ts e w = let same : directive.Byte ≡ d = cc e in
    subst (λ (z : Directive). directive_form z ts ≡ Some (part.Byte n)) same (ap (option_map (λ (n : Number). part.Byte n)) (one_number_reads ts n w))
directive_read (part.Zero n) d ts e w = let same : directive.Zero ≡ d = cc e in
    subst (λ (z : Directive). directive_form z ts ≡ Some (part.Zero n)) same (ap (option_map (λ (n : Number). part.Zero n)) (one_number_reads ts n w))
directive_read (part.Align n) d ts e w = let same : directive.Align ≡ d = cc e in
    subst (λ (z : Directive). directive_form z ts ≡ Some (part.Align n)) same (ap (option_map (λ (n : Number). part.Align n)) (one_number_reads ts n w))
directive_read p d ts e w = absurd (cc e)

pub directives : (d : Directive) (ts : Row) (p : Part Name) → (directive_form d ts ≡ Some p) ↔ WritesDirective d ts p
directives d ts p = (directive_written d ts p, λ w. directive_read p d ts w.0 w.1)
