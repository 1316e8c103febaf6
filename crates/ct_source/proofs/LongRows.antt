-- No line has more than nine tokens, its label's among them, unless it is faulty: its first ten say what all say.
use Rattle.std.proofs.Common.{◌≡◌, ℕ, zero, suc, ◌+◌, ◌<◌, [], ◌∷◌, length, take, Option, Some, None, option_map, option_and_then, refl, sym, ap, ◌∙◌, arith, ◌⊎◌, inl, inr}
use Rattle.def_source.specs.declared.parts.Section.{Section}
use Rattle.def_source.specs.declared.parts.Token.{Token}
use Rattle.def_source.specs.declared.parts.Token.TheVariants as token
use Rattle.def_source.specs.declared.parts.Part.{Part}
use Rattle.def_source.specs.declared.parts.Number.{Number}
use Rattle.def_source.specs.declared.words.Head.{Head}
use Rattle.def_source.specs.declared.words.Head.TheVariants as head
use Rattle.def_source.specs.declared.words.Directive.{Directive}
use Rattle.def_source.specs.declared.words.Directive.TheVariants as directive
use Rattle.def_source.specs.Source.{Name, Row, ended, comma_at, open_at, close_at, name_at, number_at, target_at, register_of, register_at, register_comma, address_at, two_registers, three_registers, two_registers_number, two_registers_target, register_number, register_and_target, register_name, register_address, one_register, one_number, one_target, statement_form, directive_form, statement_head, directive_of, headed, directed, formed, statement_of, label_of, after_label, result_map, row_line, tokens_line, or_else}
use Rattle.ct_source.specs.Runs.{shortened}

-- what stands at the front of a row, if it does, has so many tokens
abbrev Takes : {A : Type 0} → (A → Row) → ℕ → Row → Option A → Type 0
Takes rest k ts None = Unit {0}
Takes rest k ts (Some x) = length ts ≡ k + length (rest x)

deeper : {A : Type 0} (rest : A → Row) (k m : ℕ) (ts us : Row) (o : Option A) → length ts ≡ k + length us → Takes rest m us o → Takes rest (k + m) ts o
deeper rest k m ts us None e h = tt
deeper rest k m ts us (Some x) e h = omega (arith, e, h)

-- one after another
both : {A B : Type 0} (rest : A → Row) (rest' : B → Row) (k m : ℕ) (ts : Row) (o : Option A) (f : A → Option B) → Takes rest k ts o → ((x : A) → Takes rest' m (rest x) (f x)) → Takes rest' (k + m) ts (option_and_then f o)
both rest rest' k m ts None f h later = tt
both rest rest' k m ts (Some x) f h later = deeper rest' k m ts (rest x) (f x) h (later x)

-- where more tokens follow than a form has, there is none
no_more : {A B : Type 0} (rest : A → Row) (k m : ℕ) (ts : Row) (o : Option A) (f : A → Option B) → Takes rest k ts o → k + m < length ts → ((x : A) → m < length (rest x) → f x ≡ None) → option_and_then f o ≡ None
no_more rest k m ts None f h l later = refl
no_more rest k m ts (Some x) f h l later = later x (omega (arith, l, h))

not_ended : {A : Type 0} (ts : Row) (x : A) → 0 < length ts → ended ts x ≡ None
not_ended [] x h = absurd (omega (arith, h))
not_ended (t ∷ ts) x h = refl

comma_takes : (ts : Row) → Takes (λ us. us) 1 ts (comma_at ts)
comma_takes [] = tt
comma_takes (token.Comma ∷ ts) = omega arith
comma_takes (token.Name n ∷ ts) = tt
comma_takes (token.Directive n ∷ ts) = tt
comma_takes (token.Number n ∷ ts) = tt
comma_takes (token.Colon ∷ ts) = tt
comma_takes (token.Open ∷ ts) = tt
comma_takes (token.Close ∷ ts) = tt

open_takes : (ts : Row) → Takes (λ us. us) 1 ts (open_at ts)
open_takes [] = tt
open_takes (token.Open ∷ ts) = omega arith
open_takes (token.Name n ∷ ts) = tt
open_takes (token.Directive n ∷ ts) = tt
open_takes (token.Number n ∷ ts) = tt
open_takes (token.Colon ∷ ts) = tt
open_takes (token.Comma ∷ ts) = tt
open_takes (token.Close ∷ ts) = tt

close_takes : (ts : Row) → Takes (λ us. us) 1 ts (close_at ts)
close_takes [] = tt
close_takes (token.Close ∷ ts) = omega arith
close_takes (token.Name n ∷ ts) = tt
close_takes (token.Directive n ∷ ts) = tt
close_takes (token.Number n ∷ ts) = tt
close_takes (token.Colon ∷ ts) = tt
close_takes (token.Comma ∷ ts) = tt
close_takes (token.Open ∷ ts) = tt

name_takes : (ts : Row) → Takes (λ p. p.1) 1 ts (name_at ts)
name_takes [] = tt
name_takes (token.Name n ∷ ts) = omega arith
name_takes (token.Comma ∷ ts) = tt
name_takes (token.Directive n ∷ ts) = tt
name_takes (token.Number n ∷ ts) = tt
name_takes (token.Colon ∷ ts) = tt
name_takes (token.Open ∷ ts) = tt
name_takes (token.Close ∷ ts) = tt

number_takes : (ts : Row) → Takes (λ p. p.1) 1 ts (number_at ts)
number_takes [] = tt
number_takes (token.Number n ∷ ts) = omega arith
number_takes (token.Comma ∷ ts) = tt
number_takes (token.Directive n ∷ ts) = tt
number_takes (token.Name n ∷ ts) = tt
number_takes (token.Colon ∷ ts) = tt
number_takes (token.Open ∷ ts) = tt
number_takes (token.Close ∷ ts) = tt

target_takes : (ts : Row) → Takes (λ p. p.1) 1 ts (target_at ts)
target_takes [] = tt
target_takes (token.Name n ∷ ts) = omega arith
target_takes (token.Number n ∷ ts) = omega arith
target_takes (token.Comma ∷ ts) = tt
target_takes (token.Directive n ∷ ts) = tt
target_takes (token.Colon ∷ ts) = tt
target_takes (token.Open ∷ ts) = tt
target_takes (token.Close ∷ ts) = tt

found : (o : Option ℕ) (us : Row) → Takes (λ (p : ℕ × Row). p.1) 0 us (option_and_then (λ r. Some (r, us)) o)
found None us = tt
found (Some r) us = omega arith

register_takes : (ts : Row) → Takes (λ p. p.1) 1 ts (register_at ts)
unfolding register_at
register_takes ts = both (λ p. p.1) (λ p. p.1) 1 0 ts (name_at ts) (λ n. option_and_then (λ r. Some (r, n.1)) (register_of n.0)) (name_takes ts) (λ n. found (register_of n.0) n.1)

register_comma_takes : (ts : Row) → Takes (λ p. p.1) 2 ts (register_comma ts)
unfolding register_comma
register_comma_takes ts = both (λ p. p.1) (λ p. p.1) 1 1 ts (register_at ts) (λ r. option_and_then (λ us. Some (r.0, us)) (comma_at r.1)) (register_takes ts) (λ r. both (λ us. us) (λ p. p.1) 1 0 r.1 (comma_at r.1) (λ us. Some (r.0, us)) (comma_takes r.1) (λ us. omega arith))

address_takes : (ts : Row) → Takes (λ (p : Number × ℕ × Row). p.2) 4 ts (address_at ts)
unfolding address_at
address_takes ts = both (λ p. p.1) (λ p. p.2) 1 3 ts (number_at ts) _ (number_takes ts)
    (λ n. both (λ us. us) (λ p. p.2) 1 2 n.1 (open_at n.1) _ (open_takes n.1)
    (λ us. both (λ p. p.1) (λ p. p.2) 1 1 us (register_at us) _ (register_takes us)
    (λ r. both (λ vs. vs) (λ p. p.2) 1 0 r.1 (close_at r.1) (λ vs. Some (n.0, r.0, vs)) (close_takes r.1) (λ vs. omega arith))))

-- ---- no form is longer than six tokens

two_registers_end : (ts : Row) → 6 < length ts → two_registers ts ≡ None
unfolding two_registers
two_registers_end ts h = no_more (λ p. p.1) 2 4 ts (register_comma ts) _ (register_comma_takes ts) h
    (λ a h. no_more (λ p. p.1) 1 3 a.1 (register_at a.1) (λ b. ended b.1 (a.0, b.0)) (register_takes a.1) h
    (λ b h. not_ended b.1 (a.0, b.0) (omega (arith, h))))

three_registers_end : (ts : Row) → 6 < length ts → three_registers ts ≡ None
unfolding three_registers
three_registers_end ts h = no_more (λ p. p.1) 2 4 ts (register_comma ts) _ (register_comma_takes ts) h
    (λ a h. no_more (λ p. p.1) 2 2 a.1 (register_comma a.1) _ (register_comma_takes a.1) h
    (λ b h. no_more (λ p. p.1) 1 1 b.1 (register_at b.1) (λ c. ended c.1 (a.0, b.0, c.0)) (register_takes b.1) h
    (λ c h. not_ended c.1 (a.0, b.0, c.0) (omega (arith, h)))))

two_registers_number_end : (ts : Row) → 6 < length ts → two_registers_number ts ≡ None
unfolding two_registers_number
two_registers_number_end ts h = no_more (λ p. p.1) 2 4 ts (register_comma ts) _ (register_comma_takes ts) h
    (λ a h. no_more (λ p. p.1) 2 2 a.1 (register_comma a.1) _ (register_comma_takes a.1) h
    (λ b h. no_more (λ p. p.1) 1 1 b.1 (number_at b.1) (λ n. ended n.1 (a.0, b.0, n.0)) (number_takes b.1) h
    (λ n h. not_ended n.1 (a.0, b.0, n.0) (omega (arith, h)))))

two_registers_target_end : (ts : Row) → 6 < length ts → two_registers_target ts ≡ None
unfolding two_registers_target
two_registers_target_end ts h = no_more (λ p. p.1) 2 4 ts (register_comma ts) _ (register_comma_takes ts) h
    (λ a h. no_more (λ p. p.1) 2 2 a.1 (register_comma a.1) _ (register_comma_takes a.1) h
    (λ b h. no_more (λ p. p.1) 1 1 b.1 (target_at b.1) (λ t. ended t.1 (a.0, b.0, t.0)) (target_takes b.1) h
    (λ t h. not_ended t.1 (a.0, b.0, t.0) (omega (arith, h)))))

register_number_end : (ts : Row) → 6 < length ts → register_number ts ≡ None
unfolding register_number
register_number_end ts h = no_more (λ p. p.1) 2 4 ts (register_comma ts) _ (register_comma_takes ts) h
    (λ a h. no_more (λ p. p.1) 1 3 a.1 (number_at a.1) (λ n. ended n.1 (a.0, n.0)) (number_takes a.1) h
    (λ n h. not_ended n.1 (a.0, n.0) (omega (arith, h))))

register_target_end : (ts : Row) → 6 < length ts → register_and_target ts ≡ None
unfolding register_and_target
register_target_end ts h = no_more (λ p. p.1) 2 4 ts (register_comma ts) _ (register_comma_takes ts) h
    (λ a h. no_more (λ p. p.1) 1 3 a.1 (target_at a.1) (λ t. ended t.1 (a.0, t.0)) (target_takes a.1) h
    (λ t h. not_ended t.1 (a.0, t.0) (omega (arith, h))))

register_name_end : (ts : Row) → 6 < length ts → register_name ts ≡ None
unfolding register_name
register_name_end ts h = no_more (λ p. p.1) 2 4 ts (register_comma ts) _ (register_comma_takes ts) h
    (λ a h. no_more (λ p. p.1) 1 3 a.1 (name_at a.1) (λ n. ended n.1 (a.0, n.0)) (name_takes a.1) h
    (λ n h. not_ended n.1 (a.0, n.0) (omega (arith, h))))

register_address_end : (ts : Row) → 6 < length ts → register_address ts ≡ None
unfolding register_address
register_address_end ts h = no_more (λ p. p.1) 2 4 ts (register_comma ts) _ (register_comma_takes ts) h
    (λ a h. no_more (λ p. p.2) 4 0 a.1 (address_at a.1) (λ n. ended n.2 (a.0, n.0, n.1)) (address_takes a.1) h
    (λ n h. not_ended n.2 (a.0, n.0, n.1) (omega (arith, h))))

one_register_end : (ts : Row) → 6 < length ts → one_register ts ≡ None
unfolding one_register
one_register_end ts h = no_more (λ p. p.1) 1 5 ts (register_at ts) (λ a. ended a.1 a.0) (register_takes ts) h (λ a h. not_ended a.1 a.0 (omega (arith, h)))

one_number_end : (ts : Row) → 6 < length ts → one_number ts ≡ None
unfolding one_number
one_number_end ts h = no_more (λ p. p.1) 1 5 ts (number_at ts) (λ n. ended n.1 n.0) (number_takes ts) h (λ n h. not_ended n.1 n.0 (omega (arith, h)))

one_target_end : (ts : Row) → 6 < length ts → one_target ts ≡ None
unfolding one_target
one_target_end ts h = no_more (λ p. p.1) 1 5 ts (target_at ts) (λ t. ended t.1 t.0) (target_takes ts) h (λ t h. not_ended t.1 t.0 (omega (arith, h)))

none_mapped : {A B : Type 0} (f : A → B) (o : Option A) → o ≡ None → option_map f o ≡ None
none_mapped f o e = ap (option_map f) e

alone_end : (ts : Row) (p : Part Name) → 6 < length ts → ended ts p ≡ None
alone_end ts p h = not_ended ts p (omega (arith, h))

neither : (a b : Option (Part Name)) → a ≡ None → b ≡ None → or_else a b ≡ None
neither a b ea eb = ap (λ o. or_else o b) ea ∙ eb

no_form : (h : Head) (ts : Row) → 6 < length ts → statement_form h ts ≡ None
no_form (head.Registers operation) ts l = none_mapped _ _ (three_registers_end ts l)
no_form (head.Immediate operation) ts l = none_mapped _ _ (two_registers_number_end ts l)
no_form (head.Upper operation) ts l = none_mapped _ _ (register_number_end ts l)
no_form (head.Load operation) ts l = none_mapped _ _ (register_address_end ts l)
no_form (head.Store operation) ts l = none_mapped _ _ (register_address_end ts l)
no_form (head.Branch operation) ts l = none_mapped _ _ (two_registers_target_end ts l)
no_form (head.Source operation) ts l = none_mapped _ _ (two_registers_end ts l)
no_form (head.Bare operation) ts l = alone_end ts _ l
no_form head.Jal ts l = none_mapped _ _ (register_target_end ts l)
no_form head.RegisterJump ts l = neither _ _ (none_mapped _ _ (register_address_end ts l)) (none_mapped _ _ (two_registers_end ts l))
no_form head.Nop ts l = alone_end ts _ l
no_form head.Move ts l = none_mapped _ _ (two_registers_end ts l)
no_form head.Jump ts l = none_mapped _ _ (one_target_end ts l)
no_form head.JumpAndLink ts l = none_mapped _ _ (register_target_end ts l)
no_form head.Return ts l = alone_end ts _ l
no_form head.JumpRegister ts l = none_mapped _ _ (one_register_end ts l)
no_form head.IfZero ts l = none_mapped _ _ (register_target_end ts l)
no_form head.IfNotZero ts l = none_mapped _ _ (register_target_end ts l)
no_form head.LoadImmediate ts l = none_mapped _ _ (register_number_end ts l)
no_form head.Import ts l = none_mapped _ _ (register_name_end ts l)
no_form head.TextAddress ts l = none_mapped _ _ (register_name_end ts l)
no_form head.GlobalAddress ts l = none_mapped _ _ (register_name_end ts l)

no_directive : (d : Directive) (ts : Row) → 6 < length ts → directive_form d ts ≡ None
no_directive directive.Text ts l = alone_end ts _ l
no_directive directive.Data ts l = alone_end ts _ l
no_directive directive.Word ts l = none_mapped _ _ (one_number_end ts l)
no_directive directive.Byte ts l = none_mapped _ _ (one_number_end ts l)
no_directive directive.Zero ts l = none_mapped _ _ (one_number_end ts l)
no_directive directive.Align ts l = none_mapped _ _ (one_number_end ts l)

-- ---- statements after the same token, with more behind it than a form has

long_head : (s : Section) (o : Option Head) (ts us : Row) → 6 < length ts → 6 < length us → headed s ts o ≡ headed s us o
long_head s None ts us h k = refl
long_head s (Some d) ts us h k = ap (formed s) (no_form d ts h ∙ sym (no_form d us k))

long_directive : (s : Section) (o : Option Directive) (ts us : Row) → 6 < length ts → 6 < length us → directed s ts o ≡ directed s us o
long_directive s None ts us h k = refl
long_directive s (Some d) ts us h k = ap (formed s) (no_directive d ts h ∙ sym (no_directive d us k))

long_statement : (s : Section) (t : Token Name) (ts us : Row) → 6 < length ts → 6 < length us → statement_of s (t ∷ ts) ≡ statement_of s (t ∷ us)
long_statement s (token.Name n) ts us h k = long_head s (statement_head n) ts us h k
long_statement s (token.Directive n) ts us h k = long_directive s (directive_of n) ts us h k
long_statement s (token.Number n) ts us h k = refl
long_statement s token.Comma ts us h k = refl
long_statement s token.Colon ts us h k = refl
long_statement s token.Open ts us h k = refl
long_statement s token.Close ts us h k = refl

-- a row is no longer than so many tokens, or so many of them are left
front : (n : ℕ) (ts : Row) → (take n ts ≡ ts) ⊎ ((n < length ts) × (length (take n ts) ≡ n))
front zero [] = inl refl
front zero (t ∷ ts) = inr (omega arith, refl)
front (suc n) [] = inl refl
front (suc n) (t ∷ ts) = one_more (front n ts)
  where
    one_more : (take n ts ≡ ts) ⊎ ((n < length ts) × (length (take n ts) ≡ n)) → (take (suc n) (t ∷ ts) ≡ t ∷ ts) ⊎ ((suc n < length (t ∷ ts)) × (length (take (suc n) (t ∷ ts)) ≡ suc n))
    one_more (inl e) = inl (ap (λ us. t ∷ us) e)
    one_more (inr h) = inr (omega (arith, h.0), ap suc h.1)

front_says : (s : Section) (n : ℕ) (t : Token Name) (ts : Row) → 6 < n → statement_of s (t ∷ take n ts) ≡ statement_of s (t ∷ ts)
front_says s n t ts h = by_length (front n ts)
  where
    by_length : (take n ts ≡ ts) ⊎ ((n < length ts) × (length (take n ts) ≡ n)) → statement_of s (t ∷ take n ts) ≡ statement_of s (t ∷ ts)
    by_length (inl e) = ap (λ us. statement_of s (t ∷ us)) e
    by_length (inr l) = long_statement s t (take n ts) ts (omega (arith, l.1, h)) (omega (arith, l.0, h))

-- ---- rows and lines

no_label : (s : Section) (t u : Token Name) (ts : Row) → label_of (t ∷ u ∷ ts) ≡ None → after_label (t ∷ u ∷ ts) ≡ t ∷ u ∷ ts → label_of (t ∷ u ∷ take 8 ts) ≡ None → after_label (t ∷ u ∷ take 8 ts) ≡ t ∷ u ∷ take 8 ts → row_line s (take 10 (t ∷ u ∷ ts)) ≡ row_line s (t ∷ u ∷ ts)
unfolding row_line
no_label s t u ts l a l' a' =
    ap (λ n. result_map (λ p. record { label = n; part = p }) (statement_of s (after_label (t ∷ u ∷ take 8 ts)))) (l' ∙ sym l)
    ∙ ap (λ r. result_map (λ p. record { label = label_of (t ∷ u ∷ ts); part = p }) (statement_of s r)) a'
    ∙ ap (λ r. result_map (λ p. record { label = label_of (t ∷ u ∷ ts); part = p }) r) (front_says s 9 t (u ∷ ts) (omega arith))
    ∙ ap (λ r. result_map (λ p. record { label = label_of (t ∷ u ∷ ts); part = p }) (statement_of s r)) (sym a)

labelled : (s : Section) (n : Name) (ts : Row) → row_line s (take 10 (token.Name n ∷ token.Colon ∷ ts)) ≡ row_line s (token.Name n ∷ token.Colon ∷ ts)
unfolding row_line
labelled s n [] = refl
labelled s n (t ∷ ts) = ap (λ r. result_map (λ p. record { label = Some n; part = p }) r) (front_says s 7 t ts (omega arith))

short_row : (s : Section) (ts : Row) → row_line s (take 10 ts) ≡ row_line s ts
short_row s [] = refl
short_row s (t ∷ []) = refl
short_row s (token.Name n ∷ token.Colon ∷ ts) = labelled s n ts
short_row s (token.Name n ∷ token.Name m ∷ ts) = no_label s _ _ ts refl refl refl refl
short_row s (token.Name n ∷ token.Directive m ∷ ts) = no_label s _ _ ts refl refl refl refl
short_row s (token.Name n ∷ token.Number m ∷ ts) = no_label s _ _ ts refl refl refl refl
short_row s (token.Name n ∷ token.Comma ∷ ts) = no_label s _ _ ts refl refl refl refl
short_row s (token.Name n ∷ token.Open ∷ ts) = no_label s _ _ ts refl refl refl refl
short_row s (token.Name n ∷ token.Close ∷ ts) = no_label s _ _ ts refl refl refl refl
short_row s (token.Directive n ∷ u ∷ ts) = no_label s _ u ts refl refl refl refl
short_row s (token.Number n ∷ u ∷ ts) = no_label s _ u ts refl refl refl refl
short_row s (token.Comma ∷ u ∷ ts) = no_label s _ u ts refl refl refl refl
short_row s (token.Colon ∷ u ∷ ts) = no_label s _ u ts refl refl refl refl
short_row s (token.Open ∷ u ∷ ts) = no_label s _ u ts refl refl refl refl
short_row s (token.Close ∷ u ∷ ts) = no_label s _ u ts refl refl refl refl

pub short_line : (s : Section) (o : Option Row) → tokens_line s (shortened o) ≡ tokens_line s o
short_line s None = refl
short_line s (Some ts) = short_row s ts
