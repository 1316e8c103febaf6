-- What a text stands for is lawful.
use Rattle.std.proofs.Common.{◌≡◌, ℕ, ◌+◌, List, [], ◌∷◌, ◌++◌, Option, Some, None, Result, Ok, Err, Bool, true, false, ◌&&◌, not, cond, refl, subst}
use Rattle.def_source.specs.declared.AsmFault.{AsmFault}
use Rattle.def_source.specs.declared.parts.Line.{Line}
use Rattle.def_source.specs.declared.parts.Part.{Part}
use Rattle.def_source.specs.declared.parts.Section.{Section}
use Rattle.def_source.specs.declared.parts.Token.TheVariants as token
use Rattle.def_source.specs.declared.words.Head.{Head}
use Rattle.def_source.specs.declared.words.Directive.{Directive}
use Rattle.def_source.specs.Source.{Name, Row, Statements, with_front, line_then, program_from, line_of, line_tokens, tokens_line, row_line, label_of, after_label, line_statements, label_statements, part_statements, section_after, lawful_from, is_lawful_statement, in_section, numbers_fit, registers_exist, lawful_or_fault, formed, headed, directed, statement_of, statement_head, directive_of, statement_form, directive_form, result_map}

-- what stands on a line, if anything does, is lawful
abbrev PartLawful : Section → Option (Part Name) → Type 0
PartLawful s None = Unit {0}
PartLawful s (Some p) = is_lawful_statement s p ≡ true

three : (a b c : Bool) (p q : Part Name) → cond {A = Result (Part Name) ℕ} (not a) (Err 3) (cond (not b) (Err 4) (cond (not c) (Err 7) (Ok p))) ≡ Ok q → (p ≡ q) × ((a && b && c) ≡ true)
three false b c p q e = cc e
three true false c p q e = cc e
three true true false p q e = cc e
three true true true p q e = (cc e, refl)

checked : (s : Section) (p q : Part Name) → lawful_or_fault s p ≡ Ok q → is_lawful_statement s q ≡ true
checked s p q e =
    let both = three (in_section s p) (numbers_fit p) (registers_exist p) p q e in
    subst (λ r. is_lawful_statement s r ≡ true) both.0 both.1

some_checked : (s : Section) (p : Part Name) (r : Result (Part Name) ℕ) (o : Option (Part Name)) → lawful_or_fault s p ≡ r → result_map (λ q. Some q) r ≡ Ok o → PartLawful s o
some_checked s p (Err k) o h e = cc e
some_checked s p (Ok q) None h e = tt
some_checked s p (Ok q) (Some t) h e = let same : q ≡ t = cc e in subst (λ x. is_lawful_statement s x ≡ true) same (checked s p q h)

form_lawful : (s : Section) (f o : Option (Part Name)) → formed s f ≡ Ok o → PartLawful s o
form_lawful s None o e = cc e
form_lawful s (Some p) o e = some_checked s p (lawful_or_fault s p) o refl e

head_lawful : (s : Section) (ts : Row) (h : Option Head) (o : Option (Part Name)) → headed s ts h ≡ Ok o → PartLawful s o
head_lawful s ts None o e = cc e
head_lawful s ts (Some h) o e = form_lawful s (statement_form h ts) o e

directive_lawful : (s : Section) (ts : Row) (d : Option Directive) (o : Option (Part Name)) → directed s ts d ≡ Ok o → PartLawful s o
directive_lawful s ts None o e = cc e
directive_lawful s ts (Some d) o e = form_lawful s (directive_form d ts) o e

statement_lawful : (s : Section) (ts : Row) (o : Option (Part Name)) → statement_of s ts ≡ Ok o → PartLawful s o
statement_lawful s [] None e = tt
statement_lawful s [] (Some p) e = cc e
statement_lawful s (token.Name n ∷ ts) o e = head_lawful s ts (statement_head n) o e
statement_lawful s (token.Directive n ∷ ts) o e = directive_lawful s ts (directive_of n) o e
statement_lawful s (token.Number n ∷ ts) o e = cc e
statement_lawful s (token.Comma ∷ ts) o e = cc e
statement_lawful s (token.Colon ∷ ts) o e = cc e
statement_lawful s (token.Open ∷ ts) o e = cc e
statement_lawful s (token.Close ∷ ts) o e = cc e

labelled : (s : Section) (l : Option Name) (r : Result (Option (Part Name)) ℕ) (x : Line Name) → ((o : Option (Part Name)) → r ≡ Ok o → PartLawful s o) → result_map (λ p. record { label = l; part = p }) r ≡ Ok x → PartLawful s x.part
labelled s l (Err k) x h e = cc e
labelled s l (Ok o) x h e =
    let E : Line Name = record { label = l; part = o } in
    let same : E ≡ x = cc e in
    subst (λ y. PartLawful s y.part) same (h o refl)

row_lawful : (s : Section) (ts : Row) (x : Line Name) → row_line s ts ≡ Ok x → PartLawful s x.part
unfolding row_line
row_lawful s ts x e = labelled s (label_of ts) (statement_of s (after_label ts)) x (statement_lawful s (after_label ts)) e

tokens_lawful : (s : Section) (o : Option Row) (x : Line Name) → tokens_line s o ≡ Ok x → PartLawful s x.part
tokens_lawful s None x e = cc e
tokens_lawful s (Some ts) x e = row_lawful s ts x e

line_lawful : (s : Section) (l : List ℕ) (x : Line Name) → line_of s l ≡ Ok x → PartLawful s x.part
unfolding line_of
line_lawful s l x e = tokens_lawful s (line_tokens l) x e

-- a line's statements before lawful ones
front_lawful : (s : Section) (n : ℕ) (l : Option Name) (o : Option (Part Name)) (rest : Statements) → PartLawful s o → lawful_from (section_after s o) rest ≡ true → lawful_from s ((label_statements n l ++ part_statements n o) ++ rest) ≡ true
front_lawful s n None None rest h k = k
front_lawful s n (Some name) None rest h k = label_first s k
  where
    label_first : (s : Section) {b : Bool} → b ≡ true → (true && true && true && b) ≡ true
    label_first s e = e
front_lawful s n None (Some p) rest h k = rw (h, k) refl
front_lawful s n (Some name) (Some p) rest h k = rw (h, k) refl

pub program_lawful : (s : Section) (n : ℕ) (ls : List (List ℕ)) (ss : Statements) → program_from s n ls ≡ Ok ss → lawful_from s ss ≡ true
program_lawful s n [] ss e = let none : [] ≡ ss = cc e in subst (λ x. lawful_from s x ≡ true) none refl
program_lawful s n (l ∷ ls) ss e = by_line s n l ss (line_of s l) (λ t. program_from t (n + 1) ls) (λ t. program_lawful t (n + 1) ls) (line_lawful s l) e
  where
    by_rest : (s : Section) (n : ℕ) (x : Line Name) (ss : Statements) (r : Result Statements AsmFault) → ((rest : Statements) → r ≡ Ok rest → lawful_from (section_after s x.part) rest ≡ true) → PartLawful s x.part → with_front (line_statements n x) r ≡ Ok ss → lawful_from s ss ≡ true
    by_rest s n x ss (Err f) later here e = cc e
    by_rest s n x ss (Ok rest) later here e =
        let same : line_statements n x ++ rest ≡ ss = cc e in
        subst (λ y. lawful_from s y ≡ true) same (front_lawful s n x.label x.part rest here (later rest refl))

    by_line : (s : Section) (n : ℕ) (l : List ℕ) (ss : Statements) (r : Result (Line Name) ℕ) (rest : Section → Result Statements AsmFault) → ((t : Section) (xs : Statements) → rest t ≡ Ok xs → lawful_from t xs ≡ true) → ((x : Line Name) → r ≡ Ok x → PartLawful s x.part) → line_then n s r rest ≡ Ok ss → lawful_from s ss ≡ true
    by_line s n l ss (Err k) rest later here e = cc e
    by_line s n l ss (Ok x) rest later here e = by_rest s n x ss (rest (section_after s x.part)) (later (section_after s x.part)) (here x refl) e
