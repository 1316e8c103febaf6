-- The fault that a line answers is the least number that it breaks, and that of a source the first such line's.
use Rattle.std.proofs.Common.{◌≡◌, ℕ, zero, suc, ◌+◌, ◌≤◌, Bool, true, false, not, cond, is_none, is_some, List, [], ◌∷◌, length, Option, Some, None, option_map, option_and_then, Result, Ok, Err, refl, sym, ap, ◌∙◌, subst, arith, ◌⊎◌, inl, inr}
use Rattle.std.specs.List.{list_all}
use Rattle.def_source.specs.declared.AsmFault.{AsmFault}
use Rattle.def_source.specs.declared.AsmFault.TheVariants.{At}
use Rattle.def_source.specs.declared.parts.Line.{Line}
use Rattle.def_source.specs.declared.parts.Part.{Part}
use Rattle.def_source.specs.declared.parts.Section.{Section}
use Rattle.def_source.specs.declared.parts.Section.TheVariants as section
use Rattle.def_source.specs.declared.parts.Token.{Token}
use Rattle.def_source.specs.declared.parts.Token.TheVariants as token
use Rattle.def_source.specs.declared.words.Head.{Head}
use Rattle.def_source.specs.declared.words.Directive.{Directive}
use Rattle.def_source.specs.Source.{Name, Row, Statements, is_ascii, before_comment, pieces, token_of, row_of, line_tokens, label_of, after_label, statement_head, directive_of, statement_form, directive_form, in_section, numbers_fit, registers_exist, lawful_or_fault, formed, headed, directed, statement_of, row_line, tokens_line, line_of, lines_of, line_statements, section_after, result_map, with_front, line_then, program_from, program_of}
use Rattle.def_assembly.specs.Faults.{HasUnread, IsUnread, is_unknown, is_known, form_in, PartBreaks, RowBreaks, LineBreaks, IsLineFault, section_behind, section_in, NoneBreaks, IsFirstFault, IsSourceFault}

-- a number that holds, and is the least that does
Least : (ℕ → Type 0) → ℕ → Type 0
Least holds n = holds n × ((m : ℕ) → holds m → n ≤ m)

NoneHolds : (ℕ → Type 0) → Type 0
NoneHolds holds = (m : ℕ) → holds m → ⊥

-- what an answer says of the numbers that hold: the least of them, or that there is none
Says : {A : Type 0} → (ℕ → Type 0) → Result A ℕ → Type 0
Says holds (Ok x) = NoneHolds holds
Says holds (Err n) = Least holds n

-- ---- a statement that has a form

Three : Bool → Bool → Bool → ℕ → Type 0
Three a b c n = ((n ≡ 3) × (a ≡ false)) ⊎ ((n ≡ 4) × (b ≡ false)) ⊎ ((n ≡ 7) × (c ≡ false))

three_says : (a b c : Bool) (p : Part Name) → Says (Three a b c) (cond {A = Result (Part Name) ℕ} (not a) (Err 3) (cond (not b) (Err 4) (cond (not c) (Err 7) (Ok p))))
unfolding Says Least NoneHolds Three
three_says false b c p = (inl (refl, refl), least)
  where
    least : (m : ℕ) → Three false b c m → 3 ≤ m
    least m (inl h) = omega (arith, h.0)
    least m (inr (inl h)) = omega (arith, h.0)
    least m (inr (inr h)) = omega (arith, h.0)
three_says true false c p = (inr (inl (refl, refl)), least)
  where
    least : (m : ℕ) → Three true false c m → 4 ≤ m
    least m (inl h) = absurd (let no : true ≡ false = h.1 in cc)
    least m (inr (inl h)) = omega (arith, h.0)
    least m (inr (inr h)) = omega (arith, h.0)
three_says true true false p = (inr (inr (refl, refl)), least)
  where
    least : (m : ℕ) → Three true true false m → 7 ≤ m
    least m (inl h) = absurd (let no : true ≡ false = h.1 in cc)
    least m (inr (inl h)) = absurd (let no : true ≡ false = h.1 in cc)
    least m (inr (inr h)) = omega (arith, h.0)
three_says true true true p = none
  where
    none : (m : ℕ) → Three true true true m → ⊥
    none m (inl h) = let no : true ≡ false = h.1 in cc
    none m (inr (inl h)) = let no : true ≡ false = h.1 in cc
    none m (inr (inr h)) = let no : true ≡ false = h.1 in cc

part_says : (s : Section) (p : Part Name) → Says (PartBreaks s p) (lawful_or_fault s p)
unfolding Three
part_says s p = three_says (in_section s p) (numbers_fit p) (registers_exist p) p

-- ---- a word and what stands after it

Word : {H : Type 0} → Section → (H → Option (Part Name)) → Option H → ℕ → Type 0
Word s form o n =
    ((n ≡ 2) × (is_none o ≡ true))
    ⊎ ((n ≡ 3) × (is_some o ≡ true) × (option_and_then form o ≡ None))
    ⊎ ((p : Part Name) × (option_and_then form o ≡ Some p) × PartBreaks s p n)

answer : {H : Type 0} → Section → (H → Option (Part Name)) → Option H → Result (Option (Part Name)) ℕ
answer s form None = Err 2
answer s form (Some h) = formed s (form h)

no_word : {H : Type 0} (s : Section) (form : H → Option (Part Name)) → Least (Word s form None) 2
unfolding Least Word
no_word s form = (inl (refl, refl), least)
  where
    least : (m : ℕ) → Word s form None m → 2 ≤ m
    least m (inl h) = omega (arith, h.0)
    least m (inr (inl h)) = omega (arith, h.0)
    least m (inr (inr h)) = absurd (let no : None ≡ Some h.0 = h.1 in cc)

no_form : {H : Type 0} (s : Section) (form : H → Option (Part Name)) (d : H) → form d ≡ None → Least (Word s form (Some d)) 3
unfolding Least Word
no_form s form d e = (inr (inl (refl, refl, e)), least)
  where
    least : (m : ℕ) → Word s form (Some d) m → 3 ≤ m
    least m (inl h) = absurd (let no : false ≡ true = h.1 in cc)
    least m (inr (inl h)) = omega (arith, h.0)
    least m (inr (inr h)) = absurd (let no : None ≡ Some h.0 = sym e ∙ h.1 in cc)

-- what a statement's form breaks is what its row breaks
part_of_word : {H : Type 0} (s : Section) (form : H → Option (Part Name)) (d : H) (p : Part Name) (m : ℕ) → form d ≡ Some p → Word s form (Some d) m → PartBreaks s p m
unfolding Word
part_of_word s form d p m e (inl h) = absurd (let no : false ≡ true = h.1 in cc)
part_of_word s form d p m e (inr (inl h)) = absurd (let no : Some p ≡ None = sym e ∙ h.2 in cc)
part_of_word s form d p m e (inr (inr h)) =
    let both : Some h.0 ≡ Some p = sym h.1 ∙ e in
    let same : h.0 ≡ p = cc in
    subst (λ q. PartBreaks s q m) same h.2

form_says : {H : Type 0} (s : Section) (form : H → Option (Part Name)) (d : H) (p : Part Name) (r : Result (Part Name) ℕ) → form d ≡ Some p → Says (PartBreaks s p) r → Says (Word s form (Some d)) (result_map (λ q. Some q) r)
unfolding Says Least NoneHolds Word
form_says s form d p (Ok q) e h = λ m w. h m (part_of_word s form d p m e w)
form_says s form d p (Err n) e h = (inr (inr (p, e, h.0)), λ m w. h.1 m (part_of_word s form d p m e w))

formed_says : {H : Type 0} (s : Section) (form : H → Option (Part Name)) (d : H) (f : Option (Part Name)) → form d ≡ f → Says (Word s form (Some d)) (formed s f)
unfolding Says
formed_says s form d None e = no_form s form d e
formed_says s form d (Some p) e = form_says s form d p (lawful_or_fault s p) e (part_says s p)

word_says : {H : Type 0} (s : Section) (form : H → Option (Part Name)) (o : Option H) → Says (Word s form o) (answer s form o)
unfolding Says answer
word_says s form None = no_word s form
word_says s form (Some d) = formed_says s form d (form d) refl

head_answer : (s : Section) (ts : Row) (o : Option Head) → answer s (λ h. statement_form h ts) o ≡ headed s ts o
unfolding answer
head_answer s ts None = refl
head_answer s ts (Some h) = refl

directive_answer : (s : Section) (ts : Row) (o : Option Directive) → answer s (λ d. directive_form d ts) o ≡ directed s ts o
unfolding answer
directive_answer s ts None = refl
directive_answer s ts (Some d) = refl

-- a first token that no statement begins with
other_says : (s : Section) (ts : Row) → is_unknown ts ≡ true → is_known ts ≡ false → form_in ts ≡ None → Least (RowBreaks s ts) 2
unfolding Least
other_says s ts u k f = (inl (refl, u), least)
  where
    least : (m : ℕ) → RowBreaks s ts m → 2 ≤ m
    least m (inl h) = omega (arith, h.0)
    least m (inr (inl h)) = omega (arith, h.0)
    least m (inr (inr h)) = absurd (let no : None ≡ Some h.0 = sym f ∙ h.1 in cc)

empty_says : (s : Section) → NoneHolds (RowBreaks s [])
unfolding NoneHolds
empty_says s m (inl h) = let no : false ≡ true = h.1 in cc
empty_says s m (inr (inl h)) = let no : false ≡ true = h.1 in cc
empty_says s m (inr (inr h)) = let no : None ≡ Some h.0 = h.1 in cc

row_says : (s : Section) (ts : Row) → Says (RowBreaks s ts) (statement_of s ts)
unfolding Says Word
row_says s [] = empty_says s
row_says s (token.Name n ∷ ts) = subst (Says (RowBreaks s (token.Name n ∷ ts))) (head_answer s ts (statement_head n)) (word_says s (λ h. statement_form h ts) (statement_head n))
row_says s (token.Directive n ∷ ts) = subst (Says (RowBreaks s (token.Directive n ∷ ts))) (directive_answer s ts (directive_of n)) (word_says s (λ d. directive_form d ts) (directive_of n))
row_says s (token.Number n ∷ ts) = other_says s (token.Number n ∷ ts) refl refl refl
row_says s (token.Comma ∷ ts) = other_says s (token.Comma ∷ ts) refl refl refl
row_says s (token.Colon ∷ ts) = other_says s (token.Colon ∷ ts) refl refl refl
row_says s (token.Open ∷ ts) = other_says s (token.Open ∷ ts) refl refl refl
row_says s (token.Close ∷ ts) = other_says s (token.Close ∷ ts) refl refl refl

-- ---- a line

tokens_unread : (ps : List (List ℕ)) → row_of ps ≡ None → HasUnread ps
tokens_unread [] e = cc e
tokens_unread (p ∷ ps) e = by_first p ps (token_of p) refl (tokens_unread ps) e
  where
    by_rest : (p : List ℕ) (ps : List (List ℕ)) (t : Token Name) (o : Option Row) → (o ≡ None → HasUnread ps) → option_map (λ ts. t ∷ ts) o ≡ None → HasUnread (p ∷ ps)
    by_rest p ps t None more e = inr (more refl)
    by_rest p ps t (Some ts) more e = cc e

    by_first : (p : List ℕ) (ps : List (List ℕ)) (o : Option (Token Name)) → token_of p ≡ o → (row_of ps ≡ None → HasUnread ps) → option_and_then (λ t. option_map (λ ts. t ∷ ts) (row_of ps)) o ≡ None → HasUnread (p ∷ ps)
    by_first p ps None h more e = inl h
    by_first p ps (Some t) h more e = by_rest p ps t (row_of ps) more e

unread_tokens : (ps : List (List ℕ)) → HasUnread ps → row_of ps ≡ None
unread_tokens [] h = absurd h
unread_tokens (p ∷ ps) (inl h) = ap (λ o. option_and_then (λ t. option_map (λ ts. t ∷ ts) (row_of ps)) o) h
unread_tokens (p ∷ ps) (inr h) = by_first (token_of p) (unread_tokens ps h)
  where
    by_first : (o : Option (Token Name)) → row_of ps ≡ None → option_and_then (λ t. option_map (λ ts. t ∷ ts) (row_of ps)) o ≡ None
    by_first None e = refl
    by_first (Some t) e = ap (λ r. option_map (λ ts. t ∷ ts) r) e

unread_line : (line : List ℕ) → line_tokens line ≡ None → IsUnread line
unfolding line_tokens
unread_line line e = by_bytes (list_all is_ascii line) refl e
  where
    by_bytes : (b : Bool) → list_all is_ascii line ≡ b → cond b (row_of (pieces (before_comment line))) None ≡ None → IsUnread line
    by_bytes false h e = inl h
    by_bytes true h e = inr (tokens_unread (pieces (before_comment line)) e)

line_unread : (line : List ℕ) → IsUnread line → line_tokens line ≡ None
unfolding line_tokens
line_unread line (inl h) = ap (λ b. cond b (row_of (pieces (before_comment line))) None) h
line_unread line (inr h) = by_bytes (list_all is_ascii line) (unread_tokens (pieces (before_comment line)) h)
  where
    by_bytes : (b : Bool) → row_of (pieces (before_comment line)) ≡ None → cond b (row_of (pieces (before_comment line))) None ≡ None
    by_bytes false e = refl
    by_bytes true e = e

unread_says : (s : Section) (line : List ℕ) → line_tokens line ≡ None → Least (LineBreaks s line) 1
unfolding Least
unread_says s line e = (inl (refl, unread_line line e), least)
  where
    least : (m : ℕ) → LineBreaks s line m → 1 ≤ m
    least m (inl h) = omega (arith, h.0)
    least m (inr h) = absurd (let no : None ≡ Some h.0 = sym e ∙ h.1 in cc)

row_of_line : (s : Section) (line : List ℕ) (ts : Row) (m : ℕ) → line_tokens line ≡ Some ts → LineBreaks s line m → RowBreaks s (after_label ts) m
row_of_line s line ts m e (inl h) = absurd (let no : Some ts ≡ None = sym e ∙ line_unread line h.1 in cc)
row_of_line s line ts m e (inr h) =
    let both : Some h.0 ≡ Some ts = sym h.1 ∙ e in
    let same : h.0 ≡ ts = cc in
    subst (λ us. RowBreaks s (after_label us) m) same h.2

read_says : (s : Section) (line : List ℕ) (ts : Row) (l : Option Name) (r : Result (Option (Part Name)) ℕ) → line_tokens line ≡ Some ts → Says (RowBreaks s (after_label ts)) r → Says {A = Line Name} (LineBreaks s line) (result_map (λ p. record { label = l; part = p }) r)
unfolding Says Least NoneHolds
read_says s line ts l (Ok p) e h = λ m b. h m (row_of_line s line ts m e b)
read_says s line ts l (Err n) e h = (inr (ts, e, h.0), λ m b. h.1 m (row_of_line s line ts m e b))

tokens_say : (s : Section) (line : List ℕ) (o : Option Row) → line_tokens line ≡ o → Says (LineBreaks s line) (tokens_line s o)
unfolding Says row_line
tokens_say s line None e = unread_says s line e
tokens_say s line (Some ts) e = read_says s line ts (label_of ts) (statement_of s (after_label ts)) e (row_says s (after_label ts))

line_says : (s : Section) (line : List ℕ) → Says (LineBreaks s line) (line_of s line)
unfolding line_of
line_says s line = tokens_say s line (line_tokens line) refl

least_of : (s : Section) (line : List ℕ) (n : ℕ) (r : Result (Line Name) ℕ) → Says (LineBreaks s line) r → r ≡ Err n → IsLineFault s line n
unfolding Says Least
least_of s line n (Ok l) h e = cc e
least_of s line n (Err k) h e = let same : k ≡ n = cc e in subst (IsLineFault s line) same (record { breaks = h.0; least = h.1 })

none_of : (s : Section) (line : List ℕ) (l : Line Name) (r : Result (Line Name) ℕ) → Says (LineBreaks s line) r → r ≡ Ok l → (n : ℕ) → LineBreaks s line n → ⊥
unfolding Says NoneHolds
none_of s line l (Err k) h e = cc e
none_of s line l (Ok x) h e = h

pub line_least : (s : Section) (line : List ℕ) (n : ℕ) → line_of s line ≡ Err n → IsLineFault s line n
line_least s line n e = least_of s line n (line_of s line) (line_says s line) e

pub line_clean : (s : Section) (line : List ℕ) (l : Line Name) → line_of s line ≡ Ok l → (n : ℕ) → LineBreaks s line n → ⊥
line_clean s line l e = none_of s line l (line_of s line) (line_says s line) e

-- ---- a source

First : Section → ℕ → List (List ℕ) → AsmFault → Type 0
First s from ls e = (number : ℕ) × (line : ℕ) × (e ≡ At number line) × IsFirstFault s from ls number line

none_before : (s : Section) (l : List ℕ) (ls : List (List ℕ)) (x : Line Name) (at : ℕ) → line_of s l ≡ Ok x → NoneBreaks (section_after s x.part) ls at → NoneBreaks s (l ∷ ls) (suc at)
none_before s l ls x at e rest zero line lt there n b =
    let both : Some l ≡ Some line = there in
    let same : l ≡ line = cc in
    line_clean s l x e n (subst (λ y. LineBreaks s y n) (sym same) b)
none_before s l ls x at e rest (suc i) line lt there n b =
    rest i line (omega (arith, lt)) there n (subst (λ t. LineBreaks (section_in t ls i) line n) (ap (section_behind s) e) b)

later : (s : Section) (from : ℕ) (l : List ℕ) (ls : List (List ℕ)) (x : Line Name) (e : AsmFault) → line_of s l ≡ Ok x → First (section_after s x.part) (from + 1) ls e → First s from (l ∷ ls) e
unfolding First
later s from l ls x e here f = (
  f.0,
  f.1,
  f.2,
  record {
    at = suc f.3.at;
    text = f.3.text;
    counted = omega (arith, f.3.counted);
    there = f.3.there;
    least = subst (λ t. IsLineFault (section_in t ls f.3.at) f.3.text f.0) (sym (ap (section_behind s) here)) f.3.least;
    first = none_before s l ls x f.3.at here f.3.first;
  },
)

here_first : (s : Section) (from : ℕ) (l : List ℕ) (ls : List (List ℕ)) (n : ℕ) → line_of s l ≡ Err n → IsFirstFault s from (l ∷ ls) n from
here_first s from l ls n e = record {
  at = zero;
  text = l;
  counted = omega arith;
  there = refl;
  least = line_least s l n e;
  first = λ i line lt. absurd (omega (arith, lt));
}

lines_first : (s : Section) (from : ℕ) (ls : List (List ℕ)) (e : AsmFault) → program_from s from ls ≡ Err e → First s from ls e
unfolding First
lines_first s from [] e h = cc h
lines_first s from (l ∷ ls) e h = by_line s from l ls e (line_of s l) refl (λ t. program_from t (from + 1) ls) (λ t. lines_first t (from + 1) ls) h
  where
    by_rest : (s : Section) (from : ℕ) (l : List ℕ) (ls : List (List ℕ)) (e : AsmFault) (x : Line Name) (r : Result Statements AsmFault) → line_of s l ≡ Ok x → ((f : AsmFault) → r ≡ Err f → First (section_after s x.part) (from + 1) ls f) → with_front (line_statements from x) r ≡ Err e → First s from (l ∷ ls) e
    by_rest s from l ls e x (Ok ss) here more h = cc h
    by_rest s from l ls e x (Err f) here more h = let same : f ≡ e = cc h in later s from l ls x e here (subst (First (section_after s x.part) (from + 1) ls) same (more f refl))

    by_line : (s : Section) (from : ℕ) (l : List ℕ) (ls : List (List ℕ)) (e : AsmFault) (r : Result (Line Name) ℕ) → line_of s l ≡ r → (rest : Section → Result Statements AsmFault) → ((t : Section) (f : AsmFault) → rest t ≡ Err f → First t (from + 1) ls f) → line_then from s r rest ≡ Err e → First s from (l ∷ ls) e
    by_line s from l ls e (Err n) here rest more h = let same : At n from ≡ e = cc h in (n, from, sym same, here_first s from l ls n here)
    by_line s from l ls e (Ok x) here rest more h = by_rest s from l ls e x (rest (section_after s x.part)) here (more (section_after s x.part)) h

pub source_first : (text : List ℕ) (e : AsmFault) → program_of text ≡ Err e → (number : ℕ) × (line : ℕ) × (e ≡ At number line) × IsSourceFault text number line
unfolding program_of First
source_first text e h = lines_first section.Text 1 (lines_of text) e h

-- where statements are answered no line breaks anything

lines_clean : (s : Section) (from : ℕ) (ls : List (List ℕ)) (ss : Statements) → program_from s from ls ≡ Ok ss → NoneBreaks s ls (length ls)
lines_clean s from [] ss h = λ i line lt. absurd (omega (arith, lt))
lines_clean s from (l ∷ ls) ss h = by_line s from l ls ss (line_of s l) refl (λ t. program_from t (from + 1) ls) (λ t. lines_clean t (from + 1) ls) h
  where
    by_rest : (s : Section) (from : ℕ) (l : List ℕ) (ls : List (List ℕ)) (ss : Statements) (x : Line Name) (r : Result Statements AsmFault) → line_of s l ≡ Ok x → ((f : Statements) → r ≡ Ok f → NoneBreaks (section_after s x.part) ls (length ls)) → with_front (line_statements from x) r ≡ Ok ss → NoneBreaks s (l ∷ ls) (length (l ∷ ls))
    by_rest s from l ls ss x (Err f) here more h = cc h
    by_rest s from l ls ss x (Ok f) here more h = none_before s l ls x (length ls) here (more f refl)

    by_line : (s : Section) (from : ℕ) (l : List ℕ) (ls : List (List ℕ)) (ss : Statements) (r : Result (Line Name) ℕ) → line_of s l ≡ r → (rest : Section → Result Statements AsmFault) → ((t : Section) (f : Statements) → rest t ≡ Ok f → NoneBreaks t ls (length ls)) → line_then from s r rest ≡ Ok ss → NoneBreaks s (l ∷ ls) (length (l ∷ ls))
    by_line s from l ls ss (Err n) here rest more h = cc h
    by_line s from l ls ss (Ok x) here rest more h = by_rest s from l ls ss x (rest (section_after s x.part)) here (more (section_after s x.part)) h

pub source_clean : (text : List ℕ) (ss : Statements) → program_of text ≡ Ok ss → NoneBreaks section.Text (lines_of text) (length (lines_of text))
unfolding program_of
source_clean text ss h = lines_clean section.Text 1 (lines_of text) ss h
