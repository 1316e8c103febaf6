-- The lines of a source, each read; and the statements of all of them.
use Rattle.std.proofs.Common.{ℕ, zero, suc, ◌≡◌, ◌+◌, ◌*◌, ◌<◌, Bool, true, false, not, ◌==◌, List, [], ◌∷◌, ◌++◌, codes, decimal, Some, None, Ok, refl, ap, sym, ◌∙◌, subst, arith, append_assoc, inl, inr}
use Rattle.std.specs.Prelude.{if◌then◌else◌}
use Rattle.std.specs.List.{list_all, flat_map}
use Rattle.std.specs.Fmt.{digits}
use Rattle.std.proofs.lemmas.Bool.{agree_below_at, not-true, cases_eq}
use Rattle.law_lists.proofs.Tests.{both_left, both_right}
use Rattle.def_instr.specs.declared.shapes.ImmediateOperation.TheVariants as immediates
use Rattle.def_instr.specs.declared.shapes.LoadOperation.TheVariants as load
use Rattle.def_instr.specs.declared.shapes.StoreOperation.TheVariants as store
use Rattle.def_source.specs.declared.parts.Section.TheVariants as section
use Rattle.def_source.specs.declared.parts.Part.{Part}
use Rattle.def_source.specs.declared.parts.Part.TheVariants as part
use Rattle.def_source.specs.declared.parts.Line.{Line}
use Rattle.def_source.specs.Source.{Name, Statements, positive, negative, before, line_of, row_line, line_tokens, statement_head, directive_of, register_of, register_at, register_comma, address_at, two_registers, three_registers, two_registers_number, two_registers_target, register_number, register_and_target, register_name, register_address, one_register, one_number, one_target, lines_of, section_after, line_statements, with_front, line_then, program_from, program_of}
use Rattle.def_gen.specs.Sources.{line, lines_with, source_with}

-- ---- numbers below a number, one by one

abbrev AllBelow : (ℕ → Type 0) → ℕ → Type 0
AllBelow P zero = Unit {0}
AllBelow P (suc n) = P n × AllBelow P n

below : (P : ℕ → Type 0) (n i : ℕ) → AllBelow P n → i < n → P i
below P zero i all lt = absurd (omega arith)
below P (suc n) i all lt = elim (cases_eq i n) [
  | inl e ↦ subst P (sym e) all.0
  | inr ne ↦ below P n i all.1 (grind arith)
]

-- ---- the lines as they are read

abbrev plain : Part Name → Line Name
plain p = record { label = None; part = Some p }

abbrev entering : Line Name
entering = record { label = Some (codes "go"); part = Some (part.Immediate immediates.CIncAddrImm 2 2 (negative 16)) }

abbrev taken : ℕ → Line Name
taken size = plain (part.LoadImmediate 11 (positive size))

abbrev numbered : ℕ → Line Name
numbered i = plain (part.LoadImmediate 10 (positive i))

abbrev opened : ℕ → List (Line Name)
opened size =
    entering
    ∷ plain (part.Store store.Csc 1 (positive 8) 2)
    ∷ plain (part.Import 10 (codes "q"))
    ∷ taken size
    ∷ plain (part.Import 7 (codes "allocate"))
    ∷ plain (part.JumpCapability 1 7)
    ∷ plain (part.Store store.Csc 10 (positive 0) 2)
    ∷ []

abbrev passed_on : List (Line Name)
passed_on =
    plain (part.Import 6 (codes "next"))
    ∷ plain (part.Import 7 (codes "switch"))
    ∷ plain (part.JumpCapability 1 7)
    ∷ []

abbrev passed_unless : Bool → List (Line Name)
passed_unless last = if last then [] else passed_on

abbrev closed : ℕ → List (Line Name)
closed i =
    plain (part.Load load.Clc 11 (positive 0) 2)
    ∷ plain (part.Import 10 (codes "q"))
    ∷ plain (part.Import 7 (codes "free"))
    ∷ plain (part.JumpCapability 1 7)
    ∷ plain (part.Import 5 (codes "uart"))
    ∷ numbered i
    ∷ plain (part.Store store.Sb 10 (positive 0) 5)
    ∷ plain (part.Load load.Clc 1 (positive 8) 2)
    ∷ plain (part.Immediate immediates.CIncAddrImm 2 2 (positive 16))
    ∷ plain part.Return
    ∷ []

abbrev pub read_with : Bool → ℕ → ℕ → List (Line Name)
read_with last size i = opened size ++ passed_unless last ++ closed i

-- ---- each line is read so

abbrev is_clear : List ℕ → Bool
is_clear l = list_all (λ c. not (c == 10)) l

abbrev SizeRead : ℕ → Type 0
SizeRead m = line_of section.Text (codes " li a1, " ++ decimal (8 * (1 + m))) ≡ Ok (taken (8 * (1 + m)))

sizes_read : (m : ℕ) → m < 32 → SizeRead m
unfolding line_of row_line line_tokens statement_head directive_of register_of register_at register_comma address_at two_registers three_registers two_registers_number two_registers_target register_number register_and_target register_name register_address one_register one_number one_target digits
sizes_read m lt = below SizeRead 32 m (refl, (refl, (refl, (refl, (refl, (refl, (refl, (refl, (refl, (refl, (refl, (refl, (refl, (refl, (refl, (refl, (refl, (refl, (refl, (refl, (refl, (refl, (refl, (refl, (refl, (refl, (refl, (refl, (refl, (refl, (refl, (refl, tt)))))))))))))))))))))))))))))))) lt

sizes_clear : (m : ℕ) → m < 32 → is_clear (codes " li a1, " ++ decimal (8 * (1 + m))) ≡ true
unfolding digits
sizes_clear m lt = agree_below_at (λ k. is_clear (codes " li a1, " ++ decimal (8 * (1 + k)))) (λ k. true) 32 m refl lt

abbrev IndexRead : ℕ → Type 0
IndexRead i = line_of section.Text (codes " li a0, " ++ decimal i) ≡ Ok (numbered i)

indexes_read : (i : ℕ) → i < 64 → IndexRead i
unfolding line_of row_line line_tokens statement_head directive_of register_of register_at register_comma address_at two_registers three_registers two_registers_number two_registers_target register_number register_and_target register_name register_address one_register one_number one_target digits
indexes_read i lt = below IndexRead 64 i (refl, (refl, (refl, (refl, (refl, (refl, (refl, (refl, (refl, (refl, (refl, (refl, (refl, (refl, (refl, (refl, (refl, (refl, (refl, (refl, (refl, (refl, (refl, (refl, (refl, (refl, (refl, (refl, (refl, (refl, (refl, (refl, (refl, (refl, (refl, (refl, (refl, (refl, (refl, (refl, (refl, (refl, (refl, (refl, (refl, (refl, (refl, (refl, (refl, (refl, (refl, (refl, (refl, (refl, (refl, (refl, (refl, (refl, (refl, (refl, (refl, (refl, (refl, (refl, tt)))))))))))))))))))))))))))))))))))))))))))))))))))))))))))))))) lt

indexes_clear : (i : ℕ) → i < 64 → is_clear (codes " li a0, " ++ decimal i) ≡ true
unfolding digits
indexes_clear i lt = agree_below_at (λ k. is_clear (codes " li a0, " ++ decimal k)) (λ k. true) 64 i refl lt

-- lines without line feeds, each with what it is read as, in the text
abbrev AreRead : List (List ℕ) → List (Line Name) → Type 0
AreRead [] [] = Unit {0}
AreRead (l ∷ ls) (x ∷ xs) = (is_clear l ≡ true) × (line_of section.Text l ≡ Ok x) × (section_after section.Text x.part ≡ section.Text) × AreRead ls xs
AreRead _ _ = ⊥

all_read : (last : Bool) (m i : ℕ) → m < 32 → i < 64 → AreRead (lines_with last (8 * (1 + m)) i) (read_with last (8 * (1 + m)) i)
unfolding line_of row_line line_tokens statement_head directive_of register_of register_at register_comma address_at two_registers three_registers two_registers_number two_registers_target register_number register_and_target register_name register_address one_register one_number one_target
all_read true m i hm hi = (refl, refl, refl, (refl, refl, refl, (refl, refl, refl, (sizes_clear m hm, sizes_read m hm, refl, (refl, refl, refl, (refl, refl, refl, (refl, refl, refl, (refl, refl, refl, (refl, refl, refl, (refl, refl, refl, (refl, refl, refl, (refl, refl, refl, (indexes_clear i hi, indexes_read i hi, refl, (refl, refl, refl, (refl, refl, refl, (refl, refl, refl, (refl, refl, refl, tt)))))))))))))))))
all_read false m i hm hi = (refl, refl, refl, (refl, refl, refl, (refl, refl, refl, (sizes_clear m hm, sizes_read m hm, refl, (refl, refl, refl, (refl, refl, refl, (refl, refl, refl, (refl, refl, refl, (refl, refl, refl, (refl, refl, refl, (refl, refl, refl, (refl, refl, refl, (refl, refl, refl, (refl, refl, refl, (refl, refl, refl, (indexes_clear i hi, indexes_read i hi, refl, (refl, refl, refl, (refl, refl, refl, (refl, refl, refl, (refl, refl, refl, tt))))))))))))))))))))

-- ---- statements

abbrev pub statements_from : ℕ → List (Line Name) → Statements
statements_from n [] = []
statements_from n (x ∷ xs) = line_statements n x ++ statements_from (n + 1) xs

reads : (n : ℕ) (ls : List (List ℕ)) (xs : List (Line Name)) → AreRead ls xs → program_from section.Text n ls ≡ Ok (statements_from n xs)
reads n [] [] h = refl
reads n [] (x ∷ xs) h = absurd h
reads n (l ∷ ls) [] h = absurd h
reads n (l ∷ ls) (x ∷ xs) h =
    ap (λ r. line_then n section.Text r (λ t. program_from t (n + 1) ls)) h.1
    ∙ ap (λ s. with_front (line_statements n x) (program_from s (n + 1) ls)) h.2
    ∙ ap (with_front (line_statements n x)) (reads (n + 1) ls xs h.3)

cut : (l rest : List ℕ) → is_clear l ≡ true → lines_of (l ++ 10 ∷ rest) ≡ l ∷ lines_of rest
cut [] rest h = refl
cut (c ∷ cs) rest h =
    let other : (c == 10) ≡ false = not-true (c == 10) (both_left (not (c == 10)) (is_clear cs) h) in
    rw other (ap (before c) (cut cs rest (both_right (not (c == 10)) (is_clear cs) h)))

all_cut : (ls : List (List ℕ)) (xs : List (Line Name)) → AreRead ls xs → lines_of (flat_map line ls) ≡ ls
all_cut [] [] h = refl
all_cut [] (x ∷ xs) h = absurd h
all_cut (l ∷ ls) [] h = absurd h
all_cut (l ∷ ls) (x ∷ xs) h =
    ap lines_of (append_assoc l (10 ∷ []) (flat_map line ls))
    ∙ cut l (flat_map line ls) h.0
    ∙ ap (λ (rest : List (List ℕ)). l ∷ rest) (all_cut ls xs h.3)

-- the statements of a source
abbrev pub statements_with : Bool → ℕ → ℕ → Statements
statements_with last size i = statements_from 1 (read_with last size i)

pub program_is : (last : Bool) (m i : ℕ) → m < 32 → i < 64 → program_of (source_with last (8 * (1 + m)) i) ≡ Ok (statements_with last (8 * (1 + m)) i)
unfolding program_of
program_is last m i hm hi =
    let all : AreRead (lines_with last (8 * (1 + m)) i) (read_with last (8 * (1 + m)) i) = all_read last m i hm hi in
    ap (program_from section.Text 1) (all_cut (lines_with last (8 * (1 + m)) i) (read_with last (8 * (1 + m)) i) all)
    ∙ reads 1 (lines_with last (8 * (1 + m)) i) (read_with last (8 * (1 + m)) i) all
