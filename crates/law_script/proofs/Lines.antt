-- Spelled lines: a text begins with one line at most.
use Rattle.std.proofs.Common.{◌≡◌, ℕ, ◌^◌, ◌<◌, ◌++◌, List, [], ◌∷◌, refl, ap, sym, ◌∙◌, arith, decimal, append_assoc, length, length-append}
use Rattle.def_script.specs.Script.{Row, IsScriptRow, BeginsWithRow, spelled_row, is_field_byte}
use Rattle.law_script.proofs.Runs.{same_run, same_number}

-- a line and what follows it, part by part
pub unrolled : (r : Row) (rest : List ℕ) → spelled_row r ++ rest ≡ decimal r.step ++ 32 ∷ (r.name ++ 32 ∷ (decimal r.byte ++ 10 ∷ rest))
unrolled r rest =
    append_assoc (decimal r.step) (32 ∷ (r.name ++ 32 ∷ (decimal r.byte ++ 10 ∷ []))) rest
    ∙ ap (λ t. decimal r.step ++ 32 ∷ t) (append_assoc r.name (32 ∷ (decimal r.byte ++ 10 ∷ [])) rest)
    ∙ ap (λ t. decimal r.step ++ 32 ∷ (r.name ++ 32 ∷ t)) (append_assoc (decimal r.byte) (10 ∷ []) rest)

pub step_small : (r : Row) → IsScriptRow r → r.step < 2 ^ 64
step_small r is = omega (arith, is.within)

pub byte_small : (r : Row) → IsScriptRow r → r.byte < 2 ^ 64
byte_small r is = omega (arith, is.small)

same_parts : (r q : Row) → r.step ≡ q.step → r.name ≡ q.name → r.byte ≡ q.byte → r ≡ q
same_parts r q s n b = ap (λ x. record r { step = x }) s ∙ ap (λ (x : List ℕ). record { step = q.step; name = x; byte = r.byte }) n ∙ ap (λ x. record q { byte = x }) b

pub same_line : (text : List ℕ) (r q : Row) (more rest : List ℕ) → BeginsWithRow text r more → BeginsWithRow text q rest → (r ≡ q) × (more ≡ rest)
same_line text r q more rest a b =
    let whole : decimal r.step ++ 32 ∷ (r.name ++ 32 ∷ (decimal r.byte ++ 10 ∷ more)) ≡ decimal q.step ++ 32 ∷ (q.name ++ 32 ∷ (decimal q.byte ++ 10 ∷ rest)) =
    sym (unrolled r more) ∙ sym a.text_is ∙ b.text_is ∙ unrolled q rest in
    let one = same_number r.step q.step 32 32 _ _ (step_small r a.row) (step_small q b.row) refl refl whole in
    let two = same_run is_field_byte r.name q.name 32 32 _ _ a.row.inner b.row.inner refl refl one.2 in
    let three = same_number r.byte q.byte 10 10 more rest (byte_small r a.row) (byte_small q b.row) refl refl two.2 in
    (same_parts r q one.0 two.0 three.0, three.2)

-- a line isn't empty
pub line_long : (r : Row) (rest : List ℕ) → length rest < length (spelled_row r ++ rest)
line_long r rest =
    omega (arith, ap length (unrolled r rest), length-append (decimal r.step) (32 ∷ (r.name ++ 32 ∷ (decimal r.byte ++ 10 ∷ rest))), length-append r.name (32 ∷ (decimal r.byte ++ 10 ∷ rest)), length-append (decimal r.byte) (10 ∷ rest))
