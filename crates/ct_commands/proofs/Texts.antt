-- A line that is written in pieces.
use Rattle.std.proofs.Common.{◌≡◌, List, ℕ, [], ◌∷◌, ◌++◌, ◌∙◌, ap, append_assoc}

-- a text, a number and a space, then a name and what follows
pub around : (text number name rest : List ℕ)
    → (text ++ (number ++ 32 ∷ [])) ++ (name ++ rest) ≡ text ++ (number ++ 32 ∷ (name ++ rest))
around text number name rest =
    append_assoc text (number ++ 32 ∷ []) (name ++ rest)
    ∙ ap (λ t. text ++ t) (append_assoc number (32 ∷ []) (name ++ rest))
