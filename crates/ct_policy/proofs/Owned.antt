-- Owners that are found name by name.
use Rattle.std.proofs.Common.{◌≡◌, ℕ, ◌+◌, ◌<◌, ◌++◌, List, [], ◌∷◌, Option, Some, None, refl, sym, ap, ◌∙◌, append_assoc, drop, get_or, length, option_map}
use Rattle.std.proofs.lemmas.List.{at_drop_more}
use denote.Bor.{Bor}
use Rattle.ct_entry.specs.declared.rows.Owner.{Owner}
use Rattle.def_image.specs.Parts.{PartsRow}
use Rattle.def_policy.specs.Names.{also, owner_named, owners_named}
use Rattle.ct_policy.specs.Words.{texts}

-- those so far, and then the others
abbrev pub SoFar : PartsRow → List (Bor (List ℕ)) → ℕ → List Owner → Type 0
SoFar p names k owners = owners_named p (texts names) ≡ option_map (λ os. owners ++ os) (owners_named p (texts (drop k names)))

pub none_there : (p : PartsRow) (names : List (Bor (List ℕ))) (k : ℕ) (d : Bor (List ℕ)) (owners : List Owner) → k < length names
    → None ≡ owner_named p (get_or names k d).now → SoFar p names k owners → None ≡ owners_named p (texts names)
none_there p names k d owners low none far =
    sym (far ∙ ap (λ r. option_map (λ os. owners ++ os) r)
    (at_drop_more (λ l. owners_named p (texts l)) names k d low ∙ ap (λ o. also o (owners_named p (texts (drop (k + 1) names)))) (sym none)))

moved : (owners : List Owner) (o : Owner) (r : Option (List Owner)) → option_map (λ os. owners ++ os) (also (Some o) r) ≡ option_map (λ os. (owners ++ o ∷ []) ++ os) r
moved owners o None = refl
moved owners o (Some os) = ap (λ xs. Some xs) (sym (append_assoc owners (o ∷ []) os))

pub one_more : (p : PartsRow) (names : List (Bor (List ℕ))) (k : ℕ) (d : Bor (List ℕ)) (owners more : List Owner) (o : Owner) → k < length names
    → Some o ≡ owner_named p (get_or names k d).now → more ≡ owners ++ o ∷ [] → SoFar p names k owners → SoFar p names (k + 1) more
one_more p names k d owners more o low some added far =
    let rest : Option (List Owner) = owners_named p (texts (drop (k + 1) names)) in
    far ∙ ap (λ r. option_map (λ os. owners ++ os) r)
    (at_drop_more (λ l. owners_named p (texts l)) names k d low ∙ ap (λ x. also x rest) (sym some))
    ∙ moved owners o rest ∙ ap (λ xs. option_map (λ os. xs ++ os) rest) (sym added)
