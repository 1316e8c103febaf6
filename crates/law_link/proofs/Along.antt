-- Walks over lists whose members are asked with those before them known.
use Rattle.std.proofs.Common.{ℕ, suc, ◌≡◌, ◌+◌, false, List, [], ◌∷◌, ◌++◌, length, map, None, refl, sym, ap, ◌∙◌, subst, append_assoc}
use Rattle.std.specs.Prelude.{⊤}
use Rattle.std.specs.List.{AllByRecursion}
use Rattle.std.proofs.lemmas.List.{map_push}
use Rattle.def_texts.specs.Names.{among}
use Rattle.def_image.specs.declared.Check.{Check}
use Rattle.def_image.specs.Checks.{first, walked}
use Rattle.law_link.proofs.Fields.{New}
use Rattle.law_image.proofs.Passing.{joined_none}

-- each member has a property, with the fields of those before it known
unfoldable pub Along : {A B : Type 0} → (A → B) → (List B → A → Type 0) → List B → List A → Type 0
Along raw P earlier [] = ⊤
Along raw P earlier (x ∷ xs) = P earlier x × Along raw P (earlier ++ raw x ∷ []) xs

pub walk_along : {A B : Type 0} (raw : A → B) (P : List B → A → Type 0) (asked : ℕ → List B → B → List Check) (size : B → ℕ)
    → ((at : ℕ) (earlier : List B) (x : A) → P earlier x → first (asked at earlier (raw x)) ≡ None)
    → (at : ℕ) (earlier : List B) (xs : List A) → Along raw P earlier xs → first (walked asked size at earlier (map raw xs)) ≡ None
unfolding walked first Along
walk_along raw P asked size so at earlier [] h = refl
walk_along raw P asked size so at earlier (x ∷ xs) h =
    joined_none (asked at earlier (raw x)) (walked asked size (at + size (raw x)) (earlier ++ raw x ∷ []) (map raw xs)) (so at earlier x h.0)
    (walk_along raw P asked size so (at + size (raw x)) (earlier ++ raw x ∷ []) xs h.1)

pub along_so : {A B : Type 0} (raw : A → B) (P Q : List B → A → Type 0) → ((earlier : List B) (x : A) → P earlier x → Q earlier x)
    → (earlier : List B) (xs : List A) → Along raw P earlier xs → Along raw Q earlier xs
unfolding Along
along_so raw P Q so earlier [] h = tt
along_so raw P Q so earlier (x ∷ xs) h = (so earlier x h.0, along_so raw P Q so (earlier ++ raw x ∷ []) xs h.1)

pub along_both : {A B : Type 0} (raw : A → B) (P Q : List B → A → Type 0) (earlier : List B) (xs : List A) → Along raw P earlier xs → Along raw Q earlier xs
    → Along raw (λ before x. P before x × Q before x) earlier xs
unfolding Along
along_both raw P Q earlier [] h k = tt
along_both raw P Q earlier (x ∷ xs) h k = ((h.0, k.0), along_both raw P Q (earlier ++ raw x ∷ []) xs h.1 k.1)

pub along_all : {A B : Type 0} (raw : A → B) (G : A → Type 0) (earlier : List B) (xs : List A) → AllByRecursion G xs → Along raw (λ before x. G x) earlier xs
unfolding Along
along_all raw G earlier [] h = tt
along_all raw G earlier (x ∷ xs) h = (h.0, along_all raw G (earlier ++ raw x ∷ []) xs h.1)

-- its name is none of those before it
pub along_new : {A B : Type 0} (raw : A → B) (name : B → List ℕ) (title : A → List ℕ) (earlier : List B) (seen : List (List ℕ)) (xs : List A)
    → map name earlier ≡ seen → AllByRecursion (λ x. name (raw x) ≡ title x) xs → New seen (map title xs)
    → Along raw (λ before x. among (title x) (map name before) ≡ false) earlier xs
unfolding Along New
along_new raw name title earlier seen [] is back h = tt
along_new raw name title earlier seen (x ∷ xs) is back h = (
  subst (λ l. among (title x) l ≡ false) (sym is) h.0,
  along_new raw name title (earlier ++ raw x ∷ []) (seen ++ title x ∷ []) xs
      (map_push name earlier (raw x) ∙ ap (λ l. l ++ name (raw x) ∷ []) is ∙ ap (λ n. seen ++ n ∷ []) back.0) back.1 h.1,
)

-- some stand before it
pub along_more : {A B : Type 0} (raw : A → B) (earlier : List B) (e : B) (xs : List A) → Along raw (λ before x. (k : ℕ) × (length before ≡ suc k)) (e ∷ earlier) xs
unfolding Along
along_more raw earlier e [] = tt
along_more raw earlier e (x ∷ xs) = ((length earlier, refl), along_more raw (earlier ++ raw x ∷ []) e xs)

-- nor among others that come before the whole list
pub along_after : {A B : Type 0} (raw : A → B) (name : B → List ℕ) (title : A → List ℕ) (prefix : List (List ℕ)) (earlier : List B) (seen : List (List ℕ)) (xs : List A)
    → map name earlier ≡ seen → AllByRecursion (λ x. name (raw x) ≡ title x) xs → New (prefix ++ seen) (map title xs)
    → Along raw (λ before x. among (title x) (prefix ++ map name before) ≡ false) earlier xs
unfolding Along New
along_after raw name title prefix earlier seen [] is back h = tt
along_after raw name title prefix earlier seen (x ∷ xs) is back h = (
  subst (λ l. among (title x) (prefix ++ l) ≡ false) (sym is) h.0,
  along_after raw name title prefix (earlier ++ raw x ∷ []) (seen ++ title x ∷ []) xs
      (map_push name earlier (raw x) ∙ ap (λ l. l ++ name (raw x) ∷ []) is ∙ ap (λ n. seen ++ n ∷ []) back.0) back.1
      (subst (λ l. New l (map title xs)) (append_assoc prefix seen (title x ∷ [])) h.1),
)

-- each member has it, with some fields before it
pub along_each : {A B : Type 0} (raw : A → B) (P : List B → A → Type 0) (earlier : List B) (xs : List A) → Along raw P earlier xs → AllByRecursion (λ x. (before : List B) × P before x) xs
unfolding Along
along_each raw P earlier [] h = tt
along_each raw P earlier (x ∷ xs) h = ((earlier, h.0), along_each raw P (earlier ++ raw x ∷ []) xs h.1)
