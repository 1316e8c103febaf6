-- Lists whose elements all have a property, and lists of names.
use Rattle.std.proofs.Common.{ℕ, zero, suc, ◌≡◌, Bool, true, false, cond, ◌||◌, List, [], ◌∷◌, ◌++◌, map, Some, None, slice_get, refl, sym, ap, ◌∙◌, subst}
use Rattle.std.specs.List.{AllByRecursion, list_all, flat_map}
use Rattle.std.specs.Prelude.{⊤, bytes_eq, option_map}
use Rattle.std.proofs.lemmas.Option.{slice_get-map}
use Rattle.law_lists.proofs.Tests.{both_left, both_right, same_bytes, own_bytes}
use Rattle.def_texts.specs.Names.{among, with_name}
use Rattle.def_desc.specs.Lawful.{Has}

-- ---- all of them

pub all_tested : {A : Type 0} (test : A → Bool) (xs : List A) → list_all test xs ≡ true → AllByRecursion (λ x. test x ≡ true) xs
all_tested test [] e = tt
all_tested test (x ∷ xs) e = (both_left (test x) (list_all test xs) e, all_tested test xs (both_right (test x) (list_all test xs) e))

-- ---- an element

pub has_mapped : {A B : Type 0} (f : A → B) (xs : List A) (x : A) → Has xs x → Has (map f xs) (f x)
has_mapped f xs x h = (h.0, slice_get-map f xs h.0 ∙ ap (option_map f) h.1)

pub has_later : {A : Type 0} (y : A) (xs : List A) (x : A) → Has xs x → Has (y ∷ xs) x
has_later y xs x h = (suc h.0, h.1)

pub record MapsTo {A B : Type 0} (f : A → B) (xs : List A) (y : B) : Type 0 where
  pub from : A
  pub listed : Has xs from
  pub gives : y ≡ f from

later_maps : {A B : Type 0} (f : A → B) (x : A) (xs : List A) (y : B) → MapsTo f xs y → MapsTo f (x ∷ xs) y
later_maps f x xs y h = record { from = h.from; listed = has_later x xs h.from h.listed; gives = h.gives }

-- ---- names

-- the element that gives a name of a list
pub among_maps : {A : Type 0} (f : A → List ℕ) (n : List ℕ) (xs : List A) → among n (map f xs) ≡ true → MapsTo f xs n
among_maps f n [] e = absurd (let no : false ≡ true = e in cc)
among_maps f n (x ∷ xs) e = by (bytes_eq n (f x)) refl e (λ h. among_maps f n xs h)
  where
    by : (b : Bool) → bytes_eq n (f x) ≡ b → (b || among n (map f xs)) ≡ true → (among n (map f xs) ≡ true → MapsTo f xs n) → MapsTo f (x ∷ xs) n
    by true is h rest = record { from = x; listed = (zero, refl); gives = same_bytes n (f x) is }
    by false is h rest = later_maps f x xs n (rest h)

pub record InFlat {A : Type 0} (f : A → List (List ℕ)) (xs : List A) (n : List ℕ) : Type 0 where
  pub from : A
  pub listed : Has xs from
  pub among_it : among n (f from) ≡ true

later_flat : {A : Type 0} (f : A → List (List ℕ)) (x : A) (xs : List A) (n : List ℕ) → InFlat f xs n → InFlat f (x ∷ xs) n
later_flat f x xs n h = record { from = h.from; listed = has_later x xs h.from h.listed; among_it = h.among_it }

pub among_joined : (n : List ℕ) (xs ys : List (List ℕ)) → among n (xs ++ ys) ≡ (among n xs || among n ys)
among_joined n [] ys = refl
among_joined n (x ∷ xs) ys = by (bytes_eq n x) (among_joined n xs ys)
  where
    by : (b : Bool) → among n (xs ++ ys) ≡ (among n xs || among n ys) → (b || among n (xs ++ ys)) ≡ ((b || among n xs) || among n ys)
    by true h = refl
    by false h = h

pub among_flat : {A : Type 0} (f : A → List (List ℕ)) (n : List ℕ) (xs : List A) → among n (flat_map f xs) ≡ true → InFlat f xs n
among_flat f n [] e = absurd (let no : false ≡ true = e in cc)
among_flat f n (x ∷ xs) e = by (among n (f x)) refl (sym (among_joined n (f x) (flat_map f xs)) ∙ e) (λ h. among_flat f n xs h)
  where
    by : (b : Bool) → among n (f x) ≡ b → (b || among n (flat_map f xs)) ≡ true → (among n (flat_map f xs) ≡ true → InFlat f xs n) → InFlat f (x ∷ xs) n
    by true is h rest = record { from = x; listed = (zero, refl); among_it = is }
    by false is h rest = later_flat f x xs n (rest h)

-- ---- names that stand once

-- none of them is among those seen, or before itself
unfoldable pub Fresh : List (List ℕ) → List (List ℕ) → Type 0
Fresh seen [] = ⊤
Fresh seen (n ∷ ns) = (among n seen ≡ false) × Fresh (with_name seen n) ns

pub among_itself : (seen : List (List ℕ)) (n : List ℕ) → among n (with_name seen n) ≡ true
among_itself seen n = by (among n seen) refl
  where
    last : (b : Bool) → (b || (bytes_eq n n || false)) ≡ true
    last true = refl
    last false = ap (λ c. c || false) (own_bytes n)

    by : (b : Bool) → among n seen ≡ b → among n (cond b seen (seen ++ n ∷ [])) ≡ true
    by true is = is
    by false is = among_joined n seen (n ∷ []) ∙ last (among n seen)

pub among_still : (seen : List (List ℕ)) (k n : List ℕ) → among n seen ≡ true → among n (with_name seen k) ≡ true
among_still seen k n e = by (among k seen)
  where
    by : (b : Bool) → among n (cond b seen (seen ++ k ∷ [])) ≡ true
    by true = e
    by false = among_joined n seen (k ∷ []) ∙ ap (λ c. c || among n (k ∷ [])) e

pub never_again : (seen names : List (List ℕ)) (n : List ℕ) (j : ℕ) → Fresh seen names → among n seen ≡ true → slice_get names j ≡ Some n → ⊥
unfolding Fresh
never_again seen [] n j h e is = absurd (let no : None ≡ Some n = is in cc)
never_again seen (k ∷ ks) n zero h e is = absurd (
    let same : k ≡ n = cc in
    let new : among n seen ≡ false = subst (λ m. among m seen ≡ false) same h.0 in
    let no : true ≡ false = sym e ∙ new in
    cc)
never_again seen (k ∷ ks) n (suc j) h e is = never_again (with_name seen k) ks n j h.1 (among_still seen k n e) is

pub fresh_once : (seen names : List (List ℕ)) → Fresh seen names → (i j : ℕ) (n : List ℕ) → slice_get names i ≡ Some n → slice_get names j ≡ Some n → i ≡ j
unfolding Fresh
fresh_once seen [] h i j n a b = absurd (let no : None ≡ Some n = a in cc)
fresh_once seen (k ∷ ks) h zero zero n a b = refl
fresh_once seen (k ∷ ks) h zero (suc j) n a b = absurd (let same : k ≡ n = cc in never_again (with_name seen k) ks n j h.1 (subst (λ m. among m (with_name seen k) ≡ true) same (among_itself seen k)) b)
fresh_once seen (k ∷ ks) h (suc i) zero n a b = absurd (let same : k ≡ n = cc in never_again (with_name seen k) ks n i h.1 (subst (λ m. among m (with_name seen k) ≡ true) same (among_itself seen k)) a)
fresh_once seen (k ∷ ks) h (suc i) (suc j) n a b = ap suc (fresh_once (with_name seen k) ks h.1 i j n a b)

-- ---- tests that no element passes

pub at_the_end : {A : Type 0} (xs : List A) (x : A) → Has (xs ++ x ∷ []) x
at_the_end [] x = (zero, refl)
at_the_end (z ∷ zs) x = has_later z (zs ++ x ∷ []) x (at_the_end zs x)
