-- Owners built in two stretches, and the texts that these take.
use Rattle.std.proofs.Common.{ℕ, zero, suc, ◌≡◌, ◌+◌, List, [], ◌∷◌, ◌++◌, take, drop, Option, Some, None, slice_get, refl, sym, ap, ap₂, ◌∙◌, subst, arith}
use Rattle.std.specs.Prelude.{Result, Ok, Err}
use Rattle.std.proofs.Math.Seq.{take-suc, drop-cons}
use Rattle.std.proofs.lemmas.List.{take-append-drop}
use Rattle.std.proofs.lemmas.Option.{slice_get_within, get_or_from_slice_get}
use Rattle.def_link.specs.declared.LinkFault.{LinkFault}
use Rattle.def_link.specs.Owners.{Unit as OwnerUnit, Built, unit_built, built_before, source_for, rest_of, all_built}
use Rattle.ct_asm.specs.Labels.{Assembled}
use Rattle.ct_link_objects.specs.Objects.{file_of, files_of, AllHold}

-- ---- lists by index

pub take_one : {A : Type 0} (xs : List A) (k : ℕ) (x : A) → slice_get xs k ≡ Some x → take (suc k) xs ≡ take k xs ++ x ∷ []
take_one xs k x is = take-suc xs k x (slice_get_within xs k x is) ∙ ap (λ z. take k xs ++ z ∷ []) (get_or_from_slice_get xs k x x is)

pub cut_at : {A : Type 0} (xs : List A) (k : ℕ) (x : A) → slice_get xs k ≡ Some x → xs ≡ take k xs ++ x ∷ drop (suc k) xs
cut_at xs k x is =
    sym (take-append-drop k xs)
    ∙ ap (λ l. take k xs ++ l) (drop-cons xs k x (slice_get_within xs k x is) ∙ ap (λ z. z ∷ drop (suc k) xs) (get_or_from_slice_get xs k x x is))

-- ---- texts

pub files_joined : (us vs : List OwnerUnit) → files_of (us ++ vs) ≡ files_of us + files_of vs
files_joined [] vs = let none : files_of vs ≡ 0 + files_of vs = omega arith in none
files_joined (u ∷ us) vs = let rest = files_joined us vs in omega (arith, rest)

dropped_one : {A : Type 0} (n : ℕ) (xs : List A) → drop (suc n) xs ≡ drop n (drop 1 xs)
dropped_one zero [] = refl
dropped_one (suc n) [] = refl
dropped_one n (x ∷ xs) = refl

left : (o : Option (List ℕ)) (n : ℕ) (sources : List (List ℕ)) → drop (file_of o + n) sources ≡ drop n (rest_of o sources)
left None n sources = ap (λ k. drop k sources) (let e : 0 + n ≡ n = omega arith in e)
left (Some name) n sources = ap (λ k. drop k sources) (let e : 1 + n ≡ suc n = omega arith in e) ∙ dropped_one n sources

-- ---- answers

-- what was built before, and what comes of the rest
unfoldable pub prepended : List Built → Result (List Built) LinkFault → Result (List Built) LinkFault
prepended bs (Err e) = Err e
prepended bs (Ok cs) = Ok (bs ++ cs)

front_prepended : (b : Built) (bs : List Built) (r : Result (List Built) LinkFault) → built_before (Ok b) (prepended bs r) ≡ prepended (b ∷ bs) r
unfolding prepended
front_prepended b bs (Err e) = refl
front_prepended b bs (Ok cs) = refl

prepended_none : (r : Result (List Built) LinkFault) → prepended [] r ≡ r
unfolding prepended
prepended_none (Err e) = refl
prepended_none (Ok cs) = refl

-- where the first stretch is built, the answer is that of the rest after it
pub built_joined : (us vs : List OwnerUnit) (sources : List (List ℕ)) (bs : List Built) → all_built us sources ≡ Ok bs
    → all_built (us ++ vs) sources ≡ prepended bs (all_built vs (drop (files_of us) sources))
unfolding all_built
built_joined [] vs sources bs e =
    let same : [] ≡ bs = cc in
    subst (λ (l : List Built). all_built vs sources ≡ prepended l (all_built vs sources)) same (sym (prepended_none (all_built vs sources)))
built_joined (u ∷ us) vs sources bs e = by (unit_built u (source_for u.code.file sources)) refl (all_built us (rest_of u.code.file sources)) refl e
    (λ cs h. built_joined us vs (rest_of u.code.file sources) cs h)
  where
    by : (o : Result Built LinkFault) → unit_built u (source_for u.code.file sources) ≡ o
        → (r : Result (List Built) LinkFault) → all_built us (rest_of u.code.file sources) ≡ r → built_before o r ≡ Ok bs
        → ((cs : List Built) → all_built us (rest_of u.code.file sources) ≡ Ok cs → all_built (us ++ vs) (rest_of u.code.file sources) ≡ prepended cs (all_built vs (drop (files_of us) (rest_of u.code.file sources))))
        → built_before (unit_built u (source_for u.code.file sources)) (all_built (us ++ vs) (rest_of u.code.file sources)) ≡ prepended bs (all_built vs (drop (file_of u.code.file + files_of us) sources))
    by (Err f) is r rest h so = absurd (let no : Err f ≡ Ok bs = h in cc)
    by (Ok b) is (Err f) rest h so = absurd (let no : Err f ≡ Ok bs = h in cc)
    by (Ok b) is (Ok cs) rest h so =
        let same : b ∷ cs ≡ bs = cc in
        let later = drop (files_of us) (rest_of u.code.file sources) in
        ap₂ (λ o r. built_before o r) is (so cs rest) ∙ front_prepended b cs (all_built vs later)
        ∙ ap₂ (λ (l : List Built) (s : List (List ℕ)). prepended l (all_built vs s)) same (sym (left u.code.file (files_of us) sources))

-- ---- objects

pub all_joined : (bs cs : List Built) (os ps : List Assembled) → AllHold bs os → AllHold cs ps → AllHold (bs ++ cs) (os ++ ps)
all_joined [] cs [] ps h k = k
all_joined [] cs (o ∷ os) ps h k = absurd h
all_joined (b ∷ bs) cs [] ps h k = absurd h
all_joined (b ∷ bs) cs (o ∷ os) ps h k = (h.0, all_joined bs cs os ps h.1 k)
