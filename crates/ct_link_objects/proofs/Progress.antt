-- How far a loop over owners has come: the first of them are built, and their texts are taken.
use Rattle.std.proofs.Common.{ℕ, suc, ◌≡◌, ◌+◌, ◌≤◌, List, [], ◌∷◌, ◌++◌, length, take, drop, Some, slice_get, refl, sym, ap, ◌∙◌, subst, arith}
use Rattle.std.specs.Prelude.{Ok, Err}
use Rattle.std.proofs.lemmas.List.{take_all}
use Rattle.def_link.specs.declared.LinkFault.{LinkFault}
use Rattle.def_link.specs.declared.LinkFault.TheVariants as fault
use Rattle.def_link.specs.Owners.{Unit as OwnerUnit, Built, unit_built, built_before, source_for, rest_of, all_built}
use Rattle.ct_asm.specs.Labels.{Assembled}
use Rattle.ct_link_objects.specs.Objects.{file_of, files_of, IsBuilt, AreBuilt, RefusesLink}
use Rattle.ct_link_objects.proofs.Walks.{take_one, cut_at, files_joined, prepended, built_joined, all_joined}

-- after k owners, with so many texts taken
pub record Done (us : List OwnerUnit) (texts : List (List ℕ)) (k next : ℕ) (os : List Assembled) : Type 0 where
  pub taken : next ≡ files_of (take k us)
  pub built : AreBuilt (all_built (take k us) texts) os

pub none_done : (us : List OwnerUnit) (texts : List (List ℕ)) → Done us texts 0 0 []
unfolding all_built
none_done us texts = record { taken = refl; built = record { built = []; is = refl; held = tt } }

-- one unit alone
alone : (u : OwnerUnit) (texts : List (List ℕ)) (b : Built) → unit_built u (source_for u.code.file texts) ≡ Ok b → all_built (u ∷ []) texts ≡ Ok (b ∷ [])
unfolding all_built
alone u texts b is = ap (λ o. built_before o (Ok [])) is

fails_at : (u : OwnerUnit) (us : List OwnerUnit) (texts : List (List ℕ)) (e : LinkFault) → unit_built u (source_for u.code.file texts) ≡ Err e → all_built (u ∷ us) texts ≡ Err e
unfolding all_built
fails_at u us texts e is = ap (λ o. built_before o (all_built us (rest_of u.code.file texts))) is

-- the texts of one owner more
pub one_taken : (us : List OwnerUnit) (k : ℕ) (u : OwnerUnit) → slice_get us k ≡ Some u → files_of (take (k + 1) us) ≡ files_of (take k us) + file_of u.code.file
one_taken us k u at =
    let on : k + 1 ≡ suc k = omega arith in
    let whole : files_of (take (k + 1) us) ≡ files_of (take k us ++ u ∷ []) = ap (λ n. files_of (take n us)) on ∙ ap files_of (take_one us k u at) in
    let sum : files_of (take k us ++ u ∷ []) ≡ files_of (take k us) + (file_of u.code.file + 0) = files_joined (take k us) (u ∷ []) in
    omega (arith, whole, sum)

pub one_done : (us : List OwnerUnit) (texts : List (List ℕ)) (k next size : ℕ) (u : OwnerUnit) (o : Assembled) (os new : List Assembled) → Done us texts k next os → slice_get us k ≡ Some u
    → IsBuilt (unit_built u (source_for u.code.file (drop next texts))) o → new ≡ os ++ o ∷ [] → size ≡ file_of u.code.file → Done us texts (k + 1) (next + size) new
unfolding prepended
one_done us texts k next size u o os new h at one pushed sized =
    let first = take k us in
    let on : k + 1 ≡ suc k = omega arith in
    let whole : take (k + 1) us ≡ first ++ u ∷ [] = ap (λ n. take n us) on ∙ take_one us k u at in
    let here : unit_built u (source_for u.code.file (drop (files_of first) texts)) ≡ Ok one.built =
    subst (λ n. unit_built u (source_for u.code.file (drop n texts)) ≡ Ok one.built) h.taken one.is in
    let all : all_built (first ++ u ∷ []) texts ≡ Ok (h.built.built ++ one.built ∷ []) =
    built_joined first (u ∷ []) texts h.built.built h.built.is ∙ ap (prepended h.built.built) (alone u (drop (files_of first) texts) one.built here) in
    let before = h.taken in
    let more = one_taken us k u at in
    let made : AreBuilt (all_built (take (k + 1) us) texts) (os ++ o ∷ []) = record {
      built = h.built.built ++ one.built ∷ [];
      is = ap (λ (l : List OwnerUnit). all_built l texts) whole ∙ all;
      held = all_joined h.built.built (one.built ∷ []) os (o ∷ []) h.built.held (one.held, tt);
    } in
    record {
      taken = omega (arith, before, more, sized);
      built = subst (λ (l : List Assembled). AreBuilt (all_built (take (k + 1) us) texts) l) (sym pushed) made;
    }

fault_is : (us : List OwnerUnit) (texts : List (List ℕ)) (k next : ℕ) (u : OwnerUnit) (os : List Assembled) (e : LinkFault) → Done us texts k next os → slice_get us k ≡ Some u
    → unit_built u (source_for u.code.file (drop next texts)) ≡ Err e → all_built us texts ≡ Err e
unfolding prepended
fault_is us texts k next u os e h at fails =
    let first = take k us in
    let later = drop (suc k) us in
    let here : unit_built u (source_for u.code.file (drop (files_of first) texts)) ≡ Err e =
    subst (λ n. unit_built u (source_for u.code.file (drop n texts)) ≡ Err e) h.taken fails in
    ap (λ (l : List OwnerUnit). all_built l texts) (cut_at us k u at)
    ∙ built_joined first (u ∷ later) texts h.built.built h.built.is
    ∙ ap (prepended h.built.built) (fails_at u later (drop (files_of first) texts) e here)

-- the fault of the next is that of all
pub fault_done : (us : List OwnerUnit) (texts : List (List ℕ)) (k next : ℕ) (u : OwnerUnit) (os : List Assembled) (e : LinkFault) → Done us texts k next os → slice_get us k ≡ Some u
    → RefusesLink (unit_built u (source_for u.code.file (drop next texts))) e → RefusesLink (all_built us texts) e
fault_done us texts k next u os fault.NoMemory h at fails = tt
fault_done us texts k next u os (fault.Asm owner number line) h at fails = fault_is us texts k next u os (fault.Asm owner number line) h at fails
fault_done us texts k next u os (fault.Export owner item) h at fails = fault_is us texts k next u os (fault.Export owner item) h at fails
fault_done us texts k next u os (fault.NoRoom needed has) h at fails = fault_is us texts k next u os (fault.NoRoom needed has) h at fails
fault_done us texts k next u os (fault.Import owner line) h at fails = fault_is us texts k next u os (fault.Import owner line) h at fails
fault_done us texts k next u os (fault.Initial owner) h at fails = fault_is us texts k next u os (fault.Initial owner) h at fails

-- there is a text for the next, where there is one for each
pub text_there : (us : List OwnerUnit) (texts : List (List ℕ)) (k next : ℕ) (u : OwnerUnit) (os : List Assembled) → Done us texts k next os → slice_get us k ≡ Some u
    → length texts ≡ files_of us → next + file_of u.code.file ≤ length texts
text_there us texts k next u os h at each =
    let whole : files_of us ≡ files_of (take k us ++ u ∷ drop (suc k) us) = ap files_of (cut_at us k u at) in
    let count = files_joined (take k us) (u ∷ drop (suc k) us) in
    let before = h.taken in
    omega (arith, whole, count, before, each)

pub all_done : (us : List OwnerUnit) (texts : List (List ℕ)) (k next : ℕ) (os : List Assembled) → Done us texts k next os → length us ≤ k → AreBuilt (all_built us texts) os
all_done us texts k next os h end = subst (λ (l : List OwnerUnit). AreBuilt (all_built l texts) os) (take_all k us end) h.built
