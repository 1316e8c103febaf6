-- Names that stand once are the slots that they are taken for.
use Rattle.std.proofs.Common.{ℕ, zero, suc, ◌≡◌, ◌+◌, Bool, true, false, cond, List, [], ◌∷◌, ◌++◌, length, Some, None, slice_get, refl, sym, ap, ◌∙◌, subst, arith, append_assoc, append-nil}
use Rattle.std.specs.Prelude.{bytes_eq, is_none, Option}
use Rattle.std.proofs.lemmas.Slice.Eq.{bytes_eq-Decides}
use Rattle.std.proofs.lemmas.Option.{slice_get_within}
use Rattle.law_lists.proofs.Places.{still_there}
use Rattle.def_object.specs.Object.{slot_from, slot_of}
use Rattle.def_desc.specs.Lawful.{AreNames}
use Rattle.ct_link_objects.specs.Slots.{with_slot, with_slots}

Fresh : List (List ℕ) → List ℕ → Type 0
Fresh names n = (i : ℕ) → slice_get names i ≡ Some n → ⊥

no_slot : (k : ℕ) (names : List (List ℕ)) (n : List ℕ) → Fresh names n → slot_from k names n ≡ None
unfolding Fresh
no_slot k [] n h = refl
no_slot k (m ∷ ms) n h = by (bytes_eq n m) refl (no_slot (k + 1) ms n (λ i is. h (suc i) is))
  where
    by : (b : Bool) → bytes_eq n m ≡ b → slot_from (k + 1) ms n ≡ None → cond b (Some k) (slot_from (k + 1) ms n) ≡ None
    by true is rest = absurd (h zero (ap (λ z. Some z) (sym ((bytes_eq-Decides n m).0 is))))
    by false is rest = rest

-- a fresh name goes last
fresh_last : (names : List (List ℕ)) (n : List ℕ) → Fresh names n → with_slot names n ≡ names ++ n ∷ []
unfolding slot_of
fresh_last names n h = ap (λ (o : Option ℕ). cond (is_none o) (names ++ n ∷ []) names) (no_slot 0 names n h)

seam : {A : Type 0} (xs ys : List A) (x : A) → slice_get (xs ++ x ∷ ys) (length xs) ≡ Some x
seam [] ys x = refl
seam (y ∷ xs) ys x = seam xs ys x

Once : List (List ℕ) → Type 0
Once names = (i j : ℕ) (n : List ℕ) → slice_get names i ≡ Some n → slice_get names j ≡ Some n → i ≡ j

taken : (seen ns : List (List ℕ)) → Once (seen ++ ns) → with_slots seen ns ≡ seen ++ ns
unfolding Once Fresh
taken seen [] h = sym (append-nil seen)
taken seen (n ∷ ns) h =
    let fresh : Fresh seen n = λ i is.
    let same : i ≡ length seen = h i (length seen) n (still_there seen (n ∷ ns) i n is) (seam seen ns n) in
    let low = slice_get_within seen i n is in
    absurd (omega (arith, same, low)) in
    let whole : (seen ++ n ∷ []) ++ ns ≡ seen ++ n ∷ ns = append_assoc seen (n ∷ []) ns in
    ap (λ l. with_slots l ns) (fresh_last seen n fresh) ∙ taken (seen ++ n ∷ []) ns (subst Once (sym whole) h) ∙ whole

pub once_taken : (names : List (List ℕ)) → AreNames names → with_slots [] names ≡ names
unfolding Once
once_taken names h = taken [] names h.once

pub two_stretches : (seen a b : List (List ℕ)) → with_slots seen (a ++ b) ≡ with_slots (with_slots seen a) b
two_stretches seen [] b = refl
two_stretches seen (n ∷ ns) b = two_stretches (with_slot seen n) ns b

-- one name, then three stretches
pub slots_taken : (n : List ℕ) (a b c : List (List ℕ)) (names first second third all : List (List ℕ)) → first ≡ with_slot names n → second ≡ with_slots first a → third ≡ with_slots second b
    → all ≡ with_slots third c → all ≡ with_slots names (n ∷ a ++ b ++ c)
slots_taken n a b c names first second third all e f g h =
    let joined : with_slots (with_slot names n) (a ++ b ++ c) ≡ with_slots (with_slots (with_slots (with_slot names n) a) b) c =
    two_stretches (with_slot names n) (a ++ b) c ∙ ap (λ l. with_slots l c) (two_stretches (with_slot names n) a b) in
    h ∙ ap (λ l. with_slots l c) (g ∙ ap (λ l. with_slots l b) (f ∙ ap (λ l. with_slots l a) e)) ∙ sym joined
