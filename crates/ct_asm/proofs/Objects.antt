-- An object and its statements: the table's labels are the source's, and none stands past the limit.
use Rattle.std.proofs.Common.{◌≡◌, ℕ, ◌+◌, ◌≤◌, List, [], ◌∷◌, Option, Some, None, Bool, true, false, cond, nat_lt, refl, sym, ap, subst, arith}
use mathlib.Core.Path.{fun_ext}
use Rattle.def_source.specs.declared.parts.Part.{Part}
use Rattle.def_source.specs.declared.parts.Part.TheVariants as part
use Rattle.def_source.specs.declared.parts.Section.TheVariants as section
use Rattle.def_source.specs.Source.{Name, Statements, is_text}
use Rattle.def_object.specs.declared.Label.{Label}
use Rattle.def_object.specs.declared.Place.{Place}
use Rattle.def_object.specs.Object.{Labels, label_from, label_in, is_label, start, fault_from, fault_in, text_of, initial_of, bytes_from, place_after, grown, size_at, size_fault, offset, limit}
use Rattle.ct_asm.specs.Labels.{label_named, WithinLimit}
use Rattle.ct_asm.proofs.Walks.{first_faultless, rest_faultless}

-- the table stands for the labels of the source
pub same_labels : (all : Statements) (rows : List (Name × Label)) → ((name : Name) → label_named name rows ≡ label_from name start 0 all) → (λ n. label_named n rows) ≡ label_in all
unfolding label_in
same_labels all rows h = fun_ext h

pub fault_is : (all : Statements) (rows : List (Name × Label)) → ((name : Name) → label_named name rows ≡ label_from name start 0 all) → fault_in all ≡ fault_from (λ n. label_named n rows) start 0 all
unfolding fault_in
fault_is all rows h = ap (λ (l : Labels). fault_from l start 0 all) (sym (same_labels all rows h))

pub text_is : (all : Statements) (slots : List Name) (rows : List (Name × Label)) → ((name : Name) → label_named name rows ≡ label_from name start 0 all) → bytes_from section.Text (λ n. label_named n rows) slots start all ≡ text_of all slots
unfolding text_of
text_is all slots rows h = ap (λ (l : Labels). bytes_from section.Text l slots start all) (same_labels all rows h)

pub initial_is : (all : Statements) (slots : List Name) (rows : List (Name × Label)) → ((name : Name) → label_named name rows ≡ label_from name start 0 all) → bytes_from section.Data (λ n. label_named n rows) slots start all ≡ initial_of all slots
unfolding initial_of
initial_is all slots rows h = ap (λ (l : Labels). bytes_from section.Data l slots start all) (same_labels all rows h)

-- ---- no place passes the limit where nothing has a fault

abbrev Within : Place → Type 0
Within p = (p.text ≤ limit) × (p.initial ≤ limit)

small : (at size : ℕ) → cond {A = Option ℕ} (nat_lt limit (at + size)) (Some 8) None ≡ None → at + size ≤ limit
small at size e = grind (arith, e)

offset_within : (p : Place) → Within p → offset p ≤ limit
offset_within p h = by_test (is_text p.section)
  where
    by_test : (b : Bool) → cond b p.text p.initial ≤ limit
    by_test true = h.0
    by_test false = h.1

grown_within : (p : Place) (n : ℕ) → Within p → offset p + n ≤ limit → Within (grown p n)
grown_within p n h more = by_test (is_text p.section) more
  where
    by_test : (b : Bool) → cond b p.text p.initial + n ≤ limit → Within (cond b (record p { text = p.text + n }) (record p { initial = p.initial + n }))
    by_test true more = (more, h.1)
    by_test false more = (h.0, more)

advanced_within : (p : Place) (q : Part Name) → Within p → size_fault (offset p) q ≡ None → Within (place_after p q)
advanced_within p part.Text h e = h
advanced_within p part.Data h e = h
advanced_within p q h e = grown_within p (size_at q (offset p)) h (small (offset p) (size_at q (offset p)) e)

label_within : (labels : Labels) (name : Name) (p : Place) (k : ℕ) (ss : Statements) → Within p → fault_from labels p k ss ≡ None → WithinLimit (label_from name p k ss)
label_within labels name p k [] h e = tt
label_within labels name p k (s ∷ ss) h e =
    let here = first_faultless labels p k s ss (s ∷ ss) refl e in
    let later = rest_faultless labels p (place_after p s.part) k s ss (s ∷ ss) refl refl e in
    by_test (is_label name s.part) (label_within labels name (place_after p s.part) (k + 1) ss (advanced_within p s.part h here.1) later)
  where
    by_test : (b : Bool) → WithinLimit (label_from name (place_after p s.part) (k + 1) ss) → WithinLimit (cond b (Some (record { section = p.section; offset = offset p; index = k })) (label_from name (place_after p s.part) (k + 1) ss))
    by_test true more = offset_within p h
    by_test false more = more

pub labels_within : (all : Statements) (rows : List (Name × Label)) → ((name : Name) → label_named name rows ≡ label_from name start 0 all) → fault_from (λ n. label_named n rows) start 0 all ≡ None → (name : Name) → WithinLimit (label_named name rows)
labels_within all rows h e name = subst WithinLimit (sym (h name)) (label_within (λ n. label_named n rows) name start 0 all (omega arith, omega arith) e)

pub none_left : {A : Type 0} (o : Option A) → ((x : A) → o ≡ Some x → ⊥) → o ≡ None
none_left None h = refl
none_left (Some x) h = absurd (h x refl)
