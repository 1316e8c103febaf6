-- Where names stand: the first of a list, and the first export of a text `owner.export`.
use Rattle.std.proofs.Common.{ℕ, suc, ◌≡◌, ◌+◌, ◌<◌, ◌≤◌, ◌&&◌, Bool, true, false, not, cond, List, [], ◌∷◌, ◌++◌, length, map, take, drop, get_or, Some, None, refl, sym, ap, ap₂, ◌∙◌, subst, arith, inl, inr}
use Rattle.std.specs.Prelude.{bytes_eq}
use Rattle.std.proofs.lemmas.List.{length-map, at_drop_more, take-append-drop}
use Rattle.std.proofs.Math.ListN.{drop_of_length-le}
use Rattle.std.proofs.lemmas.Slice.Eq.{bytes_eq-Decides}
use Rattle.std.proofs.Math.Seq.{take_at, drop_at}
use Rattle.std.proofs.lemmas.Bool.{eq-eqb}
use Rattle.law_lists.proofs.Tests.{eq_tells, lt_tells}
use Rattle.def_desc.specs.References.{export_name}
use Rattle.def_desc.specs.Rows.{ExportRow, DescCompartment, LexportRow, LibraryRow}
use Rattle.def_link.specs.Slots.{index_of, Exported, exported, Exporter, full_names, export_from}
use Rattle.ct_link_slots.specs.Exporters.{exporter, library_exporter, after_point, after_owner}

-- ---- one more name

pub index_met : {A : Type 0} (f : A → List ℕ) (name : List ℕ) (xs : List A) (k : ℕ) (d : A) → k < length xs → bytes_eq name (f (get_or xs k d)) ≡ true
    → index_of name (map f (drop k xs)) ≡ 0
index_met f name xs k d low met =
    at_drop_more (λ l. index_of name (map f l)) xs k d low ∙ ap (λ b. cond (not b) (1 + index_of name (map f (drop (k + 1) xs))) 0) met

pub index_passed : {A : Type 0} (f : A → List ℕ) (name : List ℕ) (xs : List A) (k : ℕ) (d : A) → k < length xs → bytes_eq name (f (get_or xs k d)) ≡ false
    → index_of name (map f (drop k xs)) ≡ 1 + index_of name (map f (drop (k + 1) xs))
index_passed f name xs k d low missed =
    at_drop_more (λ l. index_of name (map f l)) xs k d low ∙ ap (λ b. cond (not b) (1 + index_of name (map f (drop (k + 1) xs))) 0) missed

-- how far a loop over names has come: at its k-th, where `whole` is the index in all of them
pub index_here : {A : Type 0} (f : A → List ℕ) (name : List ℕ) (xs : List A) (k index whole : ℕ) (d x : A) → (index ≡ k) × (index_of name (map f (drop k xs)) + index ≡ whole)
    → k < length xs → x ≡ get_or xs k d → bytes_eq name (f x) ≡ true → index ≡ whole
index_here f name xs k index whole d x h low is met =
    let none = index_met f name xs k d low (subst (λ z. bytes_eq name (f z) ≡ true) is met) in
    let sum = h.1 in
    omega (arith, none, sum)

pub index_next : {A : Type 0} (f : A → List ℕ) (name : List ℕ) (xs : List A) (k index whole : ℕ) (d x : A) → (index ≡ k) × (index_of name (map f (drop k xs)) + index ≡ whole)
    → k < length xs → x ≡ get_or xs k d → bytes_eq name (f x) ≡ false → (index + 1 ≡ k + 1) × (index_of name (map f (drop (k + 1) xs)) + (index + 1) ≡ whole)
index_next f name xs k index whole d x h low is missed =
    let one = index_passed f name xs k d low (subst (λ z. bytes_eq name (f z) ≡ false) is missed) in
    let sum = h.1 in
    (ap (λ n. n + 1) h.0, omega (arith, one, sum))

pub index_end : {A : Type 0} (f : A → List ℕ) (name : List ℕ) (xs : List A) (k index whole : ℕ) → (index ≡ k) × (index_of name (map f (drop k xs)) + index ≡ whole) → length xs ≤ k → index ≡ whole
index_end f name xs k index whole h end =
    let none : index_of name (map f (drop k xs)) ≡ 0 = ap (λ l. index_of name (map f l)) (drop_of_length-le xs end) in
    let sum = h.1 in
    omega (arith, none, sum)

-- ---- one more owner

owner_met : {A : Type 0} (f : A → Exporter) (name : List ℕ) (n : ℕ) (xs : List A) (k : ℕ) (d : A) → k < length xs
    → index_of name (full_names (f (get_or xs k d))) < length (f (get_or xs k d)).exports
    → export_from name n (map f (drop k xs)) ≡ exported n (index_of name (full_names (f (get_or xs k d))))
owner_met f name n xs k d low less =
    let i = index_of name (full_names (f (get_or xs k d))) in
    let rest = export_from name (n + 1) (map f (drop (k + 1) xs)) in
    elim (lt_tells i (length (f (get_or xs k d)).exports)) [
      | inl h ↦ at_drop_more (λ l. export_from name n (map f l)) xs k d low ∙ ap (λ b. cond b (exported n i) rest) h.0
      | inr h ↦ absurd (let le = h.1 in omega (arith, le, less))
    ]

owner_passed : {A : Type 0} (f : A → Exporter) (name : List ℕ) (n : ℕ) (xs : List A) (k : ℕ) (d : A) → k < length xs
    → length (f (get_or xs k d)).exports ≤ index_of name (full_names (f (get_or xs k d)))
    → export_from name n (map f (drop k xs)) ≡ export_from name (n + 1) (map f (drop (k + 1) xs))
owner_passed f name n xs k d low more =
    let i = index_of name (full_names (f (get_or xs k d))) in
    let rest = export_from name (n + 1) (map f (drop (k + 1) xs)) in
    elim (lt_tells i (length (f (get_or xs k d)).exports)) [
      | inl h ↦ absurd (let less = h.1 in omega (arith, less, more))
      | inr h ↦ at_drop_more (λ l. export_from name n (map f l)) xs k d low ∙ ap (λ b. cond b (exported n i) rest) h.0
    ]

-- the index of a text among an owner's exports is e
pub call_met : (text : List ℕ) (n e : ℕ) (cs : List DescCompartment) (k : ℕ) (d : DescCompartment) → k < length cs
    → e ≡ index_of text (map (export_name (get_or cs k d).name) (map (λ (x : ExportRow). x.name) (get_or cs k d).exports)) → e < length (get_or cs k d).exports
    → export_from text n (map exporter (drop k cs)) ≡ exported n e
call_met text n e cs k d low is less =
    let c = get_or cs k d in
    let count = length-map c.exports (λ (x : ExportRow). x.name) in
    owner_met exporter text n cs k d low (omega (arith, count, is, less)) ∙ ap (exported n) (sym is)

pub call_passed : (text : List ℕ) (n e : ℕ) (cs : List DescCompartment) (k : ℕ) (d : DescCompartment) → k < length cs
    → e ≡ index_of text (map (export_name (get_or cs k d).name) (map (λ (x : ExportRow). x.name) (get_or cs k d).exports)) → length (get_or cs k d).exports ≤ e
    → export_from text n (map exporter (drop k cs)) ≡ export_from text (n + 1) (map exporter (drop (k + 1) cs))
call_passed text n e cs k d low is more =
    let c = get_or cs k d in
    let count = length-map c.exports (λ (x : ExportRow). x.name) in
    owner_passed exporter text n cs k d low (omega (arith, count, is, more))

pub lent_met : (text : List ℕ) (n e : ℕ) (ls : List LibraryRow) (k : ℕ) (d : LibraryRow) → k < length ls
    → e ≡ index_of text (map (export_name (get_or ls k d).name) (map (λ (x : LexportRow). x.name) (get_or ls k d).exports)) → e < length (get_or ls k d).exports
    → export_from text n (map library_exporter (drop k ls)) ≡ exported n e
lent_met text n e ls k d low is less =
    let l = get_or ls k d in
    let count = length-map l.exports (λ (x : LexportRow). x.name) in
    owner_met library_exporter text n ls k d low (omega (arith, count, is, less)) ∙ ap (exported n) (sym is)

pub lent_passed : (text : List ℕ) (n e : ℕ) (ls : List LibraryRow) (k : ℕ) (d : LibraryRow) → k < length ls
    → e ≡ index_of text (map (export_name (get_or ls k d).name) (map (λ (x : LexportRow). x.name) (get_or ls k d).exports)) → length (get_or ls k d).exports ≤ e
    → export_from text n (map library_exporter (drop k ls)) ≡ export_from text (n + 1) (map library_exporter (drop (k + 1) ls))
lent_passed text n e ls k d low is more =
    let l = get_or ls k d in
    let count = length-map l.exports (λ (x : LexportRow). x.name) in
    owner_passed library_exporter text n ls k d low (omega (arith, count, is, more))

pub call_next : (text : List ℕ) (cs : List DescCompartment) (k owner e : ℕ) (whole : Exported) (d x : DescCompartment) → (owner ≡ k) × (export_from text owner (map exporter (drop k cs)) ≡ whole)
    → k < length cs → x ≡ get_or cs k d → e ≡ index_of text (map (export_name x.name) (map (λ (y : ExportRow). y.name) x.exports)) → length x.exports ≤ e
    → (owner + 1 ≡ k + 1) × (export_from text (owner + 1) (map exporter (drop (k + 1) cs)) ≡ whole)
call_next text cs k owner e whole d x h low is index more =
    let index_is = subst (λ (z : DescCompartment). e ≡ index_of text (map (export_name z.name) (map (λ (y : ExportRow). y.name) z.exports))) is index in
    let more_is = subst (λ (z : DescCompartment). length z.exports ≤ e) is more in
    (ap (λ n. n + 1) h.0, sym (call_passed text owner e cs k d low index_is more_is) ∙ h.1)

pub lent_next : (text : List ℕ) (ls : List LibraryRow) (k owner e : ℕ) (whole : Exported) (d x : LibraryRow) → (owner ≡ k) × (export_from text owner (map library_exporter (drop k ls)) ≡ whole)
    → k < length ls → x ≡ get_or ls k d → e ≡ index_of text (map (export_name x.name) (map (λ (y : LexportRow). y.name) x.exports)) → length x.exports ≤ e
    → (owner + 1 ≡ k + 1) × (export_from text (owner + 1) (map library_exporter (drop (k + 1) ls)) ≡ whole)
lent_next text ls k owner e whole d x h low is index more =
    let index_is = subst (λ (z : LibraryRow). e ≡ index_of text (map (export_name z.name) (map (λ (y : LexportRow). y.name) z.exports))) is index in
    let more_is = subst (λ (z : LibraryRow). length z.exports ≤ e) is more in
    (ap (λ n. n + 1) h.0, sym (lent_passed text owner e ls k d low index_is more_is) ∙ h.1)

-- ---- a text by its owner's name and the rest

same_rest : (front a b : List ℕ) → bytes_eq (front ++ a) (front ++ b) ≡ bytes_eq a b
same_rest [] a b = refl
same_rest (x ∷ front) a b = ap (λ t. t && bytes_eq (front ++ a) (front ++ b)) (eq-eqb x x refl) ∙ same_rest front a b

-- a name after its owner's is what follows
follows : (owner name : List ℕ) → after_owner (export_name owner name) owner ≡ Some name
follows owner name =
    let front : bytes_eq (take (length owner) (export_name owner name)) owner ≡ true = (bytes_eq-Decides (take (length owner) (export_name owner name)) owner).1 (take_at owner (46 ∷ name) (length owner) refl) in
    let back : after_point (drop (length owner) (export_name owner name)) ≡ Some name = ap after_point (drop_at owner (46 ∷ name) (length owner) refl) ∙ ap (λ b. cond b (Some name) None) (eq-eqb 46 46 refl) in
    ap₂ (λ b r. cond b r None) front back

point_is : (bs name : List ℕ) → after_point bs ≡ Some name → bs ≡ 46 ∷ name
point_is [] name e = absurd (let no : None ≡ Some name = e in cc)
point_is (b ∷ bs) name e = elim (eq_tells b 46) [
  | inl h ↦ (
      let some : Some bs ≡ Some name = sym (ap (λ t. cond t (Some bs) None) h.0) ∙ e in
      let same : bs ≡ name = cc in
      ap₂ (λ x l. x ∷ l) h.1 same
      )
  | inr h ↦ absurd (let no : None ≡ Some name = sym (ap (λ t. cond t (Some bs) None) h.0) ∙ e in cc)
]

owner_is : (text owner name : List ℕ) → after_owner text owner ≡ Some name → text ≡ export_name owner name
owner_is text owner name e = by (bytes_eq (take (length owner) text) owner) refl e
  where
    by : (b : Bool) → bytes_eq (take (length owner) text) owner ≡ b → cond b (after_point (drop (length owner) text)) None ≡ Some name → text ≡ export_name owner name
    by false is h = absurd (let no : None ≡ Some name = h in cc)
    by true is h =
        let front = (bytes_eq-Decides (take (length owner) text) owner).0 is in
        sym (take-append-drop (length owner) text) ∙ ap₂ (λ (a b : List ℕ). a ++ b) front (point_is (drop (length owner) text) name h)

-- a text that doesn't begin with an owner's name has no index among its exports
pub other_owner : {A : Type 0} (f : A → List ℕ) (text owner : List ℕ) (xs : List A) → after_owner text owner ≡ None → index_of text (map (export_name owner) (map f xs)) ≡ length xs
other_owner f text owner [] none = refl
other_owner f text owner (x ∷ xs) none = by (bytes_eq text (export_name owner (f x))) refl (other_owner f text owner xs none)
  where
    by : (b : Bool) → bytes_eq text (export_name owner (f x)) ≡ b → index_of text (map (export_name owner) (map f xs)) ≡ length xs
        → cond (not b) (1 + index_of text (map (export_name owner) (map f xs))) 0 ≡ suc (length xs)
    by true is rest =
        let same = (bytes_eq-Decides text (export_name owner (f x))).0 is in
        absurd (let no : None ≡ Some (f x) = sym none ∙ ap (λ t. after_owner t owner) same ∙ follows owner (f x) in cc)
    by false is rest = omega (arith, rest)

own_all : (owner name : List ℕ) (text : List ℕ) (names : List (List ℕ)) → text ≡ export_name owner name → index_of text (map (export_name owner) names) ≡ index_of name names
own_all owner name text [] is = refl
own_all owner name text (n ∷ ns) is =
    let same : bytes_eq text (export_name owner n) ≡ bytes_eq name n = ap (λ t. bytes_eq t (export_name owner n)) is ∙ same_rest owner (46 ∷ name) (46 ∷ n) ∙ ap (λ t. t && bytes_eq name n) (eq-eqb 46 46 refl) in
    ap₂ (λ b i. cond (not b) (1 + i) 0) same (own_all owner name text ns is)

-- one that does has the index of what follows
pub own_export : (text owner name : List ℕ) (names : List (List ℕ)) → after_owner text owner ≡ Some name → index_of text (map (export_name owner) names) ≡ index_of name names
own_export text owner name names is = own_all owner name text names (owner_is text owner name is)
