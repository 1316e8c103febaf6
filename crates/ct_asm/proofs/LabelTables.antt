-- A table of labels as a list of rows.
use Rattle.std.proofs.Common.{◌≡◌, ℕ, List, [], ◌∷◌, ◌++◌, map, Some, None, is_some, Bool, true, false, cond, refl, sym, ap, ◌∙◌}
use Rattle.std.specs.Str.{bytes_eq}
use Rattle.std.specs.Map.{lookup}
use Rattle.indexmap.specs.IndexMap.{insert_entry}
use Rattle.def_source.specs.Source.{Name}
use Rattle.def_object.specs.declared.Label.{Label}
use Rattle.ct_asm.specs.Labels.{label_named, with_label}

-- the rows of entries whose keys have these bytes
abbrev pub rows : {K : Type 0} → (K → List ℕ) → List (K × Label) → List (List ℕ × Label)
rows items es = map (λ e. (items e.0, e.1)) es

pub looked_up : {K : Type 0} (items : K → List ℕ) (name : List ℕ) (es : List (K × Label)) → lookup (λ k. bytes_eq name (items k)) es ≡ label_named name (rows items es)
looked_up items name [] = refl
looked_up items name (e ∷ es) = ap (cond (bytes_eq name (items e.0)) (Some e.1)) (looked_up items name es)

-- a name that isn't there goes last
pub inserted : {K : Type 0} (items : K → List ℕ) (key : K) (label : Label) (es : List (K × Label)) → label_named (items key) (rows items es) ≡ None → rows items (insert_entry (λ a b. bytes_eq (items a) (items b)) es key label) ≡ rows items es ++ (items key, label) ∷ []
inserted items key label [] absent = refl
inserted items key label (e ∷ es) absent = by_test (bytes_eq (items key) (items e.0)) refl absent (inserted items key label es)
  where
    by_test : (b : Bool) → bytes_eq (items key) (items e.0) ≡ b → cond (bytes_eq (items key) (items e.0)) (Some e.1) (label_named (items key) (rows items es)) ≡ None → (label_named (items key) (rows items es) ≡ None → rows items (insert_entry (λ a b. bytes_eq (items a) (items b)) es key label) ≡ rows items es ++ (items key, label) ∷ []) → rows items (cond (bytes_eq (items key) (items e.0)) ((e.0, label) ∷ es) (e ∷ insert_entry (λ a b. bytes_eq (items a) (items b)) es key label)) ≡ (items e.0, e.1) ∷ rows items es ++ (items key, label) ∷ []
    by_test true same absent more =
        let found : cond true (Some e.1) (label_named (items key) (rows items es)) ≡ None = sym (ap (λ b. cond b (Some e.1) (label_named (items key) (rows items es))) same) ∙ absent in
        cc found
    by_test false same absent more =
        let later : label_named (items key) (rows items es) ≡ None = sym (ap (λ b. cond b (Some e.1) (label_named (items key) (rows items es))) same) ∙ absent in
        ap (λ b. rows items (cond b ((e.0, label) ∷ es) (e ∷ insert_entry (λ a b. bytes_eq (items a) (items b)) es key label))) same ∙ ap (λ r. (items e.0, e.1) ∷ r) (more later)

-- the entries with a label for a key
abbrev put : {K : Type 0} → (K → List ℕ) → List (K × Label) → K → Label → List (K × Label)
put items es key label = insert_entry (λ a b. bytes_eq (items a) (items b)) es key label

-- a label that took the place of the first of its name, and the first put back
pub put_back : {K : Type 0} (items : K → List ℕ) (key again : K) (label first : Label) (es : List (K × Label)) → items again ≡ items key → label_named (items key) (rows items es) ≡ Some first
    → rows items (insert_entry (λ a b. bytes_eq (items a) (items b)) (insert_entry (λ a b. bytes_eq (items a) (items b)) es key label) again first) ≡ rows items es
put_back items key again label first [] same is = absurd (let no : None ≡ Some first = is in cc)
put_back items key again label first (e ∷ es) same is = by_test (bytes_eq (items key) (items e.0)) refl is (put_back items key again label first es same)
  where
    by_test : (b : Bool) → bytes_eq (items key) (items e.0) ≡ b → cond b (Some e.1) (label_named (items key) (rows items es)) ≡ Some first
        → (label_named (items key) (rows items es) ≡ Some first → rows items (put items (put items es key label) again first) ≡ rows items es)
        → rows items (put items (cond b ((e.0, label) ∷ es) (e ∷ put items es key label)) again first) ≡ (items e.0, e.1) ∷ rows items es
    by_test true found is more =
        let one : e.1 ≡ first = cc in
        let hit : bytes_eq (items again) (items e.0) ≡ true = ap (λ n. bytes_eq n (items e.0)) same ∙ found in
        ap (λ b. rows items (cond b ((e.0, first) ∷ es) ((e.0, label) ∷ put items es again first))) hit ∙ ap (λ l. (items e.0, l) ∷ rows items es) (sym one)
    by_test false found is more =
        let miss : bytes_eq (items again) (items e.0) ≡ false = ap (λ n. bytes_eq n (items e.0)) same ∙ found in
        ap (λ b. rows items (cond b ((e.0, first) ∷ put items es key label) (e ∷ put items (put items es key label) again first))) miss ∙ ap (λ r. (items e.0, e.1) ∷ r) (more is)

-- the rows with a label whose name isn't there, and with one whose name is
pub with_new : (rows : List (Name × Label)) (n : Name) (l : Label) → label_named n rows ≡ None → rows ++ (n, l) ∷ [] ≡ with_label rows n l
with_new rows n l e = sym (ap (λ o. cond (is_some o) rows (rows ++ (n, l) ∷ [])) e)

pub with_known : (rows : List (Name × Label)) (n : Name) (l first : Label) → label_named n rows ≡ Some first → rows ≡ with_label rows n l
with_known rows n l first e = sym (ap (λ o. cond (is_some o) rows (rows ++ (n, l) ∷ [])) e)
