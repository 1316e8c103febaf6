-- The table of labels, one statement further along a source.
use Rattle.std.proofs.Common.{◌≡◌, ℕ, ◌+◌, List, [], ◌∷◌, ◌++◌, Option, Some, None, is_some, is_none, Bool, true, false, cond, refl, sym, ap, ◌∙◌, subst}
use Rattle.std.proofs.lemmas.Bool.Decides.{Decides-eqb}
use mathlib.Core.Path.{fun_ext}
use Rattle.std.specs.Str.{bytes_eq}
use Rattle.std.proofs.lemmas.Slice.Eq.{bytes_eq-Decides}
use Rattle.def_source.specs.declared.parts.Statement.{Statement}
use Rattle.def_source.specs.declared.parts.Part.{Part}
use Rattle.def_source.specs.declared.parts.Part.TheVariants as part
use Rattle.def_source.specs.Source.{Name, Statements, or_else}
use Rattle.def_object.specs.declared.Label.{Label}
use Rattle.def_object.specs.declared.Place.{Place}
use Rattle.def_object.specs.Object.{Labels, place_after, offset, label_from, is_label, second_fault, start}
use Rattle.ct_asm.specs.Labels.{label_named, noted, is_new, IsFirst, AreFirst}

-- a row at the end is found where no row before it has the name
named_last : (q n : Name) (l : Label) (rows : List (Name × Label)) → label_named q (rows ++ (n, l) ∷ []) ≡ or_else (label_named q rows) (cond (bytes_eq q n) (Some l) None)
named_last q n l [] = refl
named_last q n l (r ∷ rows) = by_test (bytes_eq q r.0) (named_last q n l rows)
  where
    by_test : (b : Bool) → label_named q (rows ++ (n, l) ∷ []) ≡ or_else (label_named q rows) (cond (bytes_eq q n) (Some l) None) → cond b (Some r.1) (label_named q (rows ++ (n, l) ∷ [])) ≡ or_else (cond b (Some r.1) (label_named q rows)) (cond (bytes_eq q n) (Some l) None)
    by_test true more = refl
    by_test false more = more

-- a label: what comes later is found behind it
label_step : (q n : Name) (l : Label) (rows : List (Name × Label)) (later : Option Label) → or_else (label_named q (cond (is_some (label_named n rows)) rows (rows ++ (n, l) ∷ []))) later ≡ or_else (label_named q rows) (cond (bytes_eq q n) (Some l) later)
label_step q n l rows later = by_row (label_named n rows) refl (bytes_eq q n) refl
  where
    found : (o p : Option Label) (x y : Option Label) → is_some o ≡ true → or_else o x ≡ or_else o y
    found None p x y e = cc e
    found (Some z) p x y e = refl

    chosen : (o : Option Label) (b : Bool) → or_else (or_else o (cond b (Some l) None)) later ≡ or_else o (cond b (Some l) later)
    chosen None true = refl
    chosen None false = refl
    chosen (Some z) b = refl

    by_row : (o : Option Label) → label_named n rows ≡ o → (b : Bool) → bytes_eq q n ≡ b → or_else (label_named q (cond (is_some (label_named n rows)) rows (rows ++ (n, l) ∷ []))) later ≡ or_else (label_named q rows) (cond (bytes_eq q n) (Some l) later)
    by_row None e b same =
        ap (λ o. or_else (label_named q (cond (is_some o) rows (rows ++ (n, l) ∷ []))) later) e ∙ ap (λ o. or_else o later) (named_last q n l rows) ∙ chosen (label_named q rows) (bytes_eq q n)
    by_row (Some z) e true same =
        let equal : q ≡ n = (bytes_eq-Decides q n).0 same in
        ap (λ o. or_else (label_named q (cond (is_some o) rows (rows ++ (n, l) ∷ []))) later) e ∙ found (label_named q rows) None later (cond (bytes_eq q n) (Some l) later) (ap (λ m. is_some (label_named m rows)) equal ∙ ap is_some e)
    by_row (Some z) e false same =
        ap (λ o. or_else (label_named q (cond (is_some o) rows (rows ++ (n, l) ∷ []))) later) e ∙ ap (λ b. or_else (label_named q rows) (cond b (Some l) later)) (sym same)

one_statement : (q : Name) (rows : List (Name × Label)) (p : Place) (k : ℕ) (x : Part Name) (later : Option Label) → or_else (label_named q (noted rows p k x)) later ≡ or_else (label_named q rows) (cond (is_label q x) (Some (record { section = p.section; offset = offset p; index = k })) later)
one_statement q rows p k (part.Label a) later = label_step q a (record { section = p.section; offset = offset p; index = k }) rows later
one_statement q rows p k x later = refl

-- the labels so far and those to come, one statement further
pub label_further : (q : Name) (rows rows' : List (Name × Label)) (p p' : Place) (k : ℕ) (x : Statement Name) (xs all : Statements) (whole : Option Label) → all ≡ x ∷ xs → rows' ≡ noted rows p k x.part → p' ≡ place_after p x.part → or_else (label_named q rows) (label_from q p k all) ≡ whole → or_else (label_named q rows') (label_from q p' (k + 1) xs) ≡ whole
label_further q rows rows' p p' k x xs all whole cut grown next so_far =
    ap (λ r. or_else (label_named q r) (label_from q p' (k + 1) xs)) grown
    ∙ ap (λ o. or_else (label_named q (noted rows p k x.part)) (label_from q o (k + 1) xs)) next
    ∙ one_statement q rows p k x.part (label_from q (place_after p x.part) (k + 1) xs)
    ∙ sym (ap (λ ss. or_else (label_named q rows) (label_from q p k ss)) cut) ∙ so_far

-- a label whose name isn't there yet is the first of its name
first_here : (rows : List (Name × Label)) (p : Place) (k : ℕ) (x : Statement Name) (xs all : Statements) (labels : Name → Option Label) → all ≡ x ∷ xs → is_new rows x.part ≡ true
    → ((q : Name) → or_else (label_named q rows) (label_from q p k all) ≡ labels q) → IsFirst labels k x.part
first_here rows p k x xs all labels cut new whole = by x.part refl new
  where
    absent : (o : Option Label) → is_none o ≡ true → o ≡ None
    absent None e = refl
    absent (Some z) e = absurd (let no : false ≡ true = e in cc)

    by : (y : Part Name) → x.part ≡ y → is_new rows y ≡ true → IsFirst labels k y
    by (part.Label a) is none =
        let label : Label = record { section = p.section; offset = offset p; index = k } in
        let later = label_from a (place_after p x.part) (k + 1) xs in
        let here : labels a ≡ Some label =
        sym (whole a) ∙ ap (λ o. or_else o (label_from a p k all)) (absent (label_named a rows) none) ∙ ap (label_from a p k) cut
        ∙ ap (λ y. cond (is_label a y) (Some label) later) is ∙ ap (λ b. cond b (Some label) later) ((bytes_eq-Decides a a).1 refl) in
        ap (second_fault k) here ∙ ap (λ b. cond b None (Some 5)) ((Decides-eqb k k).1 refl)
    by y is none = tt

-- where all labels from a statement on are the first of their names, so are those from the next one on
pub first_further : (rows : List (Name × Label)) (p : Place) (k : ℕ) (x : Statement Name) (xs all whole : Statements) (labels : Name → Option Label) → all ≡ x ∷ xs → is_new rows x.part ≡ true
    → ((q : Name) → or_else (label_named q rows) (label_from q p k all) ≡ labels q) → (AreFirst labels k all → AreFirst labels 0 whole) → AreFirst labels (k + 1) xs → AreFirst labels 0 whole
first_further rows p k x xs all whole labels cut new found so later = so (subst (AreFirst labels k) (sym cut) (first_here rows p k x xs all labels cut new found, later))

-- at the end, all labels of the table are the first of their names
pub first_whole : (rows : List (Name × Label)) (p : Place) (k : ℕ) (rest all : Statements) → rest ≡ [] → ((q : Name) → or_else (label_named q rows) (label_from q p k rest) ≡ label_from q start 0 all)
    → (AreFirst (λ q. label_from q start 0 all) k rest → AreFirst (λ q. label_from q start 0 all) 0 all) → AreFirst (λ q. label_named q rows) 0 all
first_whole rows p k rest all ended whole first =
    let same : (q : Name) → label_named q rows ≡ label_from q start 0 all =
    λ q. sym (alone (label_named q rows)) ∙ ap (λ ss. or_else (label_named q rows) (label_from q p k ss)) (sym ended) ∙ whole q in
    subst (λ (l : Labels). AreFirst l 0 all) (sym (fun_ext same)) (first (subst (AreFirst (λ q. label_from q start 0 all) k) (sym ended) tt))
  where
    alone : (o : Option Label) → or_else o None ≡ o
    alone None = refl
    alone (Some l) = refl
