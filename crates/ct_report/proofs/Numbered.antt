-- Entries and labels side by side, one after another.
use Rattle.std.proofs.Common.{◌≡◌, ℕ, ◌+◌, ◌<◌, ◌≤◌, List, [], ◌∷◌, ◌++◌, length, drop, get_or, refl, sym, ap, ◌∙◌, append_assoc, append-nil}
use Rattle.std.proofs.lemmas.List.{drop_all}
use Rattle.law_lists.proofs.Places.{from_here}
use Rattle.serde_json.specs.Data.{Data}
use Rattle.ct_entry.specs.declared.rows.Entry.{Entry}
use Rattle.def_report.specs.Lines.{line_data, numbered_entries}
use Rattle.ct_report.specs.declared.labels.Label.{Label}
use Rattle.ct_report.specs.Shown.{label_of, shown}

-- the entry at a place and its label come next
pub numbered_next : (n : ℕ) (rs : List Entry) (ls : List Label) (i : ℕ) (r : Entry) (l : Label) → i < length rs → r ≡ get_or rs i r → i < length ls → l ≡ get_or ls i l
    → numbered_entries n (drop i rs) (shown (drop i ls)) ≡ line_data (record { number = n; entry = r; label = label_of l }) ∷ numbered_entries (n + 1) (drop (i + 1) rs) (shown (drop (i + 1) ls))
numbered_next n rs ls i r l inside is there at =
    let rows : drop i rs ≡ r ∷ drop (i + 1) rs = from_here rs i r inside is in
    let labels : drop i ls ≡ l ∷ drop (i + 1) ls = from_here ls i l there at in
    ap (λ xs. numbered_entries n xs (shown (drop i ls))) rows ∙ ap (λ xs. numbered_entries n (r ∷ drop (i + 1) rs) (shown xs)) labels

no_labels : (n : ℕ) (rs : List Entry) → numbered_entries n rs [] ≡ []
no_labels n [] = refl
no_labels n (r ∷ rs) = refl

-- where the labels end, nothing comes any more
pub numbered_short : (n : ℕ) (rs : List Entry) (ls : List Label) (i : ℕ) → length ls ≤ i → numbered_entries n rs (shown (drop i ls)) ≡ []
numbered_short n rs ls i le = ap (λ xs. numbered_entries n rs (shown xs)) (drop_all i ls le) ∙ no_labels n rs

-- one more value stands for the next entry
pub done_next : (before after : List Data) (v : Data) (rest next total : List Data) → before ++ rest ≡ total → rest ≡ v ∷ next → after ≡ before ++ v ∷ [] → after ++ next ≡ total
done_next before after v rest next total all here is = ap (λ l. l ++ next) is ∙ append_assoc before (v ∷ []) next ∙ ap (λ l. before ++ l) (sym here) ∙ all

pub done_all : (before rest total : List Data) → before ++ rest ≡ total → rest ≡ [] → before ≡ total
done_all before rest total all none = sym (append-nil before) ∙ ap (λ l. before ++ l) (sym none) ∙ all
