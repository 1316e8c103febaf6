-- The members of an object: those of the text, put in one after another.
use Rattle.std.proofs.Common.{◌≡◌, ℕ, List, [], ◌∷◌, Bool, true, false, ◌&&◌, true≢false, Option, Some, cond, bytes_eq, Ordering, Less, Equal, Greater, nat_cmp, is_eq, map, refl, sym, ap, ◌∙◌}
use Rattle.std.proofs.lemmas.Map.Text.{is_eq-slice_cmp}
use Rattle.std.proofs.lemmas.Slice.Eq.{bytes_eq-Decides}
use Rattle.std.specs.Cmp.Lexicographic.{slice_cmp}
use Rattle.std.specs.List.{list_all}
use Rattle.std.specs.Ordering.{match_ordering}
use Rattle.serde_json.specs.Data.{Data, Members, no_members, member, put}
use Rattle.serde_json.specs.Find.{get_member}
use Rattle.serde_json.proofs.Views.{get_member-put, get_member-put_other}
use Rattle.def_desc.specs.Members.{names_in}
use Rattle.ct_json.specs.Rows.{put_all}

get_member-put_at : (k l : List ℕ) (d : Data) (ms : Members) (same : Bool) → bytes_eq l k ≡ same
    → get_member k (put l d ms) ≡ cond same (Some d) (get_member k ms)
get_member-put_at k l d ms true e = let is : l ≡ k = (bytes_eq-Decides l k).0 e in rw is (get_member-put k d ms)
get_member-put_at k l d ms false e =
    get_member-put_other k l d ms (λ is. true≢false (sym ((bytes_eq-Decides l k).1 (sym is)) ∙ e))

-- what a walk over the pairs finds, where d was found before
abbrev pub found_in : List ℕ → List (List ℕ × Data) → Option Data → Option Data
found_in k [] d = d
found_in k (p ∷ ps) d = found_in k ps (cond (bytes_eq p.0 k) (Some p.1) d)

pub get_member_put_all : (k : List ℕ) (ps : List (List ℕ × Data)) (ms : Members)
    → get_member k (put_all ps ms) ≡ found_in k ps (get_member k ms)
get_member_put_all k [] ms = refl
get_member_put_all k (p ∷ ps) ms =
    get_member_put_all k ps (put p.0 p.1 ms) ∙ ap (found_in k ps) (get_member-put_at k p.0 p.1 ms _ refl)

pub found_at : (k : List ℕ) {l : List ℕ} {e : Data} {ps rest : List (List ℕ × Data)} (same : Bool) (d : Option Data)
    → ps ≡ (l, e) ∷ rest → bytes_eq l k ≡ same
    → found_in k rest (cond same (Some e) d) ≡ found_in k ps d
found_at k same d first is = rw (first, is)

and_true : (a : Bool) → (a && true) ≡ a
and_true true = refl
and_true false = refl

twice : (a b : Bool) → (a && b) ≡ (a && (a && b))
twice true b = refl
twice false b = refl

between : (a b c : Bool) → (b && (a && c)) ≡ (a && (b && c))
between true true c = refl
between true false c = refl
between false true c = refl
between false false c = refl

joined : (a b c : Bool) → (b && (a && c)) ≡ ((a && b) && c)
joined true b c = refl
joined false true c = refl
joined false false c = refl

module _ (P : List ℕ → Bool) where
  names_at : (o : Ordering) (k l : List ℕ) (d e : Data) (ms : Members) → slice_cmp nat_cmp k l ≡ o
      → list_all P (names_in (put k d ms)) ≡ (P k && list_all P (names_in ms))
      → list_all P
      (names_in (match_ordering o (member k d (member l e ms)) (member l d ms) (member l e (put k d ms)))) ≡
      (P k && list_all P (names_in (member l e ms)))
  names_at Less k l d e ms is later = refl
  names_at Equal k l d e ms is later =
      let same : k ≡ l = (bytes_eq-Decides k l).0 (sym (is_eq-slice_cmp k l) ∙ ap is_eq is) in
      rw same (twice (P l) (list_all P (names_in ms)))
  names_at Greater k l d e ms is later = rw later (between (P k) (P l) (list_all P (names_in ms)))

  names_in-put : (k : List ℕ) (d : Data) (ms : Members)
      → list_all P (names_in (put k d ms)) ≡ (P k && list_all P (names_in ms))
  names_in-put k d no_members = refl
  names_in-put k d (member l e ms) = names_at _ k l d e ms refl (names_in-put k d ms)

  names_in-put_all : (ps : List (List ℕ × Data)) (ms : Members)
      → list_all P (names_in (put_all ps ms)) ≡ (list_all P (map (λ p. p.0) ps) && list_all P (names_in ms))
  names_in-put_all [] ms = refl
  names_in-put_all (p ∷ ps) ms =
      names_in-put_all ps (put p.0 p.1 ms) ∙ rw (names_in-put p.0 p.1 ms) (joined (P p.0) _ _)

  pub all_names : (ps : List (List ℕ × Data))
      → list_all P (names_in (put_all ps no_members)) ≡ list_all P (map (λ p. p.0) ps)
  all_names ps = names_in-put_all ps no_members ∙ and_true _
