-- The one point of a word and its sides.
use Rattle.std.proofs.Common.{◌≡◌, ℕ, suc, ◌+◌, ◌<◌, ◌==◌, ◌++◌, List, [], ◌∷◌, Bool, true, false, Some, None, inl, inr, refl, ap, sym, ◌∙◌, arith, length, take, drop, nat_lt}
use Rattle.std.proofs.Math.ListN.{get_or}
use Rattle.std.specs.List.{list_all, prefix_len}
use Rattle.std.proofs.lemmas.Bool.{both_ways}
use Rattle.law_lists.proofs.Tests.{bool_tells, both_left, both_right, eq_tells, lt_tells}
use Rattle.law_script.proofs.Runs.{same_run, no_end}
use Rattle.ct_script.proofs.Parts.{IsRun, run_is, run_whole}
use Rattle.def_desc.specs.References.{export_name}
use Rattle.def_policy.specs.Rules.{IsSide, is_no_point}
use Rattle.ct_policy.specs.Forms.{SidesRow, has_point, sides, sides_in}

abbrev side_of : List ℕ → ℕ
side_of text = prefix_len is_no_point text

abbrev is_point : ℕ → Bool
is_point c = c == 46

-- ---- no point, told in two ways

none_there : (text : List ℕ) → list_all is_no_point text ≡ true → has_point text ≡ false
none_there [] plain = refl
none_there (c ∷ cs) plain =
    elim (bool_tells (is_point c)) [
      | inl yes_here ↦ absurd (let bad : false ≡ true = rw yes_here at (both_left (is_no_point c) (list_all is_no_point cs) plain) in cc)
      | inr no_here ↦ rw (no_here, none_there cs (both_right (is_no_point c) (list_all is_no_point cs) plain)) refl
    ]

all_plain : (text : List ℕ) → has_point text ≡ false → list_all is_no_point text ≡ true
all_plain [] none = refl
all_plain (c ∷ cs) none =
    elim (bool_tells (is_point c)) [
      | inl yes_here ↦ absurd (let bad : true ≡ false = rw yes_here at none in cc)
      | inr no_here ↦ rw (no_here, all_plain cs (rw no_here at none)) refl
    ]

pub some_tells : {A : Type 0} (text : List A) → 0 < length text → nat_lt 0 (length text) ≡ true
some_tells text some = elim (lt_tells 0 (length text)) [ inl e ↦ e.0 | inr e ↦ absurd (omega (arith, some, e.1)) ]

-- ---- a word with one point

point_inside : (c e : List ℕ) → side_of (export_name c e) < length (export_name c e)
point_inside c e =
    elim (lt_tells (side_of (export_name c e)) (length (export_name c e))) [
      | inl lt ↦ lt.1
      | inr long ↦ absurd (both_ways (list_all is_no_point (export_name c e)) (no_end is_no_point c 46 e refl) (run_whole is_no_point (export_name c e) long.1))
    ]

pub sides_back : (c e : List ℕ) → IsSide c → IsSide e → sides_in (export_name c e) ≡ Some (record { compartment = c; export = e })
sides_back c e left right =
    let run : IsRun is_no_point (export_name c e) (side_of (export_name c e)) = run_is is_no_point (export_name c e) (point_inside c e) in
    let same = same_run is_no_point (take (side_of (export_name c e)) (export_name c e)) c (get_or (export_name c e) (side_of (export_name c e)) 0) 46 (drop (suc (side_of (export_name c e))) (export_name c e)) e
    run.passes left.plain run.fails refl (sym run.whole) in
    let inside : nat_lt (side_of (export_name c e)) (length (export_name c e)) ≡ true = elim (lt_tells (side_of (export_name c e)) (length (export_name c e))) [ inl lt ↦ lt.0 | inr long ↦ absurd (omega (arith, long.1, point_inside c e)) ] in
    let next : side_of (export_name c e) + 1 ≡ suc (side_of (export_name c e)) = omega arith in
    let second : drop (side_of (export_name c e) + 1) (export_name c e) ≡ e = ap (λ n. drop n (export_name c e)) next ∙ same.2 in
    if_inside inside ∙ ap (λ x. sides x (drop (side_of (export_name c e) + 1) (export_name c e))) same.0 ∙ ap (λ x. sides c x) second
    ∙ rw (some_tells c left.some, some_tells e right.some, none_there e right.plain) refl
  where
    if_inside : nat_lt (side_of (export_name c e)) (length (export_name c e)) ≡ true → sides_in (export_name c e) ≡ sides (take (side_of (export_name c e)) (export_name c e)) (drop (side_of (export_name c e) + 1) (export_name c e))
    if_inside inside = rw inside refl

-- ---- what was found

pub record IsDotted (text : List ℕ) (s : SidesRow) : Type 0 where
  pub left : IsSide s.compartment
  pub right : IsSide s.export
  pub is : export_name s.compartment s.export ≡ text

-- no side is empty and the second has no point
record AreSides (c e : List ℕ) (s : SidesRow) : Type 0 where
  left : 0 < length c
  right : 0 < length e
  plain : has_point e ≡ false
  is : s ≡ record { compartment = c; export = e }

sides_told : (c e : List ℕ) (s : SidesRow) → sides c e ≡ Some s → AreSides c e s
sides_told [] e s found = absurd (let bad : None ≡ Some s = found in cc)
sides_told (c ∷ cs) [] s found = absurd (let bad : None ≡ Some s = rw (some_tells (c ∷ cs) (omega arith)) at found in cc)
sides_told (c ∷ cs) (e ∷ es) s found =
    elim (bool_tells (has_point (e ∷ es))) [
      | inl yes_here ↦ absurd (let bad : None ≡ Some s = rw (some_tells (c ∷ cs) (omega arith), some_tells (e ∷ es) (omega arith), yes_here) at found in cc)
      | inr no_here ↦ record {
        left = omega arith;
        right = omega arith;
        plain = no_here;
        is = (let same : Some (record { compartment = c ∷ cs; export = e ∷ es }) ≡ Some s = rw (some_tells (c ∷ cs) (omega arith), some_tells (e ∷ es) (omega arith), no_here) at found in cc);
      }
    ]

point_is : (c : ℕ) → is_no_point c ≡ false → c ≡ 46
point_is c fails =
    elim (eq_tells c 46) [ inl same ↦ same.1 | inr other ↦ absurd (let bad : true ≡ false = rw other.0 at fails in cc) ]

pub sides_found : (text : List ℕ) (s : SidesRow) → sides_in text ≡ Some s → IsDotted text s
sides_found text s found =
    elim (lt_tells (side_of text) (length text)) [
      | inl lt ↦
          let run : IsRun is_no_point text (side_of text) = run_is is_no_point text lt.1 in
          let next : side_of text + 1 ≡ suc (side_of text) = omega arith in
          let told : AreSides (take (side_of text) text) (drop (side_of text + 1) text) s = sides_told (take (side_of text) text) (drop (side_of text + 1) text) s (rw lt.0 at found) in
          let first : s.compartment ≡ take (side_of text) text = ap (λ (x : SidesRow). x.compartment) told.is in
          let second : s.export ≡ drop (side_of text + 1) text = ap (λ (x : SidesRow). x.export) told.is in
          record {
            left = record { some = rw first told.left; plain = rw first run.passes };
            right = record { some = rw second told.right; plain = rw second (all_plain (drop (side_of text + 1) text) told.plain) };
            is =
                ap (λ x. export_name x s.export) first ∙ ap (λ x. export_name (take (side_of text) text) x) second
                ∙ ap (λ n. take (side_of text) text ++ 46 ∷ drop n text) next
                ∙ ap (λ c. take (side_of text) text ++ c ∷ drop (suc (side_of text)) text) (sym (point_is (get_or text (side_of text) 0) run.fails))
                ∙ sym run.whole;
          }
      | inr long ↦ absurd (let bad : None ≡ Some s = rw long.0 at found in cc)
    ]
