-- The lines that deny a policy, rule by rule.
use Rattle.std.proofs.Common.{◌≡◌, ℕ, suc, ◌+◌, ◌<◌, ◌≤◌, ◌++◌, List, [], ◌∷◌, refl, ap, sym, ◌∙◌, subst, arith, append_assoc, length, drop, drop-cons}
use Rattle.std.proofs.Math.ListN.{get_or}
use Rattle.std.specs.List.{AllByRecursion}
use Rattle.std.proofs.lemmas.List.{append-nil, drop_all}
use Rattle.def_image.specs.Parts.{PartsRow}
use Rattle.def_policy.specs.Denials.{AllDenied, Denies}
use Rattle.def_policy.specs.Rulings.{Ruling}
use Rattle.ct_policy.specs.Kept.{Adds, KeepsUntrusted}

-- the text so far denies the rules before this place: with what denies the others it denies all
pub record Sofar (p : PartsRow) (rulings : List Ruling) (place : ℕ) (text : List ℕ) : Type 0 where
  pub goes : (rest : List ℕ) → AllDenied p (place + 1) (drop place rulings) rest → AllDenied p 1 rulings (text ++ rest)

pub begins : (p : PartsRow) (rulings : List Ruling) → Sofar p rulings 0 []
begins p rulings = record { goes = λ rest are. are }

pub next_rule : (p : PartsRow) (rulings : List Ruling) (place : ℕ) (x : Ruling) (old new : List ℕ) → place < length rulings → x ≡ get_or rulings place x
    → Adds (Denies p (place + 1) x x.subject) old new → Sofar p rulings place old → Sofar p rulings (suc place) new
next_rule p rulings place x old new inside is adds so = record {
  goes = λ rest are.
      let here : drop place rulings ≡ x ∷ drop (suc place) rulings = drop-cons rulings place x inside ∙ ap (λ y. y ∷ drop (suc place) rulings) (sym is) in
      let line : suc place + 1 ≡ place + 1 + 1 = omega arith in
      let both : AllDenied p (place + 1) (x ∷ drop (suc place) rulings) (adds.piece ++ rest) =
      record { first = adds.piece; rest = rest; is_first = adds.is; is_rest = subst (λ n. AllDenied p n (drop (suc place) rulings) rest) line are; text_is = refl } in
      subst (λ t. AllDenied p 1 rulings t) (sym (ap (λ t. t ++ rest) adds.new_is ∙ append_assoc old adds.piece rest))
      (so.goes (adds.piece ++ rest) (subst (λ rs. AllDenied p (place + 1) rs (adds.piece ++ rest)) (sym here) both));
}

pub all_denied : (p : PartsRow) (rulings : List Ruling) (place : ℕ) (text : List ℕ) → length rulings ≤ place → Sofar p rulings place text → AllDenied p 1 rulings text
all_denied p rulings place text past so =
    subst (λ t. AllDenied p 1 rulings t) (append-nil text)
    (so.goes [] (subst (λ rs. AllDenied p (place + 1) rs []) (sym (drop_all place rulings past)) refl))

pub kept_at : (rulings : List Ruling) (place : ℕ) (x : Ruling) → AllByRecursion KeepsUntrusted rulings → place < length rulings → x ≡ get_or rulings place x → KeepsUntrusted x
kept_at [] place x are inside is = absurd (omega (arith, inside))
kept_at (r ∷ rs) ℕ.zero x are inside is = subst KeepsUntrusted (sym is) are.0
kept_at (r ∷ rs) (suc k) x are inside is = kept_at rs k x are.1 (omega (arith, inside)) is
