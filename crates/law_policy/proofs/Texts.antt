-- A policy's text has one reading or one fault, and never both.
use Rattle.std.proofs.Common.{◌≡◌, ℕ, suc, ◌<◌, ◌++◌, List, [], ◌∷◌, true, false, Some, None, inl, inr, refl, ap, sym, ◌∙◌, subst, arith, append_assoc, length, map}
use Rattle.std.specs.List.{All, flat_map}
use Rattle.std.proofs.lemmas.List.{append-nil}
use Rattle.std.proofs.lemmas.List.Concat.{flat_map-cons}
use Rattle.def_image.specs.Parts.{PartsRow}
use Rattle.def_policy.specs.Rules.{Rule, IsRule, spelled_rule, words_of}
use Rattle.def_policy.specs.Rulings.{Ruling, meant}
use Rattle.def_policy.specs.Texts.{BeginsWithRule, BreaksPolicy, IsPolicyFault, IsKnown, ReadsAsPolicy}
use Rattle.ct_policy.specs.Forms.{form_of}
use Rattle.ct_policy.proofs.Accounts.{ended_long, known_by, line_of_rule}
use Rattle.ct_policy.proofs.Lines.{same_words}
use Rattle.ct_policy.proofs.Told.{form_back}

-- ---- the rule at the front of a text

record IsOnce (r s : Rule) (rest gone : List ℕ) : Type 0 where
  rule : r ≡ s
  rest_is : rest ≡ gone

begins_once : (text : List ℕ) (r s : Rule) (rest gone : List ℕ) → BeginsWithRule text r rest → BeginsWithRule text s gone → IsOnce r s rest gone
begins_once text r s rest gone a b =
    let same = same_words text (words_of r) (words_of s) rest gone (line_of_rule text r rest a) (line_of_rule text s gone b) in
    let found : Some r ≡ Some s = sym (form_back r a.rule.formed) ∙ ap form_of same.0 ∙ form_back s b.rule.formed in
    record { rule = cc; rest_is = same.1 }

-- a text with a rule at its front isn't empty
begins_some : (text : List ℕ) (r : Rule) (rest : List ℕ) → BeginsWithRule text r rest → 0 < length text
begins_some text r rest b = omega (arith, ap length b.text_is, ended_long (words_of r) rest)

-- ---- the rules of a text and what is left of it

abbrev Fronts : List ℕ → List Rule → List ℕ → Type 0
Fronts text rules left = text ≡ flat_map spelled_rule rules ++ left

head_of : (P : Rule → Type 0) (r : Rule) (rs : List Rule) → All P (r ∷ rs) → P r
head_of P r rs are = are 0 r (omega arith)

tail_of : (P : Rule → Type 0) (r : Rule) (rs : List Rule) → All P (r ∷ rs) → All P rs
tail_of P r rs are k d inside = are (suc k) d (omega (arith, inside))

first_begins : (text : List ℕ) (r : Rule) (rs : List Rule) (left : List ℕ) → All IsRule (r ∷ rs) → Fronts text (r ∷ rs) left → BeginsWithRule text r (flat_map spelled_rule rs ++ left)
first_begins text r rs left are is = record {
  rule = head_of IsRule r rs are;
  text_is = is ∙ ap (λ t. t ++ left) (flat_map-cons spelled_rule r rs) ∙ append_assoc (spelled_rule r) (flat_map spelled_rule rs) left;
}

whole : (text : List ℕ) (rules : List Rule) → text ≡ flat_map spelled_rule rules → Fronts text rules []
whole text rules is = is ∙ sym (append-nil (flat_map spelled_rule rules))

-- ---- one reading

same_rules : (rs ss : List Rule) (text : List ℕ) → All IsRule rs → All IsRule ss → Fronts text rs [] → Fronts text ss [] → rs ≡ ss
same_rules [] [] text a b p q = refl
same_rules [] (s ∷ ss) text a b p q = absurd (omega (arith, ap length p, begins_some text s _ (first_begins text s ss [] b q)))
same_rules (r ∷ rs) [] text a b p q = absurd (omega (arith, ap length q, begins_some text r _ (first_begins text r rs [] a p)))
same_rules (r ∷ rs) (s ∷ ss) text a b p q =
    let one = begins_once text r s _ _ (first_begins text r rs [] a p) (first_begins text s ss [] b q) in
    let later : rs ≡ ss = same_rules rs ss (flat_map spelled_rule rs ++ []) (tail_of IsRule r rs a) (tail_of IsRule s ss b) refl one.rest_is in
    ap (λ x. x ∷ rs) one.rule ∙ ap (λ xs. s ∷ xs) later

same_some : (a b : List Ruling) → map (λ r. Some r) a ≡ map (λ r. Some r) b → a ≡ b
same_some [] [] is = refl
same_some [] (y ∷ ys) is = absurd (omega (arith, ap length is))
same_some (x ∷ xs) [] is = absurd (omega (arith, ap length is))
same_some (x ∷ xs) (y ∷ ys) is =
    let here : x ≡ y = cc in
    let there : map (λ r. Some r) xs ≡ map (λ r. Some r) ys = cc in
    ap (λ z. z ∷ xs) here ∙ ap (λ zs. y ∷ zs) (same_some xs ys there)

pub one_reading : (p : PartsRow) (text : List ℕ) (a b : List Ruling) → ReadsAsPolicy p text a → ReadsAsPolicy p text b → a ≡ b
one_reading p text a b x y =
    let rules : x.rules ≡ y.rules = same_rules x.rules y.rules text x.lines y.lines (whole text x.rules x.text_is) (whole text y.rules y.text_is) in
    same_some a b (sym x.meant_are ∙ ap (map (meant p)) rules ∙ y.meant_are)

-- ---- what is at fault

broken_some : (p : PartsRow) (text : List ℕ) (number : ℕ) → BreaksPolicy p text number → 0 < length text
broken_some p text number (inl none) = none.1.some
broken_some p text number (inr unknown) = begins_some text unknown.1.next unknown.1.rest unknown.1.begins

-- no rule that is known stands there
none_known : (p : PartsRow) (text : List ℕ) (number : ℕ) (r : Rule) (rest : List ℕ) → BreaksPolicy p text number → BeginsWithRule text r rest → IsKnown p r → ⊥
none_known p text number r rest (inl none) begins known = none.1.none r rest begins
none_known p text number r rest (inr unknown) begins known =
    let one = begins_once text unknown.1.next r unknown.1.rest rest unknown.1.begins begins in
    let nothing : meant p r ≡ None = sym (ap (meant p) one.rule) ∙ unknown.1.unknown in
    absurd (let bad : false ≡ true = rw nothing at known in cc)

same_number : (p : PartsRow) (text : List ℕ) (n m : ℕ) → BreaksPolicy p text n → BreaksPolicy p text m → n ≡ m
same_number p text n m (inl a) (inl b) = a.0 ∙ sym b.0
same_number p text n m (inl a) (inr b) = absurd (a.1.none b.1.next b.1.rest b.1.begins)
same_number p text n m (inr a) (inl b) = absurd (b.1.none a.1.next a.1.rest a.1.begins)
same_number p text n m (inr a) (inr b) = a.0 ∙ sym b.0

module _ (p : PartsRow) where
  -- a text whose line is at fault isn't all rules that are known
  broken_there : (rs ss : List Rule) (text left : List ℕ) (number : ℕ) → All IsRule rs → All IsRule ss → All (IsKnown p) ss
      → Fronts text rs left → BreaksPolicy p left number → Fronts text ss [] → ⊥
  broken_there [] [] text left number a b known is breaks all = omega (arith, ap length is, ap length all, broken_some p left number breaks)
  broken_there [] (s ∷ ss) text left number a b known is breaks all =
      none_known p left number s _ breaks (subst (λ t. BeginsWithRule t s (flat_map spelled_rule ss ++ [])) is (first_begins text s ss [] b all)) (head_of (IsKnown p) s ss known)
  broken_there (r ∷ rs) [] text left number a b known is breaks all = omega (arith, ap length all, begins_some text r _ (first_begins text r rs left a is))
  broken_there (r ∷ rs) (s ∷ ss) text left number a b known is breaks all =
      let one = begins_once text r s _ _ (first_begins text r rs left a is) (first_begins text s ss [] b all) in
      broken_there rs ss (flat_map spelled_rule rs ++ left) left number (tail_of IsRule r rs a) (tail_of IsRule s ss b) (tail_of (IsKnown p) s ss known) refl breaks one.rest_is

  same_place : (rs ss : List Rule) (text left gone : List ℕ) (n m : ℕ) → All IsRule rs → All IsRule ss → All (IsKnown p) rs → All (IsKnown p) ss
      → Fronts text rs left → Fronts text ss gone → BreaksPolicy p left n → BreaksPolicy p gone m → (n ≡ m) × (length rs ≡ length ss)
  same_place [] [] text left gone n m a b known other is second x y =
      (same_number p left n m x (subst (λ t. BreaksPolicy p t m) (sym second ∙ is) y), refl)
  same_place [] (s ∷ ss) text left gone n m a b known other is second x y =
      absurd (none_known p left n s _ x (subst (λ t. BeginsWithRule t s (flat_map spelled_rule ss ++ gone)) is (first_begins text s ss gone b second)) (head_of (IsKnown p) s ss other))
  same_place (r ∷ rs) [] text left gone n m a b known other is second x y =
      absurd (none_known p gone m r _ y (subst (λ t. BeginsWithRule t r (flat_map spelled_rule rs ++ left)) second (first_begins text r rs left a is)) (head_of (IsKnown p) r rs known))
  same_place (r ∷ rs) (s ∷ ss) text left gone n m a b known other is second x y =
      let one = begins_once text r s _ _ (first_begins text r rs left a is) (first_begins text s ss gone b second) in
      let later = same_place rs ss (flat_map spelled_rule rs ++ left) left gone n m (tail_of IsRule r rs a) (tail_of IsRule s ss b) (tail_of (IsKnown p) r rs known) (tail_of (IsKnown p) s ss other) refl one.rest_is x y in
      (later.0, ap suc later.1)

  pub not_both : (text : List ℕ) (number line : ℕ) (rulings : List Ruling) → IsPolicyFault p text number line → ReadsAsPolicy p text rulings → ⊥
  not_both text number line rulings f r =
      broken_there f.rules r.rules text f.left number f.lines r.lines (known_by p r.rules rulings r.meant_are) f.text_is f.breaks (whole text r.rules r.text_is)

  pub one_fault : (text : List ℕ) (n m line other : ℕ) → IsPolicyFault p text n line → IsPolicyFault p text m other → (n ≡ m) × (line ≡ other)
  one_fault text n m line other a b =
      let one = same_place a.rules b.rules text a.left b.left n m a.lines b.lines a.known b.known a.text_is b.text_is a.breaks b.breaks in
      (one.0, omega (arith, a.line_is, b.line_is, one.1))
