-- What is kept is what the text so far means, and a line at fault is the text's fault.
use Rattle.std.proofs.Common.{◌≡◌, ℕ, suc, ◌+◌, ◌<◌, ◌≤◌, ◌++◌, List, [], ◌∷◌, Some, None, inl, inr, refl, ap, sym, ◌∙◌, subst, arith, append_assoc, length, length-append, map}
use Rattle.std.specs.List.{All, AllByRecursion, flat_map}
use Rattle.std.proofs.lemmas.List.{append-nil, map-append, length-map}
use Rattle.std.proofs.lemmas.List.Elements.{All-push}
use Rattle.std.proofs.lemmas.List.Concat.{flat_map-cons}
use Rattle.std.proofs.lemmas.Grind.{flat_map-append}
use Rattle.def_image.specs.Parts.{PartsRow}
use Rattle.def_policy.specs.declared.PolicyFault.{PolicyFault}
use Rattle.def_policy.specs.declared.PolicyFault.TheVariants.{At, NoMemory}
use Rattle.def_policy.specs.Rules.{Rule, IsRule, spaced_words, IsWord, words_line, spelled_rule, words_of}
use Rattle.def_policy.specs.Rulings.{Ruling, meant}
use Rattle.def_policy.specs.Texts.{BeginsWithRule, IsPolicyCause, IsKnown, NamesUnknown, NoRuleLine, ReadsAsPolicy}
use Rattle.ct_policy.specs.Forms.{form_of}
use Rattle.ct_policy.specs.Words.{IsLine, NoWords}
use Rattle.ct_policy.specs.Going.{Going, IsRefusal, Takes}
use Rattle.ct_policy.specs.Kept.{AreKept}
use Rattle.ct_policy.proofs.Lines.{same_words}
use Rattle.ct_policy.proofs.Untrusted.{untrusted}
use Rattle.ct_policy.proofs.Told.{IsSaid, form_back, form_told}

-- ---- the line of a rule

-- what says a rule has a word
some_words : (words : List (List ℕ)) (r : Rule) → form_of words ≡ Some r → 0 < length words
some_words [] r found = absurd (let bad : None ≡ Some r = found in cc)
some_words (w ∷ ws) r found = omega arith

pub line_of_rule : (text : List ℕ) (r : Rule) (rest : List ℕ) → BeginsWithRule text r rest → IsLine text (words_of r) rest
line_of_rule text r rest b = record { some = some_words (words_of r) r (form_back r b.rule.formed); are = b.rule.words; text_is = b.text_is }

pub no_words_there : (text : List ℕ) → 0 < length text → NoWords text → NoRuleLine text
no_words_there text some none = record { some = some; none = λ r rest b. none (words_of r) rest (line_of_rule text r rest b) }

pub no_form : (text : List ℕ) (words : List (List ℕ)) (rest : List ℕ) → 0 < length text → IsLine text words rest → form_of words ≡ None → NoRuleLine text
no_form text words rest some line none = record {
  some = some;
  none = λ r gone b.
      let same = same_words text (words_of r) words gone rest (line_of_rule text r gone b) line in
      let bad : Some r ≡ None = sym (form_back r b.rule.formed) ∙ ap form_of same.0 ∙ none in
      absurd (cc);
}

pub rule_begins : (text : List ℕ) (words : List (List ℕ)) (rest : List ℕ) (r : Rule) → IsLine text words rest → form_of words ≡ Some r → BeginsWithRule text r rest
rule_begins text words rest r line found =
    let told : IsSaid words r = form_told words r found in
    record {
      rule = record { words = subst (λ ws. AllByRecursion IsWord ws) (sym told.words_are) line.are; formed = told.formed };
      text_is = line.text_is ∙ ap (λ ws. words_line ws ++ rest) (sym told.words_are);
    }

pub nameless : (p : PartsRow) (text : List ℕ) (r : Rule) (rest : List ℕ) → BeginsWithRule text r rest → meant p r ≡ None → NamesUnknown p text
nameless p text r rest begins none = record { next = r; rest = rest; begins = begins; unknown = none }

-- ---- one more line

ended_some : (ws : List (List ℕ)) → 0 < length (spaced_words ws)
ended_some [] = omega arith
ended_some (w ∷ ws) = omega arith

line_some : (ws : List (List ℕ)) → 0 < length (words_line ws)
line_some [] = omega arith
line_some (w ∷ ws) = omega (arith, length-append w (spaced_words ws), ended_some ws)

pub ended_long : (ws : List (List ℕ)) (rest : List ℕ) → length rest < length (words_line ws ++ rest)
ended_long ws rest = omega (arith, length-append (words_line ws) rest, line_some ws)

pub goes_on : (p : PartsRow) (text left rest : List ℕ) (old new : List Ruling) → Going p text old left → Takes p old new left rest → Going p text new rest
goes_on p text left rest old new g t = record {
  rules = g.rules ++ t.rule ∷ [];
  lines = All-push IsRule g.rules t.rule g.lines t.begins.rule;
  text_is =
      g.text_is
      ∙ ap (λ x. flat_map spelled_rule g.rules ++ x) t.begins.text_is
      ∙ sym (append_assoc (flat_map spelled_rule g.rules) (spelled_rule t.rule) rest)
      ∙ ap (λ x. (flat_map spelled_rule g.rules ++ x) ++ rest) (sym (flat_map-cons spelled_rule t.rule [] ∙ append-nil (spelled_rule t.rule)))
      ∙ ap (λ x. x ++ rest) (sym (flat_map-append spelled_rule g.rules (t.rule ∷ [])));
  meant_are =
      map-append (meant p) g.rules (t.rule ∷ [])
      ∙ ap (λ x. x ++ meant p t.rule ∷ []) g.meant_are
      ∙ ap (λ x. map (λ r. Some r) old ++ x ∷ []) t.means
      ∙ sym (map-append (λ r. Some r) old (t.ruling ∷ []))
      ∙ ap (λ x. map (λ r. Some r) x) (sym t.kept);
  short = omega (arith, g.short, ap length t.kept, length-append old (t.ruling ∷ []), ended_long (words_of t.rule) rest, ap length t.begins.text_is);
}

pub starts : (p : PartsRow) (text : List ℕ) → Going p text [] text
starts p text = record { rules = []; lines = λ k d inside. absurd (omega (arith, inside)); text_is = refl; meant_are = refl; short = omega arith }

-- ---- the end

pub known_by : (p : PartsRow) (rules : List Rule) (rulings : List Ruling) → map (meant p) rules ≡ map (λ r. Some r) rulings → All (IsKnown p) rules
known_by p [] rulings are k d inside = absurd (omega (arith, inside))
known_by p (r ∷ rs) [] are k d inside = absurd (omega (arith, ap length are))
known_by p (r ∷ rs) (x ∷ xs) are ℕ.zero d inside = let here : meant p r ≡ Some x = cc in rw here refl
known_by p (r ∷ rs) (x ∷ xs) are (suc k) d inside = let later : map (meant p) rs ≡ map (λ r. Some r) xs = cc in known_by p rs xs later k d (omega (arith, inside))

same_length : (p : PartsRow) (rules : List Rule) (rulings : List Ruling) → map (meant p) rules ≡ map (λ r. Some r) rulings → length rules ≡ length rulings
same_length p rules rulings are = sym (length-map rules (meant p)) ∙ ap length are ∙ length-map rulings (λ r. Some r)

pub fault_is : (p : PartsRow) (text left : List ℕ) (rulings : List Ruling) (fault : PolicyFault) → Going p text rulings left → IsRefusal p (length rulings) left fault → IsPolicyCause p text fault
fault_is p text left rulings NoMemory g r = tt
fault_is p text left rulings (At number line) g r = record {
  rules = g.rules;
  left = left;
  lines = g.lines;
  known = known_by p g.rules rulings g.meant_are;
  text_is = g.text_is;
  line_is = omega (arith, r.0, same_length p g.rules rulings g.meant_are);
  breaks = r.1;
}

pub reads : (p : PartsRow) (text left : List ℕ) (rulings : List Ruling) → Going p text rulings left → length left ≤ 0 → ReadsAsPolicy p text rulings
reads p text [] rulings g none = record { rules = g.rules; lines = g.lines; text_is = g.text_is ∙ append-nil (flat_map spelled_rule g.rules); meant_are = g.meant_are }
reads p text (c ∷ cs) rulings g none = absurd (omega (arith, none))

-- ---- what a line comes to

pub refuse_form : (p : PartsRow) (lines : ℕ) (left : List ℕ) (words : List (List ℕ)) (rest : List ℕ) (fault : PolicyFault)
    → 0 < length left → IsLine left words rest → form_of words ≡ None → fault ≡ At 1 (lines + 1) → IsRefusal p lines left fault
refuse_form p lines left words rest fault some line none is =
    subst (λ f. IsRefusal p lines left f) (sym is) (refl, inl (refl, no_form left words rest some line none))

pub refuse_name : (p : PartsRow) (lines : ℕ) (left : List ℕ) (words : List (List ℕ)) (rest : List ℕ) (r : Rule) (fault : PolicyFault)
    → IsLine left words rest → form_of words ≡ Some r → meant p r ≡ None → fault ≡ At 2 (lines + 1) → IsRefusal p lines left fault
refuse_name p lines left words rest r fault line found none is =
    subst (λ f. IsRefusal p lines left f) (sym is) (refl, inr (refl, nameless p left r rest (rule_begins left words rest r line found) none))

pub takes : (p : PartsRow) (old new : List Ruling) (left : List ℕ) (words : List (List ℕ)) (rest : List ℕ) (r : Rule) (x : Ruling)
    → IsLine left words rest → form_of words ≡ Some r → meant p r ≡ Some x → new ≡ old ++ x ∷ [] → Takes p old new left rest
takes p old new left words rest r x line found means kept =
    record { rule = r; begins = rule_begins left words rest r line found; ruling = x; means = means; kept = kept }

pub reads_kept : (p : PartsRow) (text left : List ℕ) (rulings : List Ruling) → length text < 4294967296 → Going p text rulings left → length left ≤ 0 → ReadsAsPolicy p text rulings × AreKept rulings
reads_kept p text left rulings small g none =
    let is : ReadsAsPolicy p text rulings = reads p text left rulings g none in
    (is, record { few = omega (arith, small, g.short); untrusted = untrusted p text rulings is })
