-- The words of a line, one after another.
use Rattle.std.proofs.Common.{◌≡◌, ℕ, ◌≤◌, ◌++◌, List, [], ◌∷◌, Bool, true, false, refl, ap, sym, ◌∙◌, subst, arith, append_assoc, length, length-append}
use Rattle.std.specs.List.{AllByRecursion}
use Rattle.law_script.proofs.Runs.{same_run}
use Rattle.def_policy.specs.Rules.{IsWord, spaced_words, is_word_byte, words_line}
use Rattle.ct_policy.specs.Words.{IsFirst, IsLine, NoFirst, NoWords, end_byte}
use Rattle.ct_policy.proofs.Firsts.{end_fails}

-- words with a space after each
abbrev pub spaced : List (List ℕ) → List ℕ
spaced [] = []
spaced (w ∷ ws) = w ++ 32 ∷ spaced ws

-- the text begins with these words, each with a space after it, and this is left of the line
pub record Within (text : List ℕ) (words : List (List ℕ)) (left : List ℕ) : Type 0 where
  pub are : AllByRecursion IsWord words
  pub text_is : text ≡ spaced words ++ left

pub begins : (text : List ℕ) → Within text [] text
begins text = record { are = tt; text_is = refl }

pub all_push : (ws : List (List ℕ)) (w : List ℕ) → AllByRecursion IsWord ws → IsWord w → AllByRecursion IsWord (ws ++ w ∷ [])
all_push [] w are is = (is, tt)
all_push (x ∷ xs) w are is = (are.0, all_push xs w are.1 is)

spaced_push : (ws : List (List ℕ)) (w rest : List ℕ) → spaced ws ++ (w ++ 32 ∷ rest) ≡ spaced (ws ++ w ∷ []) ++ rest
spaced_push [] w rest = sym (append_assoc w (32 ∷ []) rest)
spaced_push (x ∷ xs) w rest =
    append_assoc x (32 ∷ spaced xs) (w ++ 32 ∷ rest)
    ∙ ap (λ t. x ++ 32 ∷ t) (spaced_push xs w rest)
    ∙ sym (append_assoc x (32 ∷ spaced (xs ++ w ∷ [])) rest)

pub goes_on : (text left word rest : List ℕ) (words : List (List ℕ)) → Within text words left → IsFirst left word false rest → Within text (words ++ word ∷ []) rest
goes_on text left word rest words w first = record {
  are = all_push words word w.are first.is;
  text_is = w.text_is ∙ ap (λ t. spaced words ++ t) first.text_is ∙ spaced_push words word rest;
}

-- a first word, then the others
ended_push : (ws : List (List ℕ)) (w rest : List ℕ) → spaced_words (ws ++ w ∷ []) ++ rest ≡ 32 ∷ (spaced ws ++ (w ++ 10 ∷ rest))
ended_push [] w rest = ap (λ t. 32 ∷ t) (append_assoc w (10 ∷ []) rest)
ended_push (x ∷ xs) w rest =
    ap (λ t. 32 ∷ t)
    (append_assoc x (spaced_words (xs ++ w ∷ [])) rest
    ∙ ap (λ t. x ++ t) (ended_push xs w rest)
    ∙ sym (append_assoc x (32 ∷ spaced xs) (w ++ 10 ∷ rest)))

line_push : (ws : List (List ℕ)) (w rest : List ℕ) → words_line (ws ++ w ∷ []) ++ rest ≡ spaced ws ++ (w ++ 10 ∷ rest)
line_push [] w rest = append_assoc w (10 ∷ []) rest
line_push (x ∷ xs) w rest =
    append_assoc x (spaced_words (xs ++ w ∷ [])) rest
    ∙ ap (λ t. x ++ t) (ended_push xs w rest)
    ∙ sym (append_assoc x (32 ∷ spaced xs) (w ++ 10 ∷ rest))

pub line_is : (text left word rest : List ℕ) (words : List (List ℕ)) → Within text words left → IsFirst left word true rest → IsLine text (words ++ word ∷ []) rest
line_is text left word rest words w first = record {
  some = omega (arith, length-append words (word ∷ []));
  are = all_push words word w.are first.is;
  text_is = w.text_is ∙ ap (λ t. spaced words ++ t) first.text_is ∙ sym (line_push words word rest);
}

-- ---- what a line of words begins with

-- what follows the first word of a line
abbrev after_first : List (List ℕ) → List ℕ → List ℕ
after_first [] rest = rest
after_first (w ∷ ws) rest = words_line (w ∷ ws) ++ rest

abbrev is_last : List (List ℕ) → Bool
is_last [] = true
is_last (w ∷ ws) = false

cut : (w : List ℕ) (ws : List (List ℕ)) (rest : List ℕ) → words_line (w ∷ ws) ++ rest ≡ w ++ end_byte (is_last ws) ∷ after_first ws rest
cut w [] rest = append_assoc w (10 ∷ []) rest
cut w (v ∷ vs) rest = append_assoc w (spaced_words (v ∷ vs)) rest

pub first_of : (text w : List ℕ) (ws : List (List ℕ)) (rest : List ℕ) → IsLine text (w ∷ ws) rest → IsFirst text w (is_last ws) (after_first ws rest)
first_of text w ws rest line = record { is = line.are.0; text_is = line.text_is ∙ cut w ws rest }

-- the words that were read are the first of any line there, and the others are left
pub record Ahead (words all : List (List ℕ)) (left rest : List ℕ) : Type 0 where
  pub more : List (List ℕ)
  pub all_is : all ≡ words ++ more
  pub line : IsLine left more rest

first_same : (v : List ℕ) (vs : List (List ℕ)) (text left x : List ℕ) (xs : List (List ℕ)) (rest : List ℕ) → Within text (v ∷ vs) left → IsLine text (x ∷ xs) rest
    → (v ≡ x) × (32 ≡ end_byte (is_last xs)) × (spaced vs ++ left ≡ after_first xs rest)
first_same v vs text left x xs rest w line =
    same_run is_word_byte v x 32 (end_byte (is_last xs)) (spaced vs ++ left) (after_first xs rest) w.are.0.inner line.are.0.inner refl (end_fails (is_last xs))
    (sym (append_assoc v (32 ∷ spaced vs) left) ∙ sym w.text_is ∙ line.text_is ∙ cut x xs rest)

pub ahead : (words : List (List ℕ)) (text left : List ℕ) (all : List (List ℕ)) (rest : List ℕ) → Within text words left → IsLine text all rest → Ahead words all left rest
ahead [] text left all rest w line =
    record { more = all; all_is = refl; line = subst (λ t. IsLine t all rest) w.text_is line }
ahead (v ∷ vs) text left [] rest w line = absurd (omega (arith, line.some))
ahead (v ∷ vs) text left (x ∷ []) rest w line =
    absurd (omega (arith, (first_same v vs text left x [] rest w line).1))
ahead (v ∷ vs) text left (x ∷ y ∷ ys) rest w line =
    let same = first_same v vs text left x (y ∷ ys) rest w line in
    let later : Ahead vs (y ∷ ys) left rest =
    ahead vs (spaced vs ++ left) left (y ∷ ys) rest (record { are = w.are.1; text_is = refl })
    (record { some = omega arith; are = line.are.1; text_is = same.2 }) in
    record {
      more = later.more;
      all_is = ap (λ z. z ∷ y ∷ ys) (sym same.0) ∙ ap (λ zs. v ∷ zs) later.all_is;
      line = later.line;
    }

-- ---- no line

pub no_word : (text left : List ℕ) (words : List (List ℕ)) → Within text words left → NoFirst left → NoWords text
no_word text left words w none all rest line = fails (ahead words text left all rest w line)
  where
    fails : Ahead words all left rest → ⊥
    fails a = at a.more a.line
      where
        at : (more : List (List ℕ)) → IsLine left more rest → ⊥
        at [] l = omega (arith, l.some)
        at (m ∷ ms) l = none m (is_last ms) (after_first ms rest) (first_of left m ms rest l)

pub no_end_left : (text left : List ℕ) (words : List (List ℕ)) → Within text words left → length left ≤ 0 → NoWords text
no_end_left text left words w none = no_word text left words w (λ word last rest first.
    omega (arith, none, ap length first.text_is, length-append word (end_byte last ∷ rest)))

-- ---- one line at most

both_same : (text w v : List ℕ) (ws vs : List (List ℕ)) (rest gone : List ℕ) → IsLine text (w ∷ ws) rest → IsLine text (v ∷ vs) gone
    → (w ≡ v) × (end_byte (is_last ws) ≡ end_byte (is_last vs)) × (after_first ws rest ≡ after_first vs gone)
both_same text w v ws vs rest gone a b =
    same_run is_word_byte w v (end_byte (is_last ws)) (end_byte (is_last vs)) (after_first ws rest) (after_first vs gone) a.are.0.inner b.are.0.inner (end_fails (is_last ws)) (end_fails (is_last vs))
    (sym (cut w ws rest) ∙ sym a.text_is ∙ b.text_is ∙ cut v vs gone)

pub same_words : (text : List ℕ) (ws vs : List (List ℕ)) (rest gone : List ℕ) → IsLine text ws rest → IsLine text vs gone → (ws ≡ vs) × (rest ≡ gone)
same_words text [] vs rest gone a b = absurd (omega (arith, a.some))
same_words text (w ∷ ws) [] rest gone a b = absurd (omega (arith, b.some))
same_words text (w ∷ []) (v ∷ []) rest gone a b =
    let same = both_same text w v [] [] rest gone a b in (ap (λ x. x ∷ []) same.0, same.2)
same_words text (w ∷ []) (v ∷ y ∷ ys) rest gone a b = absurd (omega (arith, (both_same text w v [] (y ∷ ys) rest gone a b).1))
same_words text (w ∷ x ∷ xs) (v ∷ []) rest gone a b = absurd (omega (arith, (both_same text w v (x ∷ xs) [] rest gone a b).1))
same_words text (w ∷ x ∷ xs) (v ∷ y ∷ ys) rest gone a b =
    let same = both_same text w v (x ∷ xs) (y ∷ ys) rest gone a b in
    let later = same_words (after_first (x ∷ xs) rest) (x ∷ xs) (y ∷ ys) rest gone
    (record { some = omega arith; are = a.are.1; text_is = refl })
    (record { some = omega arith; are = b.are.1; text_is = same.2 }) in
    (ap (λ z. z ∷ x ∷ xs) same.0 ∙ ap (λ zs. v ∷ zs) later.0, later.1)
