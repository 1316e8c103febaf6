-- The walk over statements keeps the sums of their lengths.
use Rattle.std.proofs.Common.{◌≡◌, ℕ, zero, suc, ◌+◌, ◌<◌, ◌≤◌, Bool, true, false, cond, List, [], ◌∷◌, length, take, Option, Some, None, slice_get, refl, sym, ap, ◌∙◌, subst, arith, add-zero}
use Rattle.std.proofs.lemmas.List.{length-append, length-replicate}
use Rattle.def_instr.specs.declared.Instr.TheVariants as instr
use Rattle.def_source.specs.declared.parts.Part.{Part}
use Rattle.def_source.specs.declared.parts.Part.TheVariants as part
use Rattle.def_source.specs.declared.parts.Section.{Section}
use Rattle.def_source.specs.declared.parts.Section.TheVariants as section
use Rattle.def_source.specs.declared.parts.Statement.{Statement}
use Rattle.def_source.specs.Source.{Name, Statements, section_after}
use Rattle.def_object.specs.declared.Place.{Place}
use Rattle.def_object.specs.Object.{Labels, size_at, offset, place_after, start, label_in, number_word, is_short, upper_part, rest_part, padding, same_section, instruction_bytes, bytes_at, section_bytes, bytes_from, text_of, initial_of}
use Rattle.def_assembly.specs.Sums.{section_past, section_at, total_before, AreSizes}

-- ---- one statement

-- a place, field by field
unfoldable pub at_place : Section → ℕ → ℕ → Place
at_place s t i = record { section = s; text = t; initial = i }

pub after_section : (s : Section) (t i : ℕ) (q : Part Name) → (place_after (at_place s t i) q).section ≡ section_after s (Some q)
unfolding at_place
after_section section.Text t i part.Text = refl
after_section section.Text t i part.Data = refl
after_section section.Text t i q = refl
after_section section.Data t i part.Text = refl
after_section section.Data t i part.Data = refl
after_section section.Data t i q = refl

-- how much of a section stands before a place
unfoldable pub filled : Section → Place → ℕ
filled section.Text p = p.text
filled section.Data p = p.initial

-- how much longer a statement makes a section
filled_on : (w s : Section) (t i : ℕ) (q : Part Name) → filled w (place_after (at_place s t i) q) ≡ filled w (at_place s t i) + cond (same_section s w) (size_at q (offset (at_place s t i))) 0
unfolding filled at_place
filled_on section.Text section.Text t i part.Text = sym (add-zero t)
filled_on section.Text section.Text t i part.Data = sym (add-zero t)
filled_on section.Text section.Text t i q = refl
filled_on section.Text section.Data t i part.Text = sym (add-zero t)
filled_on section.Text section.Data t i part.Data = sym (add-zero t)
filled_on section.Text section.Data t i q = sym (add-zero t)
filled_on section.Data section.Text t i part.Text = sym (add-zero i)
filled_on section.Data section.Text t i part.Data = sym (add-zero i)
filled_on section.Data section.Text t i q = sym (add-zero i)
filled_on section.Data section.Data t i part.Text = sym (add-zero i)
filled_on section.Data section.Data t i part.Data = sym (add-zero i)
filled_on section.Data section.Data t i q = refl

offset_filled : (s : Section) (t i : ℕ) → offset (at_place s t i) ≡ filled s (at_place s t i)
unfolding filled at_place
offset_filled section.Text t i = refl
offset_filled section.Data t i = refl

pub statement_length : (labels : Labels) (slots : List Name) (at : ℕ) (q : Part Name) → length (bytes_at labels slots at q) ≡ size_at q at
statement_length labels slots at (part.Zero number) = length-replicate number.magnitude 0
statement_length labels slots at (part.Align number) = length-replicate (padding number.magnitude at) 0
statement_length labels slots at (part.LoadImmediate rd number) = by (is_short (number_word number))
  where
    by : (b : Bool) → length (instruction_bytes (cond b (instr.Addi rd 0 (number_word number) ∷ []) (instr.Lui rd (upper_part (number_word number)) ∷ instr.Addi rd rd (rest_part (number_word number)) ∷ []))) ≡ cond b 4 8
    by true = refl
    by false = refl
statement_length labels slots at q = refl

section_length : (w : Section) (labels : Labels) (slots : List Name) (p : Place) (q : Part Name) → length (section_bytes w labels slots p q) ≡ cond (same_section p.section w) (size_at q (offset p)) 0
section_length w labels slots p q = by (same_section p.section w)
  where
    by : (b : Bool) → length (cond b (bytes_at labels slots (offset p) q) []) ≡ cond b (size_at q (offset p)) 0
    by true = statement_length labels slots (offset p) q
    by false = refl

-- ---- statement after statement

-- the section after the first k + 1 statements
past_next : (s : Section) (all : Statements) (k : ℕ) (x : Statement Name) → slice_get all k ≡ Some x → section_past s (take (suc k) all) ≡ section_after (section_past s (take k all)) (Some x.part)
past_next s [] k x e = cc
past_next s (y ∷ ys) zero x e = let same : y ≡ x = cc in ap (λ (z : Statement Name). section_after s (Some z.part)) same
past_next s (y ∷ ys) (suc k) x e = past_next (section_after s (Some y.part)) ys k x e

-- a place before statement k: in its section, and so far into each as the lengths before say
pub record Before (all : Statements) (sizes : ℕ → ℕ) (k : ℕ) (p : Place) : Type 0 where
  pub stands : p.section ≡ section_at all k
  pub fills : (w : Section) → filled w p ≡ total_before (section_at all) sizes w k

pub before_first : (all : Statements) (sizes : ℕ → ℕ) → Before all sizes 0 start
unfolding filled
before_first all sizes = record { stands = refl; fills = none }
  where
    none : (w : Section) → filled w start ≡ total_before (section_at all) sizes w 0
    none section.Text = refl
    none section.Data = refl

pub offset_is : (all : Statements) (sizes : ℕ → ℕ) (k : ℕ) (p : Place) → Before all sizes k p → offset p ≡ total_before (section_at all) sizes (section_at all k) k
unfolding at_place
offset_is all sizes k p h = offset_filled p.section p.text p.initial ∙ h.fills p.section ∙ ap (λ s. total_before (section_at all) sizes s k) h.stands

pub before_next : (all : Statements) (sizes : ℕ → ℕ) (k : ℕ) (p : Place) (x : Statement Name) → Before all sizes k p → slice_get all k ≡ Some x → sizes k ≡ size_at x.part (offset p) → Before all sizes (suc k) (place_after p x.part)
unfolding at_place
before_next all sizes k p x h there long = record {
  stands = after_section p.section p.text p.initial x.part ∙ ap (λ s. section_after s (Some x.part)) h.stands ∙ sym (past_next section.Text all k x there);
  fills = λ w.
      let on : filled w (place_after p x.part) ≡ filled w p + cond (same_section p.section w) (size_at x.part (offset p)) 0 = filled_on w p.section p.text p.initial x.part in
      let so_far : filled w p ≡ total_before (section_at all) sizes w k = h.fills w in
      let here : cond (same_section p.section w) (size_at x.part (offset p)) 0 ≡ cond (same_section (section_at all k) w) (sizes k) 0 =
      ap (λ s. cond (same_section s w) (size_at x.part (offset p)) 0) h.stands ∙ ap (λ n. cond (same_section (section_at all k) w) n 0) (sym long) in
      on ∙ ap (λ n. n + cond (same_section p.section w) (size_at x.part (offset p)) 0) so_far ∙ ap (λ n. total_before (section_at all) sizes w k + n) here;
}

pub before_sized : (all : Statements) (sizes : ℕ → ℕ) (k : ℕ) (p : Place) (x : Statement Name) → AreSizes all sizes → Before all sizes k p → slice_get all k ≡ Some x → Before all sizes (suc k) (place_after p x.part)
before_sized all sizes k p x are h there = before_next all sizes k p x h there (are.each k x there ∙ ap (λ n. size_at x.part n) (sym (offset_is all sizes k p h)))

-- ---- the lengths of a list

place_past : Place → Statements → Place
place_past p [] = p
place_past p (x ∷ xs) = place_past (place_after p x.part) xs

place_next : (p : Place) (all : Statements) (k : ℕ) (x : Statement Name) → slice_get all k ≡ Some x → place_past p (take (suc k) all) ≡ place_after (place_past p (take k all)) x.part
unfolding place_past
place_next p [] k x e = cc
place_next p (y ∷ ys) zero x e = let same : y ≡ x = cc in ap (λ (z : Statement Name). place_after p z.part) same
place_next p (y ∷ ys) (suc k) x e = place_next (place_after p y.part) ys k x e

size_of : Option (Statement Name) → Place → ℕ
size_of None p = 0
size_of (Some x) p = size_at x.part (offset p)

pub sizes_of : Statements → ℕ → ℕ
sizes_of all k = size_of (slice_get all k) (place_past start (take k all))

size_here : (all : Statements) (k : ℕ) (x : Statement Name) → slice_get all k ≡ Some x → sizes_of all k ≡ size_at x.part (offset (place_past start (take k all)))
unfolding sizes_of size_of
size_here all k x there = ap (λ o. size_of o (place_past start (take k all))) there

some_at : (all : Statements) (k : ℕ) → k < length all → (x : Statement Name) × (slice_get all k ≡ Some x)
some_at [] k lt = absurd (omega (arith, lt))
some_at (y ∷ ys) zero lt = (y, refl)
some_at (y ∷ ys) (suc k) lt = some_at ys k (omega (arith, lt))

walked : (all : Statements) (k : ℕ) → k ≤ length all → Before all (sizes_of all) k (place_past start (take k all))
unfolding place_past
walked all zero le = before_first all (sizes_of all)
walked all (suc k) le =
    let found : (x : Statement Name) × (slice_get all k ≡ Some x) = some_at all k (omega (arith, le)) in
    subst (λ p. Before all (sizes_of all) (suc k) p) (sym (place_next start all k found.0 found.1))
    (before_next all (sizes_of all) k (place_past start (take k all)) found.0 (walked all k (omega (arith, le))) found.1 (size_here all k found.0 found.1))

within : (all : Statements) (k : ℕ) (x : Statement Name) → slice_get all k ≡ Some x → k < length all
within [] k x e = cc
within (y ∷ ys) zero x e = omega arith
within (y ∷ ys) (suc k) x e = let later : k < length ys = within ys k x e in omega (arith, later)

pub have_sizes : (all : Statements) → (sizes : ℕ → ℕ) × AreSizes all sizes
have_sizes all = (
  sizes_of all,
  record {
    each = λ k x there.
        let lt : k < length all = within all k x there in
        size_here all k x there ∙ ap (λ n. size_at x.part n) (offset_is all (sizes_of all) k (place_past start (take k all)) (walked all k (omega (arith, lt))));
  },
)

-- ---- there is one list of lengths

same_totals : (all : Statements) (a b : ℕ → ℕ) → AreSizes all a → AreSizes all b → (k : ℕ) → k ≤ length all → (w : Section) → total_before (section_at all) a w k ≡ total_before (section_at all) b w k
same_totals all a b ha hb zero le w = refl
same_totals all a b ha hb (suc k) le w =
    let found : (x : Statement Name) × (slice_get all k ≡ Some x) = some_at all k (omega (arith, le)) in
    let before : (v : Section) → total_before (section_at all) a v k ≡ total_before (section_at all) b v k = same_totals all a b ha hb k (omega (arith, le)) in
    let here : a k ≡ b k = ha.each k found.0 found.1 ∙ ap (λ n. size_at found.0.part n) (before (section_at all k)) ∙ sym (hb.each k found.0 found.1) in
    ap (λ n. n + cond (same_section (section_at all k) w) (a k) 0) (before w) ∙ ap (λ n. total_before (section_at all) b w k + cond (same_section (section_at all k) w) n 0) here

pub one_size : (all : Statements) (a b : ℕ → ℕ) → AreSizes all a → AreSizes all b → (k : ℕ) (x : Statement Name) → slice_get all k ≡ Some x → a k ≡ b k
one_size all a b ha hb k x there =
    let lt : k < length all = within all k x there in
    ha.each k x there ∙ ap (λ n. size_at x.part n) (same_totals all a b ha hb k (omega (arith, lt)) (section_at all k)) ∙ sym (hb.each k x there)

-- ---- sections

-- what stands from statement k on
pub Rests : Statements → ℕ → Statements → Type 0
Rests all k rest = (i : ℕ) → slice_get all (k + i) ≡ slice_get rest i

pub rest_first : (all : Statements) (k : ℕ) (x : Statement Name) (xs : Statements) → Rests all k (x ∷ xs) → slice_get all k ≡ Some x
unfolding Rests
rest_first all k x xs h = subst (λ n. slice_get all n ≡ Some x) (add-zero k) (h 0)

pub rest_next : (all : Statements) (k : ℕ) (x : Statement Name) (xs : Statements) → Rests all k (x ∷ xs) → Rests all (suc k) xs
unfolding Rests
rest_next all k x xs h i = let on : suc k + i ≡ k + suc i = omega arith in ap (λ n. slice_get all n) on ∙ h (suc i)

pub rests_all : (all : Statements) → Rests all 0 all
unfolding Rests
rests_all all i = let same : 0 + i ≡ i = omega arith in ap (λ n. slice_get all n) same

bytes_walk : (all : Statements) (sizes : ℕ → ℕ) (w : Section) (labels : Labels) (slots : List Name) (p : Place) (k : ℕ) (rest : Statements) → AreSizes all sizes → Before all sizes k p → Rests all k rest
    → total_before (section_at all) sizes w k + length (bytes_from w labels slots p rest) ≡ total_before (section_at all) sizes w (k + length rest)
bytes_walk all sizes w labels slots p k [] are h rests = add-zero (total_before (section_at all) sizes w k) ∙ ap (λ n. total_before (section_at all) sizes w n) (sym (add-zero k))
bytes_walk all sizes w labels slots p k (x ∷ xs) are h rests =
    let there : slice_get all k ≡ Some x = rest_first all k x xs rests in
    let next : Before all sizes (suc k) (place_after p x.part) = before_sized all sizes k p x are h there in
    let later : total_before (section_at all) sizes w (suc k) + length (bytes_from w labels slots (place_after p x.part) xs) ≡ total_before (section_at all) sizes w (suc k + length xs) =
    bytes_walk all sizes w labels slots (place_after p x.part) (suc k) xs are next (rest_next all k x xs rests) in
    let sum : length (bytes_from w labels slots p (x ∷ xs)) ≡ length (section_bytes w labels slots p x.part) + length (bytes_from w labels slots (place_after p x.part) xs) = length-append (section_bytes w labels slots p x.part) (bytes_from w labels slots (place_after p x.part) xs) in
    let here : length (section_bytes w labels slots p x.part) ≡ cond (same_section (section_at all k) w) (sizes k) 0 =
    section_length w labels slots p x.part ∙ ap (λ s. cond (same_section s w) (size_at x.part (offset p)) 0) h.stands
    ∙ ap (λ n. cond (same_section (section_at all k) w) n 0) (ap (λ n. size_at x.part n) (offset_is all sizes k p h) ∙ sym (are.each k x there)) in
    let on : suc k + length xs ≡ k + suc (length xs) = omega arith in
    let step : total_before (section_at all) sizes w (suc k) ≡ total_before (section_at all) sizes w k + cond (same_section (section_at all k) w) (sizes k) 0 = refl in
    subst (λ n. total_before (section_at all) sizes w k + length (bytes_from w labels slots p (x ∷ xs)) ≡ total_before (section_at all) sizes w n) on (omega (arith, later, sum, here, step))

section_sum : (all : Statements) (sizes : ℕ → ℕ) (w : Section) (slots : List Name) → AreSizes all sizes → length (bytes_from w (label_in all) slots start all) ≡ total_before (section_at all) sizes w (length all)
section_sum all sizes w slots are =
    let whole : total_before (section_at all) sizes w 0 + length (bytes_from w (label_in all) slots start all) ≡ total_before (section_at all) sizes w (0 + length all) =
    bytes_walk all sizes w (label_in all) slots start 0 all are (before_first all sizes) (rests_all all) in
    let count : 0 + length all ≡ length all = omega arith in
    let bytes : 0 + length (bytes_from w (label_in all) slots start all) ≡ length (bytes_from w (label_in all) slots start all) = omega arith in
    sym bytes ∙ whole ∙ ap (λ n. total_before (section_at all) sizes w n) count

pub text_sum : (all : Statements) (sizes : ℕ → ℕ) (slots : List Name) → AreSizes all sizes → length (text_of all slots) ≡ total_before (section_at all) sizes section.Text (length all)
unfolding text_of
text_sum all sizes slots are = section_sum all sizes section.Text slots are

pub initial_sum : (all : Statements) (sizes : ℕ → ℕ) (slots : List Name) → AreSizes all sizes → length (initial_of all slots) ≡ total_before (section_at all) sizes section.Data (length all)
unfolding initial_of
initial_sum all sizes slots are = section_sum all sizes section.Data slots are
