-- A run of inner bytes at the front of a text, and what a line's parts make of it.
use Rattle.std.proofs.Common.{◌≡◌, ℕ, suc, ◌+◌, ◌-◌, ◌<◌, ◌≤◌, ◌^◌, ◌++◌, List, [], ◌∷◌, Bool, true, false, Some, None, inl, inr, refl, ap, sym, ◌∙◌, subst, arith, length, take, drop, decimal}
use Rattle.std.proofs.Math.ListN.{get_or}
use Rattle.std.specs.List.{list_all, prefix_len}
use Rattle.std.proofs.Math.Seq.{take-length}
use Rattle.std.proofs.lemmas.List.{length-take-le, length-drop}
use Rattle.std.proofs.lemmas.Bool.{both_ways}
use Rattle.law_lists.proofs.Tests.{bool_tells, both_left}
use Rattle.def_texts.specs.Digits.{number_within}
use Rattle.ct_texts.proofs.Numbers.{number_back, number_told}
use Rattle.def_profile.specs.declared.limits.TheConstants.{MOST_STEPS}
use Rattle.def_script.specs.Script.{Row, IsScriptRow, BeginsWithRow, NoScriptLine, is_field_byte}
use Rattle.law_script.proofs.Runs.{same_run, same_number, no_end, number_inner}
use Rattle.law_script.proofs.Lines.{unrolled, step_small, byte_small}
use Rattle.ct_script.specs.Fields.{IsNumber, NoNumber, IsName, NoName, row_of}

-- where the run of bytes that pass is shorter than the text, a byte that fails ends it
pub record IsRun (p : ℕ → Bool) (xs : List ℕ) (place : ℕ) : Type 0 where
  pub passes : list_all p (take place xs) ≡ true
  pub fails : p (get_or xs place 0) ≡ false
  pub whole : xs ≡ take place xs ++ get_or xs place 0 ∷ drop (suc place) xs

pub run_is : (p : ℕ → Bool) (xs : List ℕ) → prefix_len p xs < length xs → IsRun p xs (prefix_len p xs)
run_is p [] inside = absurd (omega (arith, inside))
run_is p (x ∷ xs) inside =
    elim (bool_tells (p x)) [
      | inl pass ↦
          let longer : prefix_len p (x ∷ xs) ≡ suc (prefix_len p xs) = rw pass (omega arith) in
          let rest : IsRun p xs (prefix_len p xs) = run_is p xs (omega (arith, inside, longer)) in
          subst (λ n. IsRun p (x ∷ xs) n) (sym longer) (record {
            passes = rw (pass, rest.passes) refl;
            fails = rest.fails;
            whole = ap (λ r. x ∷ r) rest.whole;
          })
      | inr fail ↦
          let none : prefix_len p (x ∷ xs) ≡ 0 = rw fail refl in
          subst (λ n. IsRun p (x ∷ xs) n) (sym none) (record { passes = refl; fails = fail; whole = refl })
    ]

pub run_whole : (p : ℕ → Bool) (xs : List ℕ) → length xs ≤ prefix_len p xs → list_all p xs ≡ true
run_whole p [] long = refl
run_whole p (x ∷ xs) long =
    elim (bool_tells (p x)) [
      | inl pass ↦
          let longer : prefix_len p (x ∷ xs) ≡ suc (prefix_len p xs) = rw pass (omega arith) in
          rw (pass, run_whole p xs (omega (arith, long, longer))) refl
      | inr fail ↦
          let none : prefix_len p (x ∷ xs) ≡ 0 = rw fail refl in
          absurd (omega (arith, long, none))
    ]

-- ---- numbers

abbrev pub place_of : List ℕ → ℕ
place_of text = prefix_len is_field_byte text

number_small : (n : ℕ) → n < 2 ^ 32 → n < 2 ^ 64
number_small n small = omega (arith, small)

pub no_small : (digits : List ℕ) → None ≡ number_within 4294967295 digits → (n : ℕ) → n < 2 ^ 32 → decimal n ≡ digits → ⊥
no_small digits none n small is =
    let found : number_within 4294967295 digits ≡ Some n = ap (number_within 4294967295) (sym is) ∙ number_back 4294967295 n (omega (arith, small)) (number_small n small) in
    let bad : None ≡ Some n = none ∙ found in
    absurd (cc)

pub small_is : (digits : List ℕ) (n : ℕ) → Some n ≡ number_within 4294967295 digits → decimal n ≡ digits
small_is digits n some = (number_told 4294967295 digits n (sym some)).is

pub endless : (text : List ℕ) (end : ℕ) → is_field_byte end ≡ false → length text ≤ place_of text → NoNumber text end
endless text end ends long n rest is =
    both_ways (list_all is_field_byte text) (ap (λ t. list_all is_field_byte t) is.text_is ∙ no_end is_field_byte (decimal n) end rest ends) (run_whole is_field_byte text long)

-- where the number ends, if there is one
meets : (text : List ℕ) (end n : ℕ) (rest : List ℕ) → is_field_byte end ≡ false → place_of text < length text → IsNumber text end n rest
    → (take (place_of text) text ≡ decimal n) × (get_or text (place_of text) 0 ≡ end) × (drop (suc (place_of text)) text ≡ rest)
meets text end n rest ends inside is =
    let run = run_is is_field_byte text inside in
    same_run is_field_byte (take (place_of text) text) (decimal n) (get_or text (place_of text) 0) end (drop (suc (place_of text)) text) rest
    run.passes (number_inner n (number_small n is.small)) run.fails ends (sym run.whole ∙ is.text_is)

pub other_end : (text : List ℕ) (end : ℕ) → is_field_byte end ≡ false → place_of text < length text → (get_or text (place_of text) 0 ≡ end → ⊥) → NoNumber text end
other_end text end ends inside differs n rest is = differs (meets text end n rest ends inside is).1

pub no_digits : (text : List ℕ) (end : ℕ) → is_field_byte end ≡ false → place_of text < length text → ((n : ℕ) → n < 2 ^ 32 → decimal n ≡ take (place_of text) text → ⊥) → NoNumber text end
no_digits text end ends inside none n rest is = none n is.small (sym (meets text end n rest ends inside is).0)

pub number_is : (text : List ℕ) (end n : ℕ) → n < 2 ^ 32 → place_of text < length text → get_or text (place_of text) 0 ≡ end → decimal n ≡ take (place_of text) text → IsNumber text end n (drop (suc (place_of text)) text)
number_is text end n small inside here digits =
    let run = run_is is_field_byte text inside in
    record {
      small = small;
      text_is = run.whole ∙ ap (λ t. t ++ get_or text (place_of text) 0 ∷ drop (suc (place_of text)) text) (sym digits) ∙ ap (λ e. decimal n ++ e ∷ drop (suc (place_of text)) text) here;
    }

-- ---- names

pub name_is : (text : List ℕ) → 0 < place_of text → place_of text < length text → get_or text (place_of text) 0 ≡ 32 → IsName text (take (place_of text) text) (drop (suc (place_of text)) text)
name_is text some inside here =
    let run = run_is is_field_byte text inside in
    record {
      some = omega (arith, some, inside, length-take-le (place_of text) text (omega (arith, inside)));
      inner = run.passes;
      text_is = run.whole ∙ ap (λ e. take (place_of text) text ++ e ∷ drop (suc (place_of text)) text) here;
    }

pub all_rest : (text : List ℕ) (k : ℕ) → take (length text - (k + 1)) (drop (k + 1) text) ≡ drop (suc k) text
all_rest text k =
    let next : k + 1 ≡ suc k = omega arith in
    let size : length text - (k + 1) ≡ length (drop (k + 1) text) = sym (length-drop (k + 1) text) in
    ap (λ n. take n (drop (k + 1) text)) size ∙ take-length (drop (k + 1) text) ∙ ap (λ n. drop n text) next

pub name_read_at : (text : List ℕ) (k : ℕ) → k ≡ place_of text → 0 < k → k < length text → get_or text k 0 ≡ 32 → IsName text (take k text) (take (length text - (k + 1)) (drop (k + 1) text))
name_read_at text k is some inside here =
    let found : IsName text (take (place_of text) text) (drop (suc (place_of text)) text) =
    name_is text (omega (arith, is, some)) (omega (arith, is, inside)) (ap (λ n. get_or text n 0) (sym is) ∙ here) in
    subst (λ r. IsName text (take k text) r) (sym (all_rest text k)) (subst (λ n. IsName text (take n text) (drop (suc n) text)) (sym is) found)

name_meets : (text name rest : List ℕ) → place_of text < length text → IsName text name rest → (take (place_of text) text ≡ name) × (get_or text (place_of text) 0 ≡ 32) × (drop (suc (place_of text)) text ≡ rest)
name_meets text name rest inside is =
    let run = run_is is_field_byte text inside in
    same_run is_field_byte (take (place_of text) text) name (get_or text (place_of text) 0) 32 (drop (suc (place_of text)) text) rest
    run.passes is.inner run.fails refl (sym run.whole ∙ is.text_is)

pub some_place : (name more : List ℕ) → 0 < length name → list_all is_field_byte name ≡ true → 0 < place_of (name ++ more)
some_place [] more some inner = absurd (omega (arith, some))
some_place (c ∷ cs) more some inner = rw (both_left (is_field_byte c) (list_all is_field_byte cs) inner) (omega arith)

pub no_front : (text : List ℕ) → place_of text ≡ 0 → NoName text
no_front text none name rest is = omega (arith, none, some_place name (32 ∷ rest) is.some is.inner, ap (λ t. place_of t) is.text_is)

pub no_space : (text : List ℕ) → length text ≤ place_of text → NoName text
no_space text long name rest is =
    both_ways (list_all is_field_byte text) (ap (λ t. list_all is_field_byte t) is.text_is ∙ no_end is_field_byte name 32 rest refl) (run_whole is_field_byte text long)

pub other_byte : (text : List ℕ) → place_of text < length text → (get_or text (place_of text) 0 ≡ 32 → ⊥) → NoName text
other_byte text inside other name rest is = other (name_meets text name rest inside is).1

-- ---- lines

abbrev before_name : Row → List ℕ → List ℕ
before_name r rest = r.name ++ 32 ∷ (decimal r.byte ++ 10 ∷ rest)

starts : (text : List ℕ) (r : Row) (rest : List ℕ) → BeginsWithRow text r rest → IsNumber text 32 r.step (before_name r rest)
starts text r rest b = record { small = omega (arith, b.row.within); text_is = b.text_is ∙ unrolled r rest }

pub no_step : (text : List ℕ) → 0 < length text → NoNumber text 32 → NoScriptLine text
no_step text some none = record { some = some; none = λ r rest b. none r.step (before_name r rest) (starts text r rest b) }

-- the step that was read is the line's
step_read : (text : List ℕ) (n : ℕ) (left : List ℕ) (r : Row) (rest : List ℕ) → IsNumber text 32 n left → BeginsWithRow text r rest → (n ≡ r.step) × (left ≡ before_name r rest)
step_read text n left r rest is b =
    let both = same_number n r.step 32 32 left (before_name r rest) (number_small n is.small) (step_small r b.row) refl refl (sym is.text_is ∙ (starts text r rest b).text_is) in
    (both.0, both.2)

pub no_count : (text : List ℕ) (n : ℕ) (left : List ℕ) → 0 < length text → IsNumber text 32 n left → n ≡ 0 → NoScriptLine text
no_count text n left some is none = record {
  some = some;
  none = λ r rest b. omega (arith, (step_read text n left r rest is b).0, none, b.row.counted);
}

pub too_many : (text : List ℕ) (n : ℕ) (left : List ℕ) → 0 < length text → IsNumber text 32 n left → MOST_STEPS < n → NoScriptLine text
too_many text n left some is many = record {
  some = some;
  none = λ r rest b. omega (arith, (step_read text n left r rest is b).0, many, b.row.within);
}

named : (r : Row) (rest : List ℕ) → IsScriptRow r → IsName (before_name r rest) r.name (decimal r.byte ++ 10 ∷ rest)
named r rest is = record { some = is.some; inner = is.inner; text_is = refl }

pub no_name : (text : List ℕ) (n : ℕ) (left : List ℕ) → 0 < length text → IsNumber text 32 n left → NoName left → NoScriptLine text
no_name text n left some is none = record {
  some = some;
  none = λ r rest b.
      none r.name (decimal r.byte ++ 10 ∷ rest) (subst (λ t. IsName t r.name (decimal r.byte ++ 10 ∷ rest)) (sym (step_read text n left r rest is b).1) (named r rest b.row));
}

name_read : (text : List ℕ) (n : ℕ) (left name more : List ℕ) (r : Row) (rest : List ℕ) → IsNumber text 32 n left → IsName left name more → BeginsWithRow text r rest → (name ≡ r.name) × (more ≡ decimal r.byte ++ 10 ∷ rest)
name_read text n left name more r rest is called b =
    let both = same_run is_field_byte name r.name 32 32 more (decimal r.byte ++ 10 ∷ rest) called.inner b.row.inner refl refl (sym called.text_is ∙ (step_read text n left r rest is b).1) in
    (both.0, both.2)

pub no_byte : (text : List ℕ) (n : ℕ) (left name more : List ℕ) → 0 < length text → IsNumber text 32 n left → IsName left name more → NoNumber more 10 → NoScriptLine text
no_byte text n left name more some is called none = record {
  some = some;
  none = λ r rest b. none r.byte rest (record { small = omega (arith, b.row.small); text_is = (name_read text n left name more r rest is called b).1 });
}

pub bad_byte : (text : List ℕ) (n : ℕ) (left name more : List ℕ) (m : ℕ) (end : List ℕ) → 0 < length text → IsNumber text 32 n left → IsName left name more → IsNumber more 10 m end → 255 < m → NoScriptLine text
bad_byte text n left name more m end some is called byte many = record {
  some = some;
  none = λ r rest b.
      let both = same_number m r.byte 10 10 end rest (number_small m byte.small) (byte_small r b.row) refl refl (sym byte.text_is ∙ (name_read text n left name more r rest is called b).1) in
      omega (arith, both.0, many, b.row.small);
}

pub line_is : (text : List ℕ) (n : ℕ) (left name more : List ℕ) (m : ℕ) (end : List ℕ) → IsNumber text 32 n left → 1 ≤ n → n ≤ MOST_STEPS → IsName left name more → IsNumber more 10 m end → m ≤ 255 → BeginsWithRow text (row_of n name m) end
line_is text n left name more m end is counted within called byte small = record {
  row = record { counted = counted; within = within; some = called.some; inner = called.inner; small = small };
  text_is =
      is.text_is
      ∙ ap (λ t. decimal n ++ 32 ∷ t) called.text_is
      ∙ ap (λ t. decimal n ++ 32 ∷ (name ++ 32 ∷ t)) byte.text_is
      ∙ sym (unrolled (row_of n name m) end);
}
