-- The first word of a text.
use Rattle.std.proofs.Common.{◌≡◌, ℕ, suc, ◌+◌, ◌-◌, ◌<◌, ◌≤◌, ◌==◌, ◌++◌, List, [], ◌∷◌, Bool, true, false, inl, inr, refl, ap, sym, ◌∙◌, subst, arith, length, take, drop}
use Rattle.std.proofs.Math.ListN.{get_or}
use Rattle.std.specs.List.{list_all, prefix_len}
use Rattle.std.proofs.lemmas.List.{length-take-le}
use Rattle.std.proofs.lemmas.Bool.{both_ways}
use Rattle.law_lists.proofs.Tests.{both_left, eq_tells}
use Rattle.law_script.proofs.Runs.{same_run, no_end}
use Rattle.ct_script.proofs.Parts.{IsRun, run_is, run_whole, all_rest}
use Rattle.def_policy.specs.Rules.{is_word_byte}
use Rattle.ct_policy.specs.Words.{IsFirst, NoFirst, end_byte}

abbrev pub place_of : List ℕ → ℕ
place_of text = prefix_len is_word_byte text

pub end_fails : (last : Bool) → is_word_byte (end_byte last) ≡ false
end_fails true = refl
end_fails false = refl

-- a word that begins a text ends where its run does
pub meets : (text word : List ℕ) (last : Bool) (rest : List ℕ) → place_of text < length text → IsFirst text word last rest
    → (take (place_of text) text ≡ word) × (get_or text (place_of text) 0 ≡ end_byte last) × (drop (suc (place_of text)) text ≡ rest)
meets text word last rest inside first =
    let run = run_is is_word_byte text inside in
    same_run is_word_byte (take (place_of text) text) word (get_or text (place_of text) 0) (end_byte last) (drop (suc (place_of text)) text) rest
    run.passes first.is.inner run.fails (end_fails last) (sym run.whole ∙ first.text_is)

some_place : (word more : List ℕ) → 0 < length word → list_all is_word_byte word ≡ true → 0 < place_of (word ++ more)
some_place [] more some inner = absurd (omega (arith, some))
some_place (c ∷ cs) more some inner = rw (both_left (is_word_byte c) (list_all is_word_byte cs) inner) (omega arith)

pub no_front : (text : List ℕ) → place_of text ≡ 0 → NoFirst text
no_front text none word last rest first =
    omega (arith, none, some_place word (end_byte last ∷ rest) first.is.some first.is.inner, ap (λ t. place_of t) first.text_is)

pub endless : (text : List ℕ) → length text ≤ place_of text → NoFirst text
endless text long word last rest first =
    both_ways (list_all is_word_byte text) (ap (λ t. list_all is_word_byte t) first.text_is ∙ no_end is_word_byte word (end_byte last) rest (end_fails last)) (run_whole is_word_byte text long)

pub other_end : (text : List ℕ) → place_of text < length text → (get_or text (place_of text) 0 ≡ 32 → ⊥) → (get_or text (place_of text) 0 ≡ 10 → ⊥) → NoFirst text
other_end text inside space feed word true rest first = feed (meets text word true rest inside first).1
other_end text inside space feed word false rest first = space (meets text word false rest inside first).1

ends_so : (c : ℕ) → (c ≡ 32 → ⊥) → (c ≡ 10 → ⊥) → ⊥ → ⊥
ends_so c a b bad = bad

end_is : (c : ℕ) → ((c ≡ 32 → ⊥) → (c ≡ 10 → ⊥) → ⊥) → c ≡ end_byte (c == 10)
end_is c one =
    elim (eq_tells c 10) [
      | inl feed ↦ rw feed.0 feed.1
      | inr other ↦ elim (eq_tells c 32) [
        | inl space ↦ rw other.0 space.1
        | inr neither ↦ absurd (one neither.1 other.1)
      ]
    ]

pub first_is : (text : List ℕ) (k : ℕ) → k ≡ place_of text → 0 < k → k < length text
    → ((get_or text k 0 ≡ 32 → ⊥) → (get_or text k 0 ≡ 10 → ⊥) → ⊥)
    → IsFirst text (take k text) (get_or text k 0 == 10) (take (length text - (k + 1)) (drop (k + 1) text))
first_is text k is some inside ends =
    let run : IsRun is_word_byte text (place_of text) = run_is is_word_byte text (omega (arith, is, inside)) in
    let here : IsRun is_word_byte text k = subst (λ n. IsRun is_word_byte text n) (sym is) run in
    subst (λ r. IsFirst text (take k text) (get_or text k 0 == 10) r) (sym (all_rest text k)) (record {
      is = record {
        some = omega (arith, some, inside, length-take-le k text (omega (arith, inside)));
        inner = here.passes;
      };
      text_is = here.whole ∙ ap (λ e. take k text ++ e ∷ drop (suc k) text) (end_is (get_or text k 0) ends);
    })
