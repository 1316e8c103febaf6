-- A walk over a range, a number at a time.
use Rattle.std.proofs.Common.{◌≡◌, ℕ, suc, ◌+◌, ◌-◌, ◌<◌, ◌≤◌, List, [], ◌∷◌, ◌++◌, map, sym, ap, ◌∙◌, append_assoc, arith, append-nil}
use Rattle.std.proofs.lemmas.List.{map-append}
use Rattle.std.specs.List.{flat_map, range_with_len}

range_first : (a n : ℕ) → a < n → range_with_len a (n - a) ≡ a ∷ range_with_len (a + 1) (n - (a + 1))
range_first a n lt = let e : n - a ≡ suc (n - (a + 1)) = omega (arith, lt) in ap (range_with_len a) e

range_over : (a n : ℕ) → n ≤ a → range_with_len a (n - a) ≡ []
range_over a n le = let e : n - a ≡ 0 = omega (arith, le) in ap (range_with_len a) e

-- what each number gives is put after what is there
pub range_next : {A B : Type 0} (f : ℕ → List A) (g : A → B) (vs ws total : List B) (a n : ℕ) → a < n
    → vs ++ map g (flat_map f (range_with_len a (n - a))) ≡ total → ws ≡ vs ++ map g (f a)
    → ws ++ map g (flat_map f (range_with_len (a + 1) (n - (a + 1)))) ≡ total
range_next f g vs ws total a n lt before is =
    let rest : List _ = map g (flat_map f (range_with_len (a + 1) (n - (a + 1)))) in
    ap (λ l. l ++ rest) is ∙ append_assoc vs (map g (f a)) rest
    ∙ ap (λ l. vs ++ l) (sym (map-append g (f a) (flat_map f (range_with_len (a + 1) (n - (a + 1))))))
    ∙ ap (λ l. vs ++ map g (flat_map f l)) (sym (range_first a n lt)) ∙ before

pub range_ends : {A B : Type 0} (f : ℕ → List A) (g : A → B) (vs total : List B) (a n : ℕ) → n ≤ a
    → vs ++ map g (flat_map f (range_with_len a (n - a))) ≡ total → vs ≡ total
range_ends f g vs total a n le before =
    sym (append-nil vs) ∙ ap (λ l. vs ++ map g (flat_map f l)) (sym (range_over a n le)) ∙ before
