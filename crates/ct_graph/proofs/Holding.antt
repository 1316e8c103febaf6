-- The objects that links share so that capabilities pass, noted link by link.
use Rattle.std.proofs.Common.{◌≡◌, ℕ, ◌+◌, ◌<◌, Bool, true, false, cond, ◌&&◌, ◌||◌, nat_lt, nat_eq, List, length, take, refl, sym, ap, ◌∙◌, arith, inl, inr, get_or, slice_index_or, slice_set}
use Rattle.std.specs.List.{list_any}
use Rattle.std.proofs.lemmas.Bool.{cases_eq, cases_Bool, eq-eqb, ne_eqb, lt-ltb}
use Rattle.std.proofs.lemmas.List.{length-set, get_or-set_other, get_or-set_same}
use Rattle.std.proofs.lemmas.List.Folds.{list_any_more}
use Rattle.ct_entry.specs.Kinds.{is_shared}
use Rattle.ct_graph.specs.declared.links.Link.{Link}
use Rattle.ct_graph.specs.Links.{AreHeld, holds}

-- a list after one link was noted in it
abbrev noted : List Bool → Link → List Bool
noted old l = cond ((is_shared l.kind && l.carries) && nat_lt l.of (length old)) (slice_set old l.of true) old

same_size : (old : List Bool) (l : Link) → length (noted old l) ≡ length old
same_size old l = by_case ((is_shared l.kind && l.carries) && nat_lt l.of (length old))
  where
    by_case : (b : Bool) → length (cond b (slice_set old l.of true) old) ≡ length old
    by_case true = length-set old l.of true
    by_case false = refl

at_number : (old : List Bool) (l : Link) (n : ℕ) → n < length old → slice_index_or (noted old l) n false ≡ (slice_index_or old n false || holds n l)
at_number old l n lt = elim (cases_eq n l.of) [
  | inl e ↦ here e (is_shared l.kind && l.carries)
  | inr other ↦ elsewhere other ((is_shared l.kind && l.carries) && nat_lt l.of (length old)) (is_shared l.kind && l.carries)
]
  where
    or_false : (b : Bool) → b ≡ (b || false)
    or_false true = refl
    or_false false = refl

    or_true : (b : Bool) → true ≡ (b || true)
    or_true true = refl
    or_true false = refl

    and_false : (b : Bool) → (b && false) ≡ false
    and_false true = refl
    and_false false = refl

    here : n ≡ l.of → (shared : Bool) → slice_index_or (cond (shared && nat_lt l.of (length old)) (slice_set old l.of true) old) n false ≡ (slice_index_or old n false || (shared && nat_eq l.of n))
    here e false = or_false (slice_index_or old n false)
    here e true =
        let inside : l.of < length old = omega (arith, e, lt) in
        let set_there : slice_index_or (slice_set old l.of true) l.of false ≡ true = get_or-set_same old l.of true false inside in
        ap (λ b. slice_index_or (cond b (slice_set old l.of true) old) n false) (lt-ltb l.of (length old) inside)
        ∙ ap (λ k. slice_index_or (slice_set old l.of true) k false) e ∙ set_there ∙ or_true (slice_index_or old n false)
        ∙ sym (ap (λ b. slice_index_or old n false || b) (eq-eqb l.of n (sym e)))

    elsewhere : (n ≡ l.of → ⊥) → (set shared : Bool) → slice_index_or (cond set (slice_set old l.of true) old) n false ≡ (slice_index_or old n false || (shared && nat_eq l.of n))
    elsewhere other set shared =
        let kept : slice_index_or (slice_set old l.of true) n false ≡ slice_index_or old n false = get_or-set_other old l.of n true false other in
        let same : slice_index_or (cond set (slice_set old l.of true) old) n false ≡ slice_index_or old n false = elim (cases_Bool set) [
          | inl t ↦ ap (λ b. slice_index_or (cond b (slice_set old l.of true) old) n false) t ∙ kept
          | inr f ↦ ap (λ b. slice_index_or (cond b (slice_set old l.of true) old) n false) f
        ] in
        same ∙ or_false (slice_index_or old n false)
        ∙ sym (ap (λ b. slice_index_or old n false || b) (ap (λ b. shared && b) (ne_eqb l.of n (λ e. other (sym e))) ∙ and_false shared))

pub size_next : (ls : List Link) (i : ℕ) (old new : List Bool) (d : Link) → new ≡ noted old (get_or ls i d) → length new ≡ length old
size_next ls i old new d is = ap (λ (l : List Bool). length l) is ∙ same_size old (get_or ls i d)

pub holding_next : (ls : List Link) (i : ℕ) (old new : List Bool) (d : Link) → i < length ls → AreHeld (take i ls) old → new ≡ noted old (get_or ls i d) → AreHeld (take (i + 1) ls) new
holding_next ls i old new d lt h is = record {
  each = λ n inside.
      let same : length new ≡ length old = size_next ls i old new d is in
      let before : n < length old = omega (arith, inside, same) in
      ap (λ l. slice_index_or l n false) is ∙ at_number old (get_or ls i d) n before
      ∙ ap (λ b. b || holds n (get_or ls i d)) (h.each n before) ∙ sym (list_any_more (holds n) ls i d lt);
}
