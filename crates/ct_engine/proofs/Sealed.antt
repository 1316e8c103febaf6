-- After an allocation the new object's number has no row, and there is room for one.
use Rattle.std.proofs.Common.{ℕ, ◌≡◌, ◌<◌, inl, inr, true, false, nat_lt, List, [], ◌∷◌, length, None, refl, sym, ap, ◌∙◌, subst, arith}
use Rattle.std.proofs.lemmas.Bool.{ne_eqb}
use Rattle.law_lists.proofs.Tests.{bool_tells}
use Rattle.def_machine.specs.Rows.{IsApart, IsLiveOf, RowsFit}
use Rattle.law_moves.proofs.Rows.{among_any, each_map, each_take}
use Rattle.law_routines.proofs.Counting.{few}
use Rattle.def_memory.specs.declared.Granule.{Granule}
use Rattle.def_machine.specs.State.{Object, Token}
use Rattle.def_machine.specs.Heap.{with_object}
use Rattle.def_machine.specs.Objects.{Any, Each, placed_among}
use Rattle.def_chunks.specs.Heaps.{objects_of, Distinct}
use Rattle.law_chunks.proofs.Standing.{objects_few}
use Rattle.ct_token.specs.Table.{has_row, row_for}
use Rattle.ct_engine.specs.declared.rows.Rows.{Rows}
use Rattle.ct_engine.specs.Seen.{EngineRow, engine_view}
use Rattle.ct_engine.specs.Kept.{IsEngine}

-- objects that it was placed among have other numbers
others : (r : Object) (m : ℕ) (os : List Object) → Distinct (placed_among r os) → Any (IsLiveOf m) os → m ≡ r.number → ⊥
others r m [] one any is = any
others r m (q ∷ os) one any is = elim (bool_tells (nat_lt r.base q.base)) [
  | inl e ↦
      let first : Distinct (r ∷ q ∷ os) = rw e at one in
      each_take (λ (z : Object). z.number ≡ r.number → ⊥) (IsLiveOf m) ⊥ (q ∷ os) (λ z other h. other (h.1 ∙ is)) first.0 any
  | inr e ↦
      let later : Distinct (q ∷ placed_among r os) = rw e at one in
      elim any [
        | inl here ↦
            each_take (λ (z : Object). z.number ≡ q.number → ⊥) (λ (z : Object). z.number ≡ r.number) ⊥ (placed_among r os)
            (λ z other same. other (same ∙ sym is ∙ sym here.1)) later.0 (among_any (λ (z : Object). z.number ≡ r.number) r os (inl refl))
        | inr there ↦ others r m os later.1 there is
      ]
]

no_row : (n : ℕ) (ks : List Token) → Each (IsApart n) ks → has_row n ks ≡ false
no_row n [] apart = refl
no_row n (k ∷ ks) apart = rw (ne_eqb k.number n apart.0) (no_row n ks apart.1)

module _ {gs : List Granule} {rows : Rows} (s : EngineRow) (r : Object) (holds : IsEngine gs rows) (is : engine_view gs rows ≡ record s { state = with_object s.state r })
    (fit : RowsFit s.state.objects s.state.tokens) where
  objects : objects_of rows.heap gs ≡ placed_among r s.state.objects
  objects = ap (λ (x : EngineRow). x.state.objects) is

  tokens : rows.tokens.rows ≡ s.state.tokens
  tokens = ap (λ (x : EngineRow). x.state.tokens) is

  apart : Each (IsApart r.number) s.state.tokens
  apart =
      each_map (λ (k : Token). Any (IsLiveOf k.number) s.state.objects) (IsApart r.number) s.state.tokens
      (λ k any same. others r k.number s.state.objects (subst Distinct objects holds.heap.laid.distinct) any same) fit.live

  pub row_absent : (number : ℕ) → number ≡ r.number → has_row number rows.tokens.rows ≡ false
  row_absent number same = rw (same, tokens) (no_row r.number s.state.tokens apart)

  pub row_fits : r.live ≡ true → length rows.tokens.rows < rows.tokens.room
  row_fits live =
      let most = objects_few rows.heap gs holds.heap.laid in
      let more = few (placed_among r s.state.objects) (row_for r.number None ∷ s.state.tokens) (record {
        differ = (apart, fit.differ);
        live = (
          among_any (IsLiveOf r.number) r s.state.objects (inl (live, refl)),
          each_map (λ (k : Token). Any (IsLiveOf k.number) s.state.objects) (λ (k : Token). Any (IsLiveOf k.number) (placed_among r s.state.objects)) s.state.tokens
              (λ k any. among_any (IsLiveOf k.number) r s.state.objects (inr any)) fit.live,
        );
      }) in
      let room = holds.room in
      rw tokens (let most_ = rw objects at most in omega (arith, most_, more, room))
