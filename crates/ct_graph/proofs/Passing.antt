-- A table of gates, gate by gate from the last.
use Rattle.std.proofs.Common.{◌≡◌, ℕ, ◌+◌, ◌<◌, ◌==◌, Bool, false, cond, nat_lt, List, [], ◌∷◌, length, drop, refl, sym, ap, ◌∙◌, subst, arith, inl, inr, get_or, slice_index_or, slice_set, replicate}
use Rattle.std.proofs.lemmas.Bool.{cases_eq, cases_Bool, eq-eqb, ne_eqb, lt-ltb}
use Rattle.std.proofs.lemmas.List.{length-set, length-replicate, get_or-set_other, get_or-set_same, get_or-replicate, drop_more}
use Rattle.ct_entry.specs.declared.rows.Gate.{Gate}
use Rattle.def_reach.specs.Roots.{gate_for}
use Rattle.ct_graph.specs.Links.{ArePassing}

drop_none : (gates : List Gate) → drop (length gates) gates ≡ []
drop_none [] = refl
drop_none (g ∷ gates) = drop_none gates

none_passes : (count : ℕ) → ArePassing [] count (replicate count false)
unfolding gate_for
none_passes count = record { size = length-replicate count false; each = λ n lt. get_or-replicate count n false false lt }

pub passing_starts : (gates : List Gate) (count : ℕ) (passes : List Bool) → passes ≡ replicate count false → ArePassing (drop (length gates) gates) count passes
passing_starts gates count passes is =
    subst (λ gs. ArePassing gs count passes) (sym (drop_none gates)) (subst (λ l. ArePassing [] count l) (sym is) (none_passes count))

one_more : (gates : List Gate) (count : ℕ) (old new : List Bool) (g : Gate) → ArePassing gates count old → new ≡ cond (nat_lt g.entry (length old)) (slice_set old g.entry g.capabilities) old → ArePassing (g ∷ gates) count new
unfolding gate_for
one_more gates count old new g h is = record { size = size; each = each }
  where
    size : length new ≡ count
    size = elim (cases_Bool (nat_lt g.entry (length old))) [
      | inl t ↦ ap (λ (l : List Bool). length l) (is ∙ ap (λ b. cond b (slice_set old g.entry g.capabilities) old) t) ∙ length-set old g.entry g.capabilities ∙ h.size
      | inr f ↦ ap (λ (l : List Bool). length l) (is ∙ ap (λ b. cond b (slice_set old g.entry g.capabilities) old) f) ∙ h.size
    ]

    each : (n : ℕ) → n < count → slice_index_or new n false ≡ (cond (g.entry == n) g (gate_for gates n)).capabilities
    each n lt = elim (cases_eq n g.entry) [
      | inl e ↦
          let inside : g.entry < length old = omega (arith, e, lt, h.size) in
          let now : new ≡ slice_set old g.entry g.capabilities = is ∙ ap (λ b. cond b (slice_set old g.entry g.capabilities) old) (lt-ltb g.entry (length old) inside) in
          let here : slice_index_or (slice_set old g.entry g.capabilities) g.entry false ≡ g.capabilities = get_or-set_same old g.entry g.capabilities false inside in
          ap (λ l. slice_index_or l n false) now ∙ ap (λ k. slice_index_or (slice_set old g.entry g.capabilities) k false) e ∙ here
          ∙ sym (ap (λ b. (cond b g (gate_for gates n)).capabilities) (eq-eqb g.entry n (sym e)))
      | inr other ↦
          let kept : slice_index_or (slice_set old g.entry g.capabilities) n false ≡ slice_index_or old n false = get_or-set_other old g.entry n g.capabilities false other in
          let same : slice_index_or new n false ≡ slice_index_or old n false = elim (cases_Bool (nat_lt g.entry (length old))) [
            | inl t ↦ ap (λ l. slice_index_or l n false) (is ∙ ap (λ b. cond b (slice_set old g.entry g.capabilities) old) t) ∙ kept
            | inr f ↦ ap (λ l. slice_index_or l n false) (is ∙ ap (λ b. cond b (slice_set old g.entry g.capabilities) old) f)
          ] in
          same ∙ h.each n lt ∙ sym (ap (λ b. (cond b g (gate_for gates n)).capabilities) (ne_eqb g.entry n (λ e. other (sym e))))
    ]

pub passing_next : (gates : List Gate) (count i : ℕ) (old new : List Bool) (d : Gate) → i < length gates → ArePassing (drop (i + 1) gates) count old
    → new ≡ cond (nat_lt (get_or gates i d).entry (length old)) (slice_set old (get_or gates i d).entry (get_or gates i d).capabilities) old → ArePassing (drop i gates) count new
passing_next gates count i old new d lt h is =
    subst (λ gs. ArePassing gs count new) (sym (drop_more gates i d lt)) (one_more (drop (i + 1) gates) count old new (get_or gates i d) h is)
