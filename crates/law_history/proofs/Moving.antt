-- Rows stay so where an object is added, where one comes with a row, where one goes with its row, and at a sweep.
use Rattle.std.proofs.Common.{ℕ, ◌≡◌, true, false, inl, inr, List, [], ◌∷◌, sym, ◌∙◌, arith}
use Rattle.def_machine.specs.Image.{Image}
use Rattle.def_machine.specs.State.{Object, Token}
use Rattle.def_machine.specs.Objects.{Any, Each, placed_among, quarantine, painted, unpainted}
use Rattle.def_confined.specs.Confined.{ObjectFits}
use Rattle.def_step.specs.Quotas.{without_row}
use Rattle.def_step.specs.Tokens.{row_among}
use Rattle.law_moves.proofs.Rows.{among_any, each_map, each_any, each_take, left_any}
use Rattle.law_moves.proofs.Quarantines.{quarantine_any}
use Rattle.def_machine.specs.Rows.{IsLiveOf, IsApart, RowsFit}
use Rattle.law_history.proofs.Listing.{among_each, among_differ, without_each, without_differ}
use Rattle.law_moves.proofs.Objects.{each_unit}

-- each row's object is among others
kept : (objects others : List Object) (tokens : List Token) → ((n : ℕ) → Any (IsLiveOf n) objects → Any (IsLiveOf n) others) → RowsFit objects tokens → RowsFit others tokens
kept objects others tokens f h = record {
  differ = h.differ;
  live = each_map (λ (k : Token). Any (IsLiveOf k.number) objects) (λ (k : Token). Any (IsLiveOf k.number) others) tokens (λ k any. f k.number any) h.live;
}

pub added_fit : (r : Object) (objects : List Object) (tokens : List Token) → RowsFit objects tokens → RowsFit (placed_among r objects) tokens
added_fit r objects tokens h = kept objects (placed_among r objects) tokens (λ n any. among_any (IsLiveOf n) r objects (inr any)) h

pub sealed_fit : (i : Image) (next : ℕ) (r : Object) (k : Token) (objects : List Object) (tokens : List Token) → Each (ObjectFits i next) objects → r.live ≡ true → r.number ≡ next → k.number ≡ r.number → RowsFit objects tokens → RowsFit (placed_among r objects) (row_among k tokens)
sealed_fit i next r k objects tokens fits lives new named h =
    let more = added_fit r objects tokens h in
    record {
      differ = among_differ k tokens (each_map (λ (q : Token). Any (IsLiveOf q.number) objects) (IsApart k.number) tokens (λ q any same. below q any (same ∙ named ∙ new)) h.live) h.differ;
      live = among_each (λ (q : Token). Any (IsLiveOf q.number) (placed_among r objects)) k tokens (among_any (IsLiveOf k.number) r objects (inl (lives, sym named))) more.live;
    }
  where
    below : (q : Token) → Any (IsLiveOf q.number) objects → q.number ≡ next → ⊥
    below q any same = each_take (ObjectFits i next) (IsLiveOf q.number) ⊥ objects (λ o f is. (let low = f.number in let here = is.1 in omega (arith, low, here, same))) fits any

pub gone_fit : (n : ℕ) (objects : List Object) (tokens : List Token) → RowsFit objects tokens → RowsFit (quarantine n objects) (without_row n tokens)
gone_fit n objects tokens h = record {
  differ = without_differ n tokens h.differ;
  live = without_each (λ (k : Token). Any (IsLiveOf k.number) objects) (λ (k : Token). Any (IsLiveOf k.number) (quarantine n objects)) n tokens
      (λ k any other. quarantine_any (λ z. Unit {0}) (IsLiveOf k.number) (IsLiveOf k.number) n objects (λ z u p not. p) (λ z u p is. absurd (other (sym p.1 ∙ is))) (each_unit objects) any)
      h.live;
}

-- ---- a sweep

painted_any : (n : ℕ) (rs : List Object) → Any (IsLiveOf n) rs → Any (IsLiveOf n) (painted rs)
painted_any n [] h = absurd h
painted_any n (q ∷ qs) (inl h) = inl h
painted_any n (q ∷ qs) (inr h) = inr (painted_any n qs h)

pub painted_fit : (objects : List Object) (tokens : List Token) → RowsFit objects tokens → RowsFit (painted objects) tokens
painted_fit objects tokens h = kept objects (painted objects) tokens (λ n any. painted_any n objects any) h

-- a live object isn't painted, and so stays
pub left_fit : (objects : List Object) (tokens : List Token) → Each (λ (r : Object). r.live ≡ true → r.painted ≡ false) objects → RowsFit objects tokens → RowsFit (unpainted objects) tokens
left_fit objects tokens fits h = kept objects (unpainted objects) tokens
    (λ n any. left_any (IsLiveOf n) objects (each_any (λ (r : Object). r.live ≡ true → r.painted ≡ false) (IsLiveOf n) (λ (r : Object). (r.painted ≡ false) × IsLiveOf n r) objects (λ r unpainted is. (unpainted is.0, is)) fits any))
    h
