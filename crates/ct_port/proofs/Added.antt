-- Text that a loop appends piece by piece: it starts with nothing added, goes on with each piece,
-- ends where nothing is left, and fails with a part of the whole.
use Rattle.std.proofs.Common.{◌≡◌, ℕ, List, [], ◌++◌, Option, Some, None, refl, ap, sym, subst, ◌∙◌}
use Rattle.std.proofs.lemmas.List.{append-nil, append_assoc}
use Rattle.def_port.specs.Bytes.{Appends, AppendsPart, AppendsBefore}

-- nothing added twice is both
pub appends_both : (old mid new : Option (List ℕ)) (first second : List ℕ) → Appends old mid first → Appends mid new second → Appends old new (first ++ second)
appends_both None mid new first second a b = tt
appends_both (Some before) mid new first second a b =
    let here : Appends (Some (before ++ first)) new second = subst (λ m. Appends m new second) a b in
    here ∙ ap (λ t. Some t) (append_assoc before first second)

pub starts : (old : Option (List ℕ)) (text : List ℕ) → AppendsBefore old old text text
starts None text = record { part = []; whole = refl; added = tt }
starts (Some before) text = record { part = []; whole = refl; added = ap (λ t. Some t) (sym (append-nil before)) }

pub goes_on : (old mid new : Option (List ℕ)) (piece left text : List ℕ) → AppendsBefore old mid (piece ++ left) text → Appends mid new piece → AppendsBefore old new left text
goes_on old mid new piece left text so_far added = record {
  part = so_far.part ++ piece;
  whole = append_assoc so_far.part piece left ∙ so_far.whole;
  added = appends_both old mid new so_far.part piece so_far.added added;
}

pub ends : (old new : Option (List ℕ)) (text : List ℕ) → AppendsBefore old new [] text → Appends old new text
ends old new text so_far =
    let all : so_far.part ≡ text = sym (append-nil so_far.part) ∙ so_far.whole in
    subst (λ t. Appends old new t) all so_far.added

pub fails : (old mid new : Option (List ℕ)) (piece left text : List ℕ) → AppendsBefore old mid (piece ++ left) text → AppendsPart mid new piece → AppendsPart old new text
fails old mid new piece left text so_far broke = record {
  part = so_far.part ++ broke.part;
  rest = broke.rest ++ left;
  whole = append_assoc so_far.part broke.part (broke.rest ++ left)
      ∙ ap (λ t. so_far.part ++ t) (sym (append_assoc broke.part broke.rest left) ∙ ap (λ t. t ++ left) broke.whole)
      ∙ so_far.whole;
  added = appends_both old mid new so_far.part broke.part so_far.added broke.added;
}
