-- Two pieces that are written one after the other, and one that is empty.
use Rattle.std.proofs.Common.{◌≡◌, ℕ, ◌==◌, true, List, [], ◌∷◌, ◌++◌, length, Option, Some, None, refl, ◌∙◌, ap, sym, subst, arith}
use Rattle.std.proofs.lemmas.Bool.{eqb-true}
use Rattle.std.proofs.lemmas.List.{append_assoc, append-nil}
use Rattle.def_port.specs.Bytes.{FaultsRose, Appends, SinkView}
use Rattle.def_port.specs.Writes.{Writes, WriteFails}
use Rattle.ct_port.proofs.Added.{appends_both}

pub both : (old mid new : SinkView) (first second : List ℕ) → Writes old mid first → Writes mid new second → Writes old new (first ++ second)
both old mid new first second a b = record { added = appends_both old.bytes mid.bytes new.bytes first second a.added b.added; same = b.same ∙ a.same }

pub first_fails : (old new : SinkView) (first second : List ℕ) → WriteFails old new first → WriteFails old new (first ++ second)
first_fails old new first second a = record {
  added = record {
    part = a.added.part;
    rest = a.added.rest ++ second;
    whole = sym (append_assoc a.added.part a.added.rest second) ∙ ap (λ t. t ++ second) a.added.whole;
    added = a.added.added;
  };
  rose = a.rose;
}

pub second_fails : (old mid new : SinkView) (first second : List ℕ) → Writes old mid first → WriteFails mid new second → WriteFails old new (first ++ second)
second_fails old mid new first second a b = record {
  added = record {
    part = first ++ b.added.part;
    rest = b.added.rest;
    whole = append_assoc first b.added.part b.added.rest ∙ ap (λ t. first ++ t) b.added.whole;
    added = appends_both old.bytes mid.bytes new.bytes first b.added.part a.added b.added.added;
  };
  rose = let P : ℕ → Type 0 = λ n. FaultsRose n new.faults in subst P a.same b.rose;
}

appends_none : (old : Option (List ℕ)) → Appends old old []
appends_none None = tt
appends_none (Some before) = ap (λ t. Some t) (sym (append-nil before))

pub nothing : (old : SinkView) → Writes old old []
nothing old = record { added = appends_none old.bytes; same = refl }

-- a line that is empty needs no write
pub wrote_nothing : (old : SinkView) (text : List ℕ) → (length text == 0) ≡ true → Writes old old text
wrote_nothing old [] empty = nothing old
wrote_nothing old (c ∷ cs) empty = let none : length (c ∷ cs) ≡ 0 = eqb-true (length (c ∷ cs)) 0 empty in absurd (omega (arith, none))
