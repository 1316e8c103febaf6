-- Rows among others, and those that are left where one goes.
use Rattle.std.proofs.Common.{ℕ, ◌==◌, not, nat_lt, List, [], ◌∷◌, sym}
use Rattle.std.proofs.lemmas.Bool.{eqb-false, not-true}
use Rattle.law_lists.proofs.Tests.{chosen}
use Rattle.def_machine.specs.State.{Token}
use Rattle.def_machine.specs.Objects.{Each}
use Rattle.def_step.specs.Quotas.{without_row}
use Rattle.def_step.specs.Tokens.{row_among}
use Rattle.def_machine.specs.Rows.{IsApart, RowsDiffer}

pub among_each : (P : Token → Type 0) (k : Token) (ks : List Token) → P k → Each P ks → Each P (row_among k ks)
among_each P k [] a b = (a, tt)
among_each P k (q ∷ qs) a b = chosen (Each P) (nat_lt k.number q.number) (k ∷ q ∷ qs) (q ∷ row_among k qs) (λ is. (a, b)) (λ not. (b.0, among_each P k qs a b.1))

pub among_differ : (k : Token) (ks : List Token) → Each (IsApart k.number) ks → RowsDiffer ks → RowsDiffer (row_among k ks)
among_differ k [] a b = (tt, tt)
among_differ k (q ∷ qs) a b = chosen RowsDiffer (nat_lt k.number q.number) (k ∷ q ∷ qs) (q ∷ row_among k qs)
    (λ is. (a, b))
    (λ not. (among_each (IsApart q.number) k qs (λ e. a.0 (sym e)) b.0, among_differ k qs a.1 b.1))

pub without_each : (P Q : Token → Type 0) (n : ℕ) (ks : List Token) → ((k : Token) → P k → IsApart n k → Q k) → Each P ks → Each Q (without_row n ks)
without_each P Q n [] f h = tt
without_each P Q n (k ∷ ks) f h = chosen (Each Q) (not (k.number == n)) (k ∷ without_row n ks) (without_row n ks)
    (λ other. (f k h.0 (eqb-false k.number n (not-true (k.number == n) other)), without_each P Q n ks f h.1))
    (λ same. without_each P Q n ks f h.1)

pub without_differ : (n : ℕ) (ks : List Token) → RowsDiffer ks → RowsDiffer (without_row n ks)
without_differ n [] h = tt
without_differ n (k ∷ ks) h = chosen RowsDiffer (not (k.number == n)) (k ∷ without_row n ks) (without_row n ks)
    (λ other. (without_each (IsApart k.number) (IsApart k.number) n ks (λ q apart gone. apart) h.0, without_differ n ks h.1))
    (λ same. without_differ n ks h.1)
