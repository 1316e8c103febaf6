-- Objects when one of them is quarantined.
use Rattle.std.proofs.Common.{ℕ, ◌≡◌, ◌+◌, ◌≤◌, inl, inr, ◌&&◌, false, cond, nat_eq, List, [], ◌∷◌, sym, ap, ◌∙◌, arith}
use Rattle.law_lists.proofs.Tests.{chosen}
use Rattle.std.proofs.lemmas.Bool.{eqb-true, eqb-false}
use Rattle.def_machine.specs.State.{Object}
use Rattle.def_machine.specs.Objects.{Any, Each, charges, quarantine}
use Rattle.def_confined.specs.Confined.{Apart, AllApart}
use Rattle.law_moves.proofs.Rows.{each_take, taken}

abbrev pub gone : Object → Object
gone r = record r { live = false }

pub quarantine_any : (E P Q : Object → Type 0) (n : ℕ) (rs : List Object) → ((r : Object) → E r → P r → (r.number ≡ n → ⊥) → Q r) → ((r : Object) → E r → P r → r.number ≡ n → Q (gone r)) → Each E rs → Any P rs → Any Q (quarantine n rs)
quarantine_any E P Q n [] f g e h = absurd h
quarantine_any E P Q n (r ∷ rs) f g e (inl p) = inl (chosen Q (nat_eq r.number n) (gone r) r (λ is. g r e.0 p (eqb-true r.number n is)) (λ not. f r e.0 p (eqb-false r.number n not)))
quarantine_any E P Q n (r ∷ rs) f g e (inr h) = inr (quarantine_any E P Q n rs f g e.1 h)

pub any_quarantine : (E P Q : Object → Type 0) (n : ℕ) (rs : List Object) → ((r : Object) → E r → Q r → (r.number ≡ n → ⊥) → P r) → ((r : Object) → E r → Q (gone r) → r.number ≡ n → P r) → Each E rs → Any Q (quarantine n rs) → Any P rs
any_quarantine E P Q n [] f g e h = absurd h
any_quarantine E P Q n (r ∷ rs) f g e (inl q) = inl (taken Q (P r) (nat_eq r.number n) (gone r) r (λ is there. g r e.0 there (eqb-true r.number n is)) (λ not there. f r e.0 there (eqb-false r.number n not)) q)
any_quarantine E P Q n (r ∷ rs) f g e (inr h) = inr (any_quarantine E P Q n rs f g e.1 h)

pub quarantine_each : (P Q : Object → Type 0) (n : ℕ) (rs : List Object) → ((r : Object) → P r → Q r) → ((r : Object) → P r → Q (gone r)) → Each P rs → Each Q (quarantine n rs)
quarantine_each P Q n [] f g h = tt
quarantine_each P Q n (r ∷ rs) f g h = (chosen Q (nat_eq r.number n) (gone r) r (λ is. g r h.0) (λ not. f r h.0), quarantine_each P Q n rs f g h.1)

apart_gone : (r q : Object) → Apart r q → Apart r (gone q)
apart_gone r q a = (a.0, a.1)

gone_apart : (r q : Object) → Apart r q → Apart (gone r) q
gone_apart r q a = (a.0, a.1)

pub quarantine_apart : (n : ℕ) (rs : List Object) → AllApart rs → AllApart (quarantine n rs)
quarantine_apart n [] h = tt
quarantine_apart n (r ∷ rs) h = (
  quarantine_each (Apart r) (Apart (cond (nat_eq r.number n) (gone r) r)) n rs
      (λ q a. chosen (λ z. Apart z q) (nat_eq r.number n) (gone r) r (λ is. gone_apart r q a) (λ not. a))
      (λ q a. chosen (λ z. Apart z (gone q)) (nat_eq r.number n) (gone r) r (λ is. gone_apart r (gone q) (apart_gone r q a)) (λ not. apart_gone r q a))
      h.0,
  quarantine_apart n rs h.1,
)

-- what is quarantined isn't charged
pub quarantine_charges : (q n : ℕ) (rs : List Object) → charges q (quarantine n rs) ≤ charges q rs
quarantine_charges q n [] = omega arith
quarantine_charges q n (r ∷ rs) =
    let rest : charges q (quarantine n rs) ≤ charges q rs = quarantine_charges q n rs in
    chosen (λ (z : Object). cond (z.live && nat_eq z.quota q) z.charge 0 + charges q (quarantine n rs) ≤ cond (r.live && nat_eq r.quota q) r.charge 0 + charges q rs) (nat_eq r.number n) (gone r) r
    (λ is. omega (arith, rest)) (λ not. omega (arith, rest))

-- there is one object of a number
pub one_there : (r : Object) (rs : List Object) → AllApart rs → Any (λ q. q ≡ r) rs → Each (λ q. q.number ≡ r.number → q ≡ r) rs
one_there r [] a h = tt
one_there r (x ∷ xs) a (inl e) =
    ((λ same. e), each_are (Apart x) (λ q. q.number ≡ r.number → q ≡ r) xs (λ q apart same. absurd (apart.0 (ap (λ (z : Object). z.number) e ∙ sym same))) a.0)
  where
    each_are : (P Q : Object → Type 0) (ys : List Object) → ((y : Object) → P y → Q y) → Each P ys → Each Q ys
    each_are P Q [] f h = tt
    each_are P Q (y ∷ ys) f h = (f y h.0, each_are P Q ys f h.1)
one_there r (x ∷ xs) a (inr h) =
    ((λ same. absurd (each_take (Apart x) (λ q. q ≡ r) ⊥ xs (λ q apart is. apart.0 (same ∙ sym (ap (λ (z : Object). z.number) is))) a.0 h)), one_there r xs a.1 h)
