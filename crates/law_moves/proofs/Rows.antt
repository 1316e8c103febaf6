-- Objects as rows: one of them, each of them, what stays when some leave.
use Rattle.std.proofs.Common.{ℕ, ◌≡◌, ◌+◌, ◌≤◌, ◌<◌, ◌⊎◌, inl, inr, ◌&&◌, Bool, true, false, cond, nat_eq, nat_lt, List, [], ◌∷◌, refl, sym, ap, ◌∙◌, arith}
use Rattle.law_lists.proofs.Tests.{chosen, bool_tells}
use Rattle.def_machine.specs.State.{Object}
use Rattle.def_machine.specs.Objects.{Any, Each, charges, unpainted, placed_among}
use Rattle.def_confined.specs.Confined.{Apart, AllApart}

pub any_map : {A : Type 0} (P Q : A → Type 0) (xs : List A) → ((x : A) → P x → Q x) → Any P xs → Any Q xs
any_map P Q [] f h = h
any_map P Q (x ∷ xs) f (inl p) = inl (f x p)
any_map P Q (x ∷ xs) f (inr h) = inr (any_map P Q xs f h)

-- of each and of one: of one both
pub each_any : {A : Type 0} (P Q R : A → Type 0) (xs : List A) → ((x : A) → P x → Q x → R x) → Each P xs → Any Q xs → Any R xs
each_any P Q R [] f e h = h
each_any P Q R (x ∷ xs) f e (inl q) = inl (f x e.0 q)
each_any P Q R (x ∷ xs) f e (inr h) = inr (each_any P Q R xs f e.1 h)

pub any_take : {A : Type 0} (P : A → Type 0) (G : Type 0) (xs : List A) → ((x : A) → P x → G) → Any P xs → G
any_take P G [] f h = absurd h
any_take P G (x ∷ xs) f (inl p) = f x p
any_take P G (x ∷ xs) f (inr h) = any_take P G xs f h

pub each_map : {A : Type 0} (P Q : A → Type 0) (xs : List A) → ((x : A) → P x → Q x) → Each P xs → Each Q xs
each_map P Q [] f h = tt
each_map P Q (x ∷ xs) f h = (f x h.0, each_map P Q xs f h.1)

-- of each and of one: of that one both
pub each_take : {A : Type 0} (P Q : A → Type 0) (G : Type 0) (xs : List A) → ((x : A) → P x → Q x → G) → Each P xs → Any Q xs → G
each_take P Q G [] f e h = absurd h
each_take P Q G (x ∷ xs) f e (inl q) = f x e.0 q
each_take P Q G (x ∷ xs) f e (inr h) = each_take P Q G xs f e.1 h

-- two that can't be apart are one
pub one_row : (P Q : Object → Type 0) (G : Type 0) (rows : List Object) → ((r q : Object) → P r → Q q → Apart r q → ⊥) → ((r q : Object) → P r → Q q → Apart q r → ⊥)
    → ((r : Object) → P r → Q r → G) → AllApart rows → Any P rows → Any Q rows → G
one_row P Q G [] l k f a p q = absurd p
one_row P Q G (r ∷ rs) l k f a (inl p) (inl q) = f r p q
one_row P Q G (r ∷ rs) l k f a (inl p) (inr q) = each_take (Apart r) Q G rs (λ x apart here. absurd (l r x p here apart)) a.0 q
one_row P Q G (r ∷ rs) l k f a (inr p) (inl q) = each_take (Apart r) P G rs (λ x apart here. absurd (k x r here q apart)) a.0 p
one_row P Q G (r ∷ rs) l k f a (inr p) (inr q) = one_row P Q G rs l k f a.1 p q

abbrev pub Holds : ℕ → Object → Type 0
Holds x r = (r.base ≤ x) × (x < r.base + r.length)

-- two with one address are one
pub one_at : (P Q : Object → Type 0) (G : Type 0) (x : ℕ) (rows : List Object) → ((r : Object) → P r → Holds x r) → ((r : Object) → Q r → Holds x r)
    → ((r : Object) → P r → Q r → G) → AllApart rows → Any P rows → Any Q rows → G
one_at P Q G x rows in_p in_q f a p q = one_row P Q G rows
    (λ r z here there apart. let m = in_p r here in let n = in_q z there in elim apart.1 [ inl b ↦ omega (arith, b, m.0, m.1, n.0, n.1) | inr b ↦ omega (arith, b, m.0, m.1, n.0, n.1) ])
    (λ r z here there apart. let m = in_p r here in let n = in_q z there in elim apart.1 [ inl b ↦ omega (arith, b, m.0, m.1, n.0, n.1) | inr b ↦ omega (arith, b, m.0, m.1, n.0, n.1) ])
    f a p q

-- two with one number are one
pub one_number : (P Q : Object → Type 0) (G : Type 0) (x : ℕ) (rows : List Object) → ((r : Object) → P r → r.number ≡ x) → ((r : Object) → Q r → r.number ≡ x)
    → ((r : Object) → P r → Q r → G) → AllApart rows → Any P rows → Any Q rows → G
one_number P Q G x rows in_p in_q f a p q = one_row P Q G rows
    (λ r z here there apart. apart.0 (in_p r here ∙ sym (in_q z there)))
    (λ r z here there apart. apart.0 (in_q z there ∙ sym (in_p r here)))
    f a p q

-- what a choice has, one of its cases has
pub taken : {A : Type 0} (P : A → Type 0) (G : Type 0) (b : Bool) (x y : A) → (b ≡ true → P x → G) → (b ≡ false → P y → G) → P (cond b x y) → G
taken P G true x y f g h = f refl h
taken P G false x y f g h = g refl h

-- ---- the painted leave

pub left_any : (P : Object → Type 0) (rows : List Object) → Any (λ r. (r.painted ≡ false) × P r) rows → Any P (unpainted rows)
left_any P [] h = h
left_any P (r ∷ rs) (inl h) = chosen (Any P) r.painted (unpainted rs) (r ∷ unpainted rs) (λ is. absurd (let clash : true ≡ false = sym is ∙ h.0 in cc)) (λ not. inl h.1)
left_any P (r ∷ rs) (inr h) = chosen (Any P) r.painted (unpainted rs) (r ∷ unpainted rs) (λ is. left_any P rs h) (λ not. inr (left_any P rs h))

pub any_left : (P : Object → Type 0) (rows : List Object) → Any P (unpainted rows) → Any (λ r. (r.painted ≡ false) × P r) rows
any_left P [] h = h
any_left P (r ∷ rs) h = taken (Any P) (((r.painted ≡ false) × P r) ⊎ Any (λ q. (q.painted ≡ false) × P q) rs) r.painted (unpainted rs) (r ∷ unpainted rs)
    (λ is k. inr (any_left P rs k))
    (λ not k. elim k [ inl p ↦ inl (not, p) | inr more ↦ inr (any_left P rs more) ])
    h

pub left_each : (P : Object → Type 0) (rows : List Object) → Each P rows → Each P (unpainted rows)
left_each P [] h = tt
left_each P (r ∷ rs) h = chosen (Each P) r.painted (unpainted rs) (r ∷ unpainted rs) (λ is. left_each P rs h.1) (λ not. (h.0, left_each P rs h.1))

pub left_apart : (rows : List Object) → AllApart rows → AllApart (unpainted rows)
left_apart [] h = tt
left_apart (r ∷ rs) h = chosen AllApart r.painted (unpainted rs) (r ∷ unpainted rs) (λ is. left_apart rs h.1) (λ not. (left_each (Apart r) rs h.0, left_apart rs h.1))

pub left_charges : (q : ℕ) (rows : List Object) → Each (λ r. r.live ≡ true → r.painted ≡ false) rows → charges q (unpainted rows) ≡ charges q rows
left_charges q [] h = refl
left_charges q (r ∷ rs) h = chosen (λ z. charges q z ≡ cond (r.live && nat_eq r.quota q) r.charge 0 + charges q rs) r.painted (unpainted rs) (r ∷ unpainted rs)
    (λ is.
    let dead : r.live ≡ false = elim (bool_tells r.live) [ inl yes_ ↦ absurd (let clash : true ≡ false = sym is ∙ h.0 yes_ in cc) | inr no_ ↦ no_ ] in
    let none : cond (r.live && nat_eq r.quota q) r.charge 0 ≡ 0 = ap (λ b. cond (b && nat_eq r.quota q) r.charge 0) dead in
    left_charges q rs h.1 ∙ (omega (arith, none)))
    (λ not. ap (λ n. cond (r.live && nat_eq r.quota q) r.charge 0 + n) (left_charges q rs h.1))

-- ---- one among them

pub among_any : (P : Object → Type 0) (r : Object) (rows : List Object) → P r ⊎ Any P rows → Any P (placed_among r rows)
among_any P r [] (inl h) = inl h
among_any P r [] (inr h) = absurd h
among_any P r (q ∷ qs) h = chosen (Any P) (nat_lt r.base q.base) (r ∷ q ∷ qs) (q ∷ placed_among r qs)
    (λ is. elim h [ inl a ↦ inl a | inr b ↦ inr b ])
    (λ not. elim h [ inl a ↦ inr (among_any P r qs (inl a)) | inr b ↦ elim b [ inl c ↦ inl c | inr d ↦ inr (among_any P r qs (inr d)) ] ])

pub any_among : (P : Object → Type 0) (r : Object) (rows : List Object) → Any P (placed_among r rows) → P r ⊎ Any P rows
any_among P r [] h = h
any_among P r (q ∷ qs) h = taken (Any P) (P r ⊎ Any P (q ∷ qs)) (nat_lt r.base q.base) (r ∷ q ∷ qs) (q ∷ placed_among r qs)
    (λ is k. k)
    (λ not k. elim k [ inl a ↦ inr (inl a) | inr b ↦ elim (any_among P r qs b) [ inl c ↦ inl c | inr d ↦ inr (inr d) ] ])
    h

pub among_each : (P : Object → Type 0) (r : Object) (rows : List Object) → P r → Each P rows → Each P (placed_among r rows)
among_each P r [] a b = (a, tt)
among_each P r (q ∷ qs) a b = chosen (Each P) (nat_lt r.base q.base) (r ∷ q ∷ qs) (q ∷ placed_among r qs) (λ is. (a, b)) (λ not. (b.0, among_each P r qs a b.1))

apart_back : (r q : Object) → Apart r q → Apart q r
apart_back r q h = ((λ e. h.0 (sym e)), elim h.1 [ inl a ↦ inr a | inr b ↦ inl b ])

pub among_apart : (r : Object) (rows : List Object) → Each (Apart r) rows → AllApart rows → AllApart (placed_among r rows)
among_apart r [] a b = (tt, tt)
among_apart r (q ∷ qs) a b = chosen AllApart (nat_lt r.base q.base) (r ∷ q ∷ qs) (q ∷ placed_among r qs) (λ is. (a, b)) (λ not. (among_each (Apart q) r qs (apart_back r q a.0) b.0, among_apart r qs a.1 b.1))

pub among_charges : (q : ℕ) (r : Object) (rows : List Object) → charges q (placed_among r rows) ≡ cond (r.live && nat_eq r.quota q) r.charge 0 + charges q rows
among_charges q r [] = refl
among_charges q r (x ∷ xs) = chosen (λ z. charges q z ≡ cond (r.live && nat_eq r.quota q) r.charge 0 + (cond (x.live && nat_eq x.quota q) x.charge 0 + charges q xs)) (nat_lt r.base x.base) (r ∷ x ∷ xs) (x ∷ placed_among r xs)
    (λ is. refl)
    (λ not. let rest = among_charges q r xs in omega (arith, rest))
