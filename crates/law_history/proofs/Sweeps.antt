-- Tokens and keys at a sweep: what was quarantined leaves, and so does every capability of it.
use Rattle.std.proofs.Common.{ℕ, ◌≡◌, ◌+◌, ◌≤◌, ◌<◌, inl, inr, ◌⊎◌, false, List, [], ◌∷◌, refl, arith}
use Rattle.def_words.specs.declared.Cap.{Cap}
use Rattle.def_words.specs.Authority.{cap_base, cap_top}
use Rattle.def_machine.specs.Image.{Image}
use Rattle.def_machine.specs.State.{State, Object, Token}
use Rattle.def_machine.specs.Objects.{Any, Each, painted, unpainted}
use Rattle.def_machine.specs.Heap.{slice_end, sweep_over, with_slice, swept}
use Rattle.def_confined.specs.Confined.{Confined, Apart, AllApart}
use Rattle.def_confined.specs.Partitioned.{Partitioned}
use Rattle.def_confined.specs.Places.{Covers}
use Rattle.def_safety.specs.Everywhere.{Everywhere}
use Rattle.def_safety.specs.Tokened.{IsWhole, TokenFits}
use Rattle.def_events.specs.Passes.{Widens}
use Rattle.law_history.proofs.Changes.{with_slice_has, sweep_over_has}
use Rattle.law_moves.proofs.Rows.{each_take, any_left, left_any, left_each}
use Rattle.law_history.proofs.Sweeping.{swept_case, sliced_case}
use Rattle.law_history.proofs.Everywheres.{OfObject, both, objects_everywhere}
use Rattle.law_history.proofs.Fitting.{AllFit, moved}
use Rattle.law_history.proofs.Naming.{Named}
use Rattle.law_history.proofs.Passing.{fits_pass}
use Rattle.law_moves.proofs.Begins.{paint_apart, begun}

-- ---- objects

-- two that can't be apart are one, and it is both
same_row : (P Q : Object → Type 0) (rows : List Object) → ((r q : Object) → P r → Q q → Apart r q → ⊥) → ((r q : Object) → P r → Q q → Apart q r → ⊥) → AllApart rows → Any P rows → Any Q rows → Any (λ r. P r × Q r) rows
same_row P Q [] l k a p q = absurd p
same_row P Q (r ∷ rs) l k a (inl p) (inl q) = inl (p, q)
same_row P Q (r ∷ rs) l k a (inl p) (inr q) = each_take (Apart r) Q (Any (λ r. P r × Q r) (r ∷ rs)) rs (λ x apart here. absurd (l r x p here apart)) a.0 q
same_row P Q (r ∷ rs) l k a (inr p) (inl q) = each_take (Apart r) P (Any (λ r. P r × Q r) (r ∷ rs)) rs (λ x apart here. absurd (k x r here q apart)) a.0 p
same_row P Q (r ∷ rs) l k a (inr p) (inr q) = inr (same_row P Q rs l k a.1 p q)

painted_long : (rs : List Object) → Each (λ (r : Object). 0 < r.length) rs → Each (λ (r : Object). 0 < r.length) (painted rs)
painted_long [] h = tt
painted_long (r ∷ rs) h = (h.0, painted_long rs h.1)

painted_whole : (tokens : List Token) (c : Cap) (rs : List Object) → Any (IsWhole tokens c) rs → Any (IsWhole tokens c) (painted rs)
painted_whole tokens c [] h = h
painted_whole tokens c (r ∷ rs) (inl w) = inl (record { covers = record { number = w.covers.number; quota = w.covers.quota; low = w.covers.low; high = w.covers.high }; low = w.low; high = w.high; row = w.row })
painted_whole tokens c (r ∷ rs) (inr h) = inr (painted_whole tokens c rs h)

-- what isn't empty lies in one chunk alone
filled : (tokens : List Token) (c : Cap) (objects : List Object) → Each (λ (r : Object). 0 < r.length) objects → Any (IsWhole tokens c) objects → cap_base c < cap_top c
filled tokens c objects some any = each_take (λ (r : Object). 0 < r.length) (IsWhole tokens c) (cap_base c < cap_top c) objects (λ r long w. (let low = w.low in let high = w.high in omega (arith, long, low, high))) some any

left_whole : (tokens : List Token) (c : Cap) (objects : List Object) → cap_base c < cap_top c → AllApart objects → Any (IsWhole tokens c) objects → Any (Covers c) (unpainted objects) → Any (IsWhole tokens c) (unpainted objects)
left_whole tokens c objects some apart whole left =
    left_any (IsWhole tokens c) objects (pick objects (same_row (IsWhole tokens c) (λ r. (r.painted ≡ false) × Covers c r) objects
    (λ r q w k a. clash r q w k.1 a.1) (λ r q w k a. clash r q w k.1 (elim a.1 [ inl b ↦ inr b | inr b ↦ inl b ])) apart whole (any_left (Covers c) objects left)))
  where
    clash : (r q : Object) → IsWhole tokens c r → Covers c q → (r.base + r.length + 8 ≤ q.base) ⊎ (q.base + q.length + 8 ≤ r.base) → ⊥
    clash r q w k a =
        let low = w.low in
        let high = w.high in
        let under = k.low in
        let over = k.high in
        elim a [ inl b ↦ omega (arith, b, low, high, under, over, some) | inr b ↦ omega (arith, b, low, high, under, over, some) ]

    pick : (rs : List Object) → Any (λ r. IsWhole tokens c r × ((r.painted ≡ false) × Covers c r)) rs → Any (λ r. (r.painted ≡ false) × IsWhole tokens c r) rs
    pick [] h = h
    pick (r ∷ rs) (inl h) = inl (h.1.0, h.0)
    pick (r ∷ rs) (inr h) = inr (pick rs h)

-- ---- what is sealed as a token

abbrev IfFits : Image → State → Type 0
IfFits i z = Confined i z → AllFit i z

same_widens : (i : Image) (objects : List Object) (tokens : List Token) → Widens (TokenFits i objects tokens) (TokenFits i objects tokens)
same_widens i objects tokens = (fits_pass i objects tokens).widens

on_fit : (i : Image) (z : State) (x : ℕ) → AllFit i z → AllFit i (with_slice i z x (slice_end i z x))
on_fit i z x h = with_slice_has (TokenFits i z.objects z.tokens) (TokenFits i z.objects z.tokens) (same_widens i z.objects z.tokens) i z x (slice_end i z x) h

over_fit : (i : Image) (z : State) → Partitioned i → Each (λ (r : Object). 0 < r.length) z.objects → AllApart z.objects → AllFit i z → IfFits i (sweep_over i z)
over_fit i z parts some apart h = λ held.
    let before : Everywhere (TokenFits i z.objects z.tokens) (sweep_over i z) = sweep_over_has (TokenFits i z.objects z.tokens) (TokenFits i z.objects z.tokens) (same_widens i z.objects z.tokens) i z h in
    both (TokenFits i z.objects z.tokens) (OfObject i (sweep_over i z)) (TokenFits i (unpainted z.objects) z.tokens)
    (λ c fits of tagged is.
    let whole = fits tagged is in
    let long = filled z.tokens c z.objects some whole.1 in
    (whole.0, left_whole z.tokens c z.objects long apart whole.1 (of tagged whole.0 long)))
    (sweep_over i z) before (objects_everywhere i (sweep_over i z) parts held)

begun_fit : (i : Image) (s : State) → AllFit i s → AllFit i (begun s)
begun_fit i s h =
    let more : Everywhere (TokenFits i (painted s.objects) s.tokens) s = moved i s.objects (painted s.objects) s.tokens s.tokens (λ c any. painted_whole s.tokens c s.objects any) s h in
    record { granules = more.granules; threads = more.threads }

pub swept_fit : (i : Image) (s : State) → Partitioned i → Confined i s → Each (λ (r : Object). 0 < r.length) s.objects → AllFit i s → Confined i (swept i s) → AllFit i (swept i s)
swept_fit i s parts held some h = swept_case (IfFits i) i s
    (λ idle none after. h)
    (λ idle begins. sliced_case (IfFits i) i (begun s) 0
    (λ whole. over_fit i (with_slice i (begun s) 0 (slice_end i (begun s) 0)) parts (painted_long s.objects some) (paint_apart s.objects held.apart) (on_fit i (begun s) 0 (begun_fit i s h)))
    (λ part after. on_fit i (begun s) 0 (begun_fit i s h)))
    (λ x runs. sliced_case (IfFits i) i s x
    (λ whole. over_fit i (with_slice i s x (slice_end i s x)) parts some held.apart (on_fit i s x h))
    (λ part after. on_fit i s x h))

-- ---- whatever else holds everywhere, where objects have no part in it

pub swept_has : (P : Cap → Type 0) → Widens P P → (i : Image) (s : State) → Everywhere P s → Everywhere P (swept i s)
swept_has P w i s h = swept_case (Everywhere P) i s
    (λ idle none. h)
    (λ idle begins. sliced_case (Everywhere P) i (begun s) 0
    (λ whole. sweep_over_has P P w i (with_slice i (begun s) 0 (slice_end i (begun s) 0)) (with_slice_has P P w i (begun s) 0 (slice_end i (begun s) 0) (record { granules = h.granules; threads = h.threads })))
    (λ part. with_slice_has P P w i (begun s) 0 (slice_end i (begun s) 0) (record { granules = h.granules; threads = h.threads })))
    (λ x runs. sliced_case (Everywhere P) i s x
    (λ whole. sweep_over_has P P w i (with_slice i s x (slice_end i s x)) (with_slice_has P P w i s x (slice_end i s x) h))
    (λ part. with_slice_has P P w i s x (slice_end i s x) h))

-- ---- rows

pub swept_rows : (i : Image) (s : State) → (swept i s).tokens ≡ s.tokens
swept_rows i s = swept_case (λ (z : State). z.tokens ≡ s.tokens) i s (λ idle none. refl)
    (λ idle begins. sliced_case (λ (z : State). z.tokens ≡ s.tokens) i (begun s) 0 (λ whole. refl) (λ part. refl))
    (λ x runs. sliced_case (λ (z : State). z.tokens ≡ s.tokens) i s x (λ whole. refl) (λ part. refl))

pub swept_named : (i : Image) (s : State) → Named s.objects s.tokens → Named (swept i s).objects (swept i s).tokens
swept_named i s h = swept_case (λ (z : State). Named z.objects z.tokens) i s (λ idle none. h)
    (λ idle begins. sliced_case (λ (z : State). Named z.objects z.tokens) i (begun s) 0
    (λ whole. record { some = left_each (λ (r : Object). 0 < r.length) (painted s.objects) (painted_long s.objects h.some); named = h.named })
    (λ part. record { some = painted_long s.objects h.some; named = h.named }))
    (λ x runs. sliced_case (λ (z : State). Named z.objects z.tokens) i s x
    (λ whole. record { some = left_each (λ (r : Object). 0 < r.length) s.objects h.some; named = h.named }) (λ part. h))
