-- What was freed is marked until it leaves.
use Rattle.std.proofs.Common.{ℕ, ◌≡◌, ◌+◌, ◌-◌, ◌*◌, ◌/◌, ◌%◌, ◌≤◌, ◌<◌, inl, inr, ◌&&◌, ◌||◌, Bool, true, false, not, cond, nat_eq, nat_le, nat_lt, List, [], ◌∷◌, Some, find, refl, sym, ap, ◌∙◌, arith, subst}
use Rattle.std.proofs.lemmas.Bool.{eqb-true, eq-eqb}
use Rattle.law_lists.proofs.Tests.{bool_tells, le_tells, lt_tells, both_left, both_right, chosen}
use Rattle.def_memory.specs.declared.Granule.{Granule}
use Rattle.def_memory.specs.Granules.{granule_at}
use Rattle.def_machine.specs.State.{Object}
use Rattle.def_machine.specs.Memory.{is_marked_in}
use Rattle.def_machine.specs.Objects.{Each, quarantine, painted, unpainted, is_painted_at}
use Rattle.def_chunks.specs.declared.rows.Range.{Range}
use Rattle.def_chunks.specs.Heaps.{Distinct}
use Rattle.def_chunks.specs.Kept.{StandsIn, InOrder}
use Rattle.law_chunks.proofs.Rows.{each_more, quarantine_others}
use Rattle.ct_heap.specs.Lookups.{spans_of, whole_of}
use Rattle.run_rows.specs.Swept.{Held}
use Rattle.run_rows.proofs.Rows.{covers, Spared, each_two, each_painted, each_unpainted, each_found, unpainted_spared}

-- what was marked is marked
abbrev pub MarksStay : ℕ → List Granule → List Granule → Type 0
MarksStay ram gs hs = (x : ℕ) → is_marked_in ram gs x ≡ true → is_marked_in ram hs x ≡ true

pub held_on : (ram : ℕ) (gs hs : List Granule) (r : Object) → MarksStay ram gs hs → Held ram gs r → Held ram hs r
held_on ram gs hs r stay h = record { marked = λ dead x inside. stay x (h.marked dead x inside); freed = h.freed }

pub all_held_on : (ram : ℕ) (gs hs : List Granule) (rs : List Object) → MarksStay ram gs hs → Each (λ r. Held ram gs r) rs → Each (λ r. Held ram hs r) rs
all_held_on ram gs hs rs stay h = each_more (λ r. Held ram gs r) (λ r. Held ram hs r) rs (λ r one. held_on ram gs hs r stay one) h

pub same_marks : (ram : ℕ) (gs hs : List Granule) → ((k : ℕ) → (granule_at hs k).mark ≡ (granule_at gs k).mark) → MarksStay ram gs hs
same_marks ram gs hs same x marked = ap (λ b. nat_le ram x && b) (same ((x - ram) / 8)) ∙ marked

-- an address of a painted chunk is marked
pub painted_marked : (ram : ℕ) (gs : List Granule) (rs : List Object) (x : ℕ) → Each (λ r. Held ram gs r) rs → is_painted_at rs x ≡ true → is_marked_in ram gs x ≡ true
painted_marked ram gs [] x h e = absurd (let clash : false ≡ true = e in cc)
painted_marked ram gs (r ∷ rs) x h e = elim (bool_tells (covers r x)) [
  | inl t ↦
      let two : (r.painted && nat_le r.base (x + 8)) ≡ true = both_left (r.painted && nat_le r.base (x + 8)) (nat_lt x (r.base + r.length)) t in
      let high : nat_lt x (r.base + r.length) ≡ true = both_right (r.painted && nat_le r.base (x + 8)) (nat_lt x (r.base + r.length)) t in
      let low : nat_le r.base (x + 8) ≡ true = both_right r.painted (nat_le r.base (x + 8)) two in
      let paint : r.painted ≡ true = both_left r.painted (nat_le r.base (x + 8)) two in
      h.0.marked (h.0.freed paint) x (low_is r.base (x + 8) low, high_is x (r.base + r.length) high)
  | inr t ↦ painted_marked ram gs rs x h.1 (ap (λ b. b || is_painted_at rs x) (sym t) ∙ e)
]
  where
    low_is : (a b : ℕ) → nat_le a b ≡ true → a ≤ b
    low_is a b e = elim (le_tells a b) [ inl t ↦ t.1 | inr t ↦ absurd (let clash : true ≡ false = sym e ∙ t.0 in cc) ]

    high_is : (a b : ℕ) → nat_lt a b ≡ true → a < b
    high_is a b e = elim (lt_tells a b) [ inl t ↦ t.1 | inr t ↦ absurd (let clash : true ≡ false = sym e ∙ t.0 in cc) ]

pub unmarked_unpainted : (ram : ℕ) (gs : List Granule) (rs : List Object) (x : ℕ) → Each (λ r. Held ram gs r) rs → is_marked_in ram gs x ≡ false → is_painted_at rs x ≡ false
unmarked_unpainted ram gs rs x h none = elim (bool_tells (is_painted_at rs x)) [
  | inl e ↦ absurd (let clash : true ≡ false = sym (painted_marked ram gs rs x h e) ∙ none in cc)
  | inr e ↦ e
]

-- ---- freeing

-- what is freed is marked, where it stands at whole granules
abbrev pub MarksNew : Range → List Granule → ℕ → ℕ → Type 0
MarksNew r hs base top = base % 8 ≡ 0 → r.base + 8 ≤ base → (x : ℕ) → base ≤ x + 8 → x < top → is_marked_in r.ram hs x ≡ true

-- what tests of bounds say
record Bounds (base top : ℕ) (r : Object) : Type 0 where
  pub base_is : r.base ≡ base
  pub top_is : r.base + r.length ≡ top

bounds : (quota base top : ℕ) (r : Object) → spans_of quota base top r ≡ true → Bounds base top r
bounds quota base top r e =
    let first : (r.live && nat_eq r.quota quota && nat_eq r.base base) ≡ true = both_left (r.live && nat_eq r.quota quota && nat_eq r.base base) (nat_eq (r.base + r.length) top) e in
    let second : nat_eq (r.base + r.length) top ≡ true = both_right (r.live && nat_eq r.quota quota && nat_eq r.base base) (nat_eq (r.base + r.length) top) e in
    let third : nat_eq r.base base ≡ true = both_right (r.live && nat_eq r.quota quota) (nat_eq r.base base) first in
    record { base_is = eqb-true r.base base third; top_is = eqb-true (r.base + r.length) top second }

-- the first of them is freed
first_freed : (r : Range) (gs hs : List Granule) (base top : ℕ) (q : Object) (qs : List Object) → Bounds base top q → MarksStay r.ram gs hs → MarksNew r hs base top → Distinct (q ∷ qs) → Each (λ p. StandsIn r p) (q ∷ qs)
    → Each (λ p. Held r.ram gs p) (q ∷ qs) → Each (λ p. Held r.ram hs p) (quarantine q.number (q ∷ qs))
first_freed r gs hs base top q qs b stay new distinct stands h =
    let base_is = b.base_is in
    let top_is = b.top_is in
    let whole = stands.0.whole in
    let low = stands.0.low in
    let here : Held r.ram hs (record q { live = false }) = record {
      marked = λ dead x inside. (let from = inside.0 in let to = inside.1 in new (omega (arith, whole, base_is)) (omega (arith, low, base_is)) x (omega (arith, from, base_is)) (omega (arith, to, top_is)));
      freed = λ paint. refl;
    } in
    let tail : Each (λ p. Held r.ram hs p) (quarantine q.number qs) = rw (quarantine_others q.number qs distinct.0) (all_held_on r.ram gs hs qs stay h.1) in
    (chosen (λ p. Held r.ram hs p) (nat_eq q.number q.number) (record q { live = false }) q (λ e. here) (λ e. absurd (let clash : true ≡ false = sym (eq-eqb q.number q.number refl) ∙ e in cc)), tail)

-- by any test that tells these bounds
freed_by : (r : Range) (gs hs : List Granule) (base top : ℕ) (test : Object → Bool) (o : Object) (rs : List Object) → ((q : Object) → test q ≡ true → Bounds base top q) → MarksStay r.ram gs hs → MarksNew r hs base top → Distinct rs → Each (λ q. StandsIn r q) rs
    → find test rs ≡ Some o → Each (λ q. Held r.ram gs q) rs → Each (λ q. Held r.ram hs q) (quarantine o.number rs)
freed_by r gs hs base top test o [] tells stay new distinct stands is h = tt
freed_by r gs hs base top test o (q ∷ qs) tells stay new distinct stands is h = elim (bool_tells (test q)) [
  | inl t ↦
      let found : Some q ≡ Some o = rw t at is in
      let same : q ≡ o = cc in
      let all : Each (λ p. Held r.ram hs p) (quarantine q.number (q ∷ qs)) = first_freed r gs hs base top q qs (tells q t) stay new distinct stands h in
      subst (λ (x : Object). Each (λ p. Held r.ram hs p) (quarantine x.number (q ∷ qs))) same all
  | inr t ↦
      let found : find test qs ≡ Some o = rw t at is in
      let other : o.number ≡ q.number → ⊥ = each_found (λ p. p.number ≡ q.number → ⊥) test o qs found distinct.0 in
      let rest = freed_by r gs hs base top test o qs tells stay new distinct.1 stands.1 found h.1 in
      (chosen (λ p. Held r.ram hs p) (nat_eq q.number o.number) (record q { live = false }) q (λ e. absurd (other (sym (eqb-true q.number o.number e)))) (λ e. held_on r.ram gs hs q stay h.0), rest)
]

pub freed_held : (r : Range) (gs hs : List Granule) (quota base top : ℕ) (o : Object) (rs : List Object) → MarksStay r.ram gs hs → MarksNew r hs base top → Distinct rs → Each (λ q. StandsIn r q) rs
    → whole_of quota base top rs ≡ Some o → Each (λ q. Held r.ram gs q) rs → Each (λ q. Held r.ram hs q) (quarantine o.number rs)
freed_held r gs hs quota base top o rs stay new distinct stands is h = freed_by r gs hs base top (spans_of quota base top) o rs (bounds quota base top) stay new distinct stands is h

-- ---- painting

pub painted_held : (ram : ℕ) (gs hs : List Granule) (rs : List Object) → MarksStay ram gs hs → Each (λ r. Held ram gs r) rs → Each (λ r. Held ram hs r) (painted rs)
painted_held ram gs hs rs stay h =
    each_painted (λ r. Held ram gs r) (λ r. Held ram hs r) rs
    (λ r one. record { marked = λ dead x inside. stay x (one.marked dead x inside); freed = λ paint. was_dead r.live paint })
    h
  where
    was_dead : (live : Bool) → not live ≡ true → live ≡ false
    was_dead true e = absurd (let clash : false ≡ true = e in cc)
    was_dead false e = refl

-- ---- flushing

-- the painted objects left, and the marks of their granules are cleared
abbrev pub MarksLeft : ℕ → List Object → List Granule → List Granule → Type 0
MarksLeft ram rs gs hs = (k : ℕ) → (granule_at hs k).mark ≡ cond (is_painted_at rs (ram + 8 * k)) false (granule_at gs k).mark

pub flushed_held : (r : Range) (gs hs : List Granule) (rs : List Object) → r.ram % 8 ≡ 0 → r.ram ≤ r.base → MarksLeft r.ram rs gs hs → InOrder rs → Each (λ q. StandsIn r q) rs → Each (λ q. Held r.ram gs q) rs → Each (λ q. Held r.ram hs q) (unpainted rs)
flushed_held r gs hs rs even above left ordered stands h =
    each_unpainted (λ q. (Spared rs q × StandsIn r q) × Held r.ram gs q) (λ q. Held r.ram hs q) rs
    (λ q none known. record {
      marked = λ dead x inside.
          let from = inside.0 in
          let to = inside.1 in
          let whole = known.0.1.whole in
          let low = known.0.1.low in
          let granule : ℕ = (x - r.ram) / 8 in
          let apart : is_painted_at rs (r.ram + 8 * granule) ≡ false = known.0.0 none (r.ram + 8 * granule) (omega (arith, from, whole, low, even, above), omega (arith, to, from, low, above)) in
          let same : (granule_at hs granule).mark ≡ (granule_at gs granule).mark = left granule ∙ ap (λ b. cond b false (granule_at gs granule).mark) apart in
          ap (λ b. nat_le r.ram x && b) same ∙ known.1.marked dead x inside;
      freed = known.1.freed;
    })
    (each_two (λ q. Spared rs q × StandsIn r q) (λ q. Held r.ram gs q) (λ q. (Spared rs q × StandsIn r q) × Held r.ram gs q) rs (λ q a b. (a, b))
    (each_two (Spared rs) (λ q. StandsIn r q) (λ q. Spared rs q × StandsIn r q) rs (λ q a b. (a, b)) (unpainted_spared rs ordered) stands) h)
