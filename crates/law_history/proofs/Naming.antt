-- A key has a row as long as a token's row names it: no key is ever freed. And no object is empty.
use Rattle.std.proofs.Common.{ℕ, ◌≡◌, ◌+◌, ◌≤◌, ◌<◌, inl, inr, ◌==◌, ◌&&◌, Bool, true, List, [], ◌∷◌, Option, Some, None, sym, ◌∙◌, subst, arith}
use Rattle.std.specs.Prelude.{find}
use Rattle.std.proofs.lemmas.Bool.{eqb-true, and_parts}
use Rattle.law_lists.proofs.Tests.{chosen, bool_tells}
use Rattle.def_words.specs.declared.Cap.{Cap}
use Rattle.def_words.specs.Authority.{cap_base, cap_top}
use Rattle.def_words.specs.Seals.{cap_seal, is_unsealed}
use Rattle.def_machine.specs.Platform.{Platform}
use Rattle.def_machine.specs.Image.{Image}
use Rattle.def_machine.specs.State.{State, Frame, Object, Token, thread, register}
use Rattle.def_machine.specs.Objects.{Any, Each, placed_among, quarantine}
use Rattle.def_confined.specs.Capabilities.{Rooted, heap_cap}
use Rattle.def_confined.specs.Confined.{ObjectFits}
use Rattle.def_step.specs.Instructions.{executed}
use Rattle.def_step.specs.Quotas.{is_whole, whole_of, without_row, quota_in}
use Rattle.def_step.specs.Tokens.{row_among, token_object}
use Rattle.def_safety.specs.Everywhere.{FrameHas, Everywhere}
use Rattle.def_safety.specs.Tokened.{IsKeyRow, IsTokenRow, KeysNamed}
use Rattle.law_moves.proofs.Quarantines.{quarantine_each}
use Rattle.law_moves.proofs.JumpsMoves.{in_rooted}
use Rattle.def_events.specs.Passes.{PassesOn}
use Rattle.law_history.proofs.Events.{executed_has}
use Rattle.law_history.proofs.Given.{GivenKinds}
use Rattle.law_moves.proofs.Rows.{among_each, each_take}
use Rattle.law_routines.proofs.Leaving.{IsKeyOf}
use Rattle.law_routines.proofs.Tokens.{token_says}
use Rattle.law_history.proofs.Keying.{among_row, row_of_among, left_row, row_left, key_there, row_there, key_or_token}
use Rattle.law_history.proofs.Made.{fresh}
use Rattle.law_history.proofs.Shutting.{Standing, AllShut, object_is}

-- ---- the object that a free finds

pub record Whole (c : Cap) (objects : List Object) (r : Object) : Type 0 where
  pub there : Any (λ q. q ≡ r) objects
  pub low : r.base ≡ cap_base c
  pub high : r.base + r.length ≡ cap_top c
  pub tagged : c.tag ≡ true
  pub unsealed : cap_seal c ≡ 0

found : (p : Object → Bool) (objects : List Object) (r : Object) → find p objects ≡ Some r → Any (λ q. q ≡ r) objects × (p r ≡ true)
found p [] r e = absurd (let clash : None ≡ Some r = e in cc)
found p (q ∷ qs) r e = chosen (λ (o : Option Object). o ≡ Some r → Any (λ z. z ≡ r) (q ∷ qs) × (p r ≡ true)) (p q) (Some q) (find p qs)
    (λ is same. let one : q ≡ r = cc in (inl one, subst (λ (z : Object). p z ≡ true) one is))
    (λ not later. let rest = found p qs r later in (inr rest.0, rest.1))
    e

pub whole_says : (objects : List Object) (quota : ℕ) (c : Cap) (r : Object) → whole_of objects quota c ≡ Some r → Whole c objects r
whole_says objects quota c r e = chosen (λ (o : Option Object). o ≡ Some r → Whole c objects r) (c.tag && is_unsealed c) (find (is_whole quota c) objects) None
    (λ is one.
    let kind = and_parts c.tag (is_unsealed c) is in
    let at = found (is_whole quota c) objects r one in
    let first = and_parts (r.live && (r.quota == quota) && (r.base == cap_base c)) (r.base + r.length == cap_top c) at.1 in
    let second = and_parts (r.live && (r.quota == quota)) (r.base == cap_base c) first.0 in
    record { there = at.0; low = eqb-true r.base (cap_base c) second.1; high = eqb-true (r.base + r.length) (cap_top c) first.1; tagged = kind.0; unsealed = eqb-true (cap_seal c) 0 kind.1 })
    (λ not none. absurd (let clash : None ≡ Some r = none in cc))
    e

-- ---- rows

-- each key that a row names has one, and each object has a length
pub record Named (objects : List Object) (tokens : List Token) : Type 0 where
  pub some : Each (λ (r : Object). 0 < r.length) objects
  pub named : KeysNamed tokens

pub nothing_passes : (i : Image) → PassesOn i (λ c. Unit {0}) (λ c. Unit {0})
nothing_passes i = record {
  widens = record { none = λ c off. tt; stays = λ c h. tt };
  result = λ c d r h. tt;
  opened = λ c d o h. tt;
  linked = λ c d before runs links h. tt;
}

pub nothing_kinds : (i : Image) → GivenKinds i (λ c. Unit {0})
nothing_kinds i = record { own = λ a d o. tt; back = λ d o. tt; stack = λ t high d o. tt }

pub nothing_held : (s : State) → Everywhere (λ c. Unit {0}) s
nothing_held s = record { granules = λ k. tt; threads = λ t. record { pcc = tt; registers = λ n. tt; frames = frames (thread s t).frames } }
  where
    frames : (fs : List Frame) → Each (FrameHas (λ c. Unit {0})) fs
    frames [] = tt
    frames (f ∷ fs) = (record { c1 = tt; c2 = tt; c3 = tt; c8 = tt; c9 = tt }, frames fs)

handed_named : (r : Object) (objects : List Object) (tokens : List Token) → 0 < r.length → Named objects tokens → Named (placed_among r objects) tokens
handed_named r objects tokens some h = record { some = among_each (λ (q : Object). 0 < q.length) r objects some h.some; named = h.named }

sealed_named : (s : State) (r : Object) (key : Option ℕ) → 0 < r.length → IsKeyOf s key → Named s.objects s.tokens → Named (placed_among r s.objects) (row_among (record { number = r.number; key = key }) s.tokens)
sealed_named s r key some is h = record { some = among_each (λ (q : Object). 0 < q.length) r s.objects some h.some; named = named }
  where
    own : (o : Option ℕ) → IsKeyOf s o → (k : ℕ) → o ≡ Some k → Any (IsKeyRow k) s.tokens
    own None is k e = absurd (let clash : None ≡ Some k = e in cc)
    own (Some other) is k e = let same : other ≡ k = cc in subst (λ m. Any (IsKeyRow m) s.tokens) same (key_there other s.tokens is)

    named : KeysNamed (row_among (record { number = r.number; key = key }) s.tokens)
    named k n there = among_row (IsKeyRow k) (record { number = r.number; key = key }) s.tokens (inr (elim (row_of_among (IsTokenRow k n) (record { number = r.number; key = key }) s.tokens there) [
      | inl new ↦ own key is k new.1
      | inr old ↦ h.named k n old
    ]))

gone_named : (m : ℕ) (objects : List Object) (tokens : List Token) → (Any (IsKeyRow m) tokens → ⊥) → Named objects tokens → Named (quarantine m objects) (without_row m tokens)
gone_named m objects tokens none h = record { some = quarantine_each (λ (q : Object). 0 < q.length) (λ (q : Object). 0 < q.length) m objects (λ q some. some) (λ q some. some) h.some; named = named }
  where
    named : KeysNamed (without_row m tokens)
    named key n there =
        let is : Any (IsKeyRow key) tokens = h.named key n (row_left (IsTokenRow key n) m tokens there) in
        left_row (IsKeyRow key) m tokens (λ k own same. none (subst (λ z. Any (IsKeyRow z) tokens) (sym own.0 ∙ same) is)) is

-- ---- no key is freed

module _ (b : Platform) (s : State) (t : ℕ) (g : Standing b s t) (some : Each (λ (r : Object). 0 < r.length) s.objects) where
  -- an object that may be freed is reached through the heap alone
  is_heap : (r : Object) → Whole (register (thread s t) 11) s.objects r → 0 < r.length → heap_cap b.image (register (thread s t) 11) ≡ true
  is_heap r w filled = elim (bool_tells (heap_cap b.image (register (thread s t) 11))) [
    | inl heap ↦ heap
    | inr other ↦
        let rooted : Rooted b.image (register (thread s t) 11) = in_rooted b.image s.objects t (thread s t).frames (register (thread s t) 11) (g.held.registers t 11) w.tagged in
        let range = rooted.range other in
        let fits : (b.image.heap_base + 8 ≤ r.base) × (r.base + r.length ≤ b.image.heap_end) =
        each_take (ObjectFits b.image s.next) (λ q. q ≡ r) ((b.image.heap_base + 8 ≤ r.base) × (r.base + r.length ≤ b.image.heap_end)) s.objects
        (λ q f same. subst (λ (z : Object). (b.image.heap_base + 8 ≤ z.base) × (z.base + z.length ≤ b.image.heap_end)) same (f.low, f.high)) g.held.fits w.there in
        let under = range.0 in
        let over = range.1 in
        let first = fits.0 in
        let last = fits.1 in
        let low = w.low in
        let high = w.high in
        elim (g.facts.away (register (thread s t) 11).shadow.root rooted.from) [
          | inl below ↦ absurd (omega (arith, below, under, over, first, last, low, high, filled))
          | inr above ↦ absurd (omega (arith, above, under, over, first, last, low, high, filled))
        ]
  ]

  length_of : (r : Object) → Any (λ q. q ≡ r) s.objects → 0 < r.length
  length_of r there = each_take (λ (q : Object). 0 < q.length) (λ q. q ≡ r) (0 < r.length) s.objects (λ q filled same. subst (λ (z : Object). 0 < z.length) same filled) some there

  pub freed_no_key : AllShut b.image s → (r : Object) → whole_of s.objects (quota_in s t) (register (thread s t) 11) ≡ Some r → Any (IsKeyRow r.number) s.tokens → ⊥
  freed_no_key shut r is key =
      let w = whole_says s.objects (quota_in s t) (register (thread s t) 11) r is in
      let long = length_of r w.there in
      let heap = is_heap r w long in
      let low = w.low in
      let high = w.high in
      let filled : cap_base (register (thread s t) 11) < cap_top (register (thread s t) 11) = omega (arith, long, low, high) in
      let live = g.held.live t g.runs 11 w.tagged heap filled in
      let number : r.number ≡ (register (thread s t) 11).shadow.source = object_is (register (thread s t) 11) r s.objects filled w.low w.high live w.there g.held.apart in
      let sealed : cap_seal (register (thread s t) 11) ≡ 11 = (shut.threads t).registers 11 r.number key w.tagged heap filled (sym number) in
      let unsealed = w.unsealed in
      omega (arith, sealed, unsealed)

  pub given_no_key : (key : ℕ) (r : Object) → token_object s key (register (thread s t) 12) ≡ Some r → Any (IsKeyRow r.number) s.tokens → ⊥
  given_no_key key r is there = key_or_token key r.number s.tokens g.rows.differ there (row_there key r.number s.tokens (token_says s key (register (thread s t) 12) r is).row)

  pub executed_named : AllShut b.image s → Named s.objects s.tokens → Named (executed b s t).0.objects (executed b s t).0.tokens
  executed_named shut h =
      executed_has b (λ c. Unit {0}) (λ c. Unit {0}) (nothing_passes b.image) (nothing_kinds b.image) s t g.parts g.facts g.held (nothing_held s) (λ z. Named z.objects z.tokens)
      (λ z r. subst (λ os. Named os z.tokens) (sym r.objects) (subst (λ ks. Named s.objects ks) (sym r.tokens) h)) (record {
        hands = λ quota size r is. handed_named r s.objects s.tokens (fresh b.image s t size r g.parts g.facts g.held quota is).some h;
        frees = λ r is. gone_named r.number s.objects s.tokens (freed_no_key shut r is) h;
        gives = λ key r is. gone_named r.number s.objects s.tokens (given_no_key key r is) h;
        seals = λ quota size key r is named. sealed_named s r key (fresh b.image s t size r g.parts g.facts g.held quota is).some named h;
        opens = λ may k r key is. h;
      })
