-- Of an object that is shut nobody comes to hold anything but what is sealed, until it is opened.
use Rattle.std.proofs.Common.{ℕ, ◌≡◌, ◌+◌, ◌<◌, inl, inr, true, false, List, Option, Some, sym, ap, ◌∙◌, subst, arith}
use Rattle.def_words.specs.declared.Cap.{Cap}
use Rattle.def_words.specs.declared.Shadow.{Shadow}
use Rattle.def_words.specs.Authority.{cap_base, cap_top}
use Rattle.def_words.specs.Capability.{integer}
use Rattle.def_machine.specs.Platform.{Platform}
use Rattle.def_machine.specs.Image.{Image}
use Rattle.def_machine.specs.State.{State, Object, Token, thread, register}
use Rattle.def_machine.specs.Objects.{Any, Each}
use Rattle.def_machine.specs.Heap.{object_cap, with_object}
use Rattle.def_machine.specs.Rows.{IsLiveOf, RowsFit}
use Rattle.def_confined.specs.Capabilities.{heap_cap}
use Rattle.def_confined.specs.Confined.{Confined, ObjectFits, AllApart}
use Rattle.def_confined.specs.Partitioned.{Partitioned}
use Rattle.def_confined.specs.Places.{Covers, LiveCovers}
use Rattle.def_confined.specs.Facts.{Facts}
use Rattle.def_step.specs.Instructions.{executed}
use Rattle.def_step.specs.Quotas.{let_go, without_row}
use Rattle.def_step.specs.Routines.{answers}
use Rattle.def_step.specs.Tokens.{row_among, with_row, sealed_token, opened_token, token_object}
use Rattle.def_safety.specs.Everywhere.{Everywhere}
use Rattle.def_safety.specs.Tokened.{IsKeyRow, KeysShut}
use Rattle.law_history.proofs.Changes.{answers_has, let_go_has}
use Rattle.law_history.proofs.Events.{executed_has}
use Rattle.law_moves.proofs.Rows.{each_take, one_at, Holds}
use Rattle.law_routines.proofs.Tokens.{token_says}
use Rattle.law_history.proofs.Everywheres.{OfObject, both, each_there, objects_everywhere}
use Rattle.law_history.proofs.Keying.{row_of_among, row_left, row_there, key_or_token}
use Rattle.law_history.proofs.Made.{Fresh, fresh, sealed_type, opened_as}
use Rattle.law_history.proofs.Passing.{keys_kinds, keys_pass, same_heap}

-- ---- numbers

-- the object that a capability is of, where another with its bounds is live
pub object_is : (c : Cap) (r : Object) (objects : List Object) → cap_base c < cap_top c → r.base ≡ cap_base c → r.base + r.length ≡ cap_top c → Any (LiveCovers c) objects → Any (λ q. q ≡ r) objects → AllApart objects → r.number ≡ c.shadow.source
object_is c r objects some low high live there apart = one_at (LiveCovers c) (λ q. q ≡ r) (r.number ≡ c.shadow.source) (cap_base c) objects
    (λ q l. let under = l.1.low in let over = l.1.high in (under, omega (arith, over, some)))
    (λ q same. subst (Holds (cap_base c)) (sym same) (omega (arith, low), omega (arith, low, high, some)))
    (λ q l same. ap (λ (z : Object). z.number) (sym same) ∙ l.1.number)
    apart live there

-- the object of a key's row was there, and so was that of a capability
key_below : (i : Image) (next n : ℕ) (objects : List Object) (tokens : List Token) → Each (ObjectFits i next) objects → RowsFit objects tokens → Any (IsKeyRow n) tokens → n < next
key_below i next n objects tokens fits rows key =
    each_take (λ (k : Token). Any (IsLiveOf k.number) objects) (IsKeyRow n) (n < next) tokens
    (λ k any is. each_take (ObjectFits i next) (IsLiveOf k.number) (n < next) objects (λ r f one. (let small = f.number in let same = one.1 in let named = is.0 in omega (arith, small, same, named))) fits any)
    rows.live key

source_below : (i : Image) (next : ℕ) (objects : List Object) (c : Cap) → Each (ObjectFits i next) objects → Any (Covers c) objects → c.shadow.source < next
source_below i next objects c fits any = each_take (ObjectFits i next) (Covers c) (c.shadow.source < next) objects (λ r f o. (let small = f.number in let same = o.number in omega (arith, small, same))) fits any

-- ---- the object of a key

abbrev pub AllShut : Image → State → Type 0
AllShut i z = Everywhere (KeysShut i z.tokens) z

-- what the laws take of a state: it is confined, and its rows fit
pub record Standing (b : Platform) (s : State) (t : ℕ) : Type 0 where
  pub parts : Partitioned b.image
  pub facts : Facts b.image
  pub held : Confined b.image s
  pub runs : s.running ≡ Some t
  pub rows : RowsFit s.objects s.tokens

module _ (b : Platform) (s : State) (t : ℕ) (g : Standing b s t) where
  new_source : (n : ℕ) (r : Object) → Fresh b.image s r → Any (IsKeyRow n) s.tokens → (object_cap r).tag ≡ true → (object_cap r).shadow.source ≡ n → ⊥
  new_source n r f key tagged source =
      let below = key_below b.image s.next n s.objects s.tokens g.held.fits g.rows key in
      let number = f.number in
      let from = (f.cap tagged).source in
      omega (arith, below, number, from, source)

  handed_shut : (r : Object) → Fresh b.image s r → AllShut b.image s → AllShut b.image (answers (with_object s r) t (object_cap r))
  handed_shut r f h = answers_has b.image (KeysShut b.image s.tokens) (KeysShut b.image s.tokens) (keys_pass b.image s.tokens) (with_object s r) t (object_cap r) (record { granules = h.granules; threads = h.threads })
      (λ n key tagged heap some source. absurd (new_source n r f key tagged source))

  abbrev row_for : Object → Option ℕ → Token
  row_for r key = record { number = r.number; key = key }

  shut_new : (key : Option ℕ) (r : Object) → Fresh b.image s r → (c : Cap) → KeysShut b.image s.tokens c → OfObject b.image s c → KeysShut b.image (row_among (row_for r key) s.tokens) c
  shut_new key r f c h of n there = elim (row_of_among (IsKeyRow n) (row_for r key) s.tokens there) [
    | inl own ↦ (λ tagged heap some source.
        let below = source_below b.image s.next s.objects c g.held.fits (of tagged heap some) in
        let number = f.number in
        let named : r.number ≡ n = own.0 in
        absurd (omega (arith, below, number, named, source)))
    | inr old ↦ h n old
  ]

  sealed_shut : (key : Option ℕ) (r : Object) → Fresh b.image s r → AllShut b.image s → AllShut b.image (answers (with_object (with_row s r key) r) t (sealed_token r))
  sealed_shut key r f h =
      let more : Everywhere (KeysShut b.image (row_among (row_for r key) s.tokens)) s =
      both (KeysShut b.image s.tokens) (OfObject b.image s) (KeysShut b.image (row_among (row_for r key) s.tokens)) (shut_new key r f) s h (objects_everywhere b.image s g.parts g.held) in
      answers_has b.image (KeysShut b.image (row_among (row_for r key) s.tokens)) (KeysShut b.image (row_among (row_for r key) s.tokens)) (keys_pass b.image (row_among (row_for r key) s.tokens))
      (with_object (with_row s r key) r) t (sealed_token r) (record { granules = more.granules; threads = more.threads })
      (λ n there tagged heap some source. sealed_type b.image s r f tagged)

  gone_shut : (r : Object) → AllShut b.image s → AllShut b.image (answers (let_go b.image s t r) t (integer 0))
  gone_shut r h =
      let left : Everywhere (KeysShut b.image s.tokens) (let_go b.image s t r) = let_go_has (KeysShut b.image s.tokens) (KeysShut b.image s.tokens) (keys_pass b.image s.tokens).widens b.image s t r h in
      answers_has b.image (KeysShut b.image (without_row r.number s.tokens)) (KeysShut b.image (without_row r.number s.tokens)) (keys_pass b.image (without_row r.number s.tokens)) (let_go b.image s t r) t (integer 0)
      (each_there (KeysShut b.image s.tokens) (KeysShut b.image (without_row r.number s.tokens)) (λ c shut n key. shut n (row_left (IsKeyRow n) r.number s.tokens key)) (let_go b.image s t r) left)
      (λ n key tagged. absurd (let clash : false ≡ true = tagged in cc))

  -- what token_open opens is of the object that it found
  pub opened_object : (n key : ℕ) (r : Object) → token_object s key (register (thread s t) 11) ≡ Some r → heap_cap b.image (opened_token (register (thread s t) 11)) ≡ true → cap_base (opened_token (register (thread s t) 11)) < cap_top (opened_token (register (thread s t) 11))
      → (opened_token (register (thread s t) 11)).shadow.source ≡ n → r.number ≡ n
  opened_object n key r is heap some source =
      let token = token_says s key (register (thread s t) 11) r is in
      let o = opened_as (register (thread s t) 11) token.sealed.tagged in
      let low = o.low in
      let high = o.high in
      let filled : cap_base (register (thread s t) 11) < cap_top (register (thread s t) 11) = omega (arith, low, high, some) in
      let live = g.held.live t g.runs 11 token.sealed.tagged (same_heap b.image (register (thread s t) 11) (opened_token (register (thread s t) 11)) o.shadows heap) filled in
      object_is (register (thread s t) 11) r s.objects filled token.sealed.low token.sealed.high live token.sealed.there g.held.apart ∙ sym (ap (λ (z : Shadow). z.source) o.shadows) ∙ source

  opened_shut : (key : ℕ) (r : Object) → token_object s key (register (thread s t) 11) ≡ Some r → AllShut b.image s → AllShut b.image (answers s t (opened_token (register (thread s t) 11)))
  opened_shut key r is h = answers_has b.image (KeysShut b.image s.tokens) (KeysShut b.image s.tokens) (keys_pass b.image s.tokens) s t (opened_token (register (thread s t) 11)) h
      (λ n there tagged heap some source.
      let same : r.number ≡ n = opened_object n key r is heap some source in
      let token = token_says s key (register (thread s t) 11) r is in
      absurd (key_or_token key r.number s.tokens g.rows.differ (subst (λ m. Any (IsKeyRow m) s.tokens) (sym same) there) (row_there key r.number s.tokens token.row)))

  pub executed_shut : AllShut b.image s → AllShut b.image (executed b s t).0
  executed_shut h =
      executed_has b (KeysShut b.image s.tokens) (KeysShut b.image s.tokens) (keys_pass b.image s.tokens) (keys_kinds b.image s.tokens) s t g.parts g.facts g.held h (λ z. AllShut b.image z) (λ z r. subst (λ ks. Everywhere (KeysShut b.image ks) z) (sym r.tokens) r.has) (record {
        hands = λ quota size r is. handed_shut r (fresh b.image s t size r g.parts g.facts g.held quota is) h;
        frees = λ r is. gone_shut r h;
        gives = λ key r is. gone_shut r h;
        seals = λ quota size key r is named. sealed_shut key r (fresh b.image s t size r g.parts g.facts g.held quota is) h;
        opens = λ may k r key is. opened_shut k.number r is h;
      })
