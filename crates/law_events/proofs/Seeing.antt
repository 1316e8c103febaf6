-- What the running thread loads, stores or fetches through isn't hidden.
use Rattle.std.proofs.Common.{ℕ, ◌≡◌, ◌+◌, ◌-◌, ◌*◌, ◌/◌, ◌%◌, ◌<◌, ◌≤◌, ◌⊎◌, inl, inr, ◌&&◌, ◌||◌, Bool, true, false, not, nat_le, nat_lt, List, [], ◌∷◌, Some, refl, ◌∙◌, arith}
use Rattle.law_lists.proofs.Tests.{bool_tells, le_tells, lt_tells}
use Rattle.def_words.specs.declared.Cap.{Cap}
use Rattle.def_words.specs.Authority.{cap_base, cap_top}
use Rattle.def_words.specs.Permissions.{has, load_data, store_data, execute}
use Rattle.def_machine.specs.Image.{Image, root, granule_of, address_of, trusted_end}
use Rattle.def_machine.specs.State.{State, Object, register, thread}
use Rattle.def_machine.specs.Objects.{Any, Each}
use Rattle.def_confined.specs.Capabilities.{Rooted, heap_cap}
use Rattle.def_confined.specs.Places.{LiveCovers}
use Rattle.def_confined.specs.Confined.{Confined, ObjectFits}
use Rattle.def_hidden.specs.Hidden.{Shut, MayReach, is_live_at, is_hidden_at, is_hidden}
use Rattle.law_moves.proofs.Derives.{code_no_heap}
use Rattle.law_moves.proofs.JumpsMoves.{in_rooted}
use Rattle.law_moves.proofs.Filters.{granule_near}

-- outside of whole granules the granule is too
out_of : (from to x y : ℕ) → from % 8 ≡ 0 → to % 8 ≡ 0 → y % 8 ≡ 0 → y ≤ x → x < y + 8 → (x < from) ⊎ (to ≤ x) → (nat_le from y && nat_lt y to) ≡ false
out_of from to x y from_even to_even even low high out = elim (le_tells from y) [
  | inl a ↦ elim (lt_tells y to) [
    | inl b ↦ absurd (elim out [ inl c ↦ (let d = a.1 in omega (arith, c, d, low)) | inr c ↦ (let d = b.1 in omega (arith, c, d, high, to_even, even)) ])
    | inr b ↦ rw (a.0, b.0) refl
  ]
  | inr a ↦ rw a.0 refl
]

-- a live object's granules aren't hidden
live_at : (next : ℕ) (i : Image) (c : Cap) (x y : ℕ) (rs : List Object) → Each (ObjectFits i next) rs → y % 8 ≡ 0 → y ≤ x → x < y + 8 → cap_base c ≤ x → x < cap_top c → Any (LiveCovers c) rs → is_live_at rs y ≡ true
live_at next i c x y [] fits even low high from to h = absurd h
live_at next i c x y (r ∷ rs) fits even low high from to (inl k) =
    let covers = k.1 in
    let a = covers.low in
    let b = covers.high in
    let whole = fits.0.whole in
    let w = whole.0 in
    let v = whole.1 in
    elim (le_tells r.base y) [
      | inl e ↦ elim (lt_tells y (r.base + r.length)) [ inl f ↦ rw (k.0, e.0, f.0) refl | inr f ↦ absurd (let g = f.1 in omega (arith, a, b, w, v, even, low, high, from, to, g)) ]
      | inr e ↦ absurd (let g = e.1 in omega (arith, a, b, w, v, even, low, high, from, to, g))
    ]
live_at next i c x y (r ∷ rs) fits even low high from to (inr k) = any_or (r.live && nat_le r.base y && nat_lt y (r.base + r.length)) (is_live_at rs y) (live_at next i c x y rs fits.1 even low high from to k)
  where
    any_or : (a b : Bool) → b ≡ true → (a || b) ≡ true
    any_or true b h = refl
    any_or false b h = h

none_hidden : (i : Image) (rs : List Object) (y : ℕ) → (nat_le i.trusted y && nat_lt y (trusted_end i)) ≡ false → ((nat_le i.heap_base y && nat_lt y i.heap_end) ≡ false) ⊎ (is_live_at rs y ≡ true) → is_hidden_at i rs y ≡ false
none_hidden i rs y one two = elim two [
  | inl a ↦ rw one (no_heap (nat_le i.heap_base y) (nat_lt y i.heap_end) (not (is_live_at rs y)) a)
  | inr b ↦ rw (one, b) (never (nat_le i.heap_base y) (nat_lt y i.heap_end))
]
  where
    no_heap : (a b c : Bool) → (a && b) ≡ false → (a && b && c) ≡ false
    no_heap true true c h = absurd (let clash : true ≡ false = h in cc)
    no_heap true false c h = refl
    no_heap false b c h = refl

    never : (a b : Bool) → (a && b && false) ≡ false
    never true true = refl
    never true false = refl
    never false b = refl

-- what lies outside the trusted region's areas and the heap isn't hidden
pub away_seen : (i : Image) (rs : List Object) (x : ℕ) → Shut i → i.ram ≤ x → (x < i.trusted) ⊎ (trusted_end i ≤ x) → (x < i.heap_base) ⊎ (i.heap_end ≤ x) → is_hidden i rs (granule_of i x) ≡ false
away_seen i rs x shut inside trusted heap =
    let n = granule_near i x inside in
    let even = shut.even in
    let ram = even.0 in
    let at : address_of i (granule_of i x) % 8 ≡ 0 = omega (arith, ram) in
    none_hidden i rs (address_of i (granule_of i x)) (out_of i.trusted (trusted_end i) x (address_of i (granule_of i x)) even.1 even.2 at n.0 n.1 trusted)
    (inl (out_of i.heap_base i.heap_end x (address_of i (granule_of i x)) even.3 even.4 at n.0 n.1 heap))

-- through a register of the running thread
pub register_sees : (i : Image) (s : State) (t n x : ℕ) → Shut i → Confined i s → s.running ≡ Some t → i.ram ≤ x → (register (thread s t) n).tag ≡ true
    → (has (register (thread s t) n) load_data ≡ true) ⊎ (has (register (thread s t) n) store_data ≡ true) → cap_base (register (thread s t) n) ≤ x → x < cap_top (register (thread s t) n) → is_hidden i s.objects (granule_of i x) ≡ false
register_sees i s t n x shut h runs inside tagged may low high =
    let c : Cap = register (thread s t) n in
    let r : Rooted i (register (thread s t) n) = in_rooted i s.objects t (thread s t).frames (register (thread s t) n) (h.registers t n) tagged in
    elim (bool_tells (heap_cap i (register (thread s t) n))) [
      | inl heap ↦
          let range = r.heap heap in
          let base = range.0 in
          let below = shut.below in
          let near_ = granule_near i x inside in
          let even = shut.even in
          let ram = even.0 in
          let at : address_of i (granule_of i x) % 8 ≡ 0 = omega (arith, ram) in
          let out : (x < i.trusted) ⊎ (trusted_end i ≤ x) = inr (omega (arith, base, low, below)) in
          none_hidden i s.objects (address_of i (granule_of i x)) (out_of i.trusted (trusted_end i) x (address_of i (granule_of i x)) even.1 even.2 at near_.0 near_.1 out)
          (inr (live_at s.next i (register (thread s t) n) x (address_of i (granule_of i x)) s.objects h.fits at near_.0 near_.1 low high (h.live t runs n tagged heap (omega (arith, low, high)))))
      | inr other ↦
          let range = r.range other in
          let base = range.0 in
          let top = range.1 in
          let rights = r.rights other in
          let uses : MayReach (root i (register (thread s t) n).shadow.root).rights = elim may [ inl l ↦ inl (rights load_data l) | inr st ↦ inr (inl (rights store_data st)) ] in
          away_seen i s.objects x shut inside
          (shut.trusted (register (thread s t) n).shadow.root x uses (omega (arith, base, low)) (omega (arith, top, high)))
          (shut.heap (register (thread s t) n).shadow.root x uses (omega (arith, base, low)) (omega (arith, top, high)))
    ]

-- through a thread's program counter capability
pub counter_sees : (i : Image) (s : State) (t x : ℕ) → Shut i → Confined i s → i.ram ≤ x → (thread s t).pcc.tag ≡ true → cap_base (thread s t).pcc ≤ x → x < cap_top (thread s t).pcc → is_hidden i s.objects (granule_of i x) ≡ false
counter_sees i s t x shut h inside tagged low high =
    let is = h.runs t tagged in
    let r : Rooted i (thread s t).pcc = in_rooted i s.objects t (thread s t).frames (thread s t).pcc (h.pcc t) tagged in
    let other : heap_cap i (thread s t).pcc ≡ false = code_no_heap i (thread s t).pcc is.code in
    let range = r.range other in
    let base = range.0 in
    let top = range.1 in
    let uses : MayReach (root i (thread s t).pcc.shadow.root).rights = inr (inr (r.rights other execute is.executes)) in
    away_seen i s.objects x shut inside
    (shut.trusted (thread s t).pcc.shadow.root x uses (omega (arith, base, low)) (omega (arith, top, high)))
    (shut.heap (thread s t).pcc.shadow.root x uses (omega (arith, base, low)) (omega (arith, top, high)))
