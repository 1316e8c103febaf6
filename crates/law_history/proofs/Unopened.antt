-- No jump and no return opens what is sealed as a token: what it would make is of no object, and of no root.
use Rattle.std.proofs.Common.{ℕ, ◌≡◌, ◌+◌, ◌≤◌, ◌<◌, inl, inr, true, false, List, [], ◌∷◌, refl, sym, ap, ◌∙◌, subst, arith}
use Rattle.def_words.specs.declared.Cap.{Cap}
use Rattle.def_words.specs.Authority.{cap_base, cap_top}
use Rattle.def_words.specs.Narrows.{IsOpened}
use Rattle.def_words.specs.Seals.{cap_seal}
use Rattle.def_memory.specs.declared.Granule.{Granule}
use Rattle.def_machine.specs.Platform.{Platform}
use Rattle.def_machine.specs.Image.{Image, Region, Fixed, Globals, Shared, HeapRam, Stack, Bare, region, address_of}
use Rattle.def_machine.specs.State.{State, Frame, Object, Token, thread, register, granule}
use Rattle.def_machine.specs.Objects.{Any, Each}
use Rattle.def_safety.specs.Wired.{Wired}
use Rattle.def_confined.specs.Capabilities.{Rooted}
use Rattle.def_confined.specs.Confined.{Confined, FramesHold, ObjectFits}
use Rattle.def_confined.specs.Keeps.{Keeps}
use Rattle.def_confined.specs.Partitioned.{Partitioned}
use Rattle.def_confined.specs.Places.{InRegion, outer}
use Rattle.def_confined.specs.Facts.{Facts}
use Rattle.def_step.specs.declared.Event.{Event}
use Rattle.def_step.specs.Events.{happens}
use Rattle.def_safety.specs.Everywhere.{FrameHas, Everywhere}
use Rattle.def_safety.specs.Tokened.{IsWhole, TokenFits, Tokened}
use Rattle.def_safety.specs.Comes.{Saves, Stands, in_granule, in_counter, in_register, in_frame}
use Rattle.law_events.proofs.Events.{event_keeps}
use Rattle.law_moves.proofs.JumpsMoves.{in_rooted}
use Rattle.law_moves.proofs.Rows.{each_take}
use Rattle.law_history.proofs.Everywheres.{each_there}
use Rattle.law_moves.proofs.Targets.{opened_no_heap}

-- ---- all that is tagged has a root

abbrev IsRooted : Image → Cap → Type 0
IsRooted i c = c.tag ≡ true → Rooted i c

region_rooted : (i : Image) (s : State) (k : ℕ) (r : Region) (g : Granule) → Partitioned i → region i k ≡ r → InRegion i s k r g → IsRooted i g.cap
region_rooted i s k Fixed g p is h tagged = subst (Rooted i) (sym h) (p.boot_rooted k is (sym (ap (λ (c : Cap). c.tag) h) ∙ tagged))
region_rooted i s k (Globals o) g p is h tagged = (h tagged).rooted
region_rooted i s k (Shared m) g p is h tagged = (h tagged).1.rooted
region_rooted i s k HeapRam g p is h tagged = (h tagged).1.rooted
region_rooted i s k (Stack t) g p is h tagged = in_rooted i s.objects t (outer (thread s t).frames (address_of i k)) g.cap h tagged
region_rooted i s k Bare g p is h tagged = absurd (let clash : true ≡ false = sym tagged ∙ h in cc)

frames_rooted : (i : Image) (objects : List Object) (t : ℕ) (fs : List Frame) → FramesHold i objects t fs → Each (FrameHas (IsRooted i)) fs
frames_rooted i objects t [] h = tt
frames_rooted i objects t (f ∷ fs) h = (
  record {
    c1 = in_rooted i objects t fs f.c1 h.0.c1;
    c2 = in_rooted i objects t fs f.c2 h.0.c2;
    c3 = in_rooted i objects t fs f.c3 h.0.c3;
    c8 = in_rooted i objects t fs f.c8 h.0.c8;
    c9 = in_rooted i objects t fs f.c9 h.0.c9;
  },
  frames_rooted i objects t fs h.1,
)

all_rooted : (i : Image) (s : State) → Partitioned i → Confined i s → Everywhere (IsRooted i) s
all_rooted i s parts held = record {
  granules = λ k. region_rooted i s k (region i k) (granule s k) parts refl (held.granules k);
  threads = λ t. record {
    pcc = in_rooted i s.objects t (thread s t).frames (thread s t).pcc (held.pcc t);
    registers = λ n. in_rooted i s.objects t (thread s t).frames (register (thread s t) n) (held.registers t n);
    frames = frames_rooted i s.objects t (thread s t).frames (held.frames t);
  };
}

-- ---- what stood, sealed as a token

saved_fits : (P : Cap → Type 0) (c : Cap) (fs : List Frame) → Each (FrameHas P) fs → Any (Saves c) fs → P c
saved_fits P c [] h any = absurd any
saved_fits P c (f ∷ fs) h (inr any) = saved_fits P c fs h.1 any
saved_fits P c (f ∷ fs) h (inl one) = elim one [
  | inl is ↦ subst P (sym is) h.0.c1
  | inr r ↦ elim r [
    | inl is ↦ subst P (sym is) h.0.c2
    | inr q ↦ elim q [
      | inl is ↦ subst P (sym is) h.0.c3
      | inr p ↦ elim p [
        | inl is ↦ subst P (sym is) h.0.c8
        | inr is ↦ subst P (sym is) h.0.c9
      ]
    ]
  ]
]

stands_has : (P : Cap → Type 0) (s : State) (c : Cap) → Everywhere P s → Stands s c → P c
stands_has P s c h (in_granule k is) = subst P (sym is) (h.granules k)
stands_has P s c h (in_counter t is) = subst P (sym is) (h.threads t).pcc
stands_has P s c h (in_register t n is) = subst P (sym is) ((h.threads t).registers n)
stands_has P s c h (in_frame t any) = saved_fits P c (thread s t).frames (h.threads t).frames any

-- ---- what a jump would make of it

no_root : (i : Image) (next : ℕ) (objects : List Object) (tokens : List Token) (c d : Cap) → Facts i → Each (ObjectFits i next) objects → Each (λ (r : Object). 0 < r.length) objects → Any (IsWhole tokens c) objects → Rooted i d → IsOpened c d → ⊥
no_root i next objects tokens c d facts fits some whole rooted o =
    let range = rooted.range (opened_no_heap i d o.source) in
    let under = range.0 in
    let over = range.1 in
    let base = o.same_base in
    let top = o.same_top in
    let filled : cap_base c < cap_top c = each_take (λ (r : Object). 0 < r.length) (IsWhole tokens c) (cap_base c < cap_top c) objects (λ r long w. (let low = w.low in let high = w.high in omega (arith, long, low, high))) some whole in
    let inside : (i.heap_base + 8 ≤ cap_base c) × (cap_top c ≤ i.heap_end) =
    each_take (ObjectFits i next) (IsWhole tokens c) ((i.heap_base + 8 ≤ cap_base c) × (cap_top c ≤ i.heap_end)) objects
    (λ r f w. (let first = f.low in let last = f.high in let low = w.low in let high = w.high in (omega (arith, first, low), omega (arith, last, high)))) fits whole in
    let first = inside.0 in
    let last = inside.1 in
    elim (facts.away d.shadow.root rooted.from) [
      | inl below ↦ omega (arith, below, under, over, base, top, filled, first, last)
      | inr above ↦ omega (arith, above, under, over, base, top, filled, first, last)
    ]

pub none_jumps : (b : Platform) (s : State) (e : Event) (c : Cap) → Partitioned b.image → Facts b.image → Wired b → Keeps b.image s → Tokened b.image s → Stands s c → c.tag ≡ true → cap_seal c ≡ 11 → Everywhere (λ d. d.tag ≡ true → IsOpened c d → ⊥) (happens b s e).0
none_jumps b s e c parts facts wired k h stands tagged sealed =
    let fits = stands_has (TokenFits b.image s.objects s.tokens) s c h.tokens stands tagged sealed in
    each_there (IsRooted b.image) (λ d. d.tag ≡ true → IsOpened c d → ⊥)
    (λ d r there o. no_root b.image s.next s.objects s.tokens c d facts k.confined.fits h.some fits.1 (r there) o)
    (happens b s e).0 (all_rooted b.image (happens b s e).0 parts (event_keeps b s e parts facts wired k).confined)
