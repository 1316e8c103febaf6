-- The load filter: what it leaves tagged is of a live object.
use Rattle.std.proofs.Common.{ℕ, ◌≡◌, ◌+◌, ◌≤◌, ◌<◌, ◌⊎◌, inl, inr, ◌&&◌, Bool, true, false, List, [], ◌∷◌, refl, sym, ap, ◌∙◌, arith}
use Rattle.law_lists.proofs.Tests.{bool_tells, chosen, le_tells}
use Rattle.def_words.specs.declared.Cap.{Cap}
use Rattle.def_words.specs.Authority.{cap_base, cap_top}
use Rattle.def_words.specs.Capability.{untagged}
use Rattle.def_machine.specs.Image.{Image, granule_of, address_of}
use Rattle.def_machine.specs.State.{State, Frame, Object, granule}
use Rattle.def_machine.specs.Memory.{is_marked, filtered}
use Rattle.def_machine.specs.Objects.{Any, Each}
use Rattle.def_confined.specs.Capabilities.{Kept}
use Rattle.def_confined.specs.Places.{InFrames, Covers, HasObject, HasLive, LiveCovers}
use Rattle.def_confined.specs.Confined.{Confined, ObjectFits, MarksAt, MarksFit}
use Rattle.def_confined.specs.Partitioned.{Partitioned}
use Rattle.law_moves.proofs.Rows.{each_take}
use Rattle.law_moves.proofs.Places.{plain_in}
use Rattle.law_moves.proofs.Puts.{plain_kept}

pub filter_case : (P : Cap → Type 0) (i : Image) (s : State) (c : Cap) → P (untagged c) → ((c.tag && is_marked i s (cap_base c)) ≡ false → P c) → P (filtered i s c)
filter_case P i s c gone stays = chosen P (c.tag && is_marked i s (cap_base c)) (untagged c) c (λ is. gone) stays

any_both : {A : Type 0} (P Q R : A → Type 0) (xs : List A) → ((x : A) → P x → Q x ⊎ R x) → Any P xs → Any Q xs ⊎ Any R xs
any_both P Q R [] f h = absurd h
any_both P Q R (x ∷ xs) f (inl p) = elim (f x p) [ inl q ↦ inl (inl q) | inr r ↦ inr (inl r) ]
any_both P Q R (x ∷ xs) f (inr h) = elim (any_both P Q R xs f h) [ inl q ↦ inl (inr q) | inr r ↦ inr (inr r) ]

-- an object that covers a non-empty capability holds its base, in the heap
base_in : (i : Image) (next : ℕ) (objects : List Object) (c : Cap) → Each (ObjectFits i next) objects → cap_base c < cap_top c → Any (Covers c) objects → (i.heap_base ≤ cap_base c) × (cap_base c < i.heap_end)
base_in i next objects c fits some covers = each_take (ObjectFits i next) (Covers c) ((i.heap_base ≤ cap_base c) × (cap_base c < i.heap_end)) objects
    (λ r f k. (omega (arith, f.low, k.low), omega (arith, f.high, k.high, some))) fits covers

-- a granule's own address lies at most 7 below an address in it
pub granule_near : (i : Image) (x : ℕ) → i.ram ≤ x → (address_of i (granule_of i x) ≤ x) × (x < address_of i (granule_of i x) + 8)
granule_near i x le = (omega (arith, le), omega (arith, le))

-- an object that covers a capability whose base isn't marked is live, where marks and objects fit
pub covers_live_at : (i : Image) (s : State) (next : ℕ) (c : Cap) → Partitioned i → ((k : ℕ) → MarksFit i s.objects k (granule s k).mark) → Each (ObjectFits i next) s.objects → cap_base c < cap_top c → is_marked i s (cap_base c) ≡ false → Any (Covers c) s.objects → Any (LiveCovers c) s.objects
covers_live_at i s next c p marks fits some none covers =
    let place = base_in i next s.objects c fits some covers in
    let inside : i.ram ≤ cap_base c = (p.heap (cap_base c) place.0 place.1).0 in
    let near = granule_near i (cap_base c) inside in
    elim (any_both (Covers c) (LiveCovers c) (MarksAt (address_of i (granule_of i (cap_base c)))) s.objects
    (λ r k. elim (bool_tells r.live) [
      | inl lives ↦ inl (lives, k)
      | inr gone ↦ inr (gone, (omega (arith, k.low, near.1), omega (arith, k.high, some, near.0)))
    ])
    covers) [
      | inl found ↦ found
      | inr there ↦
          let mark : (granule s (granule_of i (cap_base c))).mark ≡ true = (marks (granule_of i (cap_base c))).all there in
          let reads : is_marked i s (cap_base c) ≡ true = elim (le_tells i.ram (cap_base c)) [ inl e ↦ ap (λ b. b && (granule s (granule_of i (cap_base c))).mark) e.0 ∙ mark | inr e ↦ absurd (omega (arith, e.1, inside)) ] in
          absurd (let clash : true ≡ false = sym reads ∙ none in cc)
    ]

pub covers_live : (i : Image) (s : State) (c : Cap) → Partitioned i → Confined i s → cap_base c < cap_top c → is_marked i s (cap_base c) ≡ false → Any (Covers c) s.objects → Any (LiveCovers c) s.objects
covers_live i s c p h some none covers = covers_live_at i s s.next c p h.marks h.fits some none covers

pub untagged_says : (b m : Bool) → b ≡ true → (b && m) ≡ false → m ≡ false
untagged_says b m e h = ap (λ x. x && m) (sym e) ∙ h

pub filter_live_at : (i : Image) (s : State) (next : ℕ) (c : Cap) → Partitioned i → ((k : ℕ) → MarksFit i s.objects k (granule s k).mark) → Each (ObjectFits i next) s.objects → (c.tag ≡ true → HasObject i s.objects c) → HasLive i s.objects (filtered i s c)
filter_live_at i s next c p marks fits has_object = filter_case (HasLive i s.objects) i s c
    (λ tagged. absurd (let clash : false ≡ true = tagged in cc))
    (λ not tagged heap some. covers_live_at i s next c p marks fits some (untagged_says c.tag (is_marked i s (cap_base c)) tagged not) (has_object tagged heap some))

pub filter_live : (i : Image) (s : State) (c : Cap) → Partitioned i → Confined i s → (c.tag ≡ true → HasObject i s.objects c) → HasLive i s.objects (filtered i s c)
filter_live i s c p h has_object = filter_live_at i s s.next c p h.marks h.fits has_object

pub filter_in : (i : Image) (s : State) (objects : List Object) (t : ℕ) (fs : List Frame) (c : Cap) → InFrames i objects t fs c → InFrames i objects t fs (filtered i s c)
filter_in i s objects t fs c h = filter_case (InFrames i objects t fs) i s c (plain_in i objects t fs (untagged c) refl) (λ not. h)

pub filter_kept : (i : Image) (s : State) (c : Cap) → Kept i c → Kept i (filtered i s c)
filter_kept i s c h = filter_case (Kept i) i s c (plain_kept i (untagged c) refl) (λ not. h)

-- what a thread's place holds has its object
pub in_object : (i : Image) (objects : List Object) (t : ℕ) (fs : List Frame) (c : Cap) → InFrames i objects t fs c → c.tag ≡ true → HasObject i objects c
in_object i objects t [] c h tagged = absurd (let clash : true ≡ false = sym tagged ∙ h in cc)
in_object i objects t (f ∷ fs) c h tagged = (h tagged).object
