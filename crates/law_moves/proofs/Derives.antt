-- A result of an operation may stand where its first operand may.
use Rattle.std.proofs.Common.{ℕ, ◌≡◌, ◌≤◌, ◌<◌, ◌⊎◌, inl, inr, ◌&&◌, Bool, true, false, not, nat_eq, List, [], ◌∷◌, refl, sym, ap, ◌∙◌, subst, arith}
use Rattle.law_lists.proofs.Tests.{bool_tells}
use Rattle.def_words.specs.declared.Cap.{Cap}
use Rattle.def_words.specs.declared.Shadow.{Shadow}
use Rattle.def_words.specs.Authority.{cap_address, cap_base, cap_top}
use Rattle.def_words.specs.Permissions.{Within, cap_perms, has, global, store_local, execute}
use Rattle.def_words.specs.Seals.{cap_seal}
use Rattle.def_words.specs.Narrows.{Narrows, SameSeal}
use Rattle.ct_entry.specs.declared.rows.Kind.TheVariants.{Code, Globals, Stack, Device, Shared, Sealed, Call, Library, Service, Quota, Key, Export}
use Rattle.def_reach.specs.Roots.{Origin, Unknown, TrustedPart, Listing, is_quota, is_stack, is_native, is_root, is_owned, is_code}
use Rattle.def_reach.specs.Sharing.{Reaches}
use Rattle.def_machine.specs.Image.{Image, root, made_cap, stack_entry}
use Rattle.def_profile.specs.declared.rights.TheConstants.{HEAP_RIGHTS}
use Rattle.def_machine.specs.State.{Frame, Object}
use Rattle.def_machine.specs.Objects.{Any}
use Rattle.def_confined.specs.Capabilities.{Rooted, AsBoot, IsBootType, IsReturnType, Kept, heap_cap, is_home}
use Rattle.def_confined.specs.Places.{Placed, InFrames, WithinRun, OwnStack, Covers, HasObject, HasLive, LiveCovers}
use Rattle.def_confined.specs.Confined.{IsPcc}
use Rattle.def_confined.specs.Made.{Loose, IsDerived, Derived}
use Rattle.law_moves.proofs.Rows.{any_map}

-- a native routine's capability is no loose one
abbrev pub Bound : Image → Cap → Type 0
Bound i c = is_native (root i c.shadow.root).origin ≡ true → Loose (cap_seal c) → ⊥

native_is : (o : Origin) → is_native o ≡ true → (o ≡ Listing Service) ⊎ (o ≡ TrustedPart)
native_is Unknown h = absurd (let clash : false ≡ true = h in cc)
native_is TrustedPart h = inr refl
native_is (Listing Service) h = inl refl
native_is (Listing Code) h = absurd (let clash : false ≡ true = h in cc)
native_is (Listing Globals) h = absurd (let clash : false ≡ true = h in cc)
native_is (Listing Stack) h = absurd (let clash : false ≡ true = h in cc)
native_is (Listing Device) h = absurd (let clash : false ≡ true = h in cc)
native_is (Listing Shared) h = absurd (let clash : false ≡ true = h in cc)
native_is (Listing Sealed) h = absurd (let clash : false ≡ true = h in cc)
native_is (Listing Call) h = absurd (let clash : false ≡ true = h in cc)
native_is (Listing Library) h = absurd (let clash : false ≡ true = h in cc)
native_is (Listing Quota) h = absurd (let clash : false ≡ true = h in cc)
native_is (Listing Key) h = absurd (let clash : false ≡ true = h in cc)
native_is (Listing Export) h = absurd (let clash : false ≡ true = h in cc)

pub kept_bound : (i : Image) (c : Cap) → c.tag ≡ true → Kept i c → Bound i c
kept_bound i c tagged k native loose = elim (native_is (root i c.shadow.root).origin native) [
  | inl service ↦ let one : cap_seal c ≡ 1 = (k tagged).0 service in elim loose [ inl z ↦ omega (arith, one, z) | inr more ↦ omega (arith, one, more) ]
  | inr trusted ↦ let five : cap_seal c ≡ 5 = (k tagged).1 trusted in elim loose [ inl z ↦ omega (arith, five, z) | inr more ↦ omega (arith, five, more) ]
]

pub loose_not_return : (n : ℕ) → Loose n → IsReturnType n → ⊥
loose_not_return n (inl z) (inl r) = omega (arith, z, r)
loose_not_return n (inl z) (inr r) = omega (arith, z, r)
loose_not_return n (inr m) (inl r) = omega (arith, m, r)
loose_not_return n (inr m) (inr r) = omega (arith, m, r)

loose_not_boot : (n : ℕ) → Loose n → IsBootType n → ⊥
loose_not_boot n l (inl e) = elim l [ inl z ↦ omega (arith, z, e) | inr m ↦ omega (arith, m, e) ]
loose_not_boot n l (inr (inl e)) = elim l [ inl z ↦ omega (arith, z, e) | inr m ↦ omega (arith, m, e) ]
loose_not_boot n l (inr (inr (inl e))) = elim l [ inl z ↦ omega (arith, z, e) | inr m ↦ omega (arith, m, e) ]
loose_not_boot n l (inr (inr (inr (inl e)))) = elim l [ inl z ↦ omega (arith, z, e) | inr m ↦ omega (arith, m, e) ]
loose_not_boot n l (inr (inr (inr (inr e)))) = elim l [ inl z ↦ omega (arith, z, e) | inr m ↦ omega (arith, m, e) ]

abbrev pub of_heap : Image → Shadow → Bool
of_heap i s = is_quota (root i s.root).origin && not (nat_eq s.source 0)

as_boot : (i : Image) (c d : Cap) → d.shadow ≡ c.shadow → SameSeal c d → AsBoot i c → AsBoot i d
as_boot i c d e s b =
    let made_same : made_cap i d.shadow.root ≡ made_cap i c.shadow.root = ap (λ (x : Shadow). made_cap i x.root) e in
    record {
      seal = s.kind ∙ b.seal ∙ sym (ap cap_seal made_same);
      low = s.same_base ∙ b.low ∙ sym (ap cap_base made_same);
      high = s.same_top ∙ b.high ∙ sym (ap cap_top made_same);
      at = s.same_address ∙ b.at ∙ sym (ap cap_address made_same);
      rights = λ p n. s.same_rights p n ∙ b.rights p n ∙ sym (ap (λ z. has z p) made_same);
      source = ap (λ (x : Shadow). x.source) e ∙ b.source;
    }

-- a fact of the type holds of what is sealed as before
pub by_seal : (P : ℕ → Type 0) (G : Type 0) (c d : Cap) → (Loose (cap_seal c) × Loose (cap_seal d)) ⊎ SameSeal c d → (Loose (cap_seal d) → P (cap_seal d) → ⊥) → (SameSeal c d → P (cap_seal c) → G) → P (cap_seal d) → G
by_seal P G c d (inl l) none f h = absurd (none l.1 h)
by_seal P G c d (inr s) none f h = f s (subst P s.kind h)

pub derived_rooted : (i : Image) (c d : Cap) → IsDerived c d → Bound i c → Rooted i c → Rooted i d
derived_rooted i c d x bound r =
    let n = x.narrows in
    let e : d.shadow ≡ c.shadow = x.narrows.shadows in
    record {
      order = x.narrows.order r.order;
      from = let P : Shadow → Type 0 = λ s. is_root (root i s.root).origin ≡ true in subst P (sym e) r.from;
      home = let P : Shadow → Type 0 = λ s. is_home (root i s.root).origin (root i s.root).owner ≡ true in subst P (sym e) r.home;
      legal = x.narrows.legal;
      range =
          let P : Shadow → Type 0 = λ s. of_heap i s ≡ false → ((root i s.root).base ≤ cap_base d) × (cap_top d ≤ (root i s.root).top) in
          subst P (sym e) (λ no. let q = r.range no in (omega (arith, q.0, x.narrows.low), omega (arith, q.1, x.narrows.high)));
      heap =
          let P : Shadow → Type 0 = λ s. of_heap i s ≡ true → (i.heap_base ≤ cap_base d) × (cap_top d ≤ i.heap_end) in
          subst P (sym e) (λ is. let q = r.heap is in (omega (arith, q.0, x.narrows.low), omega (arith, q.1, x.narrows.high)));
      rights =
          let P : Shadow → Type 0 = λ s. of_heap i s ≡ false → Within (cap_perms d) (root i s.root).rights in
          subst P (sym e) (λ no p there. r.rights no p (x.narrows.rights p there));
      heap_rights =
          let P : Shadow → Type 0 = λ s. of_heap i s ≡ true → Within (cap_perms d) HEAP_RIGHTS in
          subst P (sym e) (λ is p there. r.heap_rights is p (x.narrows.rights p there));
      local =
          let P : Shadow → Type 0 = λ s. has d store_local ≡ true → is_stack (root i s.root).origin ≡ true in
          subst P (sym e) (λ there. r.local (x.narrows.rights store_local there));
      held =
          let P : Shadow → Type 0 = λ s. is_stack (root i s.root).origin ≡ true → has d global ≡ false in
          subst P (sym e) (λ is. elim (bool_tells (has d global)) [
            | inl there ↦ absurd (let clash : true ≡ false = sym (x.narrows.rights global there) ∙ r.held is in cc)
            | inr none ↦ none
          ]);
      returns = by_seal IsReturnType ((cap_base d < cap_top d) × (has d execute ≡ true) × (heap_cap i d ≡ false)) c d x.seal (loose_not_return (cap_seal d))
          (λ s is.
          let q = r.returns is in
          let P : Shadow → Type 0 = λ z. of_heap i z ≡ false in
          (omega (arith, q.0, s.same_base, s.same_top), s.same_rights execute (λ z. omega (arith, z)) ∙ q.1, subst P (sym e) q.2));
      source =
          let P : Shadow → Type 0 = λ z. cap_seal d ≡ 4 → (root i z.source).disabled ≡ true in
          subst P (sym e) (by_seal (λ n. n ≡ 4) ((root i c.shadow.source).disabled ≡ true) c d x.seal (λ l is. loose_not_return (cap_seal d) l (inl is)) (λ s is. r.source is));
      boot = by_seal IsBootType (AsBoot i d) c d x.seal (loose_not_boot (cap_seal d)) (λ s is. as_boot i c d e s (r.boot is));
      calls =
          let P : Shadow → Type 0 = λ z. cap_seal d ≡ 9 → (root i z.root).origin ≡ Listing Call in
          subst P (sym e) (by_seal (λ n. n ≡ 9) ((root i c.shadow.root).origin ≡ Listing Call) c d x.seal (λ l is. loose_not_boot (cap_seal d) l (inr (inr (inr (inl is))))) (λ s is. r.calls is));
      native =
          let P : Shadow → Type 0 = λ z. is_native (root i z.root).origin ≡ true → cap_address d ≡ cap_address (made_cap i z.root) in
          subst P (sym e) (λ native. elim x.seal [ inl l ↦ absurd (bound native l.0) | inr s ↦ s.same_address ∙ r.native native ]);
    }

covers_derived : (c d : Cap) (r : Object) → Narrows c d → Covers c r → Covers d r
covers_derived c d r n h = record {
  number = h.number ∙ sym (ap (λ (x : Shadow). x.source) n.shadows);
  quota = h.quota ∙ sym (ap (λ (x : Shadow). x.root) n.shadows);
  low = omega (arith, h.low, n.low);
  high = omega (arith, h.high, n.high);
}

object_derived : (i : Image) (objects : List Object) (c d : Cap) → Narrows c d → HasObject i objects c → HasObject i objects d
object_derived i objects c d n h =
    let P : Shadow → Type 0 = λ z. of_heap i z ≡ true → cap_base d < cap_top d → Any (Covers d) objects in
    subst P (sym n.shadows) (λ is some. any_map (Covers c) (Covers d) objects (λ r. covers_derived c d r n) (h is (omega (arith, some, n.low, n.high))))

pub live_derived : (i : Image) (objects : List Object) (c d : Cap) → Derived c d → HasLive i objects c → HasLive i objects d
live_derived i objects c d x h = λ tagged.
    let n = (x tagged).narrows in
    let P : Shadow → Type 0 = λ z. of_heap i z ≡ true → cap_base d < cap_top d → Any (LiveCovers d) objects in
    subst P (sym n.shadows) (λ is some. any_map (LiveCovers c) (LiveCovers d) objects (λ r k. (k.0, covers_derived c d r (x tagged).narrows k.1)) (h (x tagged).narrows.tagged is (omega (arith, some, (x tagged).narrows.low, (x tagged).narrows.high))))

pub within_less : (i : Image) (fs : List Frame) (x y : ℕ) → y ≤ x → WithinRun i fs x → WithinRun i fs y
within_less i [] x y le w = w
within_less i (f ∷ []) x y le w = omega (arith, le, w)
within_less i (f ∷ g ∷ fs) x y le w = elim w [ inl a ↦ inl (omega (arith, le, a)) | inr b ↦ inr (b.0, within_less i (g ∷ fs) x y le b.1) ]

pub derived_placed : (i : Image) (objects : List Object) (D : ℕ → Type 0) (S T : Cap → Type 0) (c d : Cap) → IsDerived c d → Bound i c → (S c → T d) → Placed i objects D S c → Placed i objects D T d
derived_placed i objects D S T c d x bound stack p =
    let e : d.shadow ≡ c.shadow = x.narrows.shadows in
    record {
      rooted = derived_rooted i c d x bound p.rooted;
      object = object_derived i objects c d x.narrows p.object;
      owner =
          let P : Shadow → Type 0 = λ z. is_owned (root i z.root).origin ≡ true → (y : ℕ) → D y → Reaches i.entries (root i z.root).owner y in
          subst P (sym e) p.owner;
      own =
          let P : Shadow → Type 0 = λ z. is_stack (root i z.root).origin ≡ true → T d in
          subst P (sym e) (λ is. stack (p.own is));
      source =
          let P : Shadow → Type 0 = λ z. cap_seal d ≡ 4 → (y : ℕ) → D y → Reaches i.entries (root i z.source).owner y in
          subst P (sym e) (by_seal (λ n. n ≡ 4) ((y : ℕ) → D y → Reaches i.entries (root i c.shadow.source).owner y) c d x.seal (λ l is. loose_not_return (cap_seal d) l (inl is)) (λ s is. p.source is));
    }

own_derived : (i : Image) (t : ℕ) (fs : List Frame) (c d : Cap) → Narrows c d → OwnStack i t fs c → OwnStack i t fs d
own_derived i t fs c d n h =
    let P : Shadow → Type 0 = λ z. z.root ≡ stack_entry i t in
    (subst P (sym n.shadows) h.0, within_less i fs (cap_top c) (cap_top d) n.high h.1)

pub derived_in : (i : Image) (objects : List Object) (t : ℕ) (fs : List Frame) (c d : Cap) → (c.tag ≡ true → Bound i c) → Derived c d → InFrames i objects t fs c → InFrames i objects t fs d
derived_in i objects t [] c d bound x h = elim (bool_tells d.tag) [
  | inl tagged ↦ absurd (let clash : true ≡ false = sym (x tagged).narrows.tagged ∙ h in cc)
  | inr none ↦ none
]
derived_in i objects t (f ∷ fs) c d bound x h = λ tagged.
    let from : c.tag ≡ true = (x tagged).narrows.tagged in
    derived_placed i objects (λ y. y ≡ f.actor) (OwnStack i t (f ∷ fs)) (OwnStack i t (f ∷ fs)) c d (x tagged) (bound from) (own_derived i t (f ∷ fs) c d (x tagged).narrows) (h from)

pub derived_kept : (i : Image) (c d : Cap) → (c.tag ≡ true → Bound i c) → Derived c d → Kept i c → Kept i d
derived_kept i c d bound x k = λ tagged.
    let e : d.shadow ≡ c.shadow = (x tagged).narrows.shadows in
    let from : c.tag ≡ true = (x tagged).narrows.tagged in
    let P : Shadow → Type 0 = λ z. ((root i z.root).origin ≡ Listing Service → cap_seal d ≡ 1) × ((root i z.root).origin ≡ TrustedPart → cap_seal d ≡ 5) in
    let native : (o : Origin) → (root i c.shadow.root).origin ≡ o → is_native o ≡ true → is_native (root i c.shadow.root).origin ≡ true = λ o is n. ap is_native is ∙ n in
    subst P (sym e) (
      (λ service. elim (x tagged).seal [ inl l ↦ absurd (bound from (native (Listing Service) service refl) l.0) | inr s ↦ s.kind ∙ (k from).0 service ]),
      (λ trusted. elim (x tagged).seal [ inl l ↦ absurd (bound from (native TrustedPart trusted refl) l.0) | inr s ↦ s.kind ∙ (k from).1 trusted ]),
    )

-- code is of no quota, so a program counter has no object
code_not_quota : (o : Origin) → is_code o ≡ true → is_quota o ≡ false
code_not_quota Unknown h = refl
code_not_quota TrustedPart h = refl
code_not_quota (Listing Service) h = refl
code_not_quota (Listing Code) h = refl
code_not_quota (Listing Globals) h = refl
code_not_quota (Listing Stack) h = refl
code_not_quota (Listing Device) h = refl
code_not_quota (Listing Shared) h = refl
code_not_quota (Listing Sealed) h = refl
code_not_quota (Listing Call) h = refl
code_not_quota (Listing Library) h = refl
code_not_quota (Listing Quota) h = absurd (let clash : false ≡ true = h in cc)
code_not_quota (Listing Key) h = refl
code_not_quota (Listing Export) h = refl

pub code_no_heap : (i : Image) (c : Cap) → is_code (root i c.shadow.root).origin ≡ true → heap_cap i c ≡ false
code_no_heap i c h = ap (λ b. b && not (nat_eq c.shadow.source 0)) (code_not_quota (root i c.shadow.root).origin h)

-- what a program counter gives is of no object
pub pcc_live : (i : Image) (objects : List Object) (pcc d : Cap) → (pcc.tag ≡ true → IsPcc i pcc) → Derived pcc d → HasLive i objects d
pcc_live i objects pcc d runs x = λ tagged heap some.
    let n = (x tagged).narrows in
    let none : heap_cap i pcc ≡ false = code_no_heap i pcc (runs (x tagged).narrows.tagged).code in
    let same : heap_cap i d ≡ heap_cap i pcc = ap (λ z. of_heap i z) (x tagged).narrows.shadows in
    absurd (let clash : true ≡ false = sym heap ∙ same ∙ none in cc)
