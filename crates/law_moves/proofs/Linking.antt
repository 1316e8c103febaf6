-- The link of a jump.
use Rattle.std.proofs.Common.{ℕ, ◌≡◌, ◌≤◌, ◌<◌, inl, inr, true, false, List, [], ◌∷◌, sym, ◌∙◌, subst, arith}
use Rattle.law_lists.proofs.Tests.{bool_tells}
use Rattle.def_words.specs.declared.Cap.{Cap}
use Rattle.def_words.specs.declared.Posture.{Posture}
use Rattle.def_words.specs.Authority.{cap_base, cap_top}
use Rattle.def_words.specs.Permissions.{IsLegal, Within, bit, cap_perms, global, store_local, execute}
use Rattle.def_words.specs.Seals.{cap_seal}
use Rattle.def_words.specs.Narrows.{IsLink}
use Rattle.def_reach.specs.Roots.{is_stack, is_native, is_root, is_owned, is_code}
use Rattle.def_reach.specs.Sharing.{Reaches}
use Rattle.def_machine.specs.Image.{Image, root}
use Rattle.def_machine.specs.State.{Thread, Frame, Object}
use Rattle.def_confined.specs.Capabilities.{Rooted, IsBootType, IsReturnType, Kept, heap_cap, is_home}
use Rattle.def_confined.specs.Places.{Placed, InFrames, WithinRun, OwnStack, HasLive}
use Rattle.def_confined.specs.Confined.{IsPcc, PostureFits}
use Rattle.def_confined.specs.Made.{Links}
use Rattle.law_moves.proofs.Derives.{code_no_heap}
use Rattle.law_moves.proofs.Moves.{not_native_kept}

link_no_heap : (i : Image) (pcc l : Cap) (before : Posture) → IsLink pcc before l → is_code (root i pcc.shadow.root).origin ≡ true → heap_cap i l ≡ false
link_no_heap i pcc l before x code = code_no_heap i l (let P : ℕ → Type 0 = λ n. is_code (root i n).origin ≡ true in subst P (sym x.root) code)

link_not_four : (pcc l : Cap) (before : Posture) → IsLink pcc before l → cap_seal l ≡ 4 → before.off ≡ true
link_not_four pcc l before x four = elim (bool_tells before.off) [ inl off ↦ off | inr on ↦ absurd (omega (arith, four, (x.on on).0)) ]

link_sealed : (pcc l : Cap) (before : Posture) → IsLink pcc before l → IsReturnType (cap_seal l)
link_sealed pcc l before x = elim (bool_tells before.off) [ inl off ↦ inl (x.off off).0 | inr on ↦ inr (x.on on).0 ]

return_not_boot : (n : ℕ) → IsReturnType n → IsBootType n → ⊥
return_not_boot n r (inl e) = elim r [ inl a ↦ omega (arith, a, e) | inr b ↦ omega (arith, b, e) ]
return_not_boot n r (inr (inl e)) = elim r [ inl a ↦ omega (arith, a, e) | inr b ↦ omega (arith, b, e) ]
return_not_boot n r (inr (inr (inl e))) = elim r [ inl a ↦ omega (arith, a, e) | inr b ↦ omega (arith, b, e) ]
return_not_boot n r (inr (inr (inr (inl e)))) = elim r [ inl a ↦ omega (arith, a, e) | inr b ↦ omega (arith, b, e) ]
return_not_boot n r (inr (inr (inr (inr e)))) = elim r [ inl a ↦ omega (arith, a, e) | inr b ↦ omega (arith, b, e) ]

pub link_placed : (i : Image) (objects : List Object) (t : ℕ) (th : Thread) (f : Frame) (fs : List Frame) (l : Cap) → IsLink th.pcc th.posture l → IsPcc i th.pcc → is_native (root i th.pcc.shadow.root).origin ≡ false → cap_base th.pcc < cap_top th.pcc
    → PostureFits i th (f ∷ fs) → Placed i objects (λ d. d ≡ f.actor) (OwnStack i t (f ∷ fs)) th.pcc → Placed i objects (λ d. d ≡ f.actor) (OwnStack i t (f ∷ fs)) l
link_placed i objects t th f fs l x runs other some posture h =
    let r : Rooted i th.pcc = h.rooted in
    let none : heap_cap i th.pcc ≡ false = code_no_heap i th.pcc runs.code in
    let here : heap_cap i l ≡ false = link_no_heap i th.pcc l th.posture x runs.code in
    let range = h.rooted.range none in
    let fits = λ (four : cap_seal l ≡ 4). posture (link_not_four th.pcc l th.posture x four) in
    let source_is = λ (four : cap_seal l ≡ 4). (x.off (link_not_four th.pcc l th.posture x four)).1 in
    record {
      rooted = record {
        order = omega (arith, h.rooted.order, x.same_base, x.same_top);
        from = let P : ℕ → Type 0 = λ n. is_root (root i n).origin ≡ true in subst P (sym x.root) h.rooted.from;
        home = let P : ℕ → Type 0 = λ n. is_home (root i n).origin (root i n).owner ≡ true in subst P (sym x.root) h.rooted.home;
        legal = let P : ℕ → Type 0 = λ n. IsLegal n in subst P (sym x.same_rights) h.rooted.legal;
        range = λ no.
            let P : ℕ → Type 0 = λ n. ((root i n).base ≤ cap_base l) × (cap_top l ≤ (root i n).top) in
            subst P (sym x.root) (omega (arith, range, x.same_base), omega (arith, range, x.same_top));
        heap = λ is. absurd (let clash : true ≡ false = sym is ∙ here in cc);
        rights = λ no.
            let P : ℕ → Type 0 = λ n. Within (cap_perms l) (root i n).rights in
            let Q : ℕ → Type 0 = λ n. Within n (root i th.pcc.shadow.root).rights in
            subst P (sym x.root) (subst Q (sym x.same_rights) (h.rooted.rights none));
        heap_rights = λ is. absurd (let clash : true ≡ false = sym is ∙ here in cc);
        local = λ there.
            let P : ℕ → Type 0 = λ n. is_stack (root i n).origin ≡ true in
            let Q : ℕ → Type 0 = λ n. bit n store_local ≡ true in
            subst P (sym x.root) (h.rooted.local (subst Q x.same_rights there));
        held = λ stack.
            let P : ℕ → Type 0 = λ n. is_stack (root i n).origin ≡ true in
            let Q : ℕ → Type 0 = λ n. bit n global ≡ false in
            subst Q (sym x.same_rights) (h.rooted.held (subst P x.root stack));
        returns = λ is. (omega (arith, some, x.same_base, x.same_top), (let Q : ℕ → Type 0 = λ n. bit n execute ≡ true in subst Q (sym x.same_rights) runs.executes), here);
        source = λ four. let P : ℕ → Type 0 = λ n. (root i n).disabled ≡ true in subst P (sym (source_is four)) (fits four).0;
        boot = λ is. absurd (return_not_boot (cap_seal l) (link_sealed th.pcc l th.posture x) is);
        calls = λ is. absurd (return_not_boot (cap_seal l) (link_sealed th.pcc l th.posture x) (inr (inr (inr (inl is)))));
        native = λ is. absurd (let P : ℕ → Type 0 = λ n. is_native (root i n).origin ≡ true in let clash : true ≡ false = sym (subst P x.root is) ∙ other in cc);
      };
      object = λ heap. absurd (let clash : true ≡ false = sym heap ∙ here in cc);
      owner =
          let P : ℕ → Type 0 = λ n. is_owned (root i n).origin ≡ true → (d : ℕ) → d ≡ f.actor → Reaches i.entries (root i n).owner d in
          subst P (sym x.root) h.owner;
      own = λ stack.
          let P : ℕ → Type 0 = λ n. is_stack (root i n).origin ≡ true in
          let own : OwnStack i t (f ∷ fs) th.pcc = h.own (subst P x.root stack) in
          let Q : ℕ → Type 0 = λ n. WithinRun i (f ∷ fs) n in
          (x.root ∙ own.0, subst Q (sym x.same_top) own.1);
      source = λ four d e.
          let P : ℕ → Type 0 = λ n. Reaches i.entries (root i n).owner f.actor in
          let Q : ℕ → Type 0 = λ n. Reaches i.entries (root i l.shadow.source).owner n in
          subst Q (sym e) (subst P (sym (source_is four)) (fits four).1);
    }

pub link_in : (i : Image) (objects : List Object) (t : ℕ) (th : Thread) (fs : List Frame) (l : Cap) → Links th.pcc th.posture l → (th.pcc.tag ≡ true → IsPcc i th.pcc) → is_native (root i th.pcc.shadow.root).origin ≡ false → cap_base th.pcc < cap_top th.pcc
    → PostureFits i th fs → InFrames i objects t fs th.pcc → InFrames i objects t fs l
link_in i objects t th [] l x runs other some posture h = elim (bool_tells l.tag) [
  | inl tagged ↦ absurd (let clash : true ≡ false = sym (x tagged).tagged ∙ h in cc)
  | inr not_tagged ↦ not_tagged
]
link_in i objects t th (f ∷ fs) l x runs other some posture h = λ tagged.
    let from : th.pcc.tag ≡ true = (x tagged).tagged in
    link_placed i objects t th f fs l (x tagged) (runs from) other some posture (h from)

pub link_kept : (i : Image) (th : Thread) (l : Cap) → Links th.pcc th.posture l → is_native (root i th.pcc.shadow.root).origin ≡ false → Kept i l
link_kept i th l x other = λ tagged.
    let same : is_native (root i l.shadow.root).origin ≡ false = let P : ℕ → Type 0 = λ n. is_native (root i n).origin ≡ false in subst P (sym (x tagged).root) other in
    not_native_kept i l same tagged

pub link_live : (i : Image) (objects : List Object) (th : Thread) (l : Cap) → Links th.pcc th.posture l → (th.pcc.tag ≡ true → IsPcc i th.pcc) → HasLive i objects l
link_live i objects th l x runs = λ tagged heap some.
    absurd (let clash : true ≡ false = sym heap ∙ link_no_heap i th.pcc l th.posture (x tagged) (runs (x tagged).tagged).code in cc)
