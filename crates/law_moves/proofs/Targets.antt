-- What a jump goes to: a capability without its seal.
use Rattle.std.proofs.Common.{ℕ, ◌≡◌, ◌≤◌, inl, inr, ◌&&◌, Bool, true, false, not, nat_eq, List, [], ◌∷◌, refl, sym, ap, ◌∙◌, subst, arith}
use Rattle.law_lists.proofs.Tests.{bool_tells}
use Rattle.def_words.specs.declared.Cap.{Cap}
use Rattle.def_words.specs.Authority.{cap_address, cap_base, cap_top, cap_high}
use Rattle.def_words.specs.Permissions.{IsLegal, Within, bit, cap_perms, has, global, store_local, execute}
use Rattle.def_words.specs.Seals.{cap_seal}
use Rattle.def_words.specs.Narrows.{IsOpened}
use Rattle.def_reach.specs.Roots.{is_quota, is_stack, is_native, is_root, is_owned, is_code}
use Rattle.def_reach.specs.Sharing.{Reaches}
use Rattle.def_machine.specs.Image.{Image, root, made_cap}
use Rattle.def_machine.specs.State.{Frame, Object}
use Rattle.def_confined.specs.Capabilities.{Rooted, IsBootType, heap_cap, is_home}
use Rattle.def_confined.specs.Places.{Placed, InFrames, WithinRun, OwnStack}
use Rattle.def_confined.specs.Confined.{IsPcc}
use Rattle.def_confined.specs.Partitioned.{Partitioned}
use Rattle.def_confined.specs.Made.{IsTarget, Opens}
use Rattle.law_words.proofs.Words.{address_back, address_small}
use Rattle.law_words.proofs.Passing.{opened_is}
use Rattle.def_words.specs.Jumped.{opened}
use Rattle.def_words.specs.Capability.{with_seal_field}

-- no source, no object
pub opened_no_heap : (i : Image) (p : Cap) → p.shadow.source ≡ 0 → heap_cap i p ≡ false
opened_no_heap i p none = ap (λ n. is_quota (root i p.shadow.root).origin && not (nat_eq n 0)) none ∙ and_false (is_quota (root i p.shadow.root).origin)
  where
    and_false : (b : Bool) → (b && false) ≡ false
    and_false true = refl
    and_false false = refl

pub opened_rooted : (i : Image) (c p : Cap) → IsTarget c p → heap_cap i c ≡ false → Rooted i c → Rooted i p
opened_rooted i c p x none r =
    let o : IsOpened c p = x.opened in
    let here : heap_cap i p ≡ false = opened_no_heap i p x.opened.source in
    let range = r.range none in
    record {
      order = omega (arith, r.order, x.opened.same_base, x.opened.same_top);
      from = let P : ℕ → Type 0 = λ n. is_root (root i n).origin ≡ true in subst P (sym x.opened.root) r.from;
      home = let P : ℕ → Type 0 = λ n. is_home (root i n).origin (root i n).owner ≡ true in subst P (sym x.opened.root) r.home;
      legal = let P : ℕ → Type 0 = λ n. IsLegal n in subst P (sym x.opened.same_rights) r.legal;
      range = λ no.
          let P : ℕ → Type 0 = λ n. ((root i n).base ≤ cap_base p) × (cap_top p ≤ (root i n).top) in
          subst P (sym x.opened.root) (omega (arith, range, x.opened.same_base), omega (arith, range, x.opened.same_top));
      heap = λ is. absurd (let clash : true ≡ false = sym is ∙ here in cc);
      rights = λ no.
          let P : ℕ → Type 0 = λ n. Within (cap_perms p) (root i n).rights in
          let Q : ℕ → Type 0 = λ n. Within n (root i c.shadow.root).rights in
          subst P (sym x.opened.root) (subst Q (sym x.opened.same_rights) (r.rights none));
      heap_rights = λ is. absurd (let clash : true ≡ false = sym is ∙ here in cc);
      local = λ there.
          let P : ℕ → Type 0 = λ n. is_stack (root i n).origin ≡ true in
          let Q : ℕ → Type 0 = λ n. bit n store_local ≡ true in
          subst P (sym x.opened.root) (r.local (subst Q x.opened.same_rights there));
      held = λ stack.
          let P : ℕ → Type 0 = λ n. is_stack (root i n).origin ≡ true in
          let Q : ℕ → Type 0 = λ n. bit n global ≡ false in
          subst Q (sym x.opened.same_rights) (r.held (subst P x.opened.root stack));
      returns = λ is. absurd (elim is [ inl e ↦ omega (arith, e, x.opened.unsealed) | inr e ↦ omega (arith, e, x.opened.unsealed) ]);
      source = λ is. absurd (omega (arith, is, x.opened.unsealed));
      boot = λ is. absurd (no_boot (cap_seal p) x.opened.unsealed is);
      calls = λ is. absurd (omega (arith, is, x.opened.unsealed));
      native = λ is.
          let P : ℕ → Type 0 = λ n. is_native (root i n).origin ≡ true in
          x.same_address ∙ r.native (subst P x.opened.root is) ∙ sym (ap (λ n. cap_address (made_cap i n)) x.opened.root);
    }
  where
    no_boot : (n : ℕ) → n ≡ 0 → IsBootType n → ⊥
    no_boot n z (inl e) = omega (arith, z, e)
    no_boot n z (inr (inl e)) = omega (arith, z, e)
    no_boot n z (inr (inr (inl e))) = omega (arith, z, e)
    no_boot n z (inr (inr (inr (inl e)))) = omega (arith, z, e)
    no_boot n z (inr (inr (inr (inr e)))) = omega (arith, z, e)

pub opened_placed : (i : Image) (objects : List Object) (f : ℕ) (t : ℕ) (fs : List Frame) (c p : Cap) → IsTarget c p → heap_cap i c ≡ false → Placed i objects (λ d. d ≡ f) (OwnStack i t fs) c → Placed i objects (λ d. d ≡ f) (OwnStack i t fs) p
opened_placed i objects f t fs c p x none h = record {
  rooted = opened_rooted i c p x none h.rooted;
  object = λ heap. absurd (let clash : true ≡ false = sym heap ∙ opened_no_heap i p x.opened.source in cc);
  owner =
      let P : ℕ → Type 0 = λ n. is_owned (root i n).origin ≡ true → (d : ℕ) → d ≡ f → Reaches i.entries (root i n).owner d in
      subst P (sym x.opened.root) h.owner;
  own = λ stack.
      let P : ℕ → Type 0 = λ n. is_stack (root i n).origin ≡ true in
      let own : OwnStack i t fs c = h.own (subst P x.opened.root stack) in
      let Q : ℕ → Type 0 = λ n. WithinRun i fs n in
      (x.opened.root ∙ own.0, subst Q (sym x.opened.same_top) own.1);
  source = λ is. absurd (omega (arith, is, x.opened.unsealed));
}

pub opened_in : (i : Image) (objects : List Object) (t : ℕ) (fs : List Frame) (c p : Cap) → Opens c p → (c.tag ≡ true → heap_cap i c ≡ false) → InFrames i objects t fs c → InFrames i objects t fs p
opened_in i objects t [] c p x none h = elim (bool_tells p.tag) [
  | inl tagged ↦ absurd (let clash : true ≡ false = sym (x tagged).opened.tagged ∙ h in cc)
  | inr not_tagged ↦ not_tagged
]
opened_in i objects t (f ∷ fs) c p x none h = λ tagged.
    let from : c.tag ≡ true = (x tagged).opened.tagged in
    opened_placed i objects f.actor t (f ∷ fs) c p (x tagged) (none from) (h from)

-- what is executed through is code
pub opened_runs : (i : Image) (c p : Cap) → Partitioned i → IsTarget c p → heap_cap i c ≡ false → has c execute ≡ true → Rooted i c → IsPcc i p
opened_runs i c p parts x none runs r = record {
  unsealed = x.opened.unsealed;
  executes = let Q : ℕ → Type 0 = λ n. bit n execute ≡ true in subst Q (sym x.opened.same_rights) runs;
  code = let P : ℕ → Type 0 = λ n. is_code (root i n).origin ≡ true in subst P (sym x.opened.root) (parts.executes c.shadow.root r.from (r.rights none execute runs));
}

-- what boot alone makes is of no object
pub boot_no_heap : (i : Image) (c : Cap) → Rooted i c → IsBootType (cap_seal c) → heap_cap i c ≡ false
boot_no_heap i c r is = opened_no_heap i c (r.boot is).source

-- the opened capability of a jump is its target
pub opened_opens : (c : Cap) → Opens c (opened c)
opened_opens c = λ tagged. record { opened = opened_is c tagged; same_address = address_back (with_seal_field (cap_high c) 0) (cap_address c) (address_small c) }
