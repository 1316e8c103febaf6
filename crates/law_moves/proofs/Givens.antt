-- What the switcher gives a callee may stand in its registers.
use Rattle.std.proofs.Common.{ℕ, ◌≡◌, inl, inr, true, false, List, ◌∷◌, refl, sym, ap, ◌∙◌, subst, arith}
use Rattle.def_words.specs.declared.Cap.{Cap}
use Rattle.def_words.specs.Authority.{cap_top}
use Rattle.ct_entry.specs.declared.rows.Owner.{Owner}
use Rattle.ct_entry.specs.declared.rows.Kind.TheVariants as kind
use Rattle.def_reach.specs.Roots.{Origin, TrustedPart, Listing, is_quota, is_stack, is_owned}
use Rattle.def_reach.specs.Sharing.{Reaches}
use Rattle.def_machine.specs.Image.{Image, root}
use Rattle.def_machine.specs.State.{Frame, Object}
use Rattle.def_confined.specs.Capabilities.{Kept}
use Rattle.def_confined.specs.Places.{Placed, OwnStack, HasLive}
use Rattle.def_confined.specs.Made.{IsOwn, IsReturnSentry, IsStackUpTo}
use Rattle.law_reach.proofs.Joins.{joined_is, reaches_own}
use Rattle.law_moves.proofs.Places.{within_head, no_heap_of}
use Rattle.law_moves.proofs.Authorities.{no_stack_of}

pub no_live_of : (i : Image) (objects : List Object) (c : Cap) (o : Origin) → (root i c.shadow.root).origin ≡ o → is_quota o ≡ false → HasLive i objects c
no_live_of i objects c o is none = λ tagged heap some. absurd (let clash : true ≡ false = sym heap ∙ no_heap_of i c o is none in cc)

own_by : (G : Type 0) (i : Image) (b : ℕ) (c : Cap) → IsOwn i b c → ((o : Origin) → (root i c.shadow.root).origin ≡ o → is_quota o ≡ false → is_stack o ≡ false → G) → G
own_by G i b c h f = elim h.kind [ inl e ↦ f (Listing kind.Code) e refl refl | inr e ↦ f (Listing kind.Globals) e refl refl ]

pub own_placed : (i : Image) (objects : List Object) (t b : ℕ) (fs : List Frame) (c : Cap) → IsOwn i b c → Placed i objects (λ d. d ≡ b) (OwnStack i t fs) c
own_placed i objects t b fs c h = record {
  rooted = h.rooted;
  object = λ heap. absurd (own_by ⊥ i b c h (λ o is q s. let clash : true ≡ false = sym heap ∙ no_heap_of i c o is q in cc));
  owner = λ owned d e.
      let P : Owner → Type 0 = λ o. Reaches i.entries o d in
      subst P (sym h.owner) (reaches_own i.entries b d (joined_is i.entries b d (sym e)));
  own = λ stack. absurd (own_by ⊥ i b c h (λ o is q s. no_stack_of i c o is s stack));
  source = λ four. absurd (omega (arith, four, h.unsealed));
}

pub own_live : (i : Image) (objects : List Object) (b : ℕ) (c : Cap) → (c.tag ≡ true → IsOwn i b c) → HasLive i objects c
own_live i objects b c h = λ tagged heap some. absurd (own_by ⊥ i b c (h tagged) (λ o is q s. let clash : true ≡ false = sym heap ∙ no_heap_of i c o is q in cc))

pub own_kept : (i : Image) (b : ℕ) (c : Cap) → (c.tag ≡ true → IsOwn i b c) → Kept i c
own_kept i b c h = λ tagged. (
  (λ service. absurd (elim (h tagged).kind [
    | inl e ↦ let clash : Listing kind.Code ≡ Listing kind.Service = sym e ∙ service in cc
    | inr e ↦ let clash : Listing kind.Globals ≡ Listing kind.Service = sym e ∙ service in cc
  ])),
  (λ trusted. absurd (elim (h tagged).kind [
    | inl e ↦ let clash : Listing kind.Code ≡ TrustedPart = sym e ∙ trusted in cc
    | inr e ↦ let clash : Listing kind.Globals ≡ TrustedPart = sym e ∙ trusted in cc
  ])),
)

pub sentry_placed : (i : Image) (objects : List Object) (D : ℕ → Type 0) (S : Cap → Type 0) (c : Cap) → IsReturnSentry i c → Placed i objects D S c
sentry_placed i objects D S c h = record {
  rooted = h.rooted;
  object = λ heap. absurd (let clash : true ≡ false = sym heap ∙ no_heap_of i c TrustedPart h.kind refl in cc);
  owner = λ owned. absurd (let clash : true ≡ false = sym owned ∙ ap is_owned h.kind in cc);
  own = λ stack. absurd (no_stack_of i c TrustedPart h.kind refl stack);
  source = λ four. absurd (omega (arith, four, h.sealed));
}

pub sentry_kept : (i : Image) (c : Cap) → (c.tag ≡ true → IsReturnSentry i c) → Kept i c
sentry_kept i c h = λ tagged. ((λ service. absurd (let clash : TrustedPart ≡ Listing kind.Service = sym (h tagged).kind ∙ service in cc)), (λ trusted. (h tagged).sealed))

pub stack_placed : (i : Image) (objects : List Object) (t high : ℕ) (f : Frame) (fs : List Frame) (c : Cap) → f.top ≡ high → IsStackUpTo i t high c → Placed i objects (λ d. d ≡ f.actor) (OwnStack i t (f ∷ fs)) c
stack_placed i objects t high f fs c top h = record {
  rooted = h.rooted;
  object = λ heap. absurd (let clash : true ≡ false = sym heap ∙ no_heap_of i c (Listing kind.Stack) h.kind refl in cc);
  owner = λ owned. absurd (let clash : true ≡ false = sym owned ∙ ap is_owned h.kind in cc);
  own = λ stack. (h.from, within_head i f fs (cap_top c) (omega (arith, top, h.ends)));
  source = λ four. absurd (omega (arith, four, h.unsealed));
}

pub stack_kept : (i : Image) (t high : ℕ) (c : Cap) → (c.tag ≡ true → IsStackUpTo i t high c) → Kept i c
stack_kept i t high c h = λ tagged.
    ((λ service. absurd (let clash : Listing kind.Stack ≡ Listing kind.Service = sym (h tagged).kind ∙ service in cc)), (λ trusted. absurd (let clash : Listing kind.Stack ≡ TrustedPart = sym (h tagged).kind ∙ trusted in cc)))
