-- Without the fact a return leads out of the invariant.
use Rattle.std.proofs.Common.{ℕ, ◌+◌, ◌≡◌, ◌||◌, inl, inr, Bool, not, true, false, List, Some, [], ◌∷◌, refl, sym, ap, ◌∙◌, subst, arith, lit<, lit≤}
use Rattle.std.proofs.lemmas.Bool.{not-true}
use Rattle.def_profile.specs.declared.rights.TheConstants.{GLOBALS_RIGHTS, SERVICE_RIGHTS}
use Rattle.def_profile.specs.declared.native.TheConstants.{NATIVE_LENGTH, RETURN_ENTRY}
use Rattle.def_profile.specs.declared.seals.TheConstants.{RETURN_ENABLE}
use Rattle.def_words.specs.declared.Cap.{Cap}
use Rattle.def_words.specs.declared.Shadow.{Shadow}
use Rattle.def_words.specs.Permissions.{bit}
use Rattle.def_words.specs.Derive.{memory_root, executable_root}
use Rattle.def_words.specs.Narrows.{IsMade}
use Rattle.def_memory.specs.Granules.{plain, nothing}
use Rattle.ct_entry.specs.declared.rows.Owner.{Owner}
use Rattle.ct_entry.specs.declared.rows.Owner.TheVariants.{Compartment}
use Rattle.ct_entry.specs.declared.rows.Kind.{Kind}
use Rattle.ct_entry.specs.declared.rows.Kind.TheVariants as kinds
use Rattle.ct_entry.specs.Kinds.{is_call, is_shared, is_library_slot}
use Rattle.def_reach.specs.Roots.{TrustedPart, Listing, root_of, gate_for, is_owned}
use Rattle.def_reach.specs.Sharing.{Edge, IsEdgeList, Imports, Reaches}
use Rattle.def_machine.specs.Image.{region, root, booted}
use Rattle.def_machine.specs.State.{thread}
use Rattle.def_machine.specs.Frames.{returned}
use Rattle.def_confined.specs.Capabilities.{Rooted, Kept}
use Rattle.def_confined.specs.Confined.{Confined}
use Rattle.def_confined.specs.Places.{Placed, InFrames, OwnStack, HasLive}
use Rattle.law_moves.proofs.Puts.{plain_kept}
use Rattle.law_moves.proofs.Places.{all_of}
use Rattle.law_words.proofs.Rights.{memory_is_root, executable_is_root, taken}
use Rattle.law_moves.proofs.Boots.{as_boot, is_fixed, not_live, kept_as}
use Rattle.law_examples.proofs.Mades.{make, kind_service}
use Rattle.law_lists.proofs.Tests.{by_test}
use Rattle.law_examples.proofs.Cases.{of_kind, past_end}
use Rattle.law_examples.proofs.Rooting.{by_entry_of, entry_placed}
use Rattle.law_examples.proofs.Alone.{Filled, ThreadHolds, alone_confined}
use Rattle.law_examples.specs.WithoutExports.{without_exports}
use Rattle.law_examples.specs.Apart.{two, sentry, inner_globals, inner, outermost, runner, before}

is_sentry : IsMade RETURN_ENTRY (RETURN_ENTRY + NATIVE_LENGTH) SERVICE_RIGHTS RETURN_ENTRY RETURN_ENABLE sentry × (sentry.shadow ≡ record { root = 0; source = 0 })
is_sentry = make executable_root RETURN_ENTRY NATIVE_LENGTH SERVICE_RIGHTS RETURN_ENTRY RETURN_ENABLE 0 executable_is_root taken.service.1 (lit< tt) (lit≤ tt) (lit≤ tt) (lit≤ tt) (lit≤ tt) (lit< tt) (kind_service RETURN_ENABLE refl (λ e. omega (arith, e)))

is_inner : IsMade 0x80000030 0x80000040 GLOBALS_RIGHTS 0x80000030 0 inner_globals × (inner_globals.shadow ≡ record { root = 4; source = 0 })
is_inner = make memory_root 0x80000030 16 GLOBALS_RIGHTS 0x80000030 0 4 memory_is_root taken.globals.1 (lit< tt) (lit≤ tt) (lit≤ tt) (lit≤ tt) (lit≤ tt) (lit< tt) (inl refl)

-- no entry is an import
abbrev imports : Kind → Bool
imports k = is_call k || is_shared k || is_library_slot k

no_import : (k : Kind) (n : ℕ) → imports k ≡ true → (root_of two.entries n).origin ≡ Listing k → ⊥
unfolding root_of gate_for
no_import k n imported is = let clash : true ≡ false = sym imported ∙ sym (ap (of_kind imports) is) ∙ not-true (of_kind imports (root_of two.entries n).origin) (told n) in cc
  where
    told : (m : ℕ) → not (of_kind imports (root_of two.entries m).origin) ≡ true
    told = by_test (λ m. not (of_kind imports (root_of two.entries m).origin)) 7 refl (λ j. refl)

no_edge : (a b : ℕ) → Edge two.entries a b → ⊥
no_edge a b (inl c) = no_import kinds.Call c.import refl c.kind_is
no_edge a b (inr (inl c)) = no_import kinds.Call c.import refl c.kind_is
no_edge a b (inr (inr (object, x, y))) = no_import kinds.Shared x.import refl x.kind_is

alone : (a : ℕ) (xs : List ℕ) (b : ℕ) → IsEdgeList two.entries a xs b → a ≡ b
alone a [] b h = h
alone a (x ∷ xs) b h = absurd (no_edge a x h.0)

unbrought : (o : Owner) (xs : List Owner) (b : Owner) → Imports two.entries o xs b → o ≡ b
unbrought o [] b h = h
unbrought o (x ∷ xs) b h = absurd (no_import kinds.Library h.0.import refl h.0.kind_is)

not_reached : Reaches two.entries (Compartment 1) 0 → ⊥
not_reached h =
    let same : Compartment h.by ≡ Compartment 1 = unbrought (Compartment h.by) h.through (Compartment 1) h.imports in
    let one : h.by ≡ 1 = cc in
    let none : h.by ≡ 0 = alone h.by h.joined.members 0 h.joined.leads in
    omega (arith, one, none)

sentry_rooted : Rooted two sentry
unfolding root_of gate_for bit
sentry_rooted = by_entry_of two 0 _ _ _ _ _ sentry is_sentry taken.service.0 refl refl (λ any. sym is_sentry.0.address_is) (λ any. as_boot two 0 sentry refl is_sentry.1)

globals_rooted : Rooted two inner_globals
unfolding root_of gate_for bit
globals_rooted = by_entry_of two 4 _ _ _ _ _ inner_globals is_inner taken.globals.0 refl refl (λ any. sym is_inner.0.address_is) (λ any. as_boot two 4 inner_globals refl is_inner.1)

sentry_placed : (S : Cap → Type 0) → Placed two [] (λ y. y ≡ 0) S sentry
unfolding root_of gate_for
sentry_placed S = entry_placed two 0 0 5 S sentry is_sentry.1 sentry_rooted is_sentry.0.kind_is (λ e. omega (arith, e)) (λ owned. absurd (let clash : false ≡ true = owned in cc)) (λ stack. absurd (let clash : false ≡ true = stack in cc))

globals_placed : Placed two [] (λ y. y ≡ 1) (OwnStack two 0 (inner ∷ outermost ∷ [])) inner_globals
unfolding root_of gate_for
globals_placed = entry_placed two 1 4 0 _ inner_globals is_inner.1 globals_rooted is_inner.0.kind_is (λ e. omega (arith, e)) (λ owned. refl) (λ stack. absurd (let clash : false ≡ true = stack in cc))

sentry_kept : Kept two sentry
unfolding root_of gate_for
sentry_kept = kept_as two 0 sentry is_sentry.1 ((λ is. absurd (let clash : TrustedPart ≡ Listing kinds.Service = is in cc)), (λ is. is_sentry.0.kind_is))

globals_kept : Kept two inner_globals
unfolding root_of gate_for
globals_kept = kept_as two 4 inner_globals is_inner.1 ((λ is. absurd (let clash : Listing kinds.Globals ≡ Listing kinds.Service = is in cc)), (λ is. absurd (let clash : Listing kinds.Globals ≡ TrustedPart = is in cc)))

none_kept : Kept two (plain 0)
none_kept = plain_kept two (plain 0) refl

-- RAM is zero, as boot filled it
two_filled : Filled two before.granules
two_filled = record {
  filled = λ k. past_end [] 16 k nothing;
  untagged = by_test (λ j. is_fixed (region two j) || not (booted two j).cap.tag) 16 refl (λ j. refl);
  kept = λ k. none_kept;
  unmarked = λ k. refl;
  size = lit≤ tt;
}

none_in : InFrames two [] 0 (inner ∷ outermost ∷ []) (plain 0)
none_in = λ tagged. absurd (let clash : false ≡ true = tagged in cc)

none_live : HasLive two [] (plain 0)
none_live = λ tagged. absurd (let clash : false ≡ true = tagged in cc)

runner_holds : ThreadHolds two (thread (without_exports before) 0) (Some 0)
unfolding root_of gate_for
runner_holds = record {
  pcc = none_in;
  registers = all_of (λ c. InFrames two [] 0 (inner ∷ outermost ∷ []) c) runner.registers (plain 0) none_in
      (none_in, (none_in, (none_in, (none_in, (none_in, (none_in, (none_in, (none_in, (none_in, (none_in, ((λ tagged. globals_placed), tt)))))))))));
  frames = (
    record {
      stack = refl;
      even = refl;
      low = lit≤ tt;
      high = lit≤ tt;
      under = lit≤ tt;
      passes = λ is. absurd (let clash : false ≡ true = is in cc);
      returns = (is_sentry.0.tagged, inr is_sentry.0.kind_is);
      c1 = λ tagged. sentry_placed (OwnStack two 0 (outermost ∷ []));
      c2 = λ tagged. absurd (let clash : false ≡ true = tagged in cc);
      c3 = λ tagged. absurd (let clash : false ≡ true = tagged in cc);
      c8 = λ tagged. absurd (let clash : false ≡ true = tagged in cc);
      c9 = λ tagged. absurd (let clash : false ≡ true = tagged in cc);
    },
    (record { stack = refl; even = refl; low = lit≤ tt; high = lit≤ tt; under = tt; passes = tt; returns = tt; c1 = refl; c2 = refl; c3 = refl; c8 = refl; c9 = refl }, tt),
  );
  posture = λ off. absurd (let clash : false ≡ true = off in cc);
  runs = λ tagged. absurd (let clash : false ≡ true = tagged in cc);
  kept = all_of (Kept two) runner.registers (plain 0) none_kept
      (none_kept, (none_kept, (none_kept, (none_kept, (none_kept, (none_kept, (none_kept, (none_kept, (none_kept, (none_kept, (globals_kept, tt)))))))))));
  saved = (record { c1 = sentry_kept; c2 = none_kept; c3 = none_kept; c8 = none_kept; c9 = none_kept }, (record { c1 = none_kept; c2 = none_kept; c3 = none_kept; c8 = none_kept; c9 = none_kept }, tt));
  live = λ runs. all_of (HasLive two []) runner.registers (plain 0) none_live
      (none_live, (none_live, (none_live, (none_live, (none_live, (none_live, (none_live, (none_live, (none_live, (none_live, (not_live two [] 4 inner_globals is_inner.1, tt)))))))))));
}

pub before_confined : Confined two (without_exports before)
before_confined = alone_confined two before.granules (thread (without_exports before) 0) (Some 0) [] (0 ∷ []) two_filled runner_holds

pub after_not_confined : Confined two (without_exports (returned two before 0 (inner ∷ outermost ∷ []))) → ⊥
unfolding root_of gate_for
after_not_confined h =
    let placed : Placed two [] (λ y. y ≡ 0) (OwnStack two 0 (outermost ∷ [])) inner_globals = h.registers 0 10 is_inner.0.tagged in
    let P : Shadow → Type 0 = λ z. is_owned (root two z.root).origin ≡ true → (y : ℕ) → y ≡ 0 → Reaches two.entries (root two z.root).owner y in
    let owner = subst P is_inner.1 placed.owner in
    not_reached (owner refl 0 refl)
