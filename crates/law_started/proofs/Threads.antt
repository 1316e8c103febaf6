-- A thread of a sound image as it starts: what it holds, and its one frame.
use Rattle.std.proofs.Common.{ℕ, zero, suc, ◌≡◌, ◌+◌, ◌^◌, ◌≤◌, ◌<◌, ◌⊎◌, inl, inr, Bool, true, false, cond, List, [], ◌∷◌, Some, unwrap_or, slice_get, slice_index_or, refl, sym, ap, ◌∙◌, subst, arith}
use Rattle.std.proofs.lemmas.Option.{slice_get_within}
use Rattle.ct_entry.specs.declared.rows.Owner.TheVariants.{Compartment}
use Rattle.ct_entry.specs.declared.rows.Gate.{Gate}
use Rattle.ct_entry.specs.declared.rows.Kind.TheVariants as kind
use Rattle.def_words.specs.declared.Posture.{Posture}
use Rattle.def_words.specs.Permissions.{bit, has, execute}
use Rattle.def_memory.specs.Granules.{plain}
use Rattle.def_reach.specs.Roots.{Root, TrustedPart, Listing, root_of, gate_for, is_owned, is_stack, is_code}
use Rattle.def_reach.specs.Sharing.{Reaches}
use Rattle.def_machine.specs.Image.{root, made_cap, stack_entry}
use Rattle.def_machine.specs.State as st
use Rattle.def_machine.specs.State.{Frame, nobody, thread, interrupts_on}
use Rattle.def_machine.specs.Objects.{Each}
use Rattle.def_confined.specs.Capabilities.{Kept}
use Rattle.def_confined.specs.Places.{InFrames, OwnStack}
use Rattle.def_confined.specs.Confined.{FramesHold, PostureFits, IsPcc, SavedKept}
use Rattle.def_image.specs.Parts.{CompartmentRow, ThreadRow, PartsRow}
use Rattle.def_image.specs.Members.{compartment, no_compartment, text_base, code_number, globals_number, stack_number}
use Rattle.def_image.specs.Sound.{Sound, ThreadFits}
use Rattle.def_boot.specs.Gates.{gates_of, entries_of}
use Rattle.def_boot.specs.Made.{caps_at_boot, return_sentry}
use Rattle.def_boot.specs.Boot.{image_of, boot_state, entered_export, entry_number, thread_entry_address, offset_of, gate_is_disabled, first_frame, first_pcc, first_registers, first_thread, first_threads}
use Rattle.law_moves.proofs.Puts.{plain_kept}
use Rattle.law_moves.proofs.Places.{all_of}
use Rattle.law_reach.proofs.Joins.{reaches_own, joined_is}
use Rattle.law_moves.proofs.Derives.{kept_bound, derived_in}
use Rattle.law_moves.proofs.Results.{address_derived, address_runs}
use Rattle.def_boot.specs.Rows.{HasCompartment, HasStack}
use Rattle.law_boot.proofs.Standing.{compartment_of, stack_of}
use Rattle.law_boot.proofs.Lying.{stack_there}
use Rattle.law_boot.proofs.Sets.{code_set, no_way}
use Rattle.law_boot.proofs.Own.{stack_entry_is, code_stands, gates_small}
use Rattle.law_boot.proofs.Rooting.{faithful, boot_made, no_object}
use Rattle.law_started.proofs.Tags.{kept_made}

threads_tell : (p : PartsRow) (from : ℕ) (xs : List ThreadRow) (t : ℕ) → ((x : ThreadRow) × (slice_get xs t ≡ Some x) × (slice_index_or (first_threads p from xs) t nobody ≡ first_thread p (from + t) x)) ⊎ (slice_index_or (first_threads p from xs) t nobody ≡ nobody)
threads_tell p from [] t = inr refl
threads_tell p from (x ∷ xs) zero = let same : from ≡ from + 0 = omega arith in inl (x, refl, ap (λ n. first_thread p n x) same)
threads_tell p from (x ∷ xs) (suc t) = elim (threads_tell p (from + 1) xs t) [
  | inl is ↦ let next : (from + 1) + t ≡ from + suc t = omega arith in inl (is.0, is.1, is.2 ∙ ap (λ n. first_thread p n is.0) next)
  | inr none ↦ inr none
]

-- what holds of each thread as it starts and of one that isn't there holds of every thread
pub of_thread : (p : PartsRow) (P : st.Thread → Type 0) (t : ℕ) → ((x : ThreadRow) → slice_get p.threads t ≡ Some x → P (first_thread p t x)) → P nobody → P (thread (boot_state p) t)
unfolding boot_state
of_thread p P t starts none = elim (threads_tell p 0 p.threads t) [
  | inl is ↦ let same : 0 + t ≡ t = omega arith in subst P (sym (is.2 ∙ ap (λ n. first_thread p n is.0) same)) (starts is.0 is.1)
  | inr away ↦ subst P (sym away) none
]

module _ (p : PartsRow) (s : Sound p) where
  trusted_origin : (root (image_of p) 0).origin ≡ TrustedPart
  unfolding root_of
  trusted_origin = refl

  sentry_is : made_cap (image_of p) 0 ≡ return_sentry
  unfolding image_of caps_at_boot
  sentry_is = refl

  module _ (t : ℕ) (x : ThreadRow) (there : slice_get p.threads t ≡ Some x) where
    fits : ThreadFits p x
    fits = s.thread t x there

    own_has : HasCompartment p x.compartment fits.enters.0
    own_has = compartment_of p x.compartment fits.enters.0 fits.enters.2

    stack_has : HasStack p t x
    stack_has = stack_of p t x there

    own_is : compartment p x.compartment ≡ fits.enters.0
    own_is = ap (λ o. unwrap_or o no_compartment) fits.enters.2

    entered_is : entered_export p x ≡ Some fits.enters.1
    entered_is = ap (λ (c : CompartmentRow). slice_get c.code.exports x.export) own_is ∙ fits.enters.3

    abbrev pub frames : List Frame
    frames = first_frame p x ∷ []

    -- ---- what boot made

    placed_made : (n : ℕ) → (is_owned (root (image_of p) n).origin ≡ true → (root (image_of p) n).owner ≡ Compartment x.compartment)
        → (is_stack (root (image_of p) n).origin ≡ true → (n ≡ stack_entry (image_of p) t) × ((root (image_of p) n).top ≤ x.stack + x.stack_length)) → InFrames (image_of p) [] t frames (made_cap (image_of p) n)
    placed_made n owner own tagged =
        let made = boot_made p s n tagged in
        let f = faithful p s n tagged in
        let none = no_object p s (made_cap (image_of p) n) made.source in
        record {
          rooted = made.rooted;
          object = λ heap. no_way (sym none ∙ heap);
          owner =
              let P : ℕ → Type 0 = λ k. is_owned (root (image_of p) k).origin ≡ true → (d : ℕ) → d ≡ x.compartment → Reaches (image_of p).entries (root (image_of p) k).owner d in
              subst P (sym made.from) (λ owned d is. subst (λ o. Reaches (image_of p).entries o d) (sym (owner owned)) (reaches_own (image_of p).entries x.compartment d (joined_is (image_of p).entries x.compartment d (sym is))));
          own =
              let P : ℕ → Type 0 = λ k. is_stack (root (image_of p) k).origin ≡ true → OwnStack (image_of p) t frames (made_cap (image_of p) n) in
              subst P (sym made.from) (λ is.
              let at = own is in
              let high = at.1 in
              let top = f.made.made.top_is in (made.from ∙ at.0, omega (arith, high, top)));
          source = λ four. absurd (f.says.not_off (sym f.made.made.kind_is ∙ four));
        }

    code_origin : (root (image_of p) (code_number p x.compartment)).origin ≡ Listing kind.Code
    unfolding image_of
    code_origin = ap (λ (z : Root). z.origin) own_has.code.root_is

    code_owner : (root (image_of p) (code_number p x.compartment)).owner ≡ Compartment x.compartment
    unfolding image_of
    code_owner = ap (λ (z : Root). z.owner) own_has.code.root_is

    globals_origin : (root (image_of p) (globals_number p x.compartment)).origin ≡ Listing kind.Globals
    unfolding image_of
    globals_origin = ap (λ (z : Root). z.origin) own_has.globals.root_is

    globals_owner : (root (image_of p) (globals_number p x.compartment)).owner ≡ Compartment x.compartment
    unfolding image_of
    globals_owner = ap (λ (z : Root). z.owner) own_has.globals.root_is

    stack_origin : (root (image_of p) (stack_number p t)).origin ≡ Listing kind.Stack
    unfolding image_of
    stack_origin = ap (λ (z : Root). z.origin) stack_has.row.root_is

    stack_high : (root (image_of p) (stack_number p t)).top ≡ x.stack + x.stack_length
    unfolding image_of
    stack_high = ap (λ (z : Root). z.top) stack_has.row.root_is

    stack_low : (root (image_of p) (stack_number p t)).base ≡ x.stack
    unfolding image_of
    stack_low = ap (λ (z : Root). z.base) stack_has.row.root_is

    stack_is : stack_entry (image_of p) t ≡ stack_number p t
    stack_is = stack_entry_is p t (slice_get_within p.threads t x there)

    code_in : InFrames (image_of p) [] t frames (made_cap (image_of p) (code_number p x.compartment))
    code_in = placed_made (code_number p x.compartment) (λ owned. code_owner) (λ is. no_way (sym (ap is_stack code_origin) ∙ is))

    globals_in : InFrames (image_of p) [] t frames (made_cap (image_of p) (globals_number p x.compartment))
    globals_in = placed_made (globals_number p x.compartment) (λ owned. globals_owner) (λ is. no_way (sym (ap is_stack globals_origin) ∙ is))

    sentry_in : InFrames (image_of p) [] t frames return_sentry
    sentry_in = subst (λ c. InFrames (image_of p) [] t frames c) sentry_is
        (placed_made 0 (λ owned. no_way (sym (ap is_owned trusted_origin) ∙ owned)) (λ is. no_way (sym (ap is_stack trusted_origin) ∙ is)))

    stack_in : InFrames (image_of p) [] t frames (made_cap (image_of p) (stack_number p t))
    stack_in = placed_made (stack_number p t) (λ owned. no_way (sym (ap is_owned stack_origin) ∙ owned)) (λ is. (sym stack_is, omega (arith, stack_high)))

    -- ---- the program counter

    address_is : thread_entry_address p x ≡ text_base fits.enters.0.code + fits.enters.1.row.offset
    address_is =
        let base : text_base (compartment p x.compartment).code ≡ text_base fits.enters.0.code = ap (λ (c : CompartmentRow). text_base c.code) own_is in
        let offset : offset_of (entered_export p x) ≡ fits.enters.1.row.offset = ap offset_of entered_is in
        omega (arith, base, offset)

    gate_small : (gate_for (gates_of p) (entry_number p x)).code < 2 ^ 32
    unfolding image_of entries_of
    gate_small = gates_small p s (entry_number p x)

    address_small : thread_entry_address p x < 2 ^ 32
    address_small =
        let small = gate_small in
        let code = ap (λ (g : Gate). g.code) (own_has.export x.export fits.enters.1 fits.enters.3).gate_is in
        let at = address_is in
        omega (arith, small, code, at)

    pub pcc_in : InFrames (image_of p) [] t frames (first_pcc p x)
    unfolding image_of
    pcc_in = derived_in (image_of p) [] t frames (made_cap (image_of p) (code_number p x.compartment)) (first_pcc p x)
        (λ tagged. kept_bound (image_of p) (made_cap (image_of p) (code_number p x.compartment)) tagged (kept_made p s (code_number p x.compartment)))
        (address_derived (made_cap (image_of p) (code_number p x.compartment)) (thread_entry_address p x) address_small) code_in

    code_runs : has (made_cap (image_of p) (code_number p x.compartment)) execute ≡ true
    unfolding image_of
    code_runs = ap (λ r. bit r execute) (code_stands p s x.compartment fits.enters.0 fits.enters.2).made.rights_are ∙ code_set.run

    pub pcc_runs : (first_pcc p x).tag ≡ true → IsPcc (image_of p) (first_pcc p x)
    unfolding image_of
    pcc_runs tagged =
        let derived = address_derived (made_cap (image_of p) (code_number p x.compartment)) (thread_entry_address p x) address_small tagged in
        let runs = address_runs (made_cap (image_of p) (code_number p x.compartment)) (thread_entry_address p x) address_small code_runs tagged in
        let made = boot_made p s (code_number p x.compartment) derived.narrows.tagged in
        let number : (first_pcc p x).shadow.root ≡ code_number p x.compartment = ap (λ z. z.root) derived.narrows.shadows ∙ made.from in
        record {
          unsealed = runs.0;
          executes = runs.1;
          code = ap (λ k. is_code (root (image_of p) k).origin) number ∙ ap is_code code_origin;
        }

    -- ---- sixteen registers

    none_in : InFrames (image_of p) [] t frames (plain 0)
    none_in = λ tagged. no_way tagged

    pub register_in : (n : ℕ) → InFrames (image_of p) [] t frames (slice_index_or (first_registers p t x) n (plain 0))
    unfolding image_of
    register_in n = all_of (λ c. InFrames (image_of p) [] t frames c) (first_registers p t x) (plain 0) none_in
        (none_in, (sentry_in, (stack_in, (globals_in, (none_in, (none_in, (none_in, (none_in, (none_in, (none_in, (none_in, (none_in, (none_in, (none_in, (none_in, (none_in, tt)))))))))))))))) n

    none_kept : Kept (image_of p) (plain 0)
    none_kept = plain_kept (image_of p) (plain 0) refl

    sentry_kept : Kept (image_of p) return_sentry
    sentry_kept = subst (λ c. Kept (image_of p) c) sentry_is (kept_made p s 0)

    pub register_kept : (n : ℕ) → Kept (image_of p) (slice_index_or (first_registers p t x) n (plain 0))
    unfolding image_of
    register_kept n = all_of (Kept (image_of p)) (first_registers p t x) (plain 0) none_kept
        (none_kept, (sentry_kept, (kept_made p s (stack_number p t), (kept_made p s (globals_number p x.compartment), (none_kept, (none_kept, (none_kept, (none_kept, (none_kept, (none_kept, (none_kept, (none_kept, (none_kept, (none_kept, (none_kept, (none_kept, tt)))))))))))))))) n

    -- ---- the frame

    pub frame_holds : FramesHold (image_of p) [] t frames
    frame_holds =
        let lies = stack_there p s t x there in
        let even = lies.even in
        let whole = lies.whole in
        let base_is = ap (λ n. (root (image_of p) n).base) stack_is ∙ stack_low in
        let top_is = ap (λ n. (root (image_of p) n).top) stack_is ∙ stack_high in (
          record {
            stack = ap (λ n. (root (image_of p) n).origin) stack_is ∙ stack_origin;
            even = omega (arith, even, whole);
            low = omega (arith, base_is);
            high = omega (arith, top_is);
            under = tt;
            passes = tt;
            returns = tt;
            c1 = refl;
            c2 = refl;
            c3 = refl;
            c8 = refl;
            c9 = refl;
          },
          tt,
        )

    abbrev Fits : Posture → Type 0
    Fits q = q.off ≡ true → ((root (image_of p) q.source).disabled ≡ true) × Reaches (image_of p).entries (root (image_of p) q.source).owner x.compartment

    entry_off : gate_is_disabled (entered_export p x) ≡ true → (root (image_of p) (entry_number p x)).disabled ≡ true
    unfolding image_of
    entry_off e = ap (λ (z : Root). z.disabled) (own_has.export x.export fits.enters.1 fits.enters.3).root_is ∙ sym (ap gate_is_disabled entered_is) ∙ e

    entry_owner : (root (image_of p) (entry_number p x)).owner ≡ Compartment x.compartment
    unfolding image_of
    entry_owner = ap (λ (z : Root). z.owner) (own_has.export x.export fits.enters.1 fits.enters.3).root_is

    pub posture_fits : PostureFits (image_of p) (first_thread p t x) frames
    posture_fits = by (gate_is_disabled (entered_export p x)) refl
      where
        by : (b : Bool) → gate_is_disabled (entered_export p x) ≡ b → Fits (cond b (record { off = true; source = entry_number p x }) interrupts_on)
        by true e = λ off. (entry_off e, subst (λ o. Reaches (image_of p).entries o x.compartment) (sym entry_owner) (reaches_own (image_of p).entries x.compartment x.compartment (joined_is (image_of p).entries x.compartment x.compartment refl)))
        by false e = λ off. no_way off

    pub saved_kept : Each (SavedKept (image_of p)) frames
    saved_kept = (record { c1 = none_kept; c2 = none_kept; c3 = none_kept; c8 = none_kept; c9 = none_kept }, tt)
