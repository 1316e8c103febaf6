-- Register jumps: through an unsealed capability anywhere, through a sentry to its own address.
use Rattle.std.proofs.Common.{ℕ, ◌≡◌, ◌==◌, ◌&&◌, ◌||◌, ◌⊎◌, ◌≤◌, ◌<◌, ◌+◌, ◌*◌, ◌/◌, ◌%◌, ◌^◌, true, false, nat_le, nat_lt, if◌then◌else◌, inl, inr, List, Some, refl, sym, ap, ◌∙◌, subst, arith}
use Rattle.std.proofs.lemmas.Bool.{eqb-true, eqb-false, leb-true, and_parts}
use Rattle.std.specs.Int.{is_in_range}
use Rattle.law_lists.proofs.Tests.{bool_tells, chosen}
use Rattle.def_words.specs.declared.Cap.{Cap}
use Rattle.def_words.specs.declared.Shadow.{Shadow}
use Rattle.def_words.specs.declared.Posture.{Posture}
use Rattle.def_words.specs.Authority.{cap_address}
use Rattle.def_words.specs.Permissions.{bit, has, execute}
use Rattle.def_words.specs.Seals.{cap_seal, posture_through, is_jump_taken, is_unsealed}
use Rattle.def_words.specs.Capability.{with_address}
use Rattle.def_words.specs.Jumped.{opened, return_link}
use Rattle.def_words.specs.Narrows.{IsOpened}
use Rattle.law_words.proofs.Narrowing.{Addressed, addressed}
use Rattle.law_words.proofs.Words.{address_small}
use Rattle.def_reach.specs.Roots.{is_native}
use Rattle.def_machine.specs.Image.{Image, root, made_cap}
use Rattle.def_machine.specs.State.{State, Frame, Object, thread, register}
use Rattle.def_profile.specs.declared.traps.TheConstants.{TAG_CODE, SEAL_CODE, EXECUTE_CODE, MISALIGNED_FETCH}
use Rattle.def_native.specs.declared.TheConstants.{LAST_NATIVE}
use Rattle.def_profile.specs.declared.native.TheConstants.{NATIVE_BASE, NATIVE_UNIT}
use Rattle.def_profile.specs.declared.seals.TheConstants.{SENTRY_INHERIT, SENTRY_ENABLE, RETURN_DISABLE, RETURN_ENABLE}
use Rattle.def_step.specs.Accesses.{unless}
use Rattle.def_step.specs.Jumps.{register_target, register_jump_checks, register_jumped}
use Rattle.def_step.specs.Instructions.{is_native_entry, named_by}
use Rattle.def_machine.specs.Platform.{Platform}
use Rattle.def_safety.specs.Wired.{Wired}
use Rattle.def_confined.specs.Capabilities.{IsReturnType, Kept}
use Rattle.def_confined.specs.Confined.{Confined, PostureFits}
use Rattle.def_confined.specs.Partitioned.{Partitioned}
use Rattle.def_confined.specs.Made.{Opens}
use Rattle.law_moves.proofs.Moves.{not_native_bound}
use Rattle.law_moves.proofs.Derives.{Bound, kept_bound}
use Rattle.def_confined.specs.Jumping.{IsForwardType, MayJump, Lands}
use Rattle.law_moves.proofs.Targets.{opened_opens}
use Rattle.law_moves.proofs.Turns.{fits_as}
use Rattle.law_moves.proofs.JumpsMoves.{return_fits, forward_fits, opened_lands, derived_lands, in_rooted}
use Rattle.law_moves.proofs.Results.{address_derived, address_runs}
use Rattle.law_moves.proofs.Checks.{by_checks, register_tells, plain_tells}
use Rattle.law_events.proofs.Goings.{FlowFits, Fetching, leaves_link}

-- ---- native entries

-- bit 0 of a native entry's address is clear already
native_even : (x : ℕ) → is_native_entry x ≡ true → x % NATIVE_UNIT ≡ 0
native_even x h =
    let parts = and_parts (nat_le NATIVE_BASE x && nat_lt x (NATIVE_BASE + NATIVE_UNIT * (LAST_NATIVE + 1))) (x % NATIVE_UNIT == 0) h in
    eqb-true (x % NATIVE_UNIT) 0 parts.1

target_stays : (x : ℕ) → x < 2 ^ 32 → x % NATIVE_UNIT ≡ 0 → (x + 0) % 2 ^ 32 / 2 * 2 ≡ x
target_stays x small even = omega (arith, small, even)

-- an unsealed capability of a native routine is held in no register: so a jump to one has no immediate
no_immediate : (i : Image) (x : Cap) (n : ℕ) → x.tag ≡ true → Kept i x → is_native (root i x.shadow.root).origin ≡ true → (is_unsealed x || (n == 0)) ≡ true → n ≡ 0
no_immediate i x n tagged kept native h = elim (bool_tells (is_unsealed x)) [
  | inl open_one ↦ absurd (kept_bound i x tagged kept native (inl (eqb-true (cap_seal x) 0 open_one)))
  | inr sealed ↦ eqb-true n 0 (ap (λ b. b || (n == 0)) (sym sealed) ∙ h)
]

-- a sentry of a native routine is opened at its own address
native_opens : (x : Cap) (a : ℕ) → a < 2 ^ 32 → a ≡ cap_address x → Opens x (with_address (opened x) a)
native_opens x a small same = λ tagged.
    let moved : Addressed (opened x) a = addressed (opened x) a small tagged in
    let o : IsOpened x (opened x) = (opened_opens x (addressed (opened x) a small tagged).tagged).opened in
    record {
      opened = record {
        tagged = o.tagged;
        root = ap (λ (s : Shadow). s.root) moved.shadows ∙ o.root;
        source = ap (λ (s : Shadow). s.source) moved.shadows ∙ o.source;
        same_base = ap (λ b. b.base) moved.bounds ∙ o.same_base;
        same_top = ap (λ b. b.top) moved.bounds ∙ o.same_top;
        same_rights = moved.rights ∙ o.same_rights;
        unsealed = moved.after;
      };
      same_address = moved.at ∙ same;
    }

-- ---- where the jump goes

native_goes : (i : Image) (objects : List Object) (t : ℕ) (fs : List Frame) (x : Cap) (a : ℕ) → Partitioned i → MayJump i objects t fs x → a < 2 ^ 32 → a ≡ cap_address x → Lands i objects t fs (with_address (opened x) a)
native_goes i objects t fs x a parts m small same = opened_lands i objects t fs x (with_address (opened x) a) parts m (native_opens x a small same)

opened_executes : (x : Cap) → has x execute ≡ true → (opened x).tag ≡ true → has (opened x) execute ≡ true
opened_executes x runs is = let Q : ℕ → Type 0 = λ n. bit n execute ≡ true in subst Q (sym (opened_opens x is).opened.same_rights) runs

-- without its seal first, then at another address
other_goes : (i : Image) (objects : List Object) (t : ℕ) (fs : List Frame) (x : Cap) (a : ℕ) → Partitioned i → MayJump i objects t fs x → a < 2 ^ 32 → is_native (root i x.shadow.root).origin ≡ false → Lands i objects t fs (with_address (opened x) a)
other_goes i objects t fs x a parts m small other =
    let bound : (opened x).tag ≡ true → Bound i (opened x) = λ is.
    let P : ℕ → Type 0 = λ n. is_native (root i n).origin ≡ false in
    not_native_bound i (opened x) (subst P (sym (opened_opens x is).opened.root) other) in
    derived_lands i objects t fs (opened x) (with_address (opened x) a) parts (opened_lands i objects t fs x (opened x) parts m (opened_opens x)).there bound (opened_executes x m.executes)
    (address_derived (opened x) a small)
    (λ is. address_runs (opened x) a small (opened_executes x m.executes (addressed (opened x) a small is).tagged) is)

goes_there : (b : Platform) (objects : List Object) (t : ℕ) (fs : List Frame) (x : Cap) (n : ℕ) → Partitioned b.image → Wired b → MayJump b.image objects t fs x → (is_native (root b.image x.shadow.root).origin ≡ true → n ≡ 0)
    → Lands b.image objects t fs (with_address (opened x) (register_target x n))
goes_there b objects t fs x n parts wired m still = elim (bool_tells (is_native (root b.image x.shadow.root).origin)) [
  | inl native ↦
      let at : cap_address x ≡ cap_address (made_cap b.image x.shadow.root) = (in_rooted b.image objects t fs x m.there m.tagged).native native in
      let entry : is_native_entry (cap_address x) ≡ true = ap is_native_entry at ∙ wired.natives x.shadow.root native in
      let here = native_goes b.image objects t fs x (register_target x 0) parts m (omega arith) (target_stays (cap_address x) (address_small x) (native_even (cap_address x) entry)) in
      subst (λ k. Lands b.image objects t fs (with_address (opened x) (register_target x k))) (sym (still native)) here
  | inr other ↦ other_goes b.image objects t fs x (register_target x n) parts m (omega arith) other
]

-- ---- types that a jump takes

abbrev IsSentryType : ℕ → Type 0
IsSentryType k = IsReturnType k ⊎ IsForwardType k

return_is : (k : ℕ) → is_in_range RETURN_DISABLE RETURN_ENABLE k ≡ true → IsReturnType k
return_is k h =
    let ends = and_parts (nat_le RETURN_DISABLE k) (nat_le k RETURN_ENABLE) h in
    two_ways k (leb-true RETURN_DISABLE k ends.0) (leb-true k RETURN_ENABLE ends.1)
  where
    two_ways : (k : ℕ) → RETURN_DISABLE ≤ k → k ≤ RETURN_ENABLE → IsReturnType k
    two_ways k low high = elim (bool_tells (k == 4)) [
      | inl is ↦ inl (eqb-true k 4 is)
      | inr not ↦ inr (omega (arith, low, high, eqb-false k 4 not))
    ]

forward_is : (k : ℕ) → is_in_range SENTRY_INHERIT SENTRY_ENABLE k ≡ true → IsForwardType k
forward_is k h =
    let ends = and_parts (nat_le SENTRY_INHERIT k) (nat_le k SENTRY_ENABLE) h in
    three_ways k (leb-true SENTRY_INHERIT k ends.0) (leb-true k SENTRY_ENABLE ends.1)
  where
    three_ways : (k : ℕ) → SENTRY_INHERIT ≤ k → k ≤ SENTRY_ENABLE → IsForwardType k
    three_ways k low high = elim (bool_tells (k == 1)) [
      | inl is ↦ inl (eqb-true k 1 is)
      | inr not_one ↦ elim (bool_tells (k == 2)) [
        | inl is ↦ inr (inl (eqb-true k 2 is))
        | inr not_two ↦ inr (inr (omega (arith, low, high, eqb-false k 1 not_one, eqb-false k 2 not_two)))
      ]
    ]

sentry_is : (to at k : ℕ) → (if (to == 0) && (at == 1) then is_in_range RETURN_DISABLE RETURN_ENABLE k else if to == 1 then is_in_range SENTRY_INHERIT SENTRY_ENABLE k else (k == SENTRY_INHERIT)) ≡ true → IsSentryType k
sentry_is to at k = chosen (λ b. b ≡ true → IsSentryType k) ((to == 0) && (at == 1)) (is_in_range RETURN_DISABLE RETURN_ENABLE k) (if to == 1 then is_in_range SENTRY_INHERIT SENTRY_ENABLE k else (k == SENTRY_INHERIT))
    (λ back h. inl (return_is k h))
    (λ other. chosen (λ b. b ≡ true → IsSentryType k) (to == 1) (is_in_range SENTRY_INHERIT SENTRY_ENABLE k) (k == SENTRY_INHERIT)
    (λ call h. inr (forward_is k h))
    (λ neither h. inr (inl (eqb-true k SENTRY_INHERIT h))))

taken_is : (to at k : ℕ) → is_jump_taken to at k ≡ true → (k ≡ 0) ⊎ IsSentryType k
taken_is to at k h = elim (bool_tells (k == 0)) [
  | inl zero_is ↦ inl (eqb-true k 0 zero_is)
  | inr not_zero ↦ inr (sentry_is to at k (ap (λ b. b || (if (to == 0) && (at == 1) then is_in_range RETURN_DISABLE RETURN_ENABLE k else if to == 1 then is_in_range SENTRY_INHERIT SENTRY_ENABLE k else (k == SENTRY_INHERIT))) (sym not_zero) ∙ h))
]

-- ---- the posture after it

abbrev posture_after : Image → Posture → Cap → Posture
posture_after i before x = posture_through before (cap_seal x) (named_by i x) x.shadow.source

posture_fits : (i : Image) (s : State) (t m : ℕ) → Partitioned i → Confined i s → (register (thread s t) m).tag ≡ true → (cap_seal (register (thread s t) m) ≡ 0) ⊎ IsSentryType (cap_seal (register (thread s t) m))
    → PostureFits i (record (thread s t) { posture = posture_after i (thread s t).posture (register (thread s t) m) }) (thread s t).frames
posture_fits i s t m parts h tagged (inl open_one) =
    let same : posture_after i (thread s t).posture (register (thread s t) m) ≡ (thread s t).posture =
    ap (λ k. posture_through (thread s t).posture k (named_by i (register (thread s t) m)) (register (thread s t) m).shadow.source) open_one in
    fits_as i (thread s t) (record (thread s t) { posture = posture_after i (thread s t).posture (register (thread s t) m) }) (thread s t).frames same (h.postures t)
posture_fits i s t m parts h tagged (inr (inl back)) =
    return_fits i s.objects t (thread s t) (thread s t).frames (register (thread s t) m) (named_by i (register (thread s t) m)) (h.registers t m) tagged back
posture_fits i s t m parts h tagged (inr (inr forward)) =
    forward_fits i s.objects t (thread s t) (thread s t).frames (register (thread s t) m) parts (h.postures t) (h.registers t m) tagged forward

-- ---- the jump

pub jump_fits : (b : Platform) (s : State) (t to at n : ℕ) → Wired b → Fetching b.image s t → at < 16
    → FlowFits b.image s t (register_jumped to at (register (thread s t) at) n (thread s t).pcc (thread s t).posture (named_by b.image (register (thread s t) at)))
jump_fits b s t to at n wired f small = by_checks
    (λ o. FlowFits b.image s t (unless o (record {
      link = Some (return_link (thread s t).pcc (thread s t).posture);
      pcc = with_address (opened (register (thread s t) at)) (register_target (register (thread s t) at) n);
      posture = posture_after b.image (thread s t).posture (register (thread s t) at);
    })))
    (register_jump_checks to at (register (thread s t) at) n)
    (register_tells TAG_CODE at small (inr (inl refl)), (register_tells SEAL_CODE at small (inr (inr (inl refl))), (register_tells EXECUTE_CODE at small (inr (inr (inr (inl refl)))), (plain_tells MISALIGNED_FETCH (inl refl), tt))))
    (λ w tells. tells)
    (λ passes.
    let taken = and_parts (is_jump_taken to at (cap_seal (register (thread s t) at))) (is_unsealed (register (thread s t) at) || (n == 0)) passes.1.0 in
    let goes = goes_there b s.objects t (thread s t).frames (register (thread s t) at) n f.parts wired
    (record { there = f.held.registers t at; tagged = passes.0; executes = passes.1.1.0 })
    (λ native. no_immediate b.image (register (thread s t) at) n passes.0 (f.held.kept.registers t at) native taken.1) in
    let puts = leaves_link b.image s t f in
    record {
      held = f.held;
      target = goes.there;
      runs = goes.runs;
      fits = posture_fits b.image s t at f.parts f.held passes.0 (taken_is to at (cap_seal (register (thread s t) at)) taken.0);
      gets = puts;
    })
