-- The image meets what the laws ask.
use Rattle.std.proofs.Common.{ℕ, zero, suc, ◌≡◌, ◌+◌, ◌^◌, ◌≤◌, ◌<◌, ◌⊎◌, inl, inr, ◌||◌, ◌&&◌, ◌==◌, nat_le, nat_lt, Bool, not, true, false, nat_eq, List, [], ◌∷◌, ◌++◌, refl, sym, ap, get_or, ◌∙◌, subst, arith, lit<, lit≤}
use Rattle.std.proofs.lemmas.Bool.{eqb-true, leb-true, ltb-true, cases_eq, and_parts}
use Rattle.law_lists.proofs.Tests.{chosen}
use Rattle.def_profile.specs.declared.rights.TheConstants.{CODE_RIGHTS, STACK_RIGHTS}
use Rattle.def_profile.specs.declared.seals.TheConstants.{SENTRY_INHERIT, SENTRY_DISABLE, RETURN_ENABLE, EXPORT_TYPE, QUOTA_TYPE, FIRST_KEY_TYPE}
use Rattle.def_profile.specs.declared.limits.TheConstants.{RAM_END}
use Rattle.def_words.specs.declared.Cap.{Cap}
use Rattle.def_words.specs.declared.Shadow.{Shadow}
use Rattle.def_words.specs.Authority.{cap_base}
use Rattle.def_words.specs.Permissions.{bit, has, execute, cap_perms}
use Rattle.def_words.specs.Seals.{cap_seal}
use Rattle.ct_entry.specs.declared.rows.Owner.{Owner}
use Rattle.ct_entry.specs.declared.rows.Owner.TheVariants.{Compartment, Library}
use Rattle.ct_entry.specs.declared.rows.Kind.{Kind}
use Rattle.ct_entry.specs.declared.rows.Kind.TheVariants as kinds
use Rattle.ct_entry.specs.Kinds.{is_library_slot, is_compartment, is_library}
use Rattle.ct_entry.specs.Kinds as kinds_of
use Rattle.ct_entry.specs.declared.rows.Gate.{Gate}
use Rattle.ct_entry.specs.declared.rows.Mode.TheVariants.{Disabled}
use Rattle.ct_entry.specs.Listed.{Listed}
use Rattle.def_reach.specs.Roots.{Origin, TrustedPart, Listing, root_of, gate_for, is_root, is_owned, is_code, is_quota, is_stack, no_gate}
use Rattle.def_reach.specs.Sharing.{SharesC, Brings, Imports, Reaches}
use Rattle.def_machine.specs.Image.{Region, Fixed, HeapRam, Stack, root, made_cap, region, booted, granule_of, address_of, stack_entry, stack_base, stack_top, code_entry, globals_entry}
use Rattle.def_confined.specs.Capabilities.{Rooted, heap_cap}
use Rattle.def_confined.specs.Partitioned.{Partitioned, StoresInto, Carries, Loads, AwayFromHeap, BootHeld, BootMade, IsOwnEntry}
use Rattle.law_moves.proofs.Boots.{no_source}
use Rattle.law_examples.specs.Small.{small, made_1, made_3, made_4, made_5, made_6, made_7, made_8, made_9, made_11, made_13, made_14, gate}
use Rattle.law_lists.proofs.Tests.{by_test, implied}
use Rattle.law_examples.proofs.Cases.{by_entry, of_kind, compartment_is, library_is, upto_2, upto_4, upto_8, span, span_of}
use Rattle.law_examples.proofs.Placing.{boot_caps}
use Rattle.law_examples.proofs.Mades.{plain_seal, is_0, is_1, is_2, is_3, is_4, is_5, is_6, is_7, is_8, is_9, is_11, is_12, is_13, is_14, is_18}
use Rattle.law_examples.proofs.Rooting.{boot_0, boot_1, boot_2, boot_3, boot_4, boot_5, boot_6, boot_7, boot_8, boot_9, boot_11, boot_12, boot_13, boot_14, boot_18}

share_0 : SharesC small.entries 0 0
unfolding root_of gate_for bit
share_0 = record { import = 5; kind_is = refl; importer = refl; object_is = refl; capabilities = refl }

share_1 : SharesC small.entries 0 1
unfolding root_of gate_for bit
share_1 = record { import = 14; kind_is = refl; importer = refl; object_is = refl; capabilities = refl }

-- what boot puts into a slot: no stack's, no object's, of the slot's owner
boot_held : (n m : ℕ) (d : Cap) → d.shadow ≡ record { root = m; source = 0 } → is_stack (root small m).origin ≡ false → (root small m).owner ≡ (root small n).owner → (cap_seal d ≡ 4 → ⊥) → BootHeld small n d
boot_held n m d s stack owner off =
    let no_source : heap_cap small (record d { shadow = record { root = m; source = 0 } }) ≡ false = no_source (is_quota (root small m).origin) in
    record {
      no_stack = let P : Shadow → Type 0 = λ z. is_stack (root small z.root).origin ≡ false in subst P (sym s) stack;
      no_heap = let P : Shadow → Type 0 = λ z. heap_cap small (record d { shadow = z }) ≡ false in subst P (sym s) no_source;
      owner =
          let P : Shadow → Type 0 = λ z. is_owned (root small z.root).origin ≡ true → (y : ℕ) → Reaches small.entries (root small n).owner y → Reaches small.entries (root small z.root).owner y in
          let Q : Owner → Type 0 = λ o. (y : ℕ) → Reaches small.entries (root small n).owner y → Reaches small.entries o y in
          subst P (sym s) (λ owned. subst Q (sym owner) (λ y h. h));
      no_source = off;
    }

not_four : (k : ℕ) (d : Cap) → cap_seal d ≡ k → (k ≡ 4 → ⊥) → cap_seal d ≡ 4 → ⊥
not_four k d is other four = other (sym is ∙ four)

stores : (n : ℕ) → (x : ℕ) → 0x80000000 ≤ x → bit (root small n).rights 2 ≡ true → (root small n).base ≤ x → x < (root small n).top → StoresInto small n (region small (granule_of small x))
unfolding root_of gate_for bit
stores = by_entry (λ n. (x : ℕ) → 0x80000000 ≤ x → bit (root small n).rights 2 ≡ true → (root small n).base ≤ x → x < (root small n).top → StoresInto small n (region small (granule_of small x)))
    (λ x r h low high. absurd (let clash : false ≡ true = h in cc))
    (λ x r h low high. absurd (let clash : false ≡ true = h in cc))
    (λ x r h low high. span (λ k. StoresInto small 2 (region small k)) 12 2 x (omega (arith, low)) (omega (arith, high)) (upto_2 (λ j. StoresInto small 2 (region small (12 + j))) (refl, refl) (refl, refl)))
    (λ x r h low high. absurd (let clash : false ≡ true = h in cc))
    (λ x r h low high. absurd (omega (arith, r, high)))
    (λ x r h low high. span (λ k. StoresInto small 5 (region small k)) 26 2 x (omega (arith, low)) (omega (arith, high)) (upto_2 (λ j. StoresInto small 5 (region small (26 + j))) (refl, refl) (refl, refl)))
    (λ x r h low high. absurd (let clash : false ≡ true = h in cc))
    (λ x r h low high. absurd (let clash : false ≡ true = h in cc))
    (λ x r h low high. absurd (let clash : false ≡ true = h in cc))
    (λ x r h low high. absurd (let clash : false ≡ true = h in cc))
    (λ x r h low high. absurd (let clash : false ≡ true = h in cc))
    (λ x r h low high. absurd (let clash : false ≡ true = h in cc))
    (λ x r h low high. span (λ k. StoresInto small 12 (region small k)) 22 2 x (omega (arith, low)) (omega (arith, high)) (upto_2 (λ j. StoresInto small 12 (region small (22 + j))) (refl, refl) (refl, refl)))
    (λ x r h low high. absurd (let clash : false ≡ true = h in cc))
    (λ x r h low high. span (λ k. StoresInto small 14 (region small k)) 26 2 x (omega (arith, low)) (omega (arith, high)) (upto_2 (λ j. StoresInto small 14 (region small (26 + j))) (refl, refl) (refl, refl)))
    (λ x r h low high. absurd (let clash : false ≡ true = h in cc))
    (λ x r h low high. absurd (let clash : false ≡ true = h in cc))
    (λ x r h low high. absurd (let clash : false ≡ true = h in cc))
    (λ x r h low high. span (λ k. StoresInto small 18 (region small k)) 28 4 x (omega (arith, low)) (omega (arith, high)) (upto_4 (λ j. StoresInto small 18 (region small (28 + j))) (refl, refl) (refl, refl) (refl, refl) (refl, refl)))
    (λ n. λ x r h low high. absurd (let clash : false ≡ true = h in cc))

carries : (n : ℕ) → (x : ℕ) → bit (root small n).rights 2 ≡ true → bit (root small n).rights 6 ≡ true → (root small n).base ≤ x → x < (root small n).top → (0x80000000 ≤ x) × Carries small n (region small (granule_of small x))
unfolding root_of gate_for bit
carries = by_entry (λ n. (x : ℕ) → bit (root small n).rights 2 ≡ true → bit (root small n).rights 6 ≡ true → (root small n).base ≤ x → x < (root small n).top → (0x80000000 ≤ x) × Carries small n (region small (granule_of small x)))
    (λ x h c low high. absurd (let clash : false ≡ true = h in cc))
    (λ x h c low high. absurd (let clash : false ≡ true = h in cc))
    (λ x h c low high. (omega (arith, low), span (λ k. Carries small 2 (region small k)) 12 2 x (omega (arith, low)) (omega (arith, high)) (upto_2 (λ j. Carries small 2 (region small (12 + j))) (refl, refl) (refl, refl))))
    (λ x h c low high. absurd (let clash : false ≡ true = h in cc))
    (λ x h c low high. absurd (let clash : false ≡ true = c in cc))
    (λ x h c low high. (omega (arith, low), span (λ k. Carries small 5 (region small k)) 26 2 x (omega (arith, low)) (omega (arith, high)) (upto_2 (λ j. Carries small 5 (region small (26 + j))) (refl, (0, refl, share_0)) (refl, (0, refl, share_0)))))
    (λ x h c low high. absurd (let clash : false ≡ true = h in cc))
    (λ x h c low high. absurd (let clash : false ≡ true = h in cc))
    (λ x h c low high. absurd (let clash : false ≡ true = h in cc))
    (λ x h c low high. absurd (let clash : false ≡ true = h in cc))
    (λ x h c low high. absurd (let clash : false ≡ true = h in cc))
    (λ x h c low high. absurd (let clash : false ≡ true = h in cc))
    (λ x h c low high. (omega (arith, low), span (λ k. Carries small 12 (region small k)) 22 2 x (omega (arith, low)) (omega (arith, high)) (upto_2 (λ j. Carries small 12 (region small (22 + j))) (refl, refl) (refl, refl))))
    (λ x h c low high. absurd (let clash : false ≡ true = h in cc))
    (λ x h c low high. (omega (arith, low), span (λ k. Carries small 14 (region small k)) 26 2 x (omega (arith, low)) (omega (arith, high)) (upto_2 (λ j. Carries small 14 (region small (26 + j))) (refl, (1, refl, share_1)) (refl, (1, refl, share_1)))))
    (λ x h c low high. absurd (let clash : false ≡ true = h in cc))
    (λ x h c low high. absurd (let clash : false ≡ true = h in cc))
    (λ x h c low high. absurd (let clash : false ≡ true = h in cc))
    (λ x h c low high. (omega (arith, low), span (λ k. Carries small 18 (region small k)) 28 4 x (omega (arith, low)) (omega (arith, high)) (upto_4 (λ j. Carries small 18 (region small (28 + j))) (refl, refl) (refl, refl) (refl, refl) (refl, refl))))
    (λ n. λ x h c low high. absurd (let clash : false ≡ true = h in cc))

loads : (n : ℕ) → (x : ℕ) → 0x80000000 ≤ x → bit (root small n).rights 5 ≡ true → bit (root small n).rights 6 ≡ true → (root small n).base ≤ x → x < (root small n).top → Loads small n (booted small (granule_of small x)).cap (region small (granule_of small x))
unfolding root_of gate_for bit
loads = by_entry (λ n. (x : ℕ) → 0x80000000 ≤ x → bit (root small n).rights 5 ≡ true → bit (root small n).rights 6 ≡ true → (root small n).base ≤ x → x < (root small n).top → Loads small n (booted small (granule_of small x)).cap (region small (granule_of small x)))
    (λ x r h c low high. absurd (omega (arith, r, high)))
    (λ x r h c low high. span (λ k. Loads small 1 (booted small k).cap (region small k)) 0 8 x (omega (arith, low)) (omega (arith, high)) (upto_8 (λ j. Loads small 1 (booted small (0 + j)).cap (region small (0 + j))) (refl, λ tagged. boot_held 1 3 made_3 is_3.1 refl refl (not_four 1 made_3 is_3.0.kind_is (λ e. omega (arith, e)))) (refl, λ tagged. boot_held 1 4 made_4 is_4.1 refl refl (not_four 0 made_4 is_4.0.kind_is (λ e. omega (arith, e)))) (refl, λ tagged. boot_held 1 5 made_5 is_5.1 refl refl (not_four 0 made_5 is_5.0.kind_is (λ e. omega (arith, e)))) (refl, λ tagged. boot_held 1 6 made_6 is_6.1 refl refl (not_four 9 made_6 is_6.0.kind_is (λ e. omega (arith, e)))) (refl, λ tagged. boot_held 1 7 made_7 is_7.1 refl refl (not_four 2 made_7 is_7.0.kind_is (λ e. omega (arith, e)))) (refl, λ tagged. boot_held 1 8 made_8 is_8.1 refl refl (not_four 10 made_8 is_8.0.kind_is (λ e. omega (arith, e)))) (refl, λ tagged. boot_held 1 9 made_9 is_9.1 refl refl (not_four 0 made_9 is_9.0.kind_is (λ e. omega (arith, e)))) (refl, λ tagged. absurd (let clash : false ≡ true = tagged in cc))))
    (λ x r h c low high. span (λ k. Loads small 2 (booted small k).cap (region small k)) 12 2 x (omega (arith, low)) (omega (arith, high)) (upto_2 (λ j. Loads small 2 (booted small (12 + j)).cap (region small (12 + j))) (refl, refl) (refl, refl)))
    (λ x r h c low high. absurd (omega (arith, r, high)))
    (λ x r h c low high. absurd (let clash : false ≡ true = c in cc))
    (λ x r h c low high. span (λ k. Loads small 5 (booted small k).cap (region small k)) 26 2 x (omega (arith, low)) (omega (arith, high)) (upto_2 (λ j. Loads small 5 (booted small (26 + j)).cap (region small (26 + j))) (refl, (0, refl, share_0)) (refl, (0, refl, share_0))))
    (λ x r h c low high. absurd (let clash : false ≡ true = c in cc))
    (λ x r h c low high. span (λ k. Loads small 7 (booted small k).cap (region small k)) 24 2 x (omega (arith, low)) (omega (arith, high)) (upto_2 (λ j. Loads small 7 (booted small (24 + j)).cap (region small (24 + j))) (refl, λ tagged. absurd (let clash : false ≡ true = tagged in cc)) (refl, λ tagged. absurd (let clash : false ≡ true = tagged in cc))))
    (λ x r h c low high. absurd (let clash : false ≡ true = c in cc))
    (λ x r h c low high. absurd (let clash : false ≡ true = h in cc))
    (λ x r h c low high. absurd (let clash : false ≡ true = c in cc))
    (λ x r h c low high. span (λ k. Loads small 11 (booted small k).cap (region small k)) 14 4 x (omega (arith, low)) (omega (arith, high)) (upto_4 (λ j. Loads small 11 (booted small (14 + j)).cap (region small (14 + j))) (refl, λ tagged. boot_held 11 13 made_13 is_13.1 refl refl (not_four 1 made_13 is_13.0.kind_is (λ e. omega (arith, e)))) (refl, λ tagged. boot_held 11 14 made_14 is_14.1 refl refl (not_four 0 made_14 is_14.0.kind_is (λ e. omega (arith, e)))) (refl, λ tagged. absurd (let clash : false ≡ true = tagged in cc)) (refl, λ tagged. absurd (let clash : false ≡ true = tagged in cc))))
    (λ x r h c low high. span (λ k. Loads small 12 (booted small k).cap (region small k)) 22 2 x (omega (arith, low)) (omega (arith, high)) (upto_2 (λ j. Loads small 12 (booted small (22 + j)).cap (region small (22 + j))) (refl, refl) (refl, refl)))
    (λ x r h c low high. absurd (omega (arith, r, high)))
    (λ x r h c low high. span (λ k. Loads small 14 (booted small k).cap (region small k)) 26 2 x (omega (arith, low)) (omega (arith, high)) (upto_2 (λ j. Loads small 14 (booted small (26 + j)).cap (region small (26 + j))) (refl, (1, refl, share_1)) (refl, (1, refl, share_1))))
    (λ x r h c low high. absurd (let clash : false ≡ true = c in cc))
    (λ x r h c low high. span (λ k. Loads small 16 (booted small k).cap (region small k)) 24 2 x (omega (arith, low)) (omega (arith, high)) (upto_2 (λ j. Loads small 16 (booted small (24 + j)).cap (region small (24 + j))) (refl, λ tagged. absurd (let clash : false ≡ true = tagged in cc)) (refl, λ tagged. absurd (let clash : false ≡ true = tagged in cc))))
    (λ x r h c low high. span (λ k. Loads small 17 (booted small k).cap (region small k)) 24 2 x (omega (arith, low)) (omega (arith, high)) (upto_2 (λ j. Loads small 17 (booted small (24 + j)).cap (region small (24 + j))) (refl, λ tagged. absurd (let clash : false ≡ true = tagged in cc)) (refl, λ tagged. absurd (let clash : false ≡ true = tagged in cc))))
    (λ x r h c low high. span (λ k. Loads small 18 (booted small k).cap (region small k)) 28 4 x (omega (arith, low)) (omega (arith, high)) (upto_4 (λ j. Loads small 18 (booted small (28 + j)).cap (region small (28 + j))) (refl, refl) (refl, refl) (refl, refl) (refl, refl)))
    (λ n. λ x r h c low high. absurd (let clash : false ≡ true = h in cc))

heap_there : (x : ℕ) → 0x80000110 ≤ x → x < 0x80000150 → (0x80000000 ≤ x) × (region small (granule_of small x) ≡ HeapRam)
heap_there x low high = (omega (arith, low), span (λ k. region small k ≡ HeapRam) 34 8 x (omega (arith, low)) (omega (arith, high)) (upto_8 (λ j. region small (34 + j) ≡ HeapRam) refl refl refl refl refl refl refl refl))

stack_home : (k t : ℕ) → region small k ≡ Stack t → stack_base small t ≤ address_of small k
unfolding root_of gate_for
stack_home k t is = leb-true (stack_base small t) (address_of small k) (subst (λ r. fits r (address_of small k) ≡ true) is (told k))
  where
    fits : Region → ℕ → Bool
    fits (Stack u) x = nat_le (stack_base small u) x
    fits _ x = true

    told : (j : ℕ) → fits (region small j) (address_of small j) ≡ true
    told = by_test (λ j. fits (region small j) (address_of small j)) 42 refl (λ j. refl)

stack_span : (k t : ℕ) → (root small (stack_entry small t)).origin ≡ Listing kinds.Stack → stack_base small t ≤ address_of small k → address_of small k < stack_top small t → region small k ≡ Stack t
unfolding root_of gate_for
stack_span k zero is low high = span_of (λ n. region small n ≡ Stack 0) 28 4 k (omega (arith, low)) (omega (arith, high)) (upto_4 (λ j. region small (28 + j) ≡ Stack 0) refl refl refl refl)
stack_span k (suc t) is low high = absurd (let clash : TrustedPart ≡ Listing kinds.Stack = is in cc)

stacks_differ : (t u : ℕ) → (root small (stack_entry small t)).origin ≡ Listing kinds.Stack → stack_entry small t ≡ stack_entry small u → t ≡ u
unfolding root_of gate_for
stacks_differ zero zero is same = refl
stacks_differ zero (suc u) is same = absurd (let clash : 18 ≡ 0 = same in omega (arith, clash))
stacks_differ (suc t) u is same = absurd (let clash : TrustedPart ≡ Listing kinds.Stack = is in cc)

libraries : (n : ℕ) → (root small n).origin ≡ Listing kinds.Library → (l : ℕ) × ((root small (root small n).of).owner ≡ Library l)
unfolding root_of gate_for
libraries n is = library_is (root small (root small n).of).owner (implied (of_kind is_library_slot (root small n).origin) (is_library (root small (root small n).of).owner) (told n) (ap (of_kind is_library_slot) is))
  where
    told : (k : ℕ) → (not (of_kind is_library_slot (root small k).origin) || is_library (root small (root small k).of).owner) ≡ true
    told = by_test (λ k. not (of_kind is_library_slot (root small k).origin) || is_library (root small (root small k).of).owner) 19 refl (λ j. refl)

quotas : (n : ℕ) → (root small n).origin ≡ Listing kinds.Quota → (a : ℕ) × ((root small n).owner ≡ Compartment a)
unfolding root_of gate_for
quotas n is = compartment_is (root small n).owner (implied (of_kind kinds_of.is_quota (root small n).origin) (is_compartment (root small n).owner) (told n) (ap (of_kind kinds_of.is_quota) is))
  where
    told : (k : ℕ) → (not (of_kind kinds_of.is_quota (root small k).origin) || is_compartment (root small k).owner) ≡ true
    told = by_test (λ k. not (of_kind kinds_of.is_quota (root small k).origin) || is_compartment (root small k).owner) 19 refl (λ j. refl)

calls : (n : ℕ) → (root small n).origin ≡ Listing kinds.Call → (a : ℕ) × ((root small n).owner ≡ Compartment a)
unfolding root_of gate_for
calls n is = compartment_is (root small n).owner (implied (of_kind kinds_of.is_call (root small n).origin) (is_compartment (root small n).owner) (told n) (ap (of_kind kinds_of.is_call) is))
  where
    told : (k : ℕ) → (not (of_kind kinds_of.is_call (root small k).origin) || is_compartment (root small k).owner) ≡ true
    told = by_test (λ k. not (of_kind kinds_of.is_call (root small k).origin) || is_compartment (root small k).owner) 19 refl (λ j. refl)

stacks_are : (n : ℕ) → (root small n).origin ≡ Listing kinds.Stack → ((root small n).rights ≡ STACK_RIGHTS) × ((root small n).top ≤ RAM_END)
unfolding root_of gate_for
stacks_are n is =
    let both = and_parts ((root small n).rights == STACK_RIGHTS) (nat_le (root small n).top RAM_END) (implied (is_stack (root small n).origin) _ (told n) (ap is_stack is)) in
    (eqb-true (root small n).rights STACK_RIGHTS both.0, leb-true (root small n).top RAM_END both.1)
  where
    told : (k : ℕ) → (not (is_stack (root small k).origin) || (((root small k).rights == STACK_RIGHTS) && nat_le (root small k).top RAM_END)) ≡ true
    told = by_test (λ k. not (is_stack (root small k).origin) || (((root small k).rights == STACK_RIGHTS) && nat_le (root small k).top RAM_END)) 19 refl (λ j. refl)

keys : (n : ℕ) → is_root (root small n).origin ≡ true → (bit (root small n).rights 10 ≡ true) ⊎ (bit (root small n).rights 9 ≡ true) → FIRST_KEY_TYPE ≤ (root small n).base
unfolding root_of gate_for bit
keys n is any = leb-true FIRST_KEY_TYPE (root small n).base (elim any [ inl s ↦ implied (bit (root small n).rights 10) _ (sealing n) s | inr u ↦ implied (bit (root small n).rights 9) _ (unsealing n) u ])
  where
    sealing : (k : ℕ) → (not (bit (root small k).rights 10) || nat_le FIRST_KEY_TYPE (root small k).base) ≡ true
    sealing = by_test (λ k. not (bit (root small k).rights 10) || nat_le FIRST_KEY_TYPE (root small k).base) 19 refl (λ j. refl)

    unsealing : (k : ℕ) → (not (bit (root small k).rights 9) || nat_le FIRST_KEY_TYPE (root small k).base) ≡ true
    unsealing = by_test (λ k. not (bit (root small k).rights 9) || nat_le FIRST_KEY_TYPE (root small k).base) 19 refl (λ j. refl)

executes : (n : ℕ) → is_root (root small n).origin ≡ true → bit (root small n).rights 8 ≡ true → is_code (root small n).origin ≡ true
unfolding root_of gate_for bit
executes n is runs = implied (bit (root small n).rights 8) (is_code (root small n).origin) (implied (is_root (root small n).origin) _ (told n) is) runs
  where
    told : (k : ℕ) → (not (is_root (root small k).origin) || (not (bit (root small k).rights 8) || is_code (root small k).origin)) ≡ true
    told = by_test (λ k. not (is_root (root small k).origin) || (not (bit (root small k).rights 8) || is_code (root small k).origin)) 19 refl (λ j. refl)

runs_away : (n : ℕ) → (x : ℕ) → bit (root small n).rights 8 ≡ true → (root small n).base ≤ x → x < (root small n).top → AwayFromHeap small x
unfolding root_of gate_for bit
runs_away n x runs low high = inl (let top = leb-true (root small n).top 0x80000110 (implied (bit (root small n).rights 8) _ (told n) runs) in omega (arith, high, top))
  where
    told : (k : ℕ) → (not (bit (root small k).rights 8) || nat_le (root small k).top 0x80000110) ≡ true
    told = by_test (λ k. not (bit (root small k).rights 8) || nat_le (root small k).top 0x80000110) 19 refl (λ j. refl)

-- the type of what boot makes for each entry
abbrev seals : List ℕ
seals = RETURN_ENABLE ∷ 0 ∷ 0 ∷ SENTRY_INHERIT ∷ 0 ∷ 0 ∷ EXPORT_TYPE ∷ SENTRY_DISABLE ∷ QUOTA_TYPE ∷ 0 ∷ 0 ∷ 0 ∷ 0 ∷ SENTRY_INHERIT ∷ 0 ∷ []

abbrev seal_at : ℕ → ℕ
seal_at n = get_or seals n 0

seal_is : (n : ℕ) → cap_seal (made_cap small n) ≡ seal_at n
seal_is = by_entry (λ n. cap_seal (made_cap small n) ≡ seal_at n)
    is_0.0.kind_is is_1.0.kind_is is_2.0.kind_is is_3.0.kind_is is_4.0.kind_is is_5.0.kind_is is_6.0.kind_is is_7.0.kind_is is_8.0.kind_is is_9.0.kind_is plain_seal is_11.0.kind_is is_12.0.kind_is is_13.0.kind_is is_14.0.kind_is plain_seal plain_seal plain_seal is_18.0.kind_is (λ n. plain_seal)

forwards : (n : ℕ) → (cap_seal (made_cap small n) ≡ 1) ⊎ (cap_seal (made_cap small n) ≡ 2) ⊎ (cap_seal (made_cap small n) ≡ 3) → ((root small n).origin ≡ Listing kinds.Library) ⊎ ((root small n).origin ≡ Listing kinds.Service)
unfolding root_of gate_for
forwards n any = by (root small n).origin (implied (is_forward (seal_at n)) (of_kind is_brought (root small n).origin) (told n) (forward_of (seal_at n) (elim any [ inl a ↦ inl (sym (seal_is n) ∙ a) | inr (inl b) ↦ inr (inl (sym (seal_is n) ∙ b)) | inr (inr c) ↦ inr (inr (sym (seal_is n) ∙ c)) ])))
  where
    is_forward : ℕ → Bool
    is_forward k = nat_le 1 k && nat_le k 3

    is_brought : Kind → Bool
    is_brought kinds.Library = true
    is_brought kinds.Service = true
    is_brought _ = false

    forward_of : (k : ℕ) → (k ≡ 1) ⊎ (k ≡ 2) ⊎ (k ≡ 3) → is_forward k ≡ true
    forward_of k (inl a) = ap is_forward a
    forward_of k (inr (inl b)) = ap is_forward b
    forward_of k (inr (inr c)) = ap is_forward c

    told : (k : ℕ) → (not (is_forward (seal_at k)) || of_kind is_brought (root small k).origin) ≡ true
    told = by_test (λ k. not (is_forward (seal_at k)) || of_kind is_brought (root small k).origin) 19 refl (λ j. refl)

    by : (o : Origin) → of_kind is_brought o ≡ true → (o ≡ Listing kinds.Library) ⊎ (o ≡ Listing kinds.Service)
    by (Listing kinds.Library) h = inl refl
    by (Listing kinds.Service) h = inr refl
    by o h = absurd (let clash : false ≡ true = h in cc)

imports_more : (e : Listed) (o : Owner) (xs : List Owner) (a : Owner) (ys : List Owner) (b : Owner) → Imports e o xs a → Imports e a ys b → Imports e o (xs ++ ys) b
imports_more e o [] a ys b h k = let P : Owner → Type 0 = λ z. Imports e z ys b in subst P (sym h) k
imports_more e o (x ∷ xs) a ys b h k = (h.0, imports_more e x xs a ys b h.1 k)

library_brought : Brings small.entries (Compartment 0) (Library 0)
unfolding root_of gate_for
library_brought = record { is_library = tt; import = 7; kind_is = refl; importer = refl; library_is = refl }

library_reaches : (d : ℕ) → Reaches small.entries (Compartment 0) d → Reaches small.entries (Library 0) d
library_reaches d h = record {
  by = h.by;
  through = h.through ++ (Library 0 ∷ []);
  imports = imports_more small.entries (Compartment h.by) h.through (Compartment 0) (Library 0 ∷ []) (Library 0) h.imports (library_brought, refl);
  joined = h.joined;
}

disables : (n : ℕ) → cap_seal (made_cap small n) ≡ 2 → ((root small (root small n).of).disabled ≡ true) × ((d : ℕ) → Reaches small.entries (root small n).owner d → Reaches small.entries (root small (root small n).of).owner d)
unfolding root_of gate_for
disables n two = let seven : n ≡ 7 = eqb-true n 7 (implied (seal_at n == 2) (n == 7) (told n) (eqb_of (seal_at n) (sym (seal_is n) ∙ two))) in
    let P : ℕ → Type 0 = λ m. ((root small (root small m).of).disabled ≡ true) × ((d : ℕ) → Reaches small.entries (root small m).owner d → Reaches small.entries (root small (root small m).of).owner d) in
    subst P (sym seven) (refl, library_reaches)
  where
    eqb_of : (k : ℕ) → k ≡ 2 → (k == 2) ≡ true
    eqb_of k e = ap (λ m. m == 2) e

    told : (k : ℕ) → (not (seal_at k == 2) || (k == 7)) ≡ true
    told = by_test (λ k. not (seal_at k == 2) || (k == 7)) 19 refl (λ j. refl)

mades : (n : ℕ) → is_root (root small n).origin ≡ true → (made_cap small n).tag ≡ true → BootMade small n (made_cap small n)
unfolding root_of gate_for bit
mades = by_entry (λ n. is_root (root small n).origin ≡ true → (made_cap small n).tag ≡ true → BootMade small n (made_cap small n))
    (λ is tagged. boot_0)
    (λ is tagged. boot_1)
    (λ is tagged. boot_2)
    (λ is tagged. boot_3)
    (λ is tagged. boot_4)
    (λ is tagged. boot_5)
    (λ is tagged. boot_6)
    (λ is tagged. boot_7)
    (λ is tagged. boot_8)
    (λ is tagged. boot_9)
    (λ is tagged. absurd (let clash : false ≡ true = tagged in cc))
    (λ is tagged. boot_11)
    (λ is tagged. boot_12)
    (λ is tagged. boot_13)
    (λ is tagged. boot_14)
    (λ is tagged. absurd (let clash : false ≡ true = tagged in cc))
    (λ is tagged. absurd (let clash : false ≡ true = tagged in cc))
    (λ is tagged. absurd (let clash : false ≡ true = tagged in cc))
    (λ is tagged. boot_18)
    (λ n. λ is tagged. absurd (let clash : false ≡ true = tagged in cc))

owners : (n : ℕ) → (b : ℕ) → (root small n).owner ≡ Compartment b → (b ≡ 0) ⊎ (b ≡ 1)
unfolding root_of gate_for
owners n b e = elim (cases_eq b 0) [ inl zero_is ↦ inl zero_is | inr other ↦ inr (let few = ltb-true b 2 (subst (λ o. is_first o ≡ true) e (told n)) in omega (arith, few, other)) ]
  where
    is_first : Owner → Bool
    is_first (Compartment c) = nat_lt c 2
    is_first _ = true

    told : (k : ℕ) → is_first (root small k).owner ≡ true
    told = by_test (λ k. is_first (root small k).owner) 19 refl (λ j. refl)

runs_as : (set : ℕ) (d : Cap) → cap_perms d ≡ set → bit set 8 ≡ true → has d execute ≡ true
runs_as set d is runs = let P : ℕ → Type 0 = λ n. bit n 8 ≡ true in subst P (sym is) runs

own_code : (b n : ℕ) → (root small n).owner ≡ Compartment b → IsOwnEntry small b (code_entry small b) kinds.Code × (has (made_cap small (code_entry small b)) execute ≡ true)
unfolding root_of gate_for bit
own_code b n owner =
    let P : ℕ → Type 0 = λ m. IsOwnEntry small m (code_entry small m) kinds.Code × (has (made_cap small (code_entry small m)) execute ≡ true) in
    elim (owners n b owner) [
      | inl zero_is ↦ subst P (sym zero_is) (record { kind_is = refl; owner_is = refl; unsealed = is_1.0.kind_is }, runs_as CODE_RIGHTS made_1 is_1.0.rights_are refl)
      | inr one_is ↦ subst P (sym one_is) (record { kind_is = refl; owner_is = refl; unsealed = is_11.0.kind_is }, runs_as CODE_RIGHTS made_11 is_11.0.rights_are refl)
    ]

own_globals : (b n : ℕ) → (root small n).owner ≡ Compartment b → IsOwnEntry small b (globals_entry small b) kinds.Globals
unfolding root_of gate_for
own_globals b n owner =
    let P : ℕ → Type 0 = λ m. IsOwnEntry small m (globals_entry small m) kinds.Globals in
    elim (owners n b owner) [
      | inl zero_is ↦ subst P (sym zero_is) (record { kind_is = refl; owner_is = refl; unsealed = is_2.0.kind_is })
      | inr one_is ↦ subst P (sym one_is) (record { kind_is = refl; owner_is = refl; unsealed = is_12.0.kind_is })
    ]

gates_small : (n : ℕ) → (gate_for small.entries.gates n).code < 2 ^ 32
unfolding gate_for
gates_small n = chosen (λ (g : Gate). g.code < 2 ^ 32) (nat_eq 10 n) (gate 10 0x80000038) (gate_for (record (gate 15 0x80000080) { capabilities = true } ∷ record (gate 17 0x800000C0) { posture = Disabled; capabilities = true } ∷ []) n) (λ is. lit< tt)
    (λ not_ten. chosen (λ (g : Gate). g.code < 2 ^ 32) (nat_eq 15 n) (record (gate 15 0x80000080) { capabilities = true }) (gate_for (record (gate 17 0x800000C0) { posture = Disabled; capabilities = true } ∷ []) n) (λ is. lit< tt)
    (λ not_fifteen. chosen (λ (g : Gate). g.code < 2 ^ 32) (nat_eq 17 n) (record (gate 17 0x800000C0) { posture = Disabled; capabilities = true }) no_gate (λ is. lit< tt) (λ none. lit< tt)))

boot_rooted : (k : ℕ) → region small k ≡ Fixed → (booted small k).cap.tag ≡ true → Rooted small (booted small k).cap
boot_rooted k fixed tagged = (boot_caps k tagged).rooted

boot_away : (k : ℕ) → region small k ≡ Fixed → (booted small k).cap.tag ≡ true → AwayFromHeap small (cap_base (booted small k).cap)
boot_away k fixed tagged = (boot_caps k tagged).away

boot_no_heap : (k : ℕ) → region small k ≡ Fixed → (booted small k).cap.tag ≡ true → heap_cap small (booted small k).cap ≡ false
boot_no_heap k fixed tagged = (boot_caps k tagged).no_heap

pub small_partitioned : Partitioned small
unfolding root_of gate_for bit
small_partitioned = record {
  stores = stores;
  carries = carries;
  loads = loads;
  heap = heap_there;
  even = (refl, refl, refl);
  stack_home = stack_home;
  stack_span = stack_span;
  stacks_differ = stacks_differ;
  libraries = libraries;
  quotas = quotas;
  calls = calls;
  keys = keys;
  executes = executes;
  runs_away = runs_away;
  forwards = forwards;
  disables = disables;
  made = mades;
  own_code = own_code;
  own_globals = own_globals;
  stacks_are = stacks_are;
  heap_small = lit≤ tt;
  gates_small = gates_small;
  sentry = λ tagged. is_0.0.kind_is;
  boot_rooted = boot_rooted;
  boot_away = boot_away;
  boot_no_heap = boot_no_heap;
}
