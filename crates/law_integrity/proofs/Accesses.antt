-- What checks that passed say of a load or a store.
use Rattle.std.proofs.Common.{ℕ, ◌≡◌, ◌+◌, ◌-◌, ◌*◌, ◌/◌, ◌%◌, ◌≤◌, ◌&&◌, inl, inr, Bool, true, false, nat_le, None, refl, arith, subst, if◌then◌else◌}
use Rattle.std.proofs.lemmas.Bool.{eqb-true, leb-true, and_parts}
use Rattle.law_lists.proofs.Tests.{both_left}
use Rattle.def_instr.specs.declared.Instr.{Instr}
use Rattle.def_instr.specs.declared.Instr.TheVariants.{Lh, Lw, Clc, Lhu, Sh, Sw, Csc}
use Rattle.def_words.specs.declared.Cap.{Cap}
use Rattle.def_words.specs.Authority.{cap_address, cap_base, cap_top}
use Rattle.def_words.specs.Capability.{is_range_inside}
use Rattle.def_words.specs.Permissions.{load_data, store_data}
use Rattle.def_words.specs.Seals.{cap_seal}
use Rattle.def_machine.specs.Image.{Image, granule_of, address_of}
use Rattle.def_machine.specs.Memory.{lies_in}
use Rattle.def_machine.specs.State.{State}
use Rattle.def_step.specs.declared.Access.{Access}
use Rattle.def_step.specs.Accesses.{access_of, access_checks, load_checks, store_checks}
use Rattle.def_step.specs.Checks.{first_failed}
use Rattle.def_step.specs.Devices.{IsWidth}
use Rattle.def_step.specs.Routines.{word_checks}
use Rattle.def_safety.specs.Used.{authority_of, value_of, access_start, AccessPasses, used_right}
use Rattle.def_integrity.specs.Acting.{IsAuthority}
use Rattle.law_events.proofs.Accesses.{width_of}
use Rattle.law_moves.proofs.Checks.{AllPass, all_pass}

-- what it goes through, and that its address is a multiple of its width
record Says (x : Cap) (at width right : ℕ) : Type 0 where
  authority : IsAuthority x at width right
  aligned : at % width ≡ 0

checks_say : (a : Access) (x y : Cap) (at : ℕ) → AllPass (access_checks a x y at) → Says x at a.width (used_right a)
checks_say a x y at = by a.loads
  where
    by : (loads : Bool) → AllPass (if loads then load_checks a x at else store_checks a x at (a.whole && y.tag)) → Says x at a.width (if loads then load_data else store_data)
    by true h =
        let ends = and_parts (nat_le (cap_base x) at) (nat_le (at + a.width) (cap_top x)) h.1.1.1.0 in
        record {
          authority = record { tagged = h.0; unsealed = eqb-true (cap_seal x) 0 h.1.0; may = h.1.1.0; low = leb-true (cap_base x) at ends.0; high = leb-true (at + a.width) (cap_top x) ends.1 };
          aligned = eqb-true (at % a.width) 0 h.1.1.1.1.0;
        }
    by false h =
        let ends = and_parts (nat_le (cap_base x) at) (nat_le (at + a.width) (cap_top x)) h.1.1.1.1.0 in
        record {
          authority = record { tagged = h.0; unsealed = eqb-true (cap_seal x) 0 h.1.0; may = h.1.1.0; low = leb-true (cap_base x) at ends.0; high = leb-true (at + a.width) (cap_top x) ends.1 };
          aligned = eqb-true (at % a.width) 0 h.1.1.1.1.1.0;
        }

access_says : (s : State) (t : ℕ) (k : Instr) → AccessPasses s t k → Says (authority_of s t k) (access_start s t k) (access_of k).width (used_right (access_of k))
access_says s t k passes = checks_say (access_of k) (authority_of s t k) (value_of s t k) (access_start s t k) (all_pass _ passes)

pub authority_says : (s : State) (t : ℕ) (k : Instr) → AccessPasses s t k → IsAuthority (authority_of s t k) (access_start s t k) (access_of k).width (used_right (access_of k))
authority_says s t k passes = (access_says s t k passes).authority

-- ---- in one granule

widths : (k : Instr) → IsWidth (access_of k).width
widths (Lh a b n) = inr (inl refl)
widths (Lhu a b n) = inr (inl refl)
widths (Sh a b n) = inr (inl refl)
widths (Lw a b n) = inr (inr (inl refl))
widths (Sw a b n) = inr (inr (inl refl))
widths (Clc a b n) = inr (inr (inr refl))
widths (Csc a b n) = inr (inr (inr refl))
widths k = inl refl

fits : (ram at width : ℕ) → ram % 8 ≡ 0 → ram ≤ at → at % width ≡ 0 → IsWidth width → at + width ≤ ram + 8 * ((at - ram) / 8) + 8
fits ram at width even inside aligned is = elim is [
  | inl one ↦ omega (arith, even, inside, one)
  | inr (inl two) ↦ (let rest : at % 2 ≡ 0 = subst (λ w. at % w ≡ 0) two aligned in omega (arith, even, inside, two, rest))
  | inr (inr (inl four)) ↦ (let rest : at % 4 ≡ 0 = subst (λ w. at % w ≡ 0) four aligned in omega (arith, even, inside, four, rest))
  | inr (inr (inr eight)) ↦ (let rest : at % 8 ≡ 0 = subst (λ w. at % w ≡ 0) eight aligned in omega (arith, even, inside, eight, rest))
]

-- no byte of it lies in another granule
pub granule_says : (i : Image) (s : State) (t : ℕ) (k : Instr) (j : ℕ) → i.ram % 8 ≡ 0 → AccessPasses s t k → i.ram ≤ access_start s t k → granule_of i (access_start s t k) ≡ j → access_start s t k + (access_of k).width ≤ address_of i j + 8
granule_says i s t k j even passes inside here =
    subst (λ n. access_start s t k + (access_of k).width ≤ address_of i n + 8) here
    (fits i.ram (access_start s t k) (access_of k).width even inside (access_says s t k passes).aligned (widths k))

-- a store of a capability is of a whole granule
pub whole_says : (s : State) (t : ℕ) (k : Instr) (ram : ℕ) → ram % 8 ≡ 0 → AccessPasses s t k → (access_of k).whole ≡ true → ram ≤ access_start s t k → ((access_start s t k - ram) % 8 ≡ 0) × ((access_of k).width ≡ 8)
whole_says s t k ram even passes whole inside =
    let eight : (access_of k).width ≡ 8 = (width_of k).eight whole in
    let aligned : access_start s t k % 8 ≡ 0 = subst (λ w. access_start s t k % w ≡ 0) eight (access_says s t k passes).aligned in
    (omega (arith, even, inside, aligned), eight)

-- ---- the word of a wake

pub word_says : (i : Image) (s : State) (c : Cap) → first_failed (word_checks i s c) ≡ None → IsAuthority c (cap_address c) 4 load_data
word_says i s c passes =
    let h = all_pass (word_checks i s c) passes in
    let ends = and_parts (nat_le (cap_base c) (cap_address c)) (nat_le (cap_address c + 4) (cap_top c)) (both_left (is_range_inside c (cap_address c) (cap_address c + 4)) (lies_in i.ram s.granules (cap_address c) 4) h.1.1.1.0) in
    record {
      tagged = h.0;
      unsealed = eqb-true (cap_seal c) 0 h.1.0;
      may = h.1.1.0;
      low = leb-true (cap_base c) (cap_address c) ends.0;
      high = leb-true (cap_address c + 4) (cap_top c) ends.1;
    }
