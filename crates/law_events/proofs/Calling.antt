-- What the switcher gives a callee is tagged: its code at the export, its globals, the return sentry, and as much of the
-- thread's stack as the caller leaves it.
use Rattle.std.proofs.Common.{ℕ, ◌≡◌, ◌+◌, ◌-◌, ◌*◌, ◌/◌, ◌%◌, ◌^◌, ◌≤◌, ◌<◌, ◌==◌, true, false, inl, inr, nat_le, Option, Some, None, refl, sym, ap, ◌∙◌, subst, arith}
use Rattle.std.specs.Prelude.{find, unwrap_or}
use Rattle.std.specs.List.{range_with_len}
use Rattle.std.proofs.Math.Nat.{div-mul-le_self, mul-le-mul_left, mul-mod_left}
use Rattle.std.proofs.Math.Pow.{pow_mono}
use Rattle.std.proofs.lemmas.Nat.{mul-le, pow_pos}
use Rattle.std.proofs.lemmas.Bool.{leb-true, leb-false, le-leb, eqb-true, and_parts}
use Rattle.def_profile.specs.declared.bounds.TheConstants.{LAST_EXPONENT, MOST_UNITS}
use Rattle.law_lists.proofs.Tests.{le_tells}
use Rattle.ct_entry.specs.declared.rows.Owner.TheVariants.{Compartment}
use Rattle.ct_entry.specs.declared.rows.Kind.TheVariants as kind
use Rattle.def_profile.specs.declared.limits.TheConstants.{MOST_STACK_REGION}
use Rattle.def_profile.specs.declared.rights.TheConstants.{STACK_RIGHTS}
use Rattle.def_words.specs.declared.Shadow.{Shadow}
use Rattle.def_words.specs.Capability.{with_address}
use Rattle.def_words.specs.Derive.{memory_root}
use Rattle.def_words.specs.LeastBounds.{exponent_for, floor_units, ceil_units, rounded_of}
use Rattle.law_words.proofs.Leasts.{exponent_is}
use Rattle.law_words.proofs.Making.{derive_makes}
use Rattle.law_words.proofs.Rights.{memory_is_root}
use Rattle.law_layout.proofs.Multiples.{coarser}
use Rattle.law_layout.proofs.Placing.{exact_units}
use Rattle.def_reach.specs.Roots.{Root, TrustedPart, Listing, is_root, root_of}
use Rattle.def_machine.specs.Image.{Image, root, made_cap, code_entry, globals_entry, stack_entry, stack_base, stack_top}
use Rattle.def_confined.specs.Partitioned.{Partitioned}
use Rattle.def_confined.specs.Facts.{Facts, StackFits, gate_code}
use Rattle.def_step.specs.Switch.{room_exponent, room_of, new_top}
use Rattle.def_safety.specs.Calling.{stack_up_to}
use Rattle.law_routines.proofs.Places.{least, never}

-- ---- the room of a callee's stack

-- the least exponent from 4 on at which a length has at most 511 units
pub record RoomIs (n e : ℕ) : Type 0 where
  pub low : 4 ≤ e
  pub high : e ≤ LAST_EXPONENT
  pub few : n / 2 ^ e ≤ MOST_UNITS
  pub least : (k : ℕ) → 4 ≤ k → k < e → MOST_UNITS < n / 2 ^ k

pub room_is : (n : ℕ) → n ≤ MOST_STACK_REGION → RoomIs n (room_exponent n)
room_is n small = by_found (find (λ e. nat_le (n / 2 ^ e) MOST_UNITS) (range_with_len 4 11)) refl
  where
    -- at 7 there are few enough
    seven : nat_le (n / 2 ^ 7) MOST_UNITS ≡ true
    seven = le-leb (n / 2 ^ 7) 511 (omega (arith, small))

    by_found : (o : Option ℕ) → find (λ e. nat_le (n / 2 ^ e) MOST_UNITS) (range_with_len 4 11) ≡ o → RoomIs n (unwrap_or o LAST_EXPONENT)
    by_found None none = absurd (let clash : true ≡ false = sym seven ∙ never (λ e. nat_le (n / 2 ^ e) MOST_UNITS) 4 11 7 none (omega arith) (omega arith) in cc)
    by_found (Some e) is =
        let l = least (λ k. nat_le (n / 2 ^ k) 511) 4 11 e is in
        record {
          low = l.low_is;
          high = upper e l.before;
          few = leb-true (n / 2 ^ e) 511 l.passes;
          least = λ k from below. leb-false (n / 2 ^ k) 511 (l.before k from below);
        }
      where
        upper : (e : ℕ) → ((x : ℕ) → 4 ≤ x → x < e → nat_le (n / 2 ^ x) MOST_UNITS ≡ false) → e ≤ LAST_EXPONENT
        upper e before = elim (le_tells e 14) [
          | inl le ↦ le.1
          | inr gt ↦ absurd (let past = gt.1 in let clash : true ≡ false = sym seven ∙ before 7 (omega arith) (omega (arith, past)) in cc)
        ]

-- ---- a stack's exponent

-- a range that a word spells with exponent E begins at whole units, and has at most 511 of them
record Spelled (base top : ℕ) : Type 0 where
  pub even : base % 2 ^ exponent_for base top ≡ 0
  pub long : exponent_for base top ≤ LAST_EXPONENT → top ≤ base + MOST_UNITS * 2 ^ exponent_for base top

spelled : (base top : ℕ) → base ≤ top → (rounded_of base top).exact ≡ true → Spelled base top
spelled base top order exact =
    let parts = and_parts (floor_units base (exponent_for base top) * 2 ^ exponent_for base top == base) (ceil_units top (exponent_for base top) * 2 ^ exponent_for base top == top) exact in
    let low = eqb-true (floor_units base (exponent_for base top) * 2 ^ exponent_for base top) base parts.0 in
    let high = eqb-true (ceil_units top (exponent_for base top) * 2 ^ exponent_for base top) top parts.1 in
    record {
      even = whole base (floor_units base (exponent_for base top)) (2 ^ exponent_for base top) low;
      long = λ small. elim (exponent_is base top).serves [
        | inl s ↦ span (floor_units base (exponent_for base top)) (ceil_units top (exponent_for base top)) (2 ^ exponent_for base top) low high s.1
        | inr big ↦ absurd (omega (arith, small, big))
      ];
    }
  where
    whole : (n q d : ℕ) → q * d ≡ n → n % d ≡ 0
    whole n q d is = ap (λ z. z % d) (sym is) ∙ mul-mod_left q d

    span : (f c d : ℕ) → f * d ≡ base → c * d ≡ top → c - f ≤ MOST_UNITS → top ≤ base + MOST_UNITS * d
    span f c d low high few =
        let under : c ≤ f + 511 = omega (arith, few) in
        let more : c * d ≤ (f + 511) * d = mul-le c d (f + 511) d under (omega arith) in
        let parts : (f + 511) * d ≡ f * d + 511 * d = omega arith in
        omega (arith, low, high, more, parts)

-- ---- the stack

room_whole : (r : Root) (n : ℕ) → StackFits r → r.base + n ≤ r.top → r.base % 2 ^ room_exponent n ≡ 0
room_whole r n fits inside = elim (le_tells (room_exponent n) 4) [
  | inl le ↦ coarser r.base (room_exponent n) 4 le.1 fits.even
  | inr gt ↦ coarser r.base (room_exponent n) (exponent_for r.base r.top) (under gt.1) said.even
]
  where
    short : n ≤ MOST_STACK_REGION
    short = let at_most = fits.short in omega (arith, at_most, inside)

    said : Spelled r.base r.top
    said = spelled r.base r.top fits.order fits.exact

    is : RoomIs n (room_exponent n)
    is = room_is n short

    under : 4 < room_exponent n → room_exponent n ≤ exponent_for r.base r.top
    under some = elim (le_tells (room_exponent n) (exponent_for r.base r.top)) [
      | inl le ↦ le.1
      | inr gt ↦ absurd (too_long (room_exponent n) (exponent_for r.base r.top) some gt.1 is.high (is.least (room_exponent n - 1) (omega (arith, some)) (omega (arith, some))) (said.long (let high = is.high in let less = gt.1 in omega (arith, high, less))))
    ]
      where
        too_long : (e k : ℕ) → 4 < e → k < e → e ≤ LAST_EXPONENT → MOST_UNITS < n / 2 ^ (e - 1) → r.top ≤ r.base + MOST_UNITS * 2 ^ k → ⊥
        too_long e k some less high many long =
            let power : 2 ^ k ≤ 2 ^ (e - 1) = pow_mono (omega (arith, less)) in
            let units_more : 511 * 2 ^ k ≤ 511 * 2 ^ (e - 1) = mul-le-mul_left 511 power in
            let counted : n / 2 ^ (e - 1) * 2 ^ (e - 1) ≤ n = div-mul-le_self n (2 ^ (e - 1)) in
            let many_more : 512 * 2 ^ (e - 1) ≤ n / 2 ^ (e - 1) * 2 ^ (e - 1) = mul-le 512 (2 ^ (e - 1)) (n / 2 ^ (e - 1)) (2 ^ (e - 1)) (omega (arith, many)) (omega arith) in
            let one : 0 < 2 ^ (e - 1) = pow_pos (e - 1) in
            omega (arith, long, inside, units_more, counted, many_more, one)

room_exact : (r : Root) (n : ℕ) → StackFits r → r.base + n ≤ r.top → (rounded_of r.base (r.base + room_of n)).exact ≡ true
room_exact r n fits inside =
    let is = room_is n (let at_most = fits.short in omega (arith, at_most, inside)) in
    exact_units r.base (n / 2 ^ room_exponent n) (room_exponent n) is.high (room_whole r n fits inside) is.few

pub stack_tagged : (i : Image) (t x : ℕ) (from : Shadow) → Partitioned i → Facts i → (root i (stack_entry i t)).origin ≡ Listing kind.Stack → stack_base i t ≤ x → x ≤ stack_top i t → (stack_up_to i t (new_top (stack_base i t) x) from).tag ≡ true
stack_tagged i t x from parts facts is low high =
    let fits : StackFits (root i (stack_entry i t)) = facts.stacks (stack_entry i t) is in
    let inside : stack_base i t + (x - stack_base i t) ≤ stack_top i t = omega (arith, low, high) in
    let within : room_of (x - stack_base i t) ≤ x - stack_base i t = div-mul-le_self (x - stack_base i t) (2 ^ room_exponent (x - stack_base i t)) in
    let small = (parts.stacks_are (stack_entry i t) is).1 in
    let exact : (rounded_of (stack_base i t) (stack_base i t + room_of (x - stack_base i t))).exact ≡ true = room_exact (root i (stack_entry i t)) (x - stack_base i t) fits inside in
    let long : new_top (stack_base i t) x - stack_base i t ≡ room_of (x - stack_base i t) = omega arith in
    (derive_makes memory_root (stack_base i t) (new_top (stack_base i t) x - stack_base i t) STACK_RIGHTS (new_top (stack_base i t) x) 0 from (record {
      root = memory_is_root;
      low = omega (arith, low, high, small);
      fits = omega (arith, long, within, inside, small);
      exact = subst (λ n. (rounded_of (stack_base i t) (stack_base i t + n)).exact ≡ true) (sym long) exact;
      from = omega arith;
      to = omega (arith, long);
      small = omega (arith, within, inside, small);
      kind_fits = inl refl;
    })).0.tagged

-- ---- code, globals and the sentry

pub code_tagged : (i : Image) (n b : ℕ) → Facts i → (root i n).origin ≡ Listing kind.Call → (root i (root i n).of).owner ≡ Compartment b → (with_address (made_cap i (code_entry i b)) (gate_code i (root i n).of)).tag ≡ true
code_tagged i n b facts is owner = (facts.gates (root i n).of (facts.called n is).kind_is).begins b owner

pub globals_tagged : (i : Image) (n b : ℕ) → Partitioned i → Facts i → (root i n).owner ≡ Compartment b → (made_cap i (globals_entry i b)).tag ≡ true
globals_tagged i n b parts facts owner =
    let own = parts.own_globals b n owner in
    facts.made (globals_entry i b) (record {
      rooted = ap is_root own.kind_is;
      owned = λ code. absurd (let clash : Listing kind.Globals ≡ Listing kind.Code = sym own.kind_is ∙ code in cc);
    })

pub sentry_tagged : (i : Image) → Facts i → (made_cap i 0).tag ≡ true
unfolding root_of
sentry_tagged i facts = facts.made 0 (record { rooted = refl; owned = λ code. absurd (let clash : TrustedPart ≡ Listing kind.Code = code in cc) })
