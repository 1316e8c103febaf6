-- A window: where it holds a tagged capability's address a fetch passes and finds a word, and it suits the capability
-- at each other address.
use Rattle.std.proofs.Common.{ℕ, ◌+◌, ◌*◌, ◌%◌, ◌^◌, ◌<◌, ◌≤◌, ◌≡◌, ◌==◌, ◌&&◌, Bool, true, false, nat_le, nat_lt, List, [], ◌∷◌, length, is_none, arith, refl, sym, ap, ◌∙◌, subst}
use Rattle.std.proofs.lemmas.Bool.{leb-true, eqb-true, le-leb, le-ltb, eq-eqb, ne_eqb, and_parts, and_from, and_left, and_right}
use Rattle.def_profile.specs.declared.native.TheConstants.{NATIVE_BASE, NATIVE_UNIT, RETURN_ENTRY}
use Rattle.def_words.specs.declared.Cap.{Cap}
use Rattle.def_words.specs.declared.Bounds.{Bounds}
use Rattle.def_words.specs.declared.Trap.{Trap}
use Rattle.def_words.specs.Authority.{cap_address, cap_base, cap_bounds, cap_high, cap_top}
use Rattle.def_words.specs.Capability.{is_range_inside, is_representable, with_address, word_at}
use Rattle.def_words.specs.Permissions.{bit, has, execute}
use Rattle.def_words.specs.Seals.{is_unsealed}
use Rattle.law_words.proofs.Words.{bounds_is, perms_same, seal_same}
use Rattle.def_instr.specs.Reading.{instruction_in}
use Rattle.def_memory.specs.declared.Granule.{Granule}
use Rattle.def_machine.specs.Memory.{lies_in}
use Rattle.def_step.specs.Accesses.{MemoryAndDevices}
use Rattle.def_step.specs.Checks.{first_failed}
use Rattle.def_step.specs.Instructions.{fetch_checks, fetched, is_native_entry, next_at, next_word}
use Rattle.ct_loadstore.specs.Shapes.{space_of}
use Rattle.ct_threads.specs.declared.window.Window.{Window}
use Rattle.ct_threads.specs.Steps.{first_after_native, finds_word, is_word_of_ram, no_bank}
use Rattle.ct_threads.specs.Windows.{window_holds, IsWindow, LiesPastNative, Opens, Suits}

-- ---- a fetch

four : (b0 b1 b2 b3 : Bool) (t0 t1 t2 t3 : Trap) → b0 ≡ true → b1 ≡ true → b2 ≡ true → b3 ≡ true → is_none (first_failed ((b0, t0) ∷ (b1, t1) ∷ (b2, t2) ∷ (b3, t3) ∷ [])) ≡ true
four b0 b1 b2 b3 t0 t1 t2 t3 e0 e1 e2 e3 = rw (e0, e1, e2, e3) refl

passes : (c : Cap) → c.tag ≡ true → Opens c (cap_address c) → is_none (first_failed (fetch_checks c)) ≡ true
passes c tagged opens =
    let low : nat_le (cap_base c) (cap_address c) ≡ true = le-leb (cap_base c) (cap_address c) opens.base in
    let high : nat_le (cap_address c + 4) (cap_top c) ≡ true = le-leb (cap_address c + 4) (cap_top c) opens.top in
    four c.tag (is_unsealed c) (has c execute) (is_range_inside c (cap_address c) (cap_address c + 4)) _ _ _ _ tagged opens.unsealed opens.executes (and_from (nat_le (cap_base c) (cap_address c)) (nat_le (cap_address c + 4) (cap_top c)) low high)

stands : (ram : ℕ) (gs : List Granule) (at : ℕ) → LiesPastNative ram (8 * length gs) at → at % 4 ≡ 0 → is_word_of_ram ram gs at ≡ true
stands ram gs at there whole =
    let native : nat_le first_after_native at ≡ true = le-leb first_after_native at there.native in
    let begin : nat_le ram at ≡ true = le-leb ram at there.begin in
    let end : nat_le (at + 4) (ram + 8 * length gs) ≡ true = le-leb (at + 4) (ram + 8 * length gs) there.end in
    and_from (nat_le first_after_native at) (lies_in ram gs at 4 && (at % 4 == 0)) native
    (and_from (lies_in ram gs at 4) (at % 4 == 0) (and_from (nat_le ram at) (nat_le (at + 4) (ram + 8 * length gs)) begin end) (eq-eqb (at % 4) 0 whole))

pub word_found : (w : Window) (c : Cap) (ram : ℕ) (gs : List Granule) (at : ℕ) → IsWindow w c ram (8 * length gs) → at ≡ cap_address c → c.tag ≡ true → window_holds w at ≡ true → at % 4 ≡ 0
    → finds_word c ram gs ≡ true
word_found w c ram gs at is address tagged within whole =
    and_from (is_none (first_failed (fetch_checks c))) (is_word_of_ram ram gs (cap_address c))
    (passes c tagged (subst (Opens c) address (is.suits at within tagged)))
    (subst (λ n. is_word_of_ram ram gs n ≡ true) address (stands ram gs at (is.lies at within) whole))

-- past the native routines stands what the word there says
next_past : (p : MemoryAndDevices) (at : ℕ) → first_after_native ≤ at → next_at p at ≡ next_word (instruction_in (fetched p at))
next_past p at past =
    let other : (at == RETURN_ENTRY) ≡ false = ne_eqb at RETURN_ENTRY (λ is. omega (arith, past, is)) in
    let after : nat_lt at first_after_native ≡ false = le-ltb at first_after_native past in
    let none : is_native_entry at ≡ false = and_left (nat_le NATIVE_BASE at && nat_lt at first_after_native) (at % NATIVE_UNIT == 0) (and_right (nat_le NATIVE_BASE at) (nat_lt at first_after_native) after) in
    rw (other, none) refl

pub next_found : (c : Cap) (ram : ℕ) (gs : List Granule) (w : ℕ) → finds_word c ram gs ≡ true → w ≡ fetched (space_of ram gs no_bank 0) (cap_address c) → next_at (space_of ram gs no_bank 0) (cap_address c) ≡ next_word (instruction_in w)
next_found c ram gs w found is =
    let there = and_parts (is_none (first_failed (fetch_checks c))) (is_word_of_ram ram gs (cap_address c)) found in
    let past = and_parts (nat_le first_after_native (cap_address c)) (lies_in ram gs (cap_address c) 4 && (cap_address c % 4 == 0)) there.1 in
    next_past (space_of ram gs no_bank 0) (cap_address c) (leb-true first_after_native (cap_address c) past.0) ∙ ap (λ n. next_word (instruction_in n)) (sym is)

-- ---- of no address

none_held : (at : ℕ) → window_holds (record { from = 1; last = 0 }) at ≡ true → ⊥
none_held at within =
    let ends = and_parts (nat_le 1 at) (nat_le at 0) within in
    let low : 1 ≤ at = leb-true 1 at ends.0 in
    let high : at ≤ 0 = leb-true at 0 ends.1 in
    omega (arith, low, high)

pub empty_is : (c : Cap) (ram size : ℕ) → IsWindow (record { from = 1; last = 0 }) c ram size
empty_is c ram size = record {
  suits = λ at within tagged. absurd (none_held at within);
  lies = λ at within. absurd (none_held at within);
}

-- ---- at another address

-- where the tag stays the capability was tagged, and its bounds stay
pub suits_moved : (w : Window) (c : Cap) (a : ℕ) → a < 2 ^ 32 → Suits w c → Suits w (with_address c a)
unfolding with_address
suits_moved w c a small suits at within tagged =
    let kept = and_parts (c.tag && is_unsealed c) (is_representable c a) tagged in
    let first = and_parts c.tag (is_unsealed c) kept.0 in
    let ends = and_parts (cap_base (record c { word = word_at c a }) == cap_base c) (cap_top (record c { word = word_at c a }) == cap_top c) kept.1 in
    let bounds : cap_bounds (with_address c a) ≡ cap_bounds (record c { word = word_at c a }) =
    bounds_is (with_address c a) (cap_high c) a small refl ∙ sym (bounds_is (record c { word = word_at c a }) (cap_high c) a small refl) in
    let base : cap_base (with_address c a) ≡ cap_base c = ap (λ (b : Bounds). b.base) bounds ∙ eqb-true (cap_base (record c { word = word_at c a })) (cap_base c) ends.0 in
    let top : cap_top (with_address c a) ≡ cap_top c = ap (λ (b : Bounds). b.top) bounds ∙ eqb-true (cap_top (record c { word = word_at c a })) (cap_top c) ends.1 in
    let opens = suits at within first.0 in
    record {
      unsealed = ap (λ n. n == 0) (seal_same c (with_address c a) (cap_high c) a small refl refl refl) ∙ opens.unsealed;
      executes = ap (λ n. bit n execute) (perms_same c (with_address c a) (cap_high c) a small refl refl) ∙ opens.executes;
      base = rw base opens.base;
      top = rw top opens.top;
      small = rw top opens.small;
    }
