-- What a load attenuates, what a jump opens, and the link that it leaves.
use Rattle.std.proofs.Common.{ℕ, ◌+◌, ◌%◌, ◌^◌, ◌<◌, ◌≡◌, ◌≢◌, ◌==◌, Bool, true, false, ◌&&◌, ◌||◌, not, if◌then◌else◌, refl, ap, sym, ◌∙◌, inl, inr, arith, List, [], ◌∷◌}
use Rattle.std.proofs.lemmas.Bool.{and_parts}
use Rattle.law_lists.proofs.Tests.{le_tells}
use Rattle.def_words.specs.declared.Cap.{Cap}
use Rattle.def_words.specs.declared.Posture.{Posture}
use Rattle.def_words.specs.Authority.{cap_address, cap_high, seal_field, permission_bits}
use Rattle.def_words.specs.Permissions.{cap_perms, has, unpacked, normal_set, form_of, removed, set_where, is_among, bit, execute, global, load_global, memory_capability, Within}
use Rattle.def_words.specs.Seals.{cap_seal, seal_type}
use Rattle.def_words.specs.Capability.{raised, with_address, word_with_set}
use Rattle.def_words.specs.Loaded.{attenuated, lost_through}
use Rattle.def_words.specs.Jumped.{opened, return_link}
use Rattle.def_words.specs.Narrows.{Narrows, IsOpened, IsLink}
use Rattle.def_words.specs.Facts.{IsLoaded}
use Rattle.law_words.proofs.Bits.{bit_where, bit_past, where_small, apart}
use Rattle.law_words.proofs.Spellings.{all_below, below_holds, normal_within, normal_small, unpacked_small}
use Rattle.law_words.proofs.Narrowing.{shadow_kept, narrows_of, Addressed, addressed, WithSet, with_set, zero_field, field_zero}
use Rattle.law_words.proofs.Sealed.{WithField, with_field, perms_through}

-- ---- loads

removed_small : (set : ℕ) (ps : List ℕ) → removed set ps < 2 ^ 12
unfolding removed
removed_small set ps = where_small (λ p. bit set p && not (is_among p ps))

removed_within : (set : ℕ) (ps : List ℕ) → Within (removed set ps) set
unfolding removed
removed_within set ps p there = elim (le_tells 12 p) [
  | inl t ↦ absurd (let none : bit (set_where (λ q. bit set q && not (is_among q ps))) p ≡ false = bit_past (set_where (λ q. bit set q && not (is_among q ps))) p (where_small (λ q. bit set q && not (is_among q ps))) t.1 in cc)
  | inr t ↦ (and_parts (bit set p) (not (is_among p ps)) (sym (bit_where (λ q. bit set q && not (is_among q ps)) p t.1) ∙ there)).0
]

pub same_bool : Bool → Bool → Bool
same_bool x y = if x then y else not y

same_bool_is : (x y : Bool) → same_bool x y ≡ true → x ≡ y
unfolding same_bool
same_bool_is true y h = sym h
same_bool_is false true h = h
same_bool_is false false h = refl

-- what a sealed word loses, at each spelling and each permission but `global`
sealed_test : ℕ → Bool
sealed_test b =
    all_below (λ p. (p == 0) || same_bool (bit (normal_set (removed (unpacked b) (global ∷ []))) p) (bit (unpacked b) p)) 12
    && all_below (λ p. same_bool (bit (normal_set (removed (unpacked b) [])) p) (bit (unpacked b) p)) 12

sealed_all : all_below sealed_test 64 ≡ true
unfolding sealed_test same_bool normal_set removed form_of unpacked set_where bit
sealed_all = refl

or_right : (x y : Bool) → x ≡ false → (x || y) ≡ true → y ≡ true
or_right x y off h = rw off at h

keeps_but_global : (b p : ℕ) → b < 64 → p < 12 → p ≢ global → bit (normal_set (removed (unpacked b) (global ∷ []))) p ≡ bit (unpacked b) p
unfolding sealed_test
keeps_but_global b p small low other =
    let both = and_parts (all_below (λ q. (q == 0) || same_bool (bit (normal_set (removed (unpacked b) (global ∷ []))) q) (bit (unpacked b) q)) 12)
    (all_below (λ q. same_bool (bit (normal_set (removed (unpacked b) [])) q) (bit (unpacked b) q)) 12) (below_holds sealed_test 64 b sealed_all small) in
    let one = below_holds (λ q. (q == 0) || same_bool (bit (normal_set (removed (unpacked b) (global ∷ []))) q) (bit (unpacked b) q)) 12 p both.0 low in
    same_bool_is (bit (normal_set (removed (unpacked b) (global ∷ []))) p) (bit (unpacked b) p)
    (or_right (p == 0) (same_bool (bit (normal_set (removed (unpacked b) (global ∷ []))) p) (bit (unpacked b) p)) (apart p 0 other) one)

keeps_all : (b p : ℕ) → b < 64 → p < 12 → bit (normal_set (removed (unpacked b) [])) p ≡ bit (unpacked b) p
unfolding sealed_test
keeps_all b p small low =
    let both = and_parts (all_below (λ q. (q == 0) || same_bool (bit (normal_set (removed (unpacked b) (global ∷ []))) q) (bit (unpacked b) q)) 12)
    (all_below (λ q. same_bool (bit (normal_set (removed (unpacked b) [])) q) (bit (unpacked b) q)) 12) (below_holds sealed_test 64 b sealed_all small) in
    same_bool_is (bit (normal_set (removed (unpacked b) [])) p) (bit (unpacked b) p)
    (below_holds (λ q. same_bool (bit (normal_set (removed (unpacked b) [])) q) (bit (unpacked b) q)) 12 p both.1 low)

-- of any set that a word spells
keeps_rights : (b p : ℕ) (keeps : Bool) → b < 64 → p ≢ global → bit (normal_set (removed (unpacked b) (if keeps then [] else global ∷ []))) p ≡ bit (unpacked b) p
keeps_rights b p keeps small other = elim (le_tells 12 p) [
  | inl t ↦ bit_past (normal_set (removed (unpacked b) (if keeps then [] else global ∷ []))) p (normal_small (removed (unpacked b) (if keeps then [] else global ∷ []))) t.1
      ∙ sym (bit_past (unpacked b) p (unpacked_small b) t.1)
  | inr t ↦ by_case keeps t.1
]
  where
    by_case : (keeps : Bool) → p < 12 → bit (normal_set (removed (unpacked b) (if keeps then [] else global ∷ []))) p ≡ bit (unpacked b) p
    by_case true low = keeps_all b p small low
    by_case false low = keeps_but_global b p small low other

kind_of_same : (c d : Cap) → has d execute ≡ has c execute → seal_field (cap_high d) ≡ seal_field (cap_high c) → cap_seal d ≡ cap_seal c
unfolding cap_seal
kind_of_same c d ex field = ap (λ x. seal_type x (seal_field (cap_high d))) ex ∙ ap (λ f. seal_type (has c execute) f) field

lost_sealed : (by c : Cap) → cap_seal c ≢ 0 → lost_through by c ≡ (if has by load_global then [] else global ∷ [])
lost_sealed by c not_zero = rw (apart (cap_seal c) 0 not_zero) refl

pub loaded_facts : (by c : Cap) → IsLoaded c (attenuated by c)
unfolding attenuated
loaded_facts by c =
    let w : WithSet c (attenuated by c) (removed (cap_perms c) (lost_through by c)) = with_set c (attenuated by c) (removed (cap_perms c) (lost_through by c)) (removed_small (cap_perms c) (lost_through by c)) refl in
    record {
      open_stays = λ is_zero. zero_field (attenuated by c) (w.field ∙ field_zero c is_zero);
      sealed_stays = λ sealed.
          let rights : (p : ℕ) → p ≢ global → has (attenuated by c) p ≡ has c p = λ p other.
          ap (λ s. bit s p) w.rights
          ∙ ap (λ ps. bit (normal_set (removed (cap_perms c) ps)) p) (lost_sealed by c sealed)
          ∙ ap (λ s. bit (normal_set (removed s (if has by load_global then [] else global ∷ []))) p) (perms_through c)
          ∙ keeps_rights (permission_bits (cap_high c)) p (has by load_global) (omega arith) other
          ∙ ap (λ s. bit s p) (sym (perms_through c)) in
          record {
            kind = kind_of_same c (attenuated by c) (rights execute (omega arith)) w.field;
            same_base = ap (λ b. b.base) w.bounds;
            same_top = ap (λ b. b.top) w.bounds;
            same_address = w.at;
            same_rights = rights;
          };
    }

pub loaded_narrows : (by c : Cap) → (attenuated by c).tag ≡ true → Narrows c (attenuated by c) × (has by memory_capability ≡ true)
unfolding attenuated
loaded_narrows by c t =
    let parts = and_parts c.tag (has by memory_capability) t in
    let w : WithSet c (attenuated by c) (removed (cap_perms c) (lost_through by c)) = with_set c (attenuated by c) (removed (cap_perms c) (lost_through by c)) (removed_small (cap_perms c) (lost_through by c)) refl in (
      narrows_of c (attenuated by c) parts.0 (shadow_kept (c.tag && has by memory_capability) (word_with_set c (removed (cap_perms c) (lost_through by c))) c.shadow t) w.bounds
          (λ p there. removed_within (cap_perms c) (lost_through by c) p (normal_within (removed (cap_perms c) (lost_through by c)) p (ap (λ s. bit s p) (sym w.rights) ∙ there))),
      parts.1,
    )

-- ---- jumps

pub opened_is : (c : Cap) → c.tag ≡ true → IsOpened c (opened c)
opened_is c tagged =
    let w : WithField c (opened c) 0 = with_field c (opened c) 0 (omega arith) refl in
    record {
      tagged = tagged;
      root = rw tagged refl;
      source = rw tagged refl;
      same_base = ap (λ b. b.base) w.bounds;
      same_top = ap (λ b. b.top) w.bounds;
      same_rights = w.rights;
      unsealed = w.kind;
    }

-- the target at the address that a jump goes to
pub opened_at : (c : Cap) (a : ℕ) → a < 2 ^ 32 → (with_address (opened c) a).tag ≡ true → IsOpened c (with_address (opened c) a)
opened_at c a small t =
    let h : Addressed (opened c) a = addressed (opened c) a small t in
    let o : IsOpened c (opened c) = opened_is c h.tagged in
    record {
      tagged = h.tagged;
      root = ap (λ s. s.root) h.shadows ∙ o.root;
      source = ap (λ s. s.source) h.shadows ∙ o.source;
      same_base = ap (λ b. b.base) h.bounds ∙ o.same_base;
      same_top = ap (λ b. b.top) h.bounds ∙ o.same_top;
      same_rights = h.rights ∙ o.same_rights;
      unsealed = h.after;
    }

pub linked_is : (pcc : Cap) (before : Posture) → has pcc execute ≡ true → (return_link pcc before).tag ≡ true → IsLink pcc before (return_link pcc before)
linked_is pcc before executes t =
    let h : Addressed pcc ((cap_address pcc + 4) % 2 ^ 32) = addressed pcc ((cap_address pcc + 4) % 2 ^ 32) (omega arith) t in
    let w : WithField (raised pcc 4) (return_link pcc before) (if before.off then 4 else 5) = with_field (raised pcc 4) (return_link pcc before) (if before.off then 4 else 5) (small before.off) refl in
    let ex : has (raised pcc 4) execute ≡ true = ap (λ s. bit s execute) h.rights ∙ executes in
    record {
      tagged = h.tagged;
      root = rw t refl;
      same_base = ap (λ b. b.base) (w.bounds ∙ h.bounds);
      same_top = ap (λ b. b.top) (w.bounds ∙ h.bounds);
      same_rights = w.rights ∙ h.rights;
      off = λ is_off. (w.kind ∙ kind_off is_off ex, rw (t, is_off) refl);
      on = λ is_on. (w.kind ∙ kind_on is_on ex, rw (t, is_on) refl);
    }
  where
    small : (off : Bool) → (if off then 4 else 5) < 8
    small true = omega arith
    small false = omega arith

    kind_off : before.off ≡ true → has (raised pcc 4) execute ≡ true → seal_type (has (raised pcc 4) execute) (if before.off then 4 else 5) ≡ 4
    kind_off is_off ex = rw (is_off, ex) refl

    kind_on : before.off ≡ false → has (raised pcc 4) execute ≡ true → seal_type (has (raised pcc 4) execute) (if before.off then 4 else 5) ≡ 5
    kind_on is_on ex = rw (is_on, ex) refl
