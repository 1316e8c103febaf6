-- What is sealed as a token passes on as it is, and so does what holds of it.
use Rattle.std.proofs.Common.{ℕ, ◌≡◌, ◌<◌, inl, inr, not, nat_eq, true, false, List, sym, ap, ◌∙◌, subst, arith}
use Rattle.law_lists.proofs.Tests.{bool_tells, both_left, both_right}
use Rattle.def_words.specs.declared.Cap.{Cap}
use Rattle.def_words.specs.declared.Posture.{Posture}
use Rattle.def_words.specs.declared.Shadow.{Shadow}
use Rattle.def_words.specs.Authority.{cap_base, cap_top}
use Rattle.def_words.specs.Seals.{cap_seal}
use Rattle.def_reach.specs.Roots.{is_quota, is_code}
use Rattle.def_machine.specs.Image.{Image, root}
use Rattle.def_machine.specs.State.{Object, Token}
use Rattle.def_machine.specs.Objects.{Any}
use Rattle.def_confined.specs.Capabilities.{heap_cap}
use Rattle.def_confined.specs.Confined.{IsPcc}
use Rattle.def_confined.specs.Made.{IsOwn, Links}
use Rattle.def_safety.specs.Tokened.{IsWhole, TokenFits, ShutTo, KeysShut}
use Rattle.def_safety.specs.Results.{Keyed, IsResult}
use Rattle.def_events.specs.Passes.{PassesOn}
use Rattle.law_moves.proofs.Rows.{any_map}
use Rattle.law_moves.proofs.Derives.{of_heap, code_no_heap}
use Rattle.law_history.proofs.Given.{GivenKinds}

pub no_tag : (c : Cap) (G : Type 0) → c.tag ≡ false → c.tag ≡ true → G
no_tag c G off tagged = absurd (let clash : true ≡ false = sym tagged ∙ off in cc)

-- ---- what is no object's

heap_is_quota : (i : Image) (c : Cap) → heap_cap i c ≡ true → is_quota (root i c.shadow.root).origin ≡ true
heap_is_quota i c h = both_left (is_quota (root i c.shadow.root).origin) (not (nat_eq c.shadow.source 0)) h

no_heap : (i : Image) (c : Cap) (G : Type 0) → is_quota (root i c.shadow.root).origin ≡ false → heap_cap i c ≡ true → G
no_heap i c G other heap = absurd (let clash : true ≡ false = sym (heap_is_quota i c heap) ∙ other in cc)

no_source : (i : Image) (c : Cap) (G : Type 0) → c.shadow.source ≡ 0 → heap_cap i c ≡ true → G
no_source i c G none heap =
    let P : ℕ → Type 0 = λ n. not (nat_eq n 0) ≡ true in
    absurd (let clash : false ≡ true = subst P none (both_right (is_quota (root i c.shadow.root).origin) (not (nat_eq c.shadow.source 0)) heap) in cc)

pub same_heap : (i : Image) (c d : Cap) → d.shadow ≡ c.shadow → heap_cap i d ≡ true → heap_cap i c ≡ true
same_heap i c d same h = let P : Shadow → Type 0 = λ z. of_heap i z ≡ true in subst P same h

heap_same : (i : Image) (c d : Cap) → d.shadow ≡ c.shadow → heap_cap i c ≡ true → heap_cap i d ≡ true
heap_same i c d same h = let P : Shadow → Type 0 = λ z. of_heap i z ≡ true in subst P (sym same) h

own_no_heap : (i : Image) (b : ℕ) (d : Cap) (G : Type 0) → IsOwn i b d → heap_cap i d ≡ true → G
own_no_heap i b d G o heap = elim o.kind [ inl code ↦ no_heap i d G (ap is_quota code) heap | inr globals ↦ no_heap i d G (ap is_quota globals) heap ]

link_no_heap : (i : Image) (c d : Cap) (before : Posture) (G : Type 0) → (c.tag ≡ true → IsPcc i c) → Links c before d → d.tag ≡ true → heap_cap i d ≡ true → G
link_no_heap i c d before G runs links tagged heap =
    let l = links tagged in
    let P : ℕ → Type 0 = λ n. is_code (root i n).origin ≡ true in
    absurd (let clash : true ≡ false = sym heap ∙ code_no_heap i d (subst P (sym l.root) (runs l.tagged).code) in cc)

keyed_no_token : (n : ℕ) (G : Type 0) → Keyed n → n ≡ 11 → G
keyed_no_token n G (inl none) is = absurd (omega (arith, none, is))
keyed_no_token n G (inr key) is = absurd (omega (arith, key, is))

link_no_token : (c d : Cap) (before : Posture) (G : Type 0) → Links c before d → d.tag ≡ true → cap_seal d ≡ 11 → G
link_no_token c d before G links tagged is = elim (bool_tells before.off) [
  | inl off ↦ let one = ((links tagged).off off).0 in absurd (omega (arith, one, is))
  | inr on ↦ let one = ((links tagged).on on).0 in absurd (omega (arith, one, is))
]

-- ---- a capability of an object that is shut

pub shut_passes : (i : Image) (n : ℕ) → PassesOn i (ShutTo i n) (ShutTo i n)
shut_passes i n = record {
  widens = record { none = λ c off tagged. no_tag c _ off tagged; stays = λ c h. h };
  result = λ c d r h tagged heap some source. result c d (r tagged) h heap some source;
  opened = λ c d o h tagged heap. no_source i d _ (o tagged).source heap;
  linked = λ c d before runs links h tagged heap. link_no_heap i c d before _ runs links tagged heap;
}
  where
    result : (c d : Cap) → IsResult c d → ShutTo i n c → heap_cap i d ≡ true → cap_base d < cap_top d → d.shadow.source ≡ n → cap_seal d ≡ 11
    result c d r h heap some source =
        let before : cap_seal c ≡ 11 = h r.narrows.tagged (same_heap i c d r.narrows.shadows heap) (let low = r.narrows.low in let high = r.narrows.high in omega (arith, low, high, some)) (sym (ap (λ (z : Shadow). z.source) r.narrows.shadows) ∙ source) in
        elim r.seal [ inl keyed ↦ keyed_no_token (cap_seal c) _ keyed.0 before | inr same ↦ same.kind ∙ before ]

pub shut_kinds : (i : Image) (n : ℕ) → GivenKinds i (ShutTo i n)
shut_kinds i n = record {
  own = λ b d o tagged heap. own_no_heap i b d _ (o tagged) heap;
  back = λ d o tagged heap. no_heap i d _ (ap is_quota (o tagged).kind) heap;
  stack = λ t high d o tagged heap. no_heap i d _ (ap is_quota (o tagged).kind) heap;
}

pub keys_pass : (i : Image) (tokens : List Token) → PassesOn i (KeysShut i tokens) (KeysShut i tokens)
keys_pass i tokens = record {
  widens = record { none = λ c off n key. (shut_passes i n).widens.none c off; stays = λ c h. h };
  result = λ c d r h n key. (shut_passes i n).result c d r (h n key);
  opened = λ c d o h n key. (shut_passes i n).opened c d o (h n key);
  linked = λ c d before runs links h n key. (shut_passes i n).linked c d before runs links (h n key);
}

pub keys_kinds : (i : Image) (tokens : List Token) → GivenKinds i (KeysShut i tokens)
keys_kinds i tokens = record {
  own = λ b d o n key. (shut_kinds i n).own b d o;
  back = λ d o n key. (shut_kinds i n).back d o;
  stack = λ t high d o n key. (shut_kinds i n).stack t high d o;
}

-- ---- a token

pub whole_of_same : (tokens : List Token) (c d : Cap) (r : Object) → d.shadow ≡ c.shadow → cap_base d ≡ cap_base c → cap_top d ≡ cap_top c → IsWhole tokens c r → IsWhole tokens d r
whole_of_same tokens c d r shadows low high w =
    let under = w.covers.low in
    let over = w.covers.high in
    record {
      covers = record { number = w.covers.number ∙ sym (ap (λ (z : Shadow). z.source) shadows); quota = w.covers.quota ∙ sym (ap (λ (z : Shadow). z.root) shadows); low = omega (arith, under, low); high = omega (arith, over, high) };
      low = low ∙ w.low;
      high = high ∙ w.high;
      row = w.row;
    }

no_token : {G : Type 0} (n k : ℕ) → n ≡ k → n ≡ 11 → k < 11 → G
no_token n k is token small = absurd (omega (arith, is, token, small))

pub fits_pass : (i : Image) (objects : List Object) (tokens : List Token) → PassesOn i (TokenFits i objects tokens) (TokenFits i objects tokens)
fits_pass i objects tokens = record {
  widens = record { none = λ c off tagged. no_tag c _ off tagged; stays = λ c h. h };
  result = λ c d r h tagged is. result c d (r tagged) h is;
  opened = λ c d o h tagged is. no_token (cap_seal d) 0 (o tagged).unsealed is (omega arith);
  linked = λ c d before runs links h tagged is. link_no_token c d before _ links tagged is;
}
  where
    result : (c d : Cap) → IsResult c d → TokenFits i objects tokens c → cap_seal d ≡ 11 → (heap_cap i d ≡ true) × Any (IsWhole tokens d) objects
    result c d r h is = elim r.seal [
      | inl keyed ↦ keyed_no_token (cap_seal d) _ keyed.1 is
      | inr same ↦
          let before = h r.narrows.tagged (sym same.kind ∙ is) in
          (heap_same i c d r.narrows.shadows before.0, any_map (IsWhole tokens c) (IsWhole tokens d) objects (λ q w. whole_of_same tokens c d q r.narrows.shadows same.same_base same.same_top w) before.1)
    ]

pub fits_kinds : (i : Image) (objects : List Object) (tokens : List Token) → GivenKinds i (TokenFits i objects tokens)
fits_kinds i objects tokens = record {
  own = λ b d o tagged is. no_token (cap_seal d) 0 (o tagged).unsealed is (omega arith);
  back = λ d o tagged is. no_token (cap_seal d) 5 (o tagged).sealed is (omega arith);
  stack = λ t high d o tagged is. no_token (cap_seal d) 0 (o tagged).unsealed is (omega arith);
}
