-- The table and the accounts after one of their entries was set.
use Rattle.std.proofs.Common.{ℕ, ◌≡◌, ◌+◌, ◌-◌, ◌/◌, ◌%◌, ◌<◌, ◌≤◌, inl, inr, true, false, cond, nat_eq, List, length, refl, sym, ap, ◌∙◌, arith, subst}
use Rattle.std.proofs.Math.ListN.{get_or, set}
use Rattle.std.proofs.lemmas.Bool.{cases_eq}
use Rattle.std.proofs.lemmas.List.{get_or-set_same, get_or-set_other}
use Rattle.law_lists.proofs.Tests.{bool_tells, eq_tells}
use Rattle.def_chunks.specs.declared.rows.Account.{Account}
use Rattle.def_chunks.specs.Chunks.{Chunk, AreChunks}
use Rattle.def_chunks.specs.Heaps.{HeapRow, account, no_account, chunk_name, begins_used_chunk, quota_named, is_used_at}
use Rattle.law_chunks.proofs.Rows.{UsedStarts}
use Rattle.ct_heap.proofs.Named.{used_low, used_even, used_apart, used_test, used_says, tests_same, named_same, set_named, set_elsewhere, set_beside}

-- ---- one used chunk more

-- these chunks have one used chunk more than those, at this address
pub record OneMore (base place : ℕ) (cs ds : List Chunk) : Type 0 where
  pub even : base % 16 ≡ 0
  pub old_are : AreChunks cs
  pub new_are : AreChunks ds
  pub here : UsedStarts place base ds
  pub there : (p : ℕ) → UsedStarts p base cs → UsedStarts p base ds
  pub back : (p : ℕ) → (p ≡ place → ⊥) → UsedStarts p base ds → UsedStarts p base cs
  pub not_old : UsedStarts place base cs → ⊥

pub one_named : (names : List ℕ) (base place quota : ℕ) (cs ds : List Chunk) → OneMore base place cs ds → (place - base) / 16 < length names → ((o : ℕ) → o % 8 ≡ 0 → begins_used_chunk names o ≡ is_used_at (base + o) base cs)
    → (o : ℕ) → o % 8 ≡ 0 → begins_used_chunk (set names ((place - base) / 16) (chunk_name quota (place - base))) o ≡ is_used_at (base + o) base ds
one_named names base place quota cs ds m inside named o even =
    let offset : ℕ = place - base in
    let base_even = m.even in
    let low = used_low place base ds m.here in
    let place_even = used_even place base ds m.new_are (omega (arith, base_even)) m.here in
    let offset_even : offset % 8 ≡ 0 = omega (arith, place_even, base_even, low) in
    elim (cases_eq (o / 16) (offset / 16)) [
      | inl slot ↦ elim (cases_eq o offset) [
        | inl same ↦
            let at_place : base + o ≡ place = omega (arith, same, low) in
            let used : is_used_at (base + o) base ds ≡ true = used_test (base + o) base ds m.new_are (subst (λ p. UsedStarts p base ds) (sym at_place) m.here) in
            ap (λ x. begins_used_chunk (set names (offset / 16) (chunk_name quota offset)) x) same ∙ set_named names quota offset inside ∙ sym used
        | inr other ↦
            let not_named = set_beside names quota offset o inside offset_even even slot other in
            let not_used : is_used_at (base + o) base ds ≡ false = elim (bool_tells (is_used_at (base + o) base ds)) [
              | inr z ↦ z
              | inl z ↦ absurd (elim (used_apart (base + o) place base ds m.new_are (used_says (base + o) base ds z) m.here) [
                | inl is ↦ other (omega (arith, is))
                | inr (inl a) ↦ omega (arith, a, slot, low)
                | inr (inr b) ↦ omega (arith, b, slot, low)
              ])
            ] in
            not_named ∙ sym not_used
      ]
      | inr apart ↦
          let stays = set_elsewhere names offset o (chunk_name quota offset) apart in
          let other : base + o ≡ place → ⊥ = λ is. apart (ap (λ n. n / 16) (omega (arith, is))) in
          named_same names (set names (offset / 16) (chunk_name quota offset)) o stays ∙ named o even
          ∙ tests_same (base + o) base cs ds m.old_are m.new_are (m.there (base + o)) (m.back (base + o) other)
    ]

-- quotas of the others stay
pub other_quota : (names : List ℕ) (base place quota p : ℕ) (ds : List Chunk) → AreChunks ds → base % 16 ≡ 0 → UsedStarts place base ds → UsedStarts p base ds → (p ≡ place → ⊥) → quota_named (set names ((place - base) / 16) (chunk_name quota (place - base))) (p - base) ≡ quota_named names (p - base)
other_quota names base place quota p ds are even here there other =
    let low = used_low place base ds here in
    let low_p = used_low p base ds there in
    let apart : (p - base) / 16 ≡ (place - base) / 16 → ⊥ = λ slot. elim (used_apart p place base ds are there here) [
      | inl is ↦ other is
      | inr (inl a) ↦ omega (arith, a, slot, low, low_p)
      | inr (inr b) ↦ omega (arith, b, slot, low, low_p)
    ] in
    ap (λ n. (n - 1) / 2) (set_elsewhere names (place - base) (p - base) (chunk_name quota (place - base)) apart)

-- ---- accounts

pub account_set : (accounts : List Account) (quota q : ℕ) (a : Account) → quota < length accounts → get_or (set accounts quota a) q no_account ≡ cond (nat_eq quota q) a (get_or accounts q no_account)
account_set accounts quota q a inside = elim (eq_tells quota q) [
  | inl e ↦ rw e.0 (ap (λ k. get_or (set accounts quota a) k no_account) (sym e.1) ∙ get_or-set_same accounts quota a no_account inside)
  | inr e ↦ rw e.0 (get_or-set_other accounts quota q a no_account (λ is. e.1 (sym is)))
]

-- one account is charged so much from now on
module _ (h n : HeapRow) (quota charged : ℕ) (inside : quota < length h.accounts) (is : n.accounts ≡ set h.accounts quota (record { limit = (account h quota).limit; charged = charged })) where
  abbrev anew : Account
  anew = record { limit = (account h quota).limit; charged = charged }

  pub account_after : (q : ℕ) → account n q ≡ cond (nat_eq quota q) anew (account h q)
  account_after q = ap (λ a. get_or a q no_account) is ∙ account_set h.accounts quota q anew inside

  pub charged_after : (account n quota).charged ≡ charged
  charged_after = ap (λ a. (get_or a quota no_account).charged) is ∙ ap (λ (a : Account). a.charged) (get_or-set_same h.accounts quota anew no_account inside)

  pub limit_after : (q : ℕ) → (account n q).limit ≡ (account h q).limit
  limit_after q = elim (eq_tells quota q) [
    | inl e ↦ ap (λ (a : Account). a.limit) (account_after q) ∙ rw e.0 (ap (λ k. (account h k).limit) e.1)
    | inr e ↦ ap (λ (a : Account). a.limit) (account_after q) ∙ rw e.0 refl
  ]

  pub within_after : charged ≤ (account h quota).limit → ((q : ℕ) → (account h q).charged ≤ (account h q).limit) → (q : ℕ) → (account n q).charged ≤ (account n q).limit
  within_after here others q = elim (eq_tells quota q) [
    | inl e ↦
        let both : account n q ≡ anew = account_after q ∙ rw e.0 refl in
        let a : (account n q).charged ≡ charged = ap (λ (x : Account). x.charged) both in
        let b : (account n q).limit ≡ (account h quota).limit = ap (λ (x : Account). x.limit) both in
        omega (arith, a, b, here)
    | inr e ↦
        let both : account n q ≡ account h q = account_after q ∙ rw e.0 refl in
        let a : (account n q).charged ≡ (account h q).charged = ap (λ (x : Account). x.charged) both in
        let b : (account n q).limit ≡ (account h q).limit = ap (λ (x : Account). x.limit) both in
        omega (arith, a, b, others q)
  ]
