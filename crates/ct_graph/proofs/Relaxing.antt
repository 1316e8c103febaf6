-- Distances fall by one loose edge at a time until none is loose.
use Rattle.std.proofs.Common.{◌≡◌, ℕ, zero, suc, ◌+◌, ◌<◌, ◌≤◌, Bool, true, false, cond, nat_eq, List, [], ◌∷◌, length, refl, sym, ◌∙◌, subst, arith, inl, inr, slice_index_or, slice_set, replicate}
use Rattle.std.proofs.lemmas.Bool.{cases_lt, cases_eq, ne_eqb, eq-eqb}
use Rattle.std.proofs.lemmas.List.{length-set, get_or-set_other, get_or-set_same, length-replicate}
use Rattle.law_lists.proofs.Sets.{after_set_at}
use Rattle.ct_graph.specs.Cells.{Links, far, unknown, IsDistance, Relaxed, IsLoose, NoneLoose}
use Rattle.ct_graph.proofs.Lists.{unknown_set, one_unknown}

-- v, which is farther than a neighbour by more than one, comes nearer
pub relax_one : (j : ℕ → ℕ → Bool) (n b : ℕ) (ds : List ℕ) (v value : ℕ) → Relaxed j n b ds → IsLoose j n ds v value → Relaxed j n b (slice_set ds v value)
relax_one j n b ds v value h loose =
    let x : ℕ = loose.by in
    let inside : v < length ds = omega (arith, loose.inside, h.size) in
    let small : value ≤ n = omega (arith, loose.is, loose.there) in
    let counts : unknown n (slice_set ds v value) + cond (nat_eq (slice_index_or ds v n) n) 1 0 ≡ unknown n ds + cond (nat_eq value n) 1 0 = unknown_set n ds v value inside in
    let fewer : (unknown n (slice_set ds v value) ≤ unknown n ds) × (value + unknown n (slice_set ds v value) < n) = fewer_of counts in
    record {
      some = h.some;
      size = length-set ds v value ∙ h.size;
      end = elim (cases_eq b v) [
        | inl e ↦ absurd (omega (arith, loose.nearer, rw e at h.end))
        | inr other ↦ get_or-set_other ds v b value n other ∙ h.end
      ];
      most = λ k. after_set_at (λ i d. d ≤ n) ds v k value n small (h.most k);
      sound = λ k. after_set_at (λ i d. d < n → (xs : List ℕ) × (Links j i xs b × (length xs ≡ d))) ds v k value n (λ _. way) (h.sound k);
      bound = λ k. after_set_at (λ i d. d < n → d + unknown n (slice_set ds v value) < n) ds v k value n (λ _. fewer.1) (λ lt. omega (arith, h.bound k lt, fewer.0));
    }
  where
    way : (xs : List ℕ) × (Links j v xs b × (length xs ≡ value))
    way = let rest : (xs : List ℕ) × (Links j loose.by xs b × (length xs ≡ far n ds loose.by)) = h.sound loose.by loose.there in
        (loose.by ∷ rest.0, ((loose.joins, rest.1.0), omega (arith, rest.1.1, loose.is)))

    fewer_of : unknown n (slice_set ds v value) + cond (nat_eq (slice_index_or ds v n) n) 1 0 ≡ unknown n ds + cond (nat_eq value n) 1 0
        → (unknown n (slice_set ds v value) ≤ unknown n ds) × (value + unknown n (slice_set ds v value) < n)
    fewer_of counts =
        let there : far n ds loose.by + unknown n ds < n = h.bound loose.by loose.there in
        elim (cases_lt (far n ds v) n) [
          | inl lt ↦
              let old : nat_eq (slice_index_or ds v n) n ≡ false = ne_eqb (slice_index_or ds v n) n (λ e. omega (arith, e, lt)) in
              let new : nat_eq value n ≡ false = ne_eqb value n (λ e. omega (arith, e, lt, loose.nearer)) in
              let same : unknown n (slice_set ds v value) + 0 ≡ unknown n ds + 0 = rw (old, new) at counts in
              let here : far n ds v + unknown n ds < n = h.bound v lt in
              (omega (arith, same), omega (arith, same, here, loose.nearer))
          | inr ge ↦
              let is : slice_index_or ds v n ≡ n = omega (arith, ge, h.most v) in
              let some : 1 ≤ unknown n ds = one_unknown n ds v (omega (arith, loose.inside, h.size)) is in
              let old : nat_eq (slice_index_or ds v n) n ≡ true = eq-eqb (slice_index_or ds v n) n is in
              let new : nat_eq value n ≡ false = ne_eqb value n (λ e. omega (arith, e, there, some, loose.is)) in
              let less : unknown n (slice_set ds v value) + 1 ≡ unknown n ds + 0 = rw (old, new) at counts in
              (omega (arith, less), omega (arith, less, there, loose.is))
        ]

-- where no edge is loose, these are the distances
pub closed_now : (j : ℕ → ℕ → Bool) (n b : ℕ) (ds : List ℕ) → ((v x : ℕ) → j v x ≡ true → v < n) → Relaxed j n b ds → NoneLoose j n ds → IsDistance j n b ds
closed_now j n b ds range h none = record {
  some = h.some;
  size = h.size;
  end = h.end;
  most = h.most;
  sound = h.sound;
  closed = none;
  known = λ v x joins there. elim (cases_lt (far n ds v) n) [
    | inl lt ↦ lt
    | inr ge ↦
        let is : slice_index_or ds v n ≡ n = omega (arith, ge, h.most v) in
        let more : 1 ≤ unknown n ds = one_unknown n ds v (omega (arith, range v x joins, h.size)) is in
        absurd (omega (arith, more, h.bound x there, none v x joins there, ge))
  ];
}

all_unknown : (n k : ℕ) → unknown n (replicate k n) ≡ k
all_unknown n zero = refl
all_unknown n (suc k) = let later : unknown n (replicate k n) ≡ k = all_unknown n k in let here : nat_eq n n ≡ true = eq-eqb n n refl in rw here (omega (arith, later))

pub never : (n k v : ℕ) → slice_index_or (replicate k n) v n ≡ n
never n zero v = refl
never n (suc k) zero = refl
never n (suc k) (suc v) = never n k v

-- at first only the end is known, at distance 0
pub at_start : (j : ℕ → ℕ → Bool) (n b : ℕ) (ds : List ℕ) → b < n → ds ≡ slice_set (replicate n n) b 0 → Relaxed j n b ds
at_start j n b ds lt is = subst (λ l. Relaxed j n b l) (sym is) start
  where
    old : List ℕ
    old = replicate n n

    inside : b < length old
    inside = let size : length old ≡ n = length-replicate n n in omega (arith, size, lt)

    one_less : unknown n (slice_set old b 0) < n
    one_less =
        let counts : unknown n (slice_set old b 0) + cond (nat_eq (slice_index_or old b n) n) 1 0 ≡ unknown n old + cond (nat_eq 0 n) 1 0 = unknown_set n old b 0 inside in
        let before : nat_eq (slice_index_or old b n) n ≡ true = eq-eqb (slice_index_or old b n) n (never n n b) in
        let after : nat_eq 0 n ≡ false = ne_eqb 0 n (λ e. omega (arith, e, lt)) in
        let sum : unknown n (slice_set old b 0) + 1 ≡ unknown n old + 0 = rw (before, after) at counts in
        omega (arith, sum, all_unknown n n)

    start : Relaxed j n b (slice_set old b 0)
    start = record {
      some = lt;
      size = length-set old b 0 ∙ length-replicate n n;
      end = get_or-set_same old b 0 n inside;
      most = λ k. after_set_at (λ i d. d ≤ n) old b k 0 n (omega arith) (omega (arith, never n n k));
      sound = λ k. after_set_at (λ i d. d < n → (xs : List ℕ) × (Links j i xs b × (length xs ≡ d))) old b k 0 n (λ _. ([], (refl, refl))) (λ small. absurd (omega (arith, small, never n n k)));
      bound = λ k. after_set_at (λ i d. d < n → d + unknown n (slice_set old b 0) < n) old b k 0 n (λ _. omega (arith, one_less)) (λ small. absurd (omega (arith, small, never n n k)));
    }
