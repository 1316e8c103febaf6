-- Distances level by level: a place is as far as it will be when it is reached.
use Rattle.std.proofs.Common.{◌≡◌, ℕ, ◌+◌, ◌<◌, ◌≤◌, ◌&&◌, Bool, true, false, cond, nat_eq, List, length, refl, sym, ap, ◌∙◌, subst, arith, inl, inr, slice_index_or, slice_set, replicate}
use Rattle.std.proofs.lemmas.Bool.{cases_lt, cases_Bool, and_parts, both_ways, eqb-true, eq-eqb}
use Rattle.std.proofs.lemmas.List.{get_or-set_other, get_or-set_same}
use Rattle.law_lists.proofs.Sets.{after_set_at}
use Rattle.ct_graph.specs.Cells.{far, unknown, IsDistance, Relaxed, IsLoose, HasLevels, IsLevel, IsSpread}
use Rattle.ct_graph.proofs.Lists.{one_unknown, reached_inside}
use Rattle.ct_graph.proofs.Relaxing.{relax_one, at_start, closed_now, never}

-- ---- one place tells those that have a step to it

pub spread_starts : (j : ℕ → ℕ → Bool) (n b x near : ℕ) (ds : List ℕ) → Relaxed j n b ds → IsSpread j n b x near 0 ds ds
spread_starts j n b x near ds h = record {
  relaxed = h;
  kept = λ v lt. refl;
  fresh = λ v is lt. absurd (omega (arith, is, lt));
  reached = λ v lt joins. absurd (omega (arith, lt));
}

pub spread_skips : (j : ℕ → ℕ → Bool) (n b x near i : ℕ) (old ds : List ℕ) → IsSpread j n b x near i old ds → (nat_eq (far n ds i) n && j i x) ≡ false → IsSpread j n b x near (i + 1) old ds
spread_skips j n b x near i old ds s out = record {
  relaxed = s.relaxed;
  kept = s.kept;
  fresh = s.fresh;
  reached = λ v lt joins. elim (cases_lt v i) [
    | inl below ↦ s.reached v below joins
    | inr ge ↦ let here : v ≡ i = omega (arith, lt, ge) in subst (λ k. far n ds k < n) (sym here) (now (subst (λ k. j k x ≡ true) here joins))
  ];
}
  where
    now : j i x ≡ true → far n ds i < n
    now joins = elim (cases_lt (far n ds i) n) [
      | inl lt ↦ lt
      | inr ge ↦
          let most : far n ds i ≤ n = s.relaxed.most i in
          let is : nat_eq (far n ds i) n ≡ true = eq-eqb (far n ds i) n (omega (arith, ge, most)) in
          absurd (both_ways true (rw (is, joins) at out) refl)
    ]

pub spread_goes : (j : ℕ → ℕ → Bool) (n b x near i : ℕ) (old ds : List ℕ) → far n old x ≡ near → near < n → i < n → IsSpread j n b x near i old ds → (nat_eq (far n ds i) n && j i x) ≡ true
    → IsSpread j n b x near (i + 1) old (slice_set ds i (near + 1))
spread_goes j n b x near i old ds was small inside s next = record {
  relaxed = relax_one j n b ds i (near + 1) s.relaxed loose;
  kept = λ v. after_set_at (λ k d. far n old k < n → d ≡ far n old k) ds i v (near + 1) n (λ lt. absurd (unmoved lt)) (s.kept v);
  fresh = λ v. after_set_at (λ k d. far n old k ≡ n → d < n → d ≡ near + 1) ds i v (near + 1) n (λ e lt. refl) (s.fresh v);
  reached = λ v lt joins. elim (cases_lt v i) [
    | inl below ↦
        let apart : slice_index_or (slice_set ds i (near + 1)) v n ≡ slice_index_or ds v n = get_or-set_other ds i v (near + 1) n (λ e. omega (arith, e, below)) in
        let before : far n ds v < n = s.reached v below joins in
        omega (arith, apart, before)
    | inr ge ↦
        let here : v ≡ i = omega (arith, lt, ge) in
        let now : slice_index_or (slice_set ds i (near + 1)) i n ≡ near + 1 = get_or-set_same ds i (near + 1) n (omega (arith, inside, s.relaxed.size)) in
        subst (λ k. far n (slice_set ds i (near + 1)) k < n) (sym here) (omega (arith, now, room))
  ];
}
  where
    is : far n ds i ≡ n
    is = eqb-true (far n ds i) n (and_parts (nat_eq (far n ds i) n) (j i x) next).0

    there : far n ds x ≡ near
    there = let same : far n ds x ≡ far n old x = s.kept x (omega (arith, was, small)) in omega (arith, same, was)

    room : near + 1 < n
    room =
        let some : 1 ≤ unknown n ds = one_unknown n ds i (omega (arith, inside, s.relaxed.size)) is in
        let left : far n ds x + unknown n ds < n = s.relaxed.bound x (omega (arith, there, small)) in
        omega (arith, some, left, there)

    loose : IsLoose j n ds i (near + 1)
    loose = record { inside = inside; by = x; joins = (and_parts (nat_eq (far n ds i) n) (j i x) next).1; there = omega (arith, there, small); is = omega (arith, there); nearer = omega (arith, is, room) }

    unmoved : far n old i < n → ⊥
    unmoved lt = let same : far n ds i ≡ far n old i = s.kept i lt in omega (arith, same, is, lt)

pub spread_step : (j : ℕ → ℕ → Bool) (n b x near i : ℕ) (old ds new : List ℕ) → far n old x ≡ near → near < n → i < n → IsSpread j n b x near i old ds
    → new ≡ cond (nat_eq (far n ds i) n && j i x) (slice_set ds i (near + 1)) ds → IsSpread j n b x near (i + 1) old new
spread_step j n b x near i old ds new was small inside s told = elim (cases_Bool (nat_eq (far n ds i) n && j i x)) [
  | inl next ↦
      let is : new ≡ slice_set ds i (near + 1) = told ∙ ap (λ t. cond t (slice_set ds i (near + 1)) ds) next in
      subst (λ l. IsSpread j n b x near (i + 1) old l) (sym is) (spread_goes j n b x near i old ds was small inside s next)
  | inr out ↦
      let is : new ≡ ds = told ∙ ap (λ t. cond t (slice_set ds i (near + 1)) ds) out in
      subst (λ l. IsSpread j n b x near (i + 1) old l) (sym is) (spread_skips j n b x near i old ds s out)
]

-- ---- the places of one level

pub at_place : (ds : List ℕ) (n near place : ℕ) → length ds ≡ n → nat_eq (slice_index_or ds place (length ds)) near ≡ true → far n ds place ≡ near
at_place ds n near place size test = eqb-true (far n ds place) near (subst (λ m. nat_eq (slice_index_or ds place m) near ≡ true) size test)

pub off_place : (ds : List ℕ) (n near place : ℕ) → length ds ≡ n → nat_eq (slice_index_or ds place (length ds)) near ≡ false → far n ds place ≡ near → ⊥
off_place ds n near place size test is = both_ways (nat_eq (far n ds place) near) (subst (λ m. nat_eq (slice_index_or ds place m) near ≡ false) size test) (eq-eqb (far n ds place) near is)

pub level_starts : (j : ℕ → ℕ → Bool) (n b near : ℕ) (ds : List ℕ) → HasLevels j n b near ds → IsLevel j n b near 0 ds
level_starts j n b near ds h = record {
  relaxed = h.relaxed;
  known = λ v lt. let le : far n ds v ≤ near = h.known v lt in omega (arith, le);
  closed = h.closed;
  told = λ v x lt joins is. absurd (omega (arith, lt));
}

pub level_skips : (j : ℕ → ℕ → Bool) (n b near place : ℕ) (ds : List ℕ) → IsLevel j n b near place ds → (far n ds place ≡ near → ⊥) → IsLevel j n b near (place + 1) ds
level_skips j n b near place ds h other = record {
  relaxed = h.relaxed;
  known = h.known;
  closed = h.closed;
  told = λ v x lt joins is. elim (cases_lt x place) [
    | inl below ↦ h.told v x below joins is
    | inr ge ↦ let here : x ≡ place = omega (arith, lt, ge) in absurd (other (subst (λ k. far n ds k ≡ near) here is))
  ];
}

pub level_goes : (j : ℕ → ℕ → Bool) (n b near place : ℕ) (ds new : List ℕ) → ((v x : ℕ) → j v x ≡ true → v < n) → near < n → IsLevel j n b near place ds → IsSpread j n b place near n ds new
    → IsLevel j n b near (place + 1) new
level_goes j n b near place ds new range small h s = record {
  relaxed = s.relaxed;
  known = known_now;
  closed = λ v x joins lt. elim (cases_lt (far n ds x) n) [
    | inl there ↦
        let same : far n new x ≡ far n ds x = s.kept x there in
        let before : far n ds v ≤ far n ds x + 1 = h.closed v x joins (omega (arith, same, lt)) in
        let kept : far n new v ≡ far n ds v = s.kept v (omega (arith, before, same, lt, small)) in
        omega (arith, kept, before, same)
    | inr ge ↦ let fresh : far n new x ≡ near + 1 = fresh_now x ge (omega (arith, lt, small)) in absurd (omega (arith, fresh, lt))
  ];
  told = λ v x lt joins is. elim (cases_lt (far n ds x) n) [
    | inl there ↦
        let same : far n new x ≡ far n ds x = s.kept x there in
        elim (cases_lt x place) [
          | inl below ↦ stays v (h.told v x below joins (omega (arith, same, is)))
          | inr ge ↦
              let here : x ≡ place = omega (arith, lt, ge) in
              let goes : j v place ≡ true = subst (λ k. j v k ≡ true) here joins in
              known_now v (s.reached v (range v place goes) goes)
        ]
    | inr ge ↦ let fresh : far n new x ≡ near + 1 = fresh_now x ge (omega (arith, is, small)) in absurd (omega (arith, fresh, is))
  ];
}
  where
    fresh_now : (v : ℕ) → n ≤ far n ds v → far n new v < n → far n new v ≡ near + 1
    fresh_now v ge lt = let most : far n ds v ≤ n = h.relaxed.most v in s.fresh v (omega (arith, ge, most)) lt

    known_now : (v : ℕ) → far n new v < n → far n new v ≤ near + 1
    known_now v lt = elim (cases_lt (far n ds v) n) [
      | inl there ↦
          let same : far n new v ≡ far n ds v = s.kept v there in
          let le : far n ds v ≤ near + 1 = h.known v there in
          omega (arith, same, le)
      | inr ge ↦ let fresh : far n new v ≡ near + 1 = fresh_now v ge lt in omega (arith, fresh)
    ]

    stays : (v : ℕ) → far n ds v ≤ near + 1 → far n new v ≤ near + 1
    stays v le = elim (cases_lt (far n ds v) n) [
      | inl there ↦ let same : far n new v ≡ far n ds v = s.kept v there in omega (arith, same, le)
      | inr ge ↦ let most : far n new v ≤ n = s.relaxed.most v in omega (arith, most, ge, le)
    ]

pub level_ends : (j : ℕ → ℕ → Bool) (n b near : ℕ) (ds : List ℕ) → near < n → IsLevel j n b near n ds → HasLevels j n b (near + 1) ds
level_ends j n b near ds small h = record {
  relaxed = h.relaxed;
  known = h.known;
  closed = λ v x joins lt. elim (cases_lt (far n ds x) near) [
    | inl below ↦ h.closed v x joins below
    | inr ge ↦
        let is : far n ds x ≡ near = omega (arith, lt, ge) in
        let inside : x < length ds = reached_inside n ds x (omega (arith, is, small)) in
        let le : far n ds v ≤ near + 1 = h.told v x (omega (arith, inside, h.relaxed.size)) joins is in
        omega (arith, le, is)
  ];
}

-- ---- all levels

pub levels_start : (j : ℕ → ℕ → Bool) (n b : ℕ) (ds : List ℕ) → b < n → ds ≡ slice_set (replicate n n) b 0 → HasLevels j n b 0 ds
levels_start j n b ds lt is = record {
  relaxed = at_start j n b ds lt is;
  known = subst (λ l. (v : ℕ) → far n l v < n → far n l v ≤ 0) (sym is)
      (λ v. after_set_at (λ k d. d < n → d ≤ 0) (replicate n n) b v 0 n (λ _. omega arith) (λ small. let none : slice_index_or (replicate n n) v n ≡ n = never n n v in absurd (omega (arith, small, none))));
  closed = λ v x joins below. absurd (omega (arith, below));
}

pub levels_end : (j : ℕ → ℕ → Bool) (n b near : ℕ) (ds : List ℕ) → ((v x : ℕ) → j v x ≡ true → v < n) → n ≤ near → HasLevels j n b near ds → IsDistance j n b ds
levels_end j n b near ds range le h = closed_now j n b ds range h.relaxed (λ v x joins there. h.closed v x joins (omega (arith, there, le)))
