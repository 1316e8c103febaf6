-- What granules hold after some of them were written.
use Rattle.std.proofs.Common.{ℕ, zero, suc, ◌≡◌, ◌+◌, ◌<◌, ◌≤◌, ◌⊎◌, inl, inr, List, [], ◌∷◌, length, refl, ap, ◌∙◌, arith}
use Rattle.std.proofs.Math.ListN.{get_or}
use Rattle.std.proofs.lemmas.List.{get_or-set_same, get_or-set_other, length-set}
use Rattle.law_lists.proofs.Sets.{after_set_at}
use Rattle.def_words.specs.declared.Cap.{Cap}
use Rattle.def_memory.specs.declared.Granule.{Granule}
use Rattle.def_memory.specs.Granules.{plain, nothing, granule_at, cap_in, caps_from, holding, holding_all}

pub put_same : (gs : List Granule) (k : ℕ) (c : Cap) → k < length gs → cap_in (holding gs k c) k ≡ c
put_same gs k c lt =
    ap (λ (g : Granule). g.cap) (get_or-set_same gs k (record { cap = c; mark = (granule_at gs k).mark }) nothing lt)

pub put_other : (gs : List Granule) (k m : ℕ) (c : Cap) → (m ≡ k → ⊥) → granule_at (holding gs k c) m ≡ granule_at gs m
put_other gs k m c other = get_or-set_other gs k m (record { cap = c; mark = (granule_at gs k).mark }) nothing other

pub put_length : (gs : List Granule) (k : ℕ) (c : Cap) → length (holding gs k c) ≡ length gs
put_length gs k c = length-set gs k (record { cap = c; mark = (granule_at gs k).mark })

pub put_mark : (gs : List Granule) (k : ℕ) (c : Cap) (m : ℕ) → (granule_at (holding gs k c) m).mark ≡ (granule_at gs m).mark
put_mark gs k c m =
    let P : ℕ → Granule → Type 0 = λ n g. g.mark ≡ (granule_at gs n).mark in
    after_set_at P gs k m (record { cap = c; mark = (granule_at gs k).mark }) nothing refl refl

pub all_length : (gs : List Granule) (k : ℕ) (cs : List Cap) → length (holding_all gs k cs) ≡ length gs
all_length gs k [] = refl
all_length gs k (c ∷ cs) = all_length (holding gs k c) (k + 1) cs ∙ put_length gs k c

pub all_mark : (gs : List Granule) (k : ℕ) (cs : List Cap) (m : ℕ)
    → (granule_at (holding_all gs k cs) m).mark ≡ (granule_at gs m).mark
all_mark gs k [] m = refl
all_mark gs k (c ∷ cs) m = all_mark (holding gs k c) (k + 1) cs m ∙ put_mark gs k c m

-- elsewhere nothing changes
pub all_other : (gs : List Granule) (k m : ℕ) (cs : List Cap) → (m < k) ⊎ (k + length cs ≤ m)
    → granule_at (holding_all gs k cs) m ≡ granule_at gs m
all_other gs k m [] out = refl
all_other gs k m (c ∷ cs) out =
    all_other (holding gs k c) (k + 1) m cs (elim out [ inl a ↦ inl (omega (arith, a)) | inr b ↦ inr (omega (arith, b)) ])
    ∙ put_other gs k m c (λ e. elim out [ inl a ↦ omega (arith, a, e) | inr b ↦ omega (arith, b, e) ])

-- and here stands what was written
pub all_at : (gs : List Granule) (k n : ℕ) (cs : List Cap) → n < length cs → k + length cs ≤ length gs
    → cap_in (holding_all gs k cs) (k + n) ≡ get_or cs n (plain 0)
all_at gs k n [] lt inside = absurd (omega (arith, lt))
all_at gs k zero (c ∷ cs) lt inside =
    let here : k + zero ≡ k = omega arith in
    let rest : granule_at (holding_all (holding gs k c) (k + 1) cs) k ≡ granule_at (holding gs k c) k = all_other (holding gs k c) (k + 1) k cs (inl (omega arith)) in
    rw here (ap (λ (g : Granule). g.cap) rest ∙ put_same gs k c (omega (arith, inside)))
all_at gs k (suc n) (c ∷ cs) lt inside =
    let next : k + suc n ≡ k + 1 + n = omega arith in
    let same : length (holding gs k c) ≡ length gs = put_length gs k c in
    rw next (all_at (holding gs k c) (k + 1) n cs (omega (arith, lt)) (omega (arith, inside, same)))

-- what was written is read
pub read_back : (gs : List Granule) (k : ℕ) (cs : List Cap) → k + length cs ≤ length gs
    → caps_from (holding_all gs k cs) k (length cs) ≡ cs
read_back gs k [] inside = refl
read_back gs k (c ∷ cs) inside =
    let same : length (holding gs k c) ≡ length gs = put_length gs k c in
    let first : cap_in (holding_all (holding gs k c) (k + 1) cs) k ≡ c =
    ap (λ (g : Granule). g.cap) (all_other (holding gs k c) (k + 1) k cs (inl (omega arith))) ∙ put_same gs k c (omega (arith, inside)) in
    let rest : caps_from (holding_all (holding gs k c) (k + 1) cs) (k + 1) (length cs) ≡ cs = read_back (holding gs k c) (k + 1) cs (omega (arith, inside, same)) in
    ap (λ x. x ∷ caps_from (holding_all (holding gs k c) (k + 1) cs) (k + 1) (length cs)) first ∙ ap (λ r. c ∷ r) rest

-- what is held is a function of the granules
pub held_same : (gs hs : List Granule) (k n : ℕ) → ((m : ℕ) → k ≤ m → m < k + n → cap_in hs m ≡ cap_in gs m)
    → caps_from hs k n ≡ caps_from gs k n
held_same gs hs k zero same = refl
held_same gs hs k (suc n) same =
    let first : cap_in hs k ≡ cap_in gs k = same k (omega arith) (omega arith) in
    let rest : caps_from hs (k + 1) n ≡ caps_from gs (k + 1) n = held_same gs hs (k + 1) n (λ m lo hi. same m (omega (arith, lo)) (omega (arith, hi))) in
    rw (first, rest) refl
