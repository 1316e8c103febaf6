-- The gate of each number: that of its export, or none.
use Rattle.std.proofs.Common.{ℕ, zero, suc, ◌≡◌, ◌+◌, ◌≤◌, ◌<◌, ◌⊎◌, inl, inr, false, nat_eq, List, [], ◌∷◌, ◌++◌, length, Some, slice_get, refl, sym, ap, ◌∙◌, subst, arith, append_assoc, eq-eqb}
use Rattle.std.proofs.lemmas.Bool.{ne_eqb}
use Rattle.std.proofs.lemmas.List.{append-nil}
use Rattle.ct_entry.specs.declared.rows.Gate.{Gate}
use Rattle.def_reach.specs.Roots.{gate_for, no_gate}
use Rattle.def_image.specs.Parts.{GateRow, CodeRow, CompartmentRow, PartsRow}
use Rattle.def_image.specs.Sizes.{sum_of}
use Rattle.def_image.specs.Members.{number_in, compartment_entries, library_entries, first_library, first_stack, code_number, library_number}
use Rattle.def_boot.specs.Gates.{gate, gates_in, compartment_gates, library_gates, gates_of}
use Rattle.law_boot.proofs.Blocks.{number_low, number_high}

abbrev pub IsOutside : ℕ → ℕ → ℕ → Type 0
IsOutside low size k = (k < low) ⊎ (low + size ≤ k)

-- ---- the gates of one owner

pub gates_miss : (n : ℕ) (c : CodeRow) (xs : List GateRow) (rest : List Gate) (k : ℕ) → IsOutside n (length xs) k → gate_for (gates_in n c xs ++ rest) k ≡ gate_for rest k
unfolding gate_for
gates_miss n c [] rest k out = refl
gates_miss n c (x ∷ xs) rest k out =
    let other : nat_eq n k ≡ false = ne_eqb n k (λ e. elim out [ inl lt ↦ omega (arith, e, lt) | inr past ↦ omega (arith, e, past) ]) in
    rw other (gates_miss (n + 1) c xs rest k (elim out [ inl lt ↦ inl (omega (arith, lt)) | inr past ↦ inr (omega (arith, past)) ]))

pub gates_hit : (n : ℕ) (c : CodeRow) (xs : List GateRow) (rest : List Gate) (j : ℕ) (x : GateRow) → slice_get xs j ≡ Some x → gate_for (gates_in n c xs ++ rest) (n + j) ≡ gate (n + j) c x.row
unfolding gate_for
gates_hit n c [] rest j x is = cc
gates_hit n c (y ∷ ys) rest zero x is =
    let zeros : n ≡ n + 0 = omega arith in
    let same : y ≡ x = cc in
    rw (eq-eqb n (n + 0) zeros) (ap (λ k. gate k c y.row) zeros ∙ ap (λ (z : GateRow). gate (n + 0) c z.row) same)
gates_hit n c (y ∷ ys) rest (suc j) x is =
    let other : nat_eq n (n + suc j) ≡ false = ne_eqb n (n + suc j) (λ e. omega (arith, e)) in
    let next : n + 1 + j ≡ n + suc j = omega arith in
    rw other (subst (λ k. gate_for (gates_in (n + 1) c ys ++ rest) k ≡ gate k c x.row) next (gates_hit (n + 1) c ys rest j x is))

-- ---- one block of gates for each member

abbrev pub blocks : {A : Type 0} → (ℕ → A → List Gate) → (A → ℕ) → ℕ → List A → List Gate
blocks gates entries n [] = []
blocks gates entries n (x ∷ xs) = gates n x ++ blocks gates entries (n + entries x) xs

-- a block has gates of its own numbers alone
abbrev pub Misses : {A : Type 0} → (ℕ → A → List Gate) → (A → ℕ) → Type 0
Misses {A = A} gates entries =
    (n : ℕ) (x : A) (rest : List Gate) (k : ℕ) → IsOutside n (entries x) k → gate_for (gates n x ++ rest) k ≡ gate_for rest k

outside_parts : (n a b k : ℕ) → IsOutside n (a + b) k → IsOutside n a k × IsOutside (n + a) b k
outside_parts n a b k (inl lt) = (inl lt, inl (omega (arith, lt)))
outside_parts n a b k (inr past) = (inr (omega (arith, past)), inr (omega (arith, past)))

pub blocks_miss : {A : Type 0} (gates : ℕ → A → List Gate) (entries : A → ℕ) → Misses gates entries → (n : ℕ) (xs : List A) (rest : List Gate) (k : ℕ)
    → IsOutside n (sum_of entries xs) k → gate_for (blocks gates entries n xs ++ rest) k ≡ gate_for rest k
blocks_miss gates entries miss n [] rest k out = refl
blocks_miss gates entries miss n (x ∷ xs) rest k out =
    let parts = outside_parts n (entries x) (sum_of entries xs) k out in
    ap (λ gs. gate_for gs k) (append_assoc (gates n x) (blocks gates entries (n + entries x) xs) rest)
    ∙ miss n x (blocks gates entries (n + entries x) xs ++ rest) k parts.0
    ∙ blocks_miss gates entries miss (n + entries x) xs rest k parts.1

-- past a member's block stand no gates of its numbers
pub record Alone (gates own : List Gate) (k : ℕ) : Type 0 where
  pub tail : List Gate
  pub none : gate_for tail k ≡ no_gate
  pub is : gate_for gates k ≡ gate_for (own ++ tail) k

pub block_alone : {A : Type 0} (gates : ℕ → A → List Gate) (entries : A → ℕ) → Misses gates entries → (n : ℕ) (xs : List A) (rest : List Gate) (b : ℕ) (x : A) (j : ℕ)
    → slice_get xs b ≡ Some x → j < entries x → gate_for rest (number_in entries n xs b + j) ≡ no_gate
    → Alone (blocks gates entries n xs ++ rest) (gates (number_in entries n xs b) x) (number_in entries n xs b + j)
block_alone gates entries miss n [] rest b x j is lt none = cc
block_alone gates entries miss n (y ∷ ys) rest zero x j is lt none =
    let same : y ≡ x = cc in
    let few : j < entries y = subst (λ z. j < entries z) (sym same) lt in
    record {
      tail = blocks gates entries (n + entries y) ys ++ rest;
      none = blocks_miss gates entries miss (n + entries y) ys rest (n + j) (inl (omega (arith, few))) ∙ none;
      is = ap (λ gs. gate_for gs (n + j)) (append_assoc (gates n y) (blocks gates entries (n + entries y) ys) rest)
          ∙ ap (λ z. gate_for (gates n z ++ (blocks gates entries (n + entries y) ys ++ rest)) (n + j)) same;
    }
block_alone gates entries miss n (y ∷ ys) rest (suc b) x j is lt none =
    let low = number_low entries (n + entries y) ys b x is in
    let more = block_alone gates entries miss (n + entries y) ys rest b x j is lt none in
    record {
      tail = more.tail;
      none = more.none;
      is = ap (λ gs. gate_for gs (number_in entries (n + entries y) ys b + j)) (append_assoc (gates n y) (blocks gates entries (n + entries y) ys) rest)
          ∙ miss n y (blocks gates entries (n + entries y) ys ++ rest) (number_in entries (n + entries y) ys b + j) (inr (omega (arith, low)))
          ∙ more.is;
    }

-- ---- compartments and libraries

abbrev pub own_gates : ℕ → CompartmentRow → List Gate
own_gates n c = gates_in (n + 2 + length c.code.slots) c.code c.code.exports

abbrev pub shared_gates : ℕ → CodeRow → List Gate
shared_gates n c = gates_in (n + 1 + length c.slots) c c.exports

own_miss : Misses own_gates compartment_entries
own_miss n c rest k out = gates_miss (n + 2 + length c.code.slots) c.code c.code.exports rest k (elim out [ inl lt ↦ inl (omega (arith, lt)) | inr past ↦ inr (omega (arith, past)) ])

shared_miss : Misses shared_gates library_entries
shared_miss n c rest k out = gates_miss (n + 1 + length c.slots) c c.exports rest k (elim out [ inl lt ↦ inl (omega (arith, lt)) | inr past ↦ inr (omega (arith, past)) ])

compartments_are : (n : ℕ) (cs : List CompartmentRow) → compartment_gates n cs ≡ blocks own_gates compartment_entries n cs
compartments_are n [] = refl
compartments_are n (c ∷ cs) = ap (λ gs. own_gates n c ++ gs) (compartments_are (n + compartment_entries c) cs)

libraries_are : (n : ℕ) (cs : List CodeRow) → library_gates n cs ≡ blocks shared_gates library_entries n cs
libraries_are n [] = refl
libraries_are n (c ∷ cs) = ap (λ gs. shared_gates n c ++ gs) (libraries_are (n + library_entries c) cs)

none_is : (k : ℕ) → gate_for [] k ≡ no_gate
unfolding gate_for
none_is k = refl

abbrev two_lists : PartsRow → List Gate
two_lists p =
    blocks own_gates compartment_entries 1 p.compartments
    ++ (blocks shared_gates library_entries (first_library p) p.libraries ++ [])

gates_are : (p : PartsRow) → gates_of p ≡ two_lists p
unfolding gates_of
gates_are p =
    ap (λ gs. gs ++ library_gates (first_library p) p.libraries) (compartments_are 1 p.compartments)
    ∙ ap (λ gs. blocks own_gates compartment_entries 1 p.compartments ++ gs)
    (libraries_are (first_library p) p.libraries ∙ sym (append-nil (blocks shared_gates library_entries (first_library p) p.libraries)))

pub own_alone : (p : PartsRow) (b : ℕ) (c : CompartmentRow) (j : ℕ) → slice_get p.compartments b ≡ Some c → j < compartment_entries c
    → Alone (gates_of p) (own_gates (code_number p b) c) (code_number p b + j)
own_alone p b c j is lt =
    let high = number_high compartment_entries 1 p.compartments b c is in
    let past = blocks_miss shared_gates library_entries shared_miss (first_library p) p.libraries [] (code_number p b + j) (inl (omega (arith, high, lt))) in
    subst (λ gs. Alone gs (own_gates (code_number p b) c) (code_number p b + j)) (sym (gates_are p))
    (block_alone own_gates compartment_entries own_miss 1 p.compartments (blocks shared_gates library_entries (first_library p) p.libraries ++ []) b c j is lt (past ∙ none_is (code_number p b + j)))

pub shared_alone : (p : PartsRow) (l : ℕ) (c : CodeRow) (j : ℕ) → slice_get p.libraries l ≡ Some c → j < library_entries c
    → Alone (gates_of p) (shared_gates (library_number p l) c) (library_number p l + j)
shared_alone p l c j is lt =
    let low = number_low library_entries (first_library p) p.libraries l c is in
    let first = blocks_miss own_gates compartment_entries own_miss 1 p.compartments (blocks shared_gates library_entries (first_library p) p.libraries ++ []) (library_number p l + j) (inr (omega (arith, low))) in
    let more = block_alone shared_gates library_entries shared_miss (first_library p) p.libraries [] l c j is lt (none_is (library_number p l + j)) in
    subst (λ gs. Alone gs (shared_gates (library_number p l) c) (library_number p l + j)) (sym (gates_are p))
    (record { tail = more.tail; none = more.none; is = first ∙ more.is })

-- past the libraries' entries there are none
pub stack_gate : (p : PartsRow) (k : ℕ) → first_stack p ≤ k → gate_for (gates_of p) k ≡ no_gate
stack_gate p k past =
    ap (λ gs. gate_for gs k) (gates_are p)
    ∙ blocks_miss own_gates compartment_entries own_miss 1 p.compartments (blocks shared_gates library_entries (first_library p) p.libraries ++ []) k (inr (omega (arith, past)))
    ∙ blocks_miss shared_gates library_entries shared_miss (first_library p) p.libraries [] k (inr past)
    ∙ none_is k

-- the trusted part has none
pub zero_gate : (p : PartsRow) → gate_for (gates_of p) 0 ≡ no_gate
zero_gate p =
    ap (λ gs. gate_for gs 0) (gates_are p)
    ∙ blocks_miss own_gates compartment_entries own_miss 1 p.compartments (blocks shared_gates library_entries (first_library p) p.libraries ++ []) 0 (inl (omega arith))
    ∙ blocks_miss shared_gates library_entries shared_miss (first_library p) p.libraries [] 0 (inl (omega arith))
    ∙ none_is 0

-- ---- by number

pub own_none : (p : PartsRow) (b : ℕ) (c : CompartmentRow) (j n : ℕ) → slice_get p.compartments b ≡ Some c → j < 2 + length c.code.slots → n ≡ code_number p b + j → gate_for (gates_of p) n ≡ no_gate
own_none p b c j n is lt at =
    let alone = own_alone p b c j is (omega (arith, lt)) in
    ap (λ k. gate_for (gates_of p) k) at ∙ alone.is
    ∙ gates_miss (code_number p b + 2 + length c.code.slots) c.code c.code.exports alone.tail (code_number p b + j) (inl (omega (arith, lt)))
    ∙ alone.none

pub own_gate : (p : PartsRow) (b : ℕ) (c : CompartmentRow) (j n : ℕ) (x : GateRow) → slice_get p.compartments b ≡ Some c → slice_get c.code.exports j ≡ Some x → j < length c.code.exports → n ≡ code_number p b + (2 + length c.code.slots + j)
    → gate_for (gates_of p) n ≡ gate n c.code x.row
own_gate p b c j n x is there lt at =
    let alone = own_alone p b c (2 + length c.code.slots + j) is (omega (arith, lt)) in
    let place : code_number p b + (2 + length c.code.slots + j) ≡ code_number p b + 2 + length c.code.slots + j = omega arith in
    let whole : n ≡ code_number p b + 2 + length c.code.slots + j = at ∙ place in
    ap (λ k. gate_for (gates_of p) k) at ∙ alone.is
    ∙ ap (λ k. gate_for (own_gates (code_number p b) c ++ alone.tail) k) place
    ∙ gates_hit (code_number p b + 2 + length c.code.slots) c.code c.code.exports alone.tail j x there
    ∙ ap (λ k. gate k c.code x.row) (sym whole)

pub shared_none : (p : PartsRow) (l : ℕ) (c : CodeRow) (j n : ℕ) → slice_get p.libraries l ≡ Some c → j < 1 + length c.slots → n ≡ library_number p l + j → gate_for (gates_of p) n ≡ no_gate
shared_none p l c j n is lt at =
    let alone = shared_alone p l c j is (omega (arith, lt)) in
    ap (λ k. gate_for (gates_of p) k) at ∙ alone.is
    ∙ gates_miss (library_number p l + 1 + length c.slots) c c.exports alone.tail (library_number p l + j) (inl (omega (arith, lt)))
    ∙ alone.none

pub shared_gate : (p : PartsRow) (l : ℕ) (c : CodeRow) (j n : ℕ) (x : GateRow) → slice_get p.libraries l ≡ Some c → slice_get c.exports j ≡ Some x → j < length c.exports → n ≡ library_number p l + (1 + length c.slots + j)
    → gate_for (gates_of p) n ≡ gate n c x.row
shared_gate p l c j n x is there lt at =
    let alone = shared_alone p l c (1 + length c.slots + j) is (omega (arith, lt)) in
    let place : library_number p l + (1 + length c.slots + j) ≡ library_number p l + 1 + length c.slots + j = omega arith in
    let whole : n ≡ library_number p l + 1 + length c.slots + j = at ∙ place in
    ap (λ k. gate_for (gates_of p) k) at ∙ alone.is
    ∙ ap (λ k. gate_for (shared_gates (library_number p l) c ++ alone.tail) k) place
    ∙ gates_hit (library_number p l + 1 + length c.slots) c c.exports alone.tail j x there
    ∙ ap (λ k. gate k c x.row) (sym whole)
