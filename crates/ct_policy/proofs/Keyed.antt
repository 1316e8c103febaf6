-- Which entries a rule passes over, by their keys.
use Rattle.std.proofs.Common.{◌≡◌, ℕ, zero, suc, ◌+◌, ◌%◌, ◌<◌, ◌≤◌, ◌==◌, ◌&&◌, ◌++◌, ◌⊎◌, Bool, List, [], ◌∷◌, inl, inr, true, false, if◌then◌else◌, not, refl, ap, sym, ◌∙◌, subst, arith, length, nat_lt, eqb-true}
use Rattle.std.proofs.Math.ListN.{get_or}
use Rattle.std.proofs.lemmas.List.{append-nil}
use Rattle.std.proofs.lemmas.Nat.{mod-mul-add}
use Rattle.law_lists.proofs.Tests.{both_left, both_right, lt_tells}
use Rattle.ct_entry.specs.Kinds.{is_export, is_quota}
use Rattle.ct_entry.specs.Listed.{Listed}
use Rattle.ct_entry.specs.declared.rows.Entry.{Entry}
use Rattle.ct_entry.specs.declared.rows.Gate.{Gate}
use Rattle.ct_entry.specs.declared.rows.Kind.{Kind}
use Rattle.ct_entry.specs.declared.rows.Kind.TheVariants as kind
use Rattle.ct_entry.specs.declared.rows.Owner.{Owner}
use Rattle.ct_graph.proofs.Owners.{same_is}
use Rattle.def_reach.specs.Reach.{same_owner}
use Rattle.def_reach.specs.Roots.{gate_for, turns_interrupts_off}
use Rattle.def_policy.specs.declared.Resource.{Resource}
use Rattle.def_policy.specs.declared.Resource.TheVariants as resource
use Rattle.def_policy.specs.declared.Subject.{Subject}
use Rattle.def_policy.specs.declared.Subject.TheVariants as subject
use Rattle.def_policy.specs.Breaking.{breaking, breaking_from, breaks, breaks_by, counted, lists_owner}
use Rattle.def_policy.specs.Resources.{imports}
use Rattle.def_policy.specs.Rulings.{Ruling, ruling}
use Rattle.ct_policy.specs.Keys.{IsIdle, all_limits, asked, key, key_by, key_of, owner_number, sort_of}

-- ---- the keys of what comes into question

import_key : (r : Resource) (k : Kind) (x : Entry) (g : Gate) → imports r k ≡ true → key_by k x g ≡ key (sort_of r) x.of
import_key resource.Device kind.Device x g h = refl
import_key resource.Shared kind.Shared x g h = refl
import_key resource.Service kind.Service x g h = refl
import_key resource.Call kind.Call x g h = refl
import_key _ _ x g h = cc

quota_key : (k : Kind) (x : Entry) (g : Gate) → is_quota k ≡ true → key_by k x g ≡ key 4 (owner_number x.owner)
quota_key kind.Quota x g h = refl
quota_key _ x g h = cc

export_key : (k : Kind) (x : Entry) (g : Gate) → is_export k ≡ true → turns_interrupts_off g.posture ≡ true → key_by k x g ≡ key 5 1
export_key kind.Export x g h off = ap (λ b. key 5 (if b then 1 else 0)) off
export_key _ x g h off = cc

-- ---- the others are idle

never : (b : Bool) → (b ≡ true → ⊥) → b ≡ false
never true none = absurd (none refl)
never false none = refl

only_idle : (res : Resource) (n : ℕ) (owners : List Owner) (x : Entry) (g : Gate) → (key_of x g ≡ asked (subject.Only res n) → ⊥) → IsIdle (ruling (subject.Only res n) owners) x g
only_idle res n owners x g other =
    let free : (imports res x.kind && (x.of == n)) ≡ false = never (imports res x.kind && (x.of == n)) (λ held. other
    (import_key res x.kind x g (both_left (imports res x.kind) (x.of == n) held) ∙ ap (key (sort_of res)) (eqb-true x.of n (both_right (imports res x.kind) (x.of == n) held)))) in
    record { counts = refl; holds = λ number sum. ap (λ b. b && not (lists_owner owners x.owner)) free }

disabled_idle : (owners : List Owner) (x : Entry) (g : Gate) → (key_of x g ≡ asked subject.Disabled → ⊥) → IsIdle (ruling subject.Disabled owners) x g
disabled_idle owners x g other =
    let on : Bool = turns_interrupts_off g.posture in
    let free : (is_export x.kind && on) ≡ false = never (is_export x.kind && on) (λ held. other
    (export_key x.kind x g (both_left (is_export x.kind) on held) (both_right (is_export x.kind) on held))) in
    record { counts = refl; holds = λ number sum. ap (λ b. b && not (lists_owner owners x.owner)) free }

quota_idle : (o : Owner) (n : ℕ) (owners : List Owner) (x : Entry) (g : Gate) → (key_of x g ≡ asked (subject.Quota o n) → ⊥) → IsIdle (ruling (subject.Quota o n) owners) x g
quota_idle o n owners x g other =
    let its : Bool = same_owner x.owner o in
    let free : (is_quota x.kind && its) ≡ false = never (is_quota x.kind && its) (λ held. other
    (quota_key x.kind x g (both_left (is_quota x.kind) its held) ∙ ap (λ p. key 4 (owner_number p)) (same_is x.owner o (both_right (is_quota x.kind) its held)))) in
    record { counts = ap (λ b. if b then x.limit else 0) free; holds = λ number sum. ap (λ b. b && nat_lt n sum) free }

-- a rule that asks for a key
abbrev pub IsKeyed : Subject → Type 0
IsKeyed (subject.Data n) = ⊥
IsKeyed (subject.Total n) = ⊥
IsKeyed _ = Unit {0}

idle_by : (s : Subject) (owners : List Owner) (x : Entry) (g : Gate) → IsKeyed s → (key_of x g ≡ asked s → ⊥) → IsIdle (ruling s owners) x g
idle_by (subject.Only res n) owners x g keyed other = only_idle res n owners x g other
idle_by subject.Disabled owners x g keyed other = disabled_idle owners x g other
idle_by (subject.Quota o n) owners x g keyed other = quota_idle o n owners x g other
idle_by (subject.Apart o b) owners x g keyed other = record { counts = refl; holds = λ number sum. refl }
idle_by (subject.Data n) owners x g keyed other = absurd keyed
idle_by (subject.Total n) owners x g keyed other = absurd keyed

pub others_idle : (r : Ruling) (size : ℕ) → IsKeyed r.subject → (x : Entry) (g : Gate) → (key_of x g % size ≡ asked r.subject % size → ⊥) → IsIdle r x g
others_idle r size keyed x g other =
    let idle : IsIdle (ruling r.subject r.owners) x g = idle_by r.subject r.owners x g keyed (λ same. other (ap (λ k. k % size) same)) in
    record { counts = idle.counts; holds = idle.holds }

pub others_unsummed : (r : Ruling) (n : ℕ) → r.subject ≡ subject.Total n → (x : Entry) (g : Gate) → (key_of x g % 8 ≡ 4 % 8 → ⊥) → IsIdle r x g
others_unsummed r n is x g other =
    let sorts : key 4 (owner_number x.owner) % 8 ≡ 4 % 8 = mod-mul-add (owner_number x.owner) 8 4 (omega arith) in
    let free : is_quota x.kind ≡ false = never (is_quota x.kind) (λ held. other (ap (λ k. k % 8) (quota_key x.kind x g held) ∙ sorts)) in
    record {
      counts = ap (λ s. counted s x) is ∙ ap (λ b. if b then x.limit else 0) free;
      holds = λ number sum. ap (λ s. breaks_by s r.owners number sum x g) is ∙ ap (λ b. b && nat_lt n sum) free;
    }

-- ---- a sum that all limits don't pass

no_more : (b : Bool) (limit : ℕ) → (if b then limit else 0) ≤ limit
no_more true limit = omega arith
no_more false limit = omega arith

not_past : (n sum : ℕ) → sum ≤ n → nat_lt n sum ≡ false
not_past n sum low = elim (lt_tells n sum) [
  | inl past ↦ let over = past.1 in absurd (omega (arith, over, low))
  | inr within ↦ within.0
]

second_false : (a b : Bool) → b ≡ false → (a && b) ≡ false
second_false true b h = h
second_false false b h = refl

unbroken : (e : Listed) (r : Ruling) (n : ℕ) → r.subject ≡ subject.Total n → (number sum : ℕ) (xs : List Entry) → sum + all_limits xs ≤ n → breaking_from e r number sum xs ≡ []
unbroken e r n is number sum [] low = refl
unbroken e r n is number sum (x ∷ xs) low =
    let more : ℕ = counted r.subject x in
    let counts : counted r.subject x ≡ (if is_quota x.kind then x.limit else 0) = ap (λ s. counted s x) is in
    let few : counted r.subject x ≤ x.limit = rw counts (no_more (is_quota x.kind) x.limit) in
    let rest : List ℕ = breaking_from e r (number + 1) (sum + counted r.subject x) xs in
    let holds : breaks r number (sum + counted r.subject x) x (gate_for e.gates number) ≡ false =
    ap (λ s. breaks_by s r.owners number (sum + counted r.subject x) x (gate_for e.gates number)) is
    ∙ second_false (is_quota x.kind) (nat_lt n (sum + counted r.subject x)) (not_past n (sum + counted r.subject x) (omega (arith, low, few))) in
    ap (λ b. (if b then number ∷ [] else []) ++ rest) holds ∙ unbroken e r n is (number + 1) (sum + counted r.subject x) xs (omega (arith, low, few))

pub below : (e : Listed) (r : Ruling) (n : ℕ) → r.subject ≡ subject.Total n → all_limits e.rows ≤ n → breaking e r ≡ []
unfolding breaking
below e r n is low = unbroken e r n is 1 0 e.rows (omega (arith, low))

-- ---- one entry

differs : (a b : ℕ) → (a ≡ b → ⊥) → (a == b) ≡ false
differs a b other = never (a == b) (λ same. other (eqb-true a b same))

data_breaks : (r : Ruling) (n number sum : ℕ) (x : Entry) (g : Gate) → r.subject ≡ subject.Data n → breaks r number sum x g ≡ ((number == n) && (is_export x.kind && g.capabilities))
data_breaks r n number sum x g is = ap (λ s. breaks_by s r.owners number sum x g) is

others_hold : (e : Listed) (r : Ruling) (n : ℕ) → r.subject ≡ subject.Data n → (number sum : ℕ) (xs : List Entry) → (n < number) ⊎ (number + length xs ≤ n) → breaking_from e r number sum xs ≡ []
others_hold e r n is number sum [] out = refl
others_hold e r n is number sum (x ∷ xs) out =
    let rest : List ℕ = breaking_from e r (number + 1) (sum + counted r.subject x) xs in
    let other : number ≡ n → ⊥ = λ same. elim out [
      | inl low ↦ omega (arith, low, same)
      | inr high ↦ omega (arith, high, same)
    ] in
    let later : (n < number + 1) ⊎ (number + 1 + length xs ≤ n) = elim out [
      | inl low ↦ inl (omega (arith, low))
      | inr high ↦ inr (omega (arith, high))
    ] in
    let holds : breaks r number (sum + counted r.subject x) x (gate_for e.gates number) ≡ false =
    data_breaks r n number (sum + counted r.subject x) x (gate_for e.gates number) is
    ∙ ap (λ b. b && (is_export x.kind && (gate_for e.gates number).capabilities)) (differs number n other) in
    ap (λ b. (if b then number ∷ [] else []) ++ rest) holds ∙ others_hold e r n is (number + 1) (sum + counted r.subject x) xs later

abbrev pub its_line : Listed → Ruling → ℕ → Entry → List ℕ
its_line e r n x = if breaks r n 0 x (gate_for e.gates n) then n ∷ [] else []

one_there : (e : Listed) (r : Ruling) (n : ℕ) → r.subject ≡ subject.Data n → (number sum : ℕ) (xs : List Entry) (j : ℕ) (x : Entry) → n ≡ number + j → j < length xs → x ≡ get_or xs j x
    → breaking_from e r number sum xs ≡ its_line e r n x
one_there e r n is number sum [] j x at inside here = absurd (omega (arith, inside))
one_there e r n is number sum (y ∷ ys) zero x at inside here =
    let same : n ≡ number = omega (arith, at) in
    let past : n < n + 1 = omega arith in
    let rest : breaking_from e r (n + 1) (sum + counted r.subject y) ys ≡ [] = others_hold e r n is (n + 1) (sum + counted r.subject y) ys (inl past) in
    let any_sum : breaks r n (sum + counted r.subject y) y (gate_for e.gates n) ≡ breaks r n 0 y (gate_for e.gates n) =
    data_breaks r n n (sum + counted r.subject y) y (gate_for e.gates n) is ∙ sym (data_breaks r n n 0 y (gate_for e.gates n) is) in
    let first : breaking_from e r n sum (y ∷ ys) ≡ its_line e r n x =
    ap (λ b. (if b then n ∷ [] else []) ++ breaking_from e r (n + 1) (sum + counted r.subject y) ys) any_sum
    ∙ ap (λ t. its_line e r n y ++ t) rest ∙ append-nil (its_line e r n y) ∙ ap (its_line e r n) (sym here) in
    subst (λ m. breaking_from e r m sum (y ∷ ys) ≡ its_line e r n x) same first
one_there e r n is number sum (y ∷ ys) (suc j) x at inside here =
    let rest : List ℕ = breaking_from e r (number + 1) (sum + counted r.subject y) ys in
    let holds : breaks r number (sum + counted r.subject y) y (gate_for e.gates number) ≡ false =
    data_breaks r n number (sum + counted r.subject y) y (gate_for e.gates number) is
    ∙ ap (λ b. b && (is_export y.kind && (gate_for e.gates number).capabilities)) (differs number n (λ same. omega (arith, at, same))) in
    ap (λ b. (if b then number ∷ [] else []) ++ rest) holds
    ∙ one_there e r n is (number + 1) (sum + counted r.subject y) ys j x (omega (arith, at)) (omega (arith, inside)) here

pub one_is : (e : Listed) (r : Ruling) (number place : ℕ) (x : Entry) → r.subject ≡ subject.Data number → number ≡ place + 1 → place < length e.rows → x ≡ get_or e.rows place x
    → breaking e r ≡ (if breaks r number 0 x (gate_for e.gates number) then number ∷ [] else [])
unfolding breaking
one_is e r number place x data_is is inside here = one_there e r number data_is 1 0 e.rows place x (omega (arith, is)) inside here

pub none_is : (e : Listed) (r : Ruling) (number : ℕ) → r.subject ≡ subject.Data number → (number < 1) ⊎ (length e.rows < number) → breaking e r ≡ []
unfolding breaking
none_is e r number data_is out =
    let past : (number < 1) ⊎ (1 + length e.rows ≤ number) = elim out [
      | inl low ↦ inl low
      | inr high ↦ inr (omega (arith, high))
    ] in
    others_hold e r number data_is 1 0 e.rows past
