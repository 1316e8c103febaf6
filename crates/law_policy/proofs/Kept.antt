-- What entries are where none of them breaks a rule.
use Rattle.std.proofs.Common.{◌≡◌, ℕ, zero, suc, ◌+◌, ◌≤◌, ◌++◌, ◌&&◌, nat_lt, not, List, [], ◌∷◌, Bool, true, false, Some, None, refl, ap, subst, slice_get, arith, length, if◌then◌else◌}
use Rattle.std.proofs.lemmas.Bool.{ltb-false, not-false, eq-eqb}
use Rattle.ct_entry.specs.declared.rows.Entry.{Entry}
use Rattle.ct_entry.specs.declared.rows.Kind.TheVariants as kind
use Rattle.ct_entry.specs.declared.rows.Owner.{Owner}
use Rattle.ct_entry.specs.Kinds.{is_quota}
use Rattle.ct_entry.specs.Listed.{Listed}
use Rattle.def_reach.specs.Roots.{gate_for, turns_interrupts_off}
use Rattle.def_reach.specs.Reach.{same_owner}
use Rattle.def_policy.specs.declared.Resource.{Resource}
use Rattle.def_policy.specs.declared.Resource.TheVariants.{Call, Device, Service, Shared}
use Rattle.def_policy.specs.declared.Subject.TheVariants.{Data, Disabled, Only, Quota, Total}
use Rattle.def_policy.specs.Resources.{imports, kind_of}
use Rattle.def_policy.specs.Breaking.{KeepsRule, breaking, breaking_from, breaks, counted, lists_owner}
use Rattle.def_policy.specs.Rulings.{Ruling}
use Rattle.def_policy.specs.Denied.{AreDisabledListed, AreListed, PassesData, limits_counted}

-- ---- one entry

-- nothing is told of an entry that breaks no rule
keeps_none : (b : Bool) (number : ℕ) (rest : List ℕ) → (if b then number ∷ [] else []) ++ rest ≡ [] → (b ≡ false) × (rest ≡ [])
keeps_none true number rest is = absurd (omega (arith, ap length is))
keeps_none false number rest is = (refl, is)

-- the entry of this number breaks no rule
record Unbroken (e : Listed) (r : Ruling) (number : ℕ) (x : Entry) : Type 0 where
  sum : ℕ
  is : breaks r number sum x (gate_for e.gates number) ≡ false

module _ (e : Listed) (r : Ruling) where
  unbroken_from : (number sum : ℕ) (rows : List Entry) (k : ℕ) (x : Entry) → breaking_from e r number sum rows ≡ [] → slice_get rows k ≡ Some x → (at : ℕ) → at ≡ number + k → Unbroken e r at x
  unbroken_from number sum [] k x none there at is = absurd (let clash : None ≡ Some x = there in cc)
  unbroken_from number sum (y ∷ ys) zero x none there at is =
      let same : y ≡ x = (let here : Some y ≡ Some x = there in cc) in
      let place : number ≡ at = omega (arith, is) in
      let kept = keeps_none (breaks r number (sum + counted r.subject y) y (gate_for e.gates number)) number (breaking_from e r (number + 1) (sum + counted r.subject y) ys) none in
      subst (λ n. Unbroken e r n x) place (subst (λ z. Unbroken e r number z) same (record { sum = sum + counted r.subject y; is = kept.0 }))
  unbroken_from number sum (y ∷ ys) (suc k) x none there at is =
      let kept = keeps_none (breaks r number (sum + counted r.subject y) y (gate_for e.gates number)) number (breaking_from e r (number + 1) (sum + counted r.subject y) ys) none in
      unbroken_from (number + 1) (sum + counted r.subject y) ys k x kept.1 there at (omega (arith, is))

  unbroken : (k : ℕ) (x : Entry) → KeepsRule e r → slice_get e.rows k ≡ Some x → Unbroken e r (suc k) x
  unfolding breaking
  unbroken k x keeps there = unbroken_from 1 0 e.rows k x keeps.entries there (suc k) (omega arith)

-- ---- rules that name who may hold an import

-- the kind of a resource's imports is of them
own_kind : (resource : Resource) → imports resource (kind_of resource) ≡ true
own_kind Device = refl
own_kind Shared = refl
own_kind Service = refl
own_kind Call = refl

only_kept : (e : Listed) (r : Ruling) (resource : Resource) (n number : ℕ) (x : Entry) → r.subject ≡ Only resource n → Unbroken e r number x → x.kind ≡ kind_of resource → x.of ≡ n
    → lists_owner r.owners x.owner ≡ true
only_kept e r resource n number x is u kind_is of_is =
    let no_break = u.is in
    let told : not (lists_owner r.owners x.owner) ≡ false = rw (is, kind_is, own_kind resource, of_is, eq-eqb n n refl) at no_break in
    not-false (lists_owner r.owners x.owner) told

pub only_held : (e : Listed) (r : Ruling) (resource : Resource) (n : ℕ) → r.subject ≡ Only resource n → KeepsRule e r → AreListed e r (kind_of resource) n
only_held e r resource n is keeps k x there kind_is of_is = only_kept e r resource n (suc k) x is (unbroken e r k x keeps there) kind_is of_is

-- ---- rules on exports

disabled_kept : (e : Listed) (r : Ruling) (number : ℕ) (x : Entry) → r.subject ≡ Disabled → Unbroken e r number x → x.kind ≡ kind.Export → turns_interrupts_off (gate_for e.gates number).posture ≡ true
    → lists_owner r.owners x.owner ≡ true
disabled_kept e r number x is u kind_is off =
    let no_break = u.is in
    let told : not (lists_owner r.owners x.owner) ≡ false = rw (is, kind_is, off) at no_break in
    not-false (lists_owner r.owners x.owner) told

pub disabled_held : (e : Listed) (r : Ruling) → r.subject ≡ Disabled → KeepsRule e r → AreDisabledListed e r
disabled_held e r is keeps k x there kind_is off = disabled_kept e r (suc k) x is (unbroken e r k x keeps there) kind_is off

data_kept : (e : Listed) (r : Ruling) (n : ℕ) (x : Entry) → r.subject ≡ Data n → Unbroken e r n x → x.kind ≡ kind.Export → (gate_for e.gates n).capabilities ≡ false
data_kept e r n x is u kind_is =
    let no_break = u.is in
    let told : (gate_for e.gates n).capabilities ≡ false = rw (is, kind_is, eq-eqb n n refl) at no_break in
    told

pub data_held : (e : Listed) (r : Ruling) (n : ℕ) → r.subject ≡ Data n → KeepsRule e r → PassesData e n
data_held e r n is keeps k x there number kind_is =
    data_kept e r n x is (subst (λ m. Unbroken e r m x) number (unbroken e r k x keeps there)) kind_is

-- ---- rules on quotas

fits : (n sum : ℕ) → nat_lt n sum ≡ false → sum ≤ n
fits n sum is = ltb-false n sum is

-- a quota that a rule counts doesn't pass the limit; what it doesn't count adds nothing
within_by : (quota : Bool) (n sum limit : ℕ) → sum ≤ n → (quota && nat_lt n (sum + (if quota then limit else 0))) ≡ false → sum + (if quota then limit else 0) ≤ n
within_by true n sum limit so_far is = fits n (sum + limit) is
within_by false n sum limit so_far is = omega (arith, so_far)

module _ (e : Listed) (r : Ruling) (n : ℕ) where
  total_from : (number sum : ℕ) (rows : List Entry) → r.subject ≡ Total n → sum ≤ n → breaking_from e r number sum rows ≡ [] → sum + limits_counted (Total n) rows ≤ n
  total_from number sum [] is so_far none = omega (arith, so_far)
  total_from number sum (x ∷ xs) is so_far none =
      let more : ℕ = counted (Total n) x in
      let here : breaking_from e r number sum (x ∷ xs) ≡ [] = none in
      let kept = keeps_none (breaks r number (sum + counted r.subject x) x (gate_for e.gates number)) number (breaking_from e r (number + 1) (sum + counted r.subject x) xs) here in
      let one = kept.0 in
      let rest = kept.1 in
      let no_break : (is_quota x.kind && nat_lt n (sum + (if is_quota x.kind then x.limit else 0))) ≡ false = rw is at one in
      let left : breaking_from e r (number + 1) (sum + more) xs ≡ [] = subst (λ s. breaking_from e r (number + 1) (sum + counted s x) xs ≡ []) is rest in
      let within : sum + more ≤ n = within_by (is_quota x.kind) n sum x.limit so_far no_break in
      let later = total_from (number + 1) (sum + more) xs is within left in
      omega (arith, later)

  pub total_held : r.subject ≡ Total n → KeepsRule e r → limits_counted (Total n) e.rows ≤ n
  unfolding breaking
  total_held is keeps = (let all = total_from 1 0 e.rows is (omega arith) keeps.entries in omega (arith, all))

  module _ (o : Owner) where
    quota_from : (number sum : ℕ) (rows : List Entry) → r.subject ≡ Quota o n → sum ≤ n → breaking_from e r number sum rows ≡ [] → sum + limits_counted (Quota o n) rows ≤ n
    quota_from number sum [] is so_far none = omega (arith, so_far)
    quota_from number sum (x ∷ xs) is so_far none =
        let more : ℕ = counted (Quota o n) x in
        let kept = keeps_none (breaks r number (sum + counted r.subject x) x (gate_for e.gates number)) number (breaking_from e r (number + 1) (sum + counted r.subject x) xs) none in
        let one = kept.0 in
        let rest = kept.1 in
        let no_break : ((is_quota x.kind && same_owner x.owner o) && nat_lt n (sum + (if is_quota x.kind && same_owner x.owner o then x.limit else 0))) ≡ false = rw is at one in
        let left : breaking_from e r (number + 1) (sum + more) xs ≡ [] = subst (λ s. breaking_from e r (number + 1) (sum + counted s x) xs ≡ []) is rest in
        let within : sum + more ≤ n = within_by (is_quota x.kind && same_owner x.owner o) n sum x.limit so_far no_break in
        let later = quota_from (number + 1) (sum + more) xs is within left in
        omega (arith, later)

    pub quota_held : r.subject ≡ Quota o n → KeepsRule e r → limits_counted (Quota o n) e.rows ≤ n
    unfolding breaking
    quota_held is keeps = (let all = quota_from 1 0 e.rows is (omega arith) keeps.entries in omega (arith, all))
