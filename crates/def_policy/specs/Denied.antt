-- What a text says, and what denies it.
use Rattle.std.specs.Prelude.{ℕ, suc, ◌≡◌, ◌+◌, ◌⊎◌, List, [], ◌∷◌, Some, slice_get, true, false}
use Rattle.ct_entry.specs.declared.rows.Entry.{Entry}
use Rattle.ct_entry.specs.declared.rows.Kind.{Kind}
use Rattle.ct_entry.specs.declared.rows.Kind.TheVariants as kind
use Rattle.ct_entry.specs.Listed.{Listed}
use Rattle.def_image.specs.Parts.{PartsRow}
use Rattle.def_policy.specs.Breaking.{counted, lists_owner}
use Rattle.def_policy.specs.declared.Subject.{Subject}
use Rattle.def_reach.specs.Roots.{gate_for, turns_interrupts_off}
use Rattle.def_policy.specs.Denials.{AllDenied}
use Rattle.def_policy.specs.Rulings.{Ruling}
use Rattle.def_policy.specs.Texts.{IsPolicyFault, ReadsAsPolicy}

-- a text is a policy of an image
pub record HasReading (p : PartsRow) (text : List ℕ) : Type 0 where
  pub rulings : List Ruling
  pub reads : ReadsAsPolicy p text rulings

-- or it has a fault
pub record PolicyHasFault (p : PartsRow) (text : List ℕ) : Type 0 where
  pub number : ℕ
  pub line : ℕ
  pub fault : IsPolicyFault p text number line

abbrev pub ReadsOrHasFault : PartsRow → List ℕ → Type 0
ReadsOrHasFault p text = HasReading p text ⊎ PolicyHasFault p text

-- a text denies these rules, from this line on
pub record HasDenials (p : PartsRow) (line : ℕ) (rulings : List Ruling) : Type 0 where
  pub text : List ℕ
  pub is : AllDenied p line rulings text

-- each import of a kind, of what has this number, belongs to an owner that a rule lists
abbrev pub AreListed : Listed → Ruling → Kind → ℕ → Type 0
AreListed e r held number =
    (k : ℕ) (x : Entry) → slice_get e.rows k ≡ Some x → x.kind ≡ held → x.of ≡ number
    → lists_owner r.owners x.owner ≡ true

-- each export that turns interrupts off belongs to an owner that a rule lists
abbrev pub AreDisabledListed : Listed → Ruling → Type 0
AreDisabledListed e r =
    (k : ℕ) (x : Entry) → slice_get e.rows k ≡ Some x → x.kind ≡ kind.Export
    → turns_interrupts_off (gate_for e.gates (suc k)).posture ≡ true → lists_owner r.owners x.owner ≡ true

-- calls of the export of this number pass plain data
abbrev pub PassesData : Listed → ℕ → Type 0
PassesData e number =
    (k : ℕ) (x : Entry) → slice_get e.rows k ≡ Some x → suc k ≡ number → x.kind ≡ kind.Export
    → (gate_for e.gates number).capabilities ≡ false

-- the limits of all quotas that a rule counts
abbrev pub limits_counted : Subject → List Entry → ℕ
limits_counted s [] = 0
limits_counted s (x ∷ xs) = counted s x + limits_counted s xs
