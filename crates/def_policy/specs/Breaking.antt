-- Which entries of a report break a rule, and when a policy holds of a report.
use Rattle.std.specs.Prelude.{ℕ, ◌≡◌, ◌+◌, ◌==◌, ◌&&◌, nat_lt, Bool, false, not, List, [], ◌∷◌, ◌++◌, All, if◌then◌else◌}
use Rattle.std.specs.List.{list_any}
use Rattle.ct_entry.specs.declared.rows.Entry.{Entry}
use Rattle.ct_entry.specs.declared.rows.Gate.{Gate}
use Rattle.ct_entry.specs.declared.rows.Owner.{Owner}
use Rattle.ct_entry.specs.Kinds.{is_quota, is_export}
use Rattle.ct_entry.specs.Listed.{Listed}
use Rattle.def_reach.specs.Roots.{gate_for, turns_interrupts_off}
use Rattle.def_reach.specs.Reach.{Reached, same_owner}
use Rattle.def_policy.specs.declared.Subject.{Subject}
use Rattle.def_policy.specs.declared.Subject.TheVariants.{Only, Disabled, Data, Total, Quota, Apart}
use Rattle.def_policy.specs.Resources.{imports}
use Rattle.def_policy.specs.Rulings.{Ruling}

-- ---- one entry

abbrev pub lists_owner : List Owner → Owner → Bool
lists_owner owners o = list_any (λ (x : Owner). same_owner x o) owners

-- the bytes that a rule on quotas counts of an entry
abbrev pub counted : Subject → Entry → ℕ
counted (Total n) x = if is_quota x.kind then x.limit else 0
counted (Quota o n) x = if is_quota x.kind && same_owner x.owner o then x.limit else 0
counted _ x = 0

-- Whether an entry is one that a rule forbids to owners that it doesn't list; g is the gate of an
-- export's entry.
abbrev pub is_held : Subject → Entry → Gate → Bool
is_held (Only resource n) x g = imports resource x.kind && (x.of == n)
is_held Disabled x g = is_export x.kind && turns_interrupts_off g.posture
is_held _ x g = false

abbrev pub breaks_by : Subject → List Owner → ℕ → ℕ → Entry → Gate → Bool
breaks_by (Data n) owners number sum x g =
    (number == n) && (is_export x.kind && g.capabilities)
breaks_by (Total n) owners number sum x g = is_quota x.kind && nat_lt n sum
breaks_by (Quota o n) owners number sum x g =
    (is_quota x.kind && same_owner x.owner o) && nat_lt n sum
breaks_by (Apart o b) owners number sum x g = false
breaks_by s owners number sum x g = is_held s x g && not (lists_owner owners x.owner)

-- Whether the entry of this number breaks a rule; `sum` is what a rule on quotas counts of the entries
-- up to this one.
abbrev pub breaks : Ruling → ℕ → ℕ → Entry → Gate → Bool
breaks r number sum x g = breaks_by r.subject r.owners number sum x g

-- ---- all entries

-- the numbers of those that break a rule, in order; the first of them has this number, and what the
-- rule counts of those before is `sum`
abbrev pub breaking_from : Listed → Ruling → ℕ → ℕ → List Entry → List ℕ
breaking_from e r number sum [] = []
breaking_from e r number sum (x ∷ xs) =
    (if breaks r number (sum + counted r.subject x) x (gate_for e.gates number)
    then number ∷ [] else [])
    ++ breaking_from e r (number + 1) (sum + counted r.subject x) xs

unfoldable pub breaking : Listed → Ruling → List ℕ
breaking e r = breaking_from e r 1 0 e.rows

-- ---- rules

-- no owner that is to be apart from a compartment reaches it
abbrev pub KeepsApart : Listed → Subject → Type 0
KeepsApart e (Apart o b) = Reached e o b → ⊥
KeepsApart e _ = Unit {0}

-- no entry breaks the rule
pub record KeepsRule (e : Listed) (r : Ruling) : Type 0 where
  pub entries : breaking e r ≡ []
  pub apart : KeepsApart e r.subject

-- a policy holds
abbrev pub PolicyHolds : Listed → List Ruling → Type 0
PolicyHolds e rulings = All (KeepsRule e) rulings
