-- The rule of a list of words, as the code finds it: by its first word.
use Rattle.std.specs.Prelude.{ℕ, ◌+◌, ◌==◌, ◌&&◌, ◌||◌, nat_lt, not, Bool, List, [], ◌∷◌, length, take, drop, Option, Some, None, option_map, bytes_eq, codes, if◌then◌else◌}
use Rattle.std.specs.List.{list_any, prefix_len}
use Rattle.def_texts.specs.Digits.{number_within}
use Rattle.def_policy.specs.declared.TheConstants.{MOST_TOTAL}
use Rattle.def_policy.specs.Rules.{ResourceName, Device, Shared, Service, Call, Rule, Only, Disabled, Data, Total, Quota, Apart, is_no_point, total}
use Rattle.ct_policy.specs.declared.forms.Rule.{Rule as Said}
use Rattle.ct_policy.specs.declared.forms.Rule.TheVariants as said
use Rattle.ct_policy.specs.declared.forms.ResourceName.{ResourceName as SaidName}
use Rattle.ct_policy.specs.declared.forms.ResourceName.TheVariants as name
use Rattle.ct_policy.specs.declared.parts.Sides.{Sides}
use Rattle.ct_policy.specs.Words.{texts}

-- ---- parts

abbrev pub has_point : List ℕ → Bool
has_point text = list_any (λ c. c == 46) text

pub record SidesRow : Type 0 where
  pub compartment : List ℕ
  pub export : List ℕ

abbrev pub sides_row : Sides → SidesRow
sides_row s = record { compartment = s.compartment.now; export = s.export.now }

abbrev pub sides : List ℕ → List ℕ → Option SidesRow
sides compartment export =
    if not (nat_lt 0 (length compartment)) || not (nat_lt 0 (length export)) || has_point export
    then None else Some (record { compartment = compartment; export = export })

abbrev pub sides_at : List ℕ → ℕ → Option SidesRow
sides_at text k =
    if nat_lt k (length text) then sides (take k text) (drop (k + 1) text) else None

-- at the first point
abbrev pub sides_in : List ℕ → Option SidesRow
sides_in text = sides_at text (prefix_len is_no_point text)

-- ---- rules

abbrev pub resource_row : SaidName → ResourceName
resource_row (name.Device text) = Device text.now
resource_row (name.Shared text) = Shared text.now
resource_row (name.Service text) = Service text.now
resource_row (name.Call compartment export) = Call compartment.now export.now

abbrev pub rule_row : Said → Rule
rule_row (said.Only resource owners) = Only (resource_row resource) (texts owners.now)
rule_row (said.Disabled owners) = Disabled (texts owners.now)
rule_row (said.Data compartment export) = Data compartment.now export.now
rule_row (said.Total n) = Total n
rule_row (said.Quota owner n) = Quota owner.now n
rule_row (said.Apart owner compartment) = Apart owner.now compartment.now

abbrev pub owners_in : List (List ℕ) → Option (List (List ℕ))
owners_in [] = None
owners_in (only ∷ owners) =
    if bytes_eq only (codes "only") && nat_lt 0 (length owners) then Some owners else None

abbrev pub export_in : List ℕ → Option ResourceName
export_in word = option_map (λ (s : SidesRow). Call s.compartment s.export) (sides_in word)

abbrev pub resource_in : List ℕ → List ℕ → Option ResourceName
resource_in kind word =
    if bytes_eq kind (codes "device") then Some (Device word)
    else if bytes_eq kind (codes "shared") then Some (Shared word)
    else if bytes_eq kind (codes "service") then Some (Service word)
    else if bytes_eq kind (codes "call") then export_in word
    else None

-- both of them, or nothing
abbrev pub only_by : Option ResourceName → Option (List (List ℕ)) → Option Rule
only_by None owners = None
only_by (Some resource) owners = option_map (λ os. Only resource os) owners

abbrev pub only_in : List ℕ → List (List ℕ) → Option Rule
only_in kind [] = None
only_in kind (word ∷ rest) = only_by (resource_in kind word) (owners_in rest)

abbrev pub disabled_in : List (List ℕ) → Option Rule
disabled_in words = option_map (λ owners. Disabled owners) (owners_in words)

abbrev pub data_in : List (List ℕ) → Option Rule
data_in (x ∷ []) = option_map (λ (s : SidesRow). Data s.compartment s.export) (sides_in x)
data_in _ = None

abbrev pub quota_by : List ℕ → ℕ → Rule
quota_by owner n = if bytes_eq owner total then Total n else Quota owner n

abbrev pub quota_in : List (List ℕ) → Option Rule
quota_in (owner ∷ n ∷ []) = option_map (quota_by owner) (number_within MOST_TOTAL n)
quota_in _ = None

abbrev pub apart_in : List (List ℕ) → Option Rule
apart_in (owner ∷ compartment ∷ []) = Some (Apart owner compartment)
apart_in _ = None

abbrev pub form_by : List ℕ → List (List ℕ) → Option Rule
form_by head words =
    if bytes_eq head (codes "disabled") then disabled_in words
    else if bytes_eq head (codes "data") then data_in words
    else if bytes_eq head (codes "quota") then quota_in words
    else if bytes_eq head (codes "apart") then apart_in words
    else only_in head words

abbrev pub form_of : List (List ℕ) → Option Rule
form_of [] = None
form_of (head ∷ words) = form_by head words
