-- The rules of a policy and their lines. A line is spelled: it is put together from what its rule
-- says, so no text is taken apart here.
use Rattle.std.specs.Prelude.{ℕ, ◌≡◌, ◌≢◌, ◌<◌, ◌≤◌, ◌==◌, ◌&&◌, nat_lt, not, Bool, true, List, [], ◌∷◌, ◌++◌, length, codes, decimal}
use Rattle.std.specs.List.{AllByRecursion, list_all}
use Rattle.def_desc.specs.References.{export_name}
use Rattle.def_policy.specs.declared.TheConstants.{MOST_TOTAL}

-- what a line keeps to some owners, by its name
pub data ResourceName : Type 0 where
  Device : List ℕ → ResourceName
  Shared : List ℕ → ResourceName
  Service : List ℕ → ResourceName
  Call : List ℕ → List ℕ → ResourceName

-- what a line demands, by names
pub data Rule : Type 0 where
  Only : ResourceName → List (List ℕ) → Rule
  Disabled : List (List ℕ) → Rule
  Data : List ℕ → List ℕ → Rule
  Total : ℕ → Rule
  Quota : List ℕ → ℕ → Rule
  Apart : List ℕ → List ℕ → Rule

-- ---- words

-- an ASCII byte other than a space and a line feed
abbrev pub is_word_byte : ℕ → Bool
is_word_byte c = nat_lt c 128 && (not (c == 32) && not (c == 10))

pub record IsWord (w : List ℕ) : Type 0 where
  pub some : 0 < length w
  pub inner : list_all is_word_byte w ≡ true

abbrev pub is_no_point : ℕ → Bool
is_no_point c = not (c == 46)

-- one side of the point in COMP.EXPORT, which has one point alone
pub record IsSide (w : List ℕ) : Type 0 where
  pub some : 0 < length w
  pub plain : list_all is_no_point w ≡ true

abbrev pub total : List ℕ
total = codes "total"

-- ---- resources

-- the word of its kind, and its own
abbrev pub kind_word : ResourceName → List ℕ
kind_word (Device name) = codes "device"
kind_word (Shared name) = codes "shared"
kind_word (Service name) = codes "service"
kind_word (Call compartment export) = codes "call"

abbrev pub resource_word : ResourceName → List ℕ
resource_word (Device name) = name
resource_word (Shared name) = name
resource_word (Service name) = name
resource_word (Call compartment export) = export_name compartment export

abbrev pub IsNamed : ResourceName → Type 0
IsNamed (Call compartment export) = IsSide compartment × IsSide export
IsNamed _ = Unit {0}

-- ---- rules

abbrev pub words_of : Rule → List (List ℕ)
words_of (Only resource owners) =
    kind_word resource ∷ resource_word resource ∷ codes "only" ∷ owners
words_of (Disabled owners) = codes "disabled" ∷ codes "only" ∷ owners
words_of (Data compartment export) = codes "data" ∷ export_name compartment export ∷ []
words_of (Total n) = codes "quota" ∷ total ∷ decimal n ∷ []
words_of (Quota owner n) = codes "quota" ∷ owner ∷ decimal n ∷ []
words_of (Apart owner compartment) = codes "apart" ∷ owner ∷ compartment ∷ []

-- one owner at least; a number within its limit; `quota total` is the rule over all quotas
abbrev pub IsFormed : Rule → Type 0
IsFormed (Only resource owners) = IsNamed resource × (0 < length owners)
IsFormed (Disabled owners) = 0 < length owners
IsFormed (Data compartment export) = IsSide compartment × IsSide export
IsFormed (Total n) = n ≤ MOST_TOTAL
IsFormed (Quota owner n) = (owner ≢ total) × (n ≤ MOST_TOTAL)
IsFormed (Apart owner compartment) = Unit {0}

pub record IsRule (r : Rule) : Type 0 where
  pub words : AllByRecursion IsWord (words_of r)
  pub formed : IsFormed r

-- ---- lines

-- words with a space before each, and a line feed after the last
abbrev pub spaced_words : List (List ℕ) → List ℕ
spaced_words [] = 10 ∷ []
spaced_words (w ∷ ws) = 32 ∷ w ++ spaced_words ws

-- words with one space between, and a line feed after the last
abbrev pub words_line : List (List ℕ) → List ℕ
words_line [] = 10 ∷ []
words_line (w ∷ ws) = w ++ spaced_words ws

abbrev pub spelled_rule : Rule → List ℕ
spelled_rule r = words_line (words_of r)
