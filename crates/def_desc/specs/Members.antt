-- The members of a JSON object, by their kinds.
use Rattle.std.specs.Prelude.{ℕ, List, [], ◌∷◌, Bool, Option, Some, None, option_and_then, is_some, unwrap_or, bytes_eq, if◌then◌else◌}
use Rattle.serde_json.specs.Data.{Data, null, Items, no_items, item, Members, no_members, member}
use Rattle.serde_json.specs.Find.{get, as_str, as_number, as_u64, as_array, as_object}

-- a number is an integer of 0 to 2^64 - 1, written without point, exponent and sign
abbrev pub natural_of : Data → Option ℕ
natural_of d = option_and_then as_u64 (as_number d)

abbrev pub text_at : List ℕ → Data → Option (List ℕ)
text_at key d = option_and_then as_str (get key d)

abbrev pub number_member : List ℕ → Data → Option ℕ
number_member key d = option_and_then natural_of (get key d)

abbrev pub list_of : Items → List Data
list_of no_items = []
list_of (item d ds) = d ∷ list_of ds

abbrev pub list_in : Option Items → List Data
list_in None = []
list_in (Some ds) = list_of ds

-- the list at a key, or the empty list
abbrev pub list_at : List ℕ → Data → List Data
list_at key d = list_in (option_and_then as_array (get key d))

-- a member is there, of whatever kind
abbrev pub has_key : List ℕ → Data → Bool
has_key key d = is_some (get key d)

abbrev pub has_text : List ℕ → Data → Bool
has_text key d = is_some (text_at key d)

-- the member itself, or null
abbrev pub member_at : List ℕ → Data → Data
member_at key d = unwrap_or (get key d) null

abbrev pub text_or : List ℕ → Data → List ℕ
text_or key d = unwrap_or (text_at key d) []

abbrev pub number_or : ℕ → List ℕ → Data → ℕ
number_or default key d = unwrap_or (number_member key d) default

-- the text that a value is, or the empty text
abbrev pub text_value : Data → List ℕ
text_value d = unwrap_or (as_str d) []

-- the keys of an object
abbrev pub names_in : Members → List (List ℕ)
names_in no_members = []
names_in (member k d ms) = k ∷ names_in ms

abbrev pub names_of : Option Members → List (List ℕ)
names_of None = []
names_of (Some ms) = names_in ms

abbrev pub keys_of : Data → List (List ℕ)
keys_of d = names_of (as_object d)

-- what a table says of a text: the first row that has it
abbrev pub says : {R A : Type 0} → (R → List ℕ) → (R → A) → List ℕ → List R → Option A
says text value name [] = None
says text value name (row ∷ rows) =
    if bytes_eq name (text row) then Some (value row) else says text value name rows
