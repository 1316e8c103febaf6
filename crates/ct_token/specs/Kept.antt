-- Rows as they are kept, and those that they stand for.
use Rattle.std.specs.Prelude.{ℕ, ◌≡◌, ◌==◌, ◌<◌, ◌≤◌, if◌then◌else◌, Bool, true, false, List, [], ◌∷◌, Option, Some, None, length, slice_index_or}
use Rattle.def_machine.specs.State.{Token}
use Rattle.ct_token.specs.declared.rows.Standing.{Standing}
use Rattle.ct_token.specs.declared.rows.Standing.TheVariants.{Gone, Key, TokenOf}
use Rattle.ct_token.specs.declared.rows.Row.{Row}
use Rattle.ct_token.specs.Table.{row_for}

-- the row that a number with this standing has, before others
abbrev pub before : ℕ → Standing → List Token → List Token
before n Gone rest = rest
before n Key rest = row_for n None ∷ rest
before n (TokenOf key) rest = row_for n (Some key) ∷ rest

-- each that hasn't gone
abbrev pub tokens_in : List Row → List Token
tokens_in [] = []
tokens_in (r ∷ rs) = before r.number r.standing (tokens_in rs)

-- each number is above those before it
abbrev pub AllAbove : ℕ → List Row → Type 0
AllAbove n [] = Unit {0}
AllAbove n (r ∷ rs) = (n < r.number) × AllAbove n rs

abbrev pub Rise : List Row → Type 0
Rise [] = Unit {0}
Rise (r ∷ rs) = AllAbove r.number rs × Rise rs

abbrev pub no_row : Row
no_row = record { number = 0; standing = Gone }

abbrev pub number_at : List Row → ℕ → ℕ
number_at rows i = (slice_index_or rows i no_row).number

-- the row of a number is kept at this index
pub record IsAt (rows : List Row) (n i : ℕ) : Type 0 where
  pub in_range : i < length rows
  pub has_number : number_at rows i ≡ n

-- no row of the number is kept, and one may be put in here
pub record IsGapFor (rows : List Row) (n i : ℕ) : Type 0 where
  pub in_range : i ≤ length rows
  pub smaller_before : (j : ℕ) → j < i → number_at rows j < n
  pub greater_after : (j : ℕ) → i ≤ j → j < length rows → n < number_at rows j

abbrev pub standing_in : List Row → ℕ → Standing
standing_in [] n = Gone
standing_in (r ∷ rs) n = if r.number == n then r.standing else standing_in rs n

abbrev pub is_kept : Row → Bool
is_kept r = stays r.standing
  where
    stays : Standing → Bool
    stays Gone = false
    stays Key = true
    stays (TokenOf key) = true

abbrev pub standing_for : Option ℕ → Standing
standing_for None = Key
standing_for (Some key) = TokenOf key

abbrev pub is_key : Standing → Bool
is_key Gone = false
is_key Key = true
is_key (TokenOf other) = false

abbrev pub is_token_of : Standing → ℕ → Bool
is_token_of Gone key = false
is_token_of Key key = false
is_token_of (TokenOf other) key = other == key
