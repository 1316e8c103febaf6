-- *Permission sets*: any subset of the twelve permissions, and the six forms that a word can spell.
--
-- A set is a number below 2^12 that has bit p where permission p is in it. A word spells a set by six
-- bits: the highest is `global`, the other five are of one of six forms. A form implies some permissions
-- and has a bit each for some others; a set that no form spells loses what its form can't hold.
use Rattle.std.specs.Prelude.{ℕ, zero, suc, ◌+◌, ◌*◌, ◌/◌, ◌%◌, ◌^◌, ◌==◌, ◌≡◌, Bool, true, false, not, ◌&&◌, ◌||◌, List, [], ◌∷◌, length, bit_and, if◌then◌else◌}
use Rattle.def_words.specs.declared.Cap.{Cap}
use Rattle.def_words.specs.Authority.{permission_bits, cap_high}

-- ---- the twelve, under the CHERIoT Architecture Specification's names

abbrev pub global : ℕ  -- GL
global = 0

abbrev pub load_global : ℕ  -- LG
load_global = 1

abbrev pub store_data : ℕ  -- SD
store_data = 2

abbrev pub load_mutable : ℕ  -- LM
load_mutable = 3

abbrev pub store_local : ℕ  -- SL
store_local = 4

abbrev pub load_data : ℕ  -- LD
load_data = 5

abbrev pub memory_capability : ℕ  -- MC
memory_capability = 6

abbrev pub system_registers : ℕ  -- SR
system_registers = 7

abbrev pub execute : ℕ  -- EX
execute = 8

abbrev pub unsealing : ℕ  -- US
unsealing = 9

abbrev pub sealing : ℕ  -- SE
sealing = 10

abbrev pub user : ℕ  -- U0
user = 11

-- ---- sets

-- whether permission p is in the set
unfoldable pub bit : ℕ → ℕ → Bool
bit set p = set / 2 ^ p % 2 == 1

-- those of the first n permissions that pass
abbrev pub gathered : (ℕ → Bool) → ℕ → ℕ
gathered passes zero = 0
gathered passes (suc n) = gathered passes n + (if passes n then 2 ^ n else 0)

-- the set of the permissions that pass
unfoldable pub set_where : (ℕ → Bool) → ℕ
set_where passes = gathered passes 12

abbrev pub is_among : ℕ → List ℕ → Bool
is_among p [] = false
is_among p (q ∷ qs) = (p == q) || is_among p qs

-- the set without these
unfoldable pub removed : ℕ → List ℕ → ℕ
removed set ps = set_where (λ p. bit set p && not (is_among p ps))

-- what two sets have in common is the set `bit_and a b`; one is within another by inclusion
abbrev pub Within : ℕ → ℕ → Type 0
Within a b = (p : ℕ) → bit a p ≡ true → bit b p ≡ true

unfoldable pub is_within : ℕ → ℕ → Bool
is_within a b = bit_and a b == a

-- ---- forms

-- five bits: `prefix`, then a bit for each permission of `spelled`, the highest first. Each of `needed` is
-- implied; where `one_of` isn't empty, one of these must be there too
pub record Form : Type 0 where
  pub prefix : ℕ
  pub needed : List ℕ
  pub one_of : List ℕ
  pub spelled : List ℕ

abbrev pub executable_form : Form
executable_form = record {
  prefix = 1;
  needed = execute ∷ load_data ∷ memory_capability ∷ [];
  one_of = [];
  spelled = system_registers ∷ load_mutable ∷ load_global ∷ [];
}

abbrev pub read_write_form : Form
read_write_form = record {
  prefix = 3;
  needed = load_data ∷ memory_capability ∷ store_data ∷ [];
  one_of = [];
  spelled = store_local ∷ load_mutable ∷ load_global ∷ [];
}

abbrev pub read_only_form : Form
read_only_form = record {
  prefix = 5;
  needed = load_data ∷ memory_capability ∷ [];
  one_of = [];
  spelled = load_mutable ∷ load_global ∷ [];
}

abbrev pub write_only_form : Form
write_only_form = record {
  prefix = 16;
  needed = store_data ∷ memory_capability ∷ [];
  one_of = [];
  spelled = [];
}

abbrev pub plain_form : Form
plain_form = record {
  prefix = 4;
  needed = [];
  one_of = load_data ∷ store_data ∷ [];
  spelled = load_data ∷ store_data ∷ [];
}

abbrev pub sealing_form : Form
sealing_form = record {
  prefix = 0;
  needed = [];
  one_of = [];
  spelled = user ∷ sealing ∷ unsealing ∷ [];
}

-- in order of preference, and last the one that takes what no other takes
abbrev pub forms : List Form
forms = executable_form ∷ read_write_form ∷ read_only_form ∷ write_only_form ∷ plain_form ∷ []

abbrev pub has_each : ℕ → List ℕ → Bool
has_each set [] = true
has_each set (p ∷ ps) = bit set p && has_each set ps

abbrev pub has_one : ℕ → List ℕ → Bool
has_one set [] = false
has_one set (p ∷ ps) = bit set p || has_one set ps

abbrev pub is_form_taken : ℕ → Form → Bool
is_form_taken set form =
    has_each set form.needed && (has_one set form.one_of || (length form.one_of == 0))

abbrev pub first_taken : ℕ → List Form → Form
first_taken set [] = sealing_form
first_taken set (form ∷ rest) = if is_form_taken set form then form else first_taken set rest

-- the first form whose condition holds
unfoldable pub form_of : ℕ → Form
form_of set = first_taken set forms

abbrev pub holds : Form → ℕ → Bool
holds form p = (p == global) || is_among p form.needed || is_among p form.spelled

-- the set less what its form can't hold
unfoldable pub normal_set : ℕ → ℕ
normal_set set = set_where (λ p. bit set p && holds (form_of set) p)

abbrev pub IsLegal : ℕ → Type 0
IsLegal set = normal_set set ≡ set

-- ---- spelling

abbrev pub spelling : ℕ → List ℕ → ℕ
spelling set [] = 0
spelling set (p ∷ ps) = (if bit set p then 2 ^ length ps else 0) + spelling set ps

-- the six bits of a set
unfoldable pub packed : ℕ → ℕ
packed set =
    (if bit set global then 32 else 0) + (form_of set).prefix * 2 ^ length (form_of set).spelled
    + spelling set (form_of set).spelled

abbrev pub is_spelled_by : ℕ → Form → Bool
is_spelled_by bits form = bits % 32 / 2 ^ length form.spelled == form.prefix

abbrev pub first_spelling : ℕ → List Form → Form
first_spelling bits [] = sealing_form
first_spelling bits (form ∷ rest) =
    if is_spelled_by bits form then form else first_spelling bits rest

abbrev pub is_flagged : ℕ → ℕ → List ℕ → Bool
is_flagged bits p [] = false
is_flagged bits p (q ∷ qs) = ((p == q) && bit bits (length qs)) || is_flagged bits p qs

abbrev pub is_told : ℕ → Form → ℕ → Bool
is_told bits form p =
    ((p == global) && bit bits 5) || is_among p form.needed || is_flagged bits p form.spelled

-- the set that six bits spell
unfoldable pub unpacked : ℕ → ℕ
unpacked bits = set_where (is_told bits (first_spelling bits forms))

-- ---- of a capability

unfoldable pub cap_perms : Cap → ℕ
cap_perms c = unpacked (permission_bits (cap_high c))

abbrev pub has : Cap → ℕ → Bool
has c p = bit (cap_perms c) p
