-- The key of each entry, and the one that a rule asks for: an entry of another key doesn't come into
-- question.
use Rattle.std.specs.Prelude.{ℕ, ◌≡◌, ◌+◌, ◌*◌, ◌%◌, ◌<◌, List, [], ◌∷◌, length, false, if◌then◌else◌}
use Rattle.ct_entry.specs.declared.rows.Entry.{Entry}
use Rattle.ct_entry.specs.declared.rows.Gate.{Gate}
use Rattle.ct_entry.specs.declared.rows.Kind.{Kind}
use Rattle.ct_entry.specs.declared.rows.Kind.TheVariants as kind
use Rattle.ct_entry.specs.declared.rows.Owner.{Owner}
use Rattle.ct_entry.specs.declared.rows.Owner.TheVariants.{Trusted, Compartment, Library, Thread}
use Rattle.ct_entry.specs.Listed.{Listed}
use Rattle.def_reach.specs.Roots.{gate_for, turns_interrupts_off}
use Rattle.def_policy.specs.declared.Resource.{Resource}
use Rattle.def_policy.specs.declared.Resource.TheVariants as resource
use Rattle.def_policy.specs.declared.Subject.{Subject}
use Rattle.def_policy.specs.declared.Subject.TheVariants.{Only, Disabled, Quota}
use Rattle.def_policy.specs.Breaking.{breaks, counted}
use Rattle.def_policy.specs.Rulings.{Ruling}
use Rattle.ct_policy.specs.Gates.{AreGates}
use Rattle.ct_policy.specs.Links.{AreLinked, LinksRow}

-- ---- keys

abbrev pub owner_number : Owner → ℕ
owner_number Trusted = 0
owner_number (Compartment n) = n
owner_number (Library n) = n
owner_number (Thread n) = n

-- a sort, and a number within it
abbrev pub key : ℕ → ℕ → ℕ
key sort number = number * 8 + sort

abbrev pub sort_of : Resource → ℕ
sort_of resource.Device = 0
sort_of resource.Shared = 1
sort_of resource.Service = 2
sort_of resource.Call = 3

abbrev pub key_by : Kind → Entry → Gate → ℕ
key_by kind.Device x g = key 0 x.of
key_by kind.Shared x g = key 1 x.of
key_by kind.Service x g = key 2 x.of
key_by kind.Call x g = key 3 x.of
key_by kind.Quota x g = key 4 (owner_number x.owner)
key_by kind.Export x g = key 5 (if turns_interrupts_off g.posture then 1 else 0)
key_by _ x g = key 6 0

abbrev pub key_of : Entry → Gate → ℕ
key_of x g = key_by x.kind x g

-- of these entries, the first of which has this number
abbrev pub keys_from : List Gate → ℕ → List Entry → List ℕ
keys_from gates number [] = []
keys_from gates number (x ∷ xs) =
    key_of x (gate_for gates number) ∷ keys_from gates (number + 1) xs

-- what a rule asks for
abbrev pub asked : Subject → ℕ
asked (Only resource n) = key (sort_of resource) n
asked Disabled = key 5 1
asked (Quota o n) = key 4 (owner_number o)
asked _ = key 6 0

-- ---- which entries a rule passes over

pub record IsIdle (r : Ruling) (x : Entry) (g : Gate) : Type 0 where
  pub counts : counted r.subject x ≡ 0
  pub holds : (number sum : ℕ) → breaks r number sum x g ≡ false

-- the entries are linked by their keys, and those that don't fall where this key does are idle
pub record Serves (e : Listed) (r : Ruling) (l : LinksRow) (k : ℕ) : Type 0 where
  pub some : 0 < length l.firsts
  pub linked : AreLinked (keys_from e.gates 1 e.rows) (length l.firsts) 0 l
  pub idle : (x : Entry) (g : Gate)
      → (key_of x g % length l.firsts ≡ k % length l.firsts → ⊥) → IsIdle r x g

-- ---- all of it

abbrev pub all_limits : List Entry → ℕ
all_limits [] = 0
all_limits (x ∷ xs) = x.limit + all_limits xs

pub record IndexRow : Type 0 where
  pub gates : List Gate
  pub subjects : LinksRow
  pub sorts : LinksRow
  pub total : ℕ

pub record IsIndex (e : Listed) (x : IndexRow) : Type 0 where
  pub gates_are : AreGates e.gates (length e.rows) x.gates
  pub subjects_are : AreLinked (keys_from e.gates 1 e.rows) (length x.subjects.firsts) 0 x.subjects
  pub some : 0 < length x.subjects.firsts
  pub sorts_are : AreLinked (keys_from e.gates 1 e.rows) 8 0 x.sorts
  pub total_is : x.total ≡ all_limits e.rows
