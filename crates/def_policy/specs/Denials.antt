-- What is written of a policy that doesn't hold: a line for each rule and entry that breaks it, by rule
-- and then by the entry's number; and a line for each two that a rule wants apart and that aren't.
use Rattle.std.specs.Prelude.{ℕ, ◌≡◌, ◌+◌, ◌⊎◌, List, [], ◌∷◌, ◌++◌, codes, decimal, flat_map, map}
use Rattle.ct_entry.specs.declared.rows.Owner.{Owner}
use Rattle.def_boot.specs.Gates.{entries_of}
use Rattle.def_reach.specs.Reach.{Reached}
use Rattle.def_reach.specs.Route.{IsPath}
use Rattle.def_image.specs.Parts.{PartsRow}
use Rattle.def_policy.specs.declared.Subject.{Subject}
use Rattle.def_policy.specs.declared.Subject.TheVariants.{Apart}
use Rattle.def_policy.specs.Breaking.{breaking}
use Rattle.def_policy.specs.Names.{name_of}
use Rattle.def_policy.specs.Rules.{spaced_words}
use Rattle.def_policy.specs.Rulings.{Ruling}

-- the rule's line, counted from 1, and what denies it
abbrev pub denied : ℕ → List (List ℕ) → List ℕ
denied line words = codes "denied " ++ decimal line ++ spaced_words words

abbrev pub entry_line : ℕ → ℕ → List ℕ
entry_line line entry = denied line (decimal entry ∷ [])

abbrev pub entry_lines : ℕ → List ℕ → List ℕ
entry_lines line entries = flat_map (entry_line line) entries

-- the names of the path from the owner to the compartment
abbrev pub denied_path_line : PartsRow → ℕ → List Owner → List ℕ
denied_path_line p line owners = denied line (codes "path" ∷ map (name_of p) owners)

-- nothing where the owner doesn't reach the compartment, else the path that comes before all others
abbrev pub Reaching : PartsRow → ℕ → Owner → ℕ → List ℕ → Type 0
Reaching p line o b text =
    ((Reached (entries_of p) o b → ⊥) × (text ≡ []))
    ⊎ ((owners : List Owner)
    × (Reached (entries_of p) o b × IsPath (entries_of p) o b owners
    × (text ≡ denied_path_line p line owners)))

abbrev pub Denies : PartsRow → ℕ → Ruling → Subject → List ℕ → Type 0
Denies p line r (Apart o b) text = Reaching p line o b text
Denies p line r _ text = text ≡ entry_lines line (breaking (entries_of p) r)

-- what denies a rule, then what denies those after it
pub record Then (First Rest : List ℕ → Type 0) (text : List ℕ) : Type 0 where
  pub first : List ℕ
  pub rest : List ℕ
  pub is_first : First first
  pub is_rest : Rest rest
  pub text_is : text ≡ first ++ rest

-- of rules from this line on
abbrev pub AllDenied : PartsRow → ℕ → List Ruling → List ℕ → Type 0
AllDenied p line [] text = text ≡ []
AllDenied p line (r ∷ rs) text = Then (Denies p line r r.subject) (AllDenied p (line + 1) rs) text
