-- What a `check` that is done says of runs: each line of the policy that was read holds of every run of the parts that the
-- files before it stand for.
use Rattle.std.specs.Prelude.{ℕ, ◌≡◌, List, [], ◌∷◌, ◌++◌, Some, slice_get}
use Rattle.def_image.specs.Parts.{PartsRow}
use Rattle.def_policy.specs.Rules.{Rule}
use Rattle.def_policy.specs.Rulings.{Ruling}
use Rattle.def_policy.specs.Texts.{ReadsAsPolicy}
use Rattle.def_step.specs.declared.Event.{Event}
use Rattle.def_program.specs.AllowedLines.{IsKeptLine}
use Rattle.def_program.specs.Answers.{AllRead, Read, contents}
use Rattle.def_program.specs.Calls.{CallRecord}
use Rattle.def_program.specs.Commands.{Command, Check, command_form}
use Rattle.def_program.specs.Licences.{StandFor}
use Rattle.def_program.specs.declared.Status.{Status}
use Rattle.def_program.specs.declared.Status.TheVariants as status

-- The files that were read are those that stand for parts, and a policy; and what each line of the policy means holds of
-- these parts' machine from its boot, whatever list of events comes.
pub record KeepsPolicy (e : CallRecord) (c : Command) : Type 0 where
  pub reads : List Read
  pub read : AllRead e c reads
  pub own : List (List ℕ)
  pub text : List ℕ
  pub more : List (List ℕ)
  pub files_are : contents reads ≡ own ++ (text ∷ more)
  pub parts : PartsRow
  pub stand : StandFor c own parts
  pub rulings : List Ruling
  pub policy : ReadsAsPolicy parts text rulings
  pub kept : (es : List Event) (k : ℕ) (rule : Rule) → slice_get policy.rules k ≡ Some rule
      → IsKeptLine parts rule es

-- where a `check` is done
abbrev pub IsAllowed : CallRecord → Status → Type 0
IsAllowed e s =
    (name policy : List ℕ)
    → command_form e.words ≡ Some (Check name policy) → s ≡ status.Done → KeepsPolicy e (Check name policy)
