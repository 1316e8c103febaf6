-- The file of a form is the one that it names.
use Rattle.std.proofs.Common.{◌≡◌, ℕ, List, Some, None, refl, subst}
use Rattle.def_port.specs.Told.{FolderView}
use Rattle.def_program.specs.Commands.{generated_by, file_of}
use Rattle.ct_commands.specs.declared.words.Task.{Task}
use Rattle.ct_commands.specs.declared.words.Task.TheVariants.{Audit, Image, Run, RunImage, Why, Upgrade, Check, Demo}
use Rattle.ct_commands.specs.Forms.{command_for}
use Rattle.ct_commands.specs.declared.files.Stop.{Stop}
use Rattle.ct_commands.specs.Whole.{WasGiven, NotGiven}

file_is : (name : List ℕ) (task : Task) → generated_by (command_for name task) ≡ None → name ≡ file_of (command_for name task)
file_is name Audit none = refl
file_is name Image none = refl
file_is name (Run limit script) none = refl
file_is name (RunImage limit script) none = refl
file_is name (Why owner compartment) none = refl
file_is name Upgrade none = refl
file_is name (Check policy) none = refl
file_is name (Demo number) none = absurd (let clash : Some number ≡ None = none in cc)

pub given_by : (name : List ℕ) (task : Task) → generated_by (command_for name task) ≡ None → (before after : FolderView) (bytes : List ℕ)
    → WasGiven name before after bytes → WasGiven (file_of (command_for name task)) before after bytes
given_by name task none before after bytes w = subst (λ (n : List ℕ). WasGiven n before after bytes) (file_is name task none) w

pub refused_by : (name : List ℕ) (task : Task) → generated_by (command_for name task) ≡ None → (before after : FolderView) (stop : Stop)
    → NotGiven name before after stop → NotGiven (file_of (command_for name task)) before after stop
refused_by name task none before after stop w = subst (λ (n : List ℕ). NotGiven n before after stop) (file_is name task none) w
