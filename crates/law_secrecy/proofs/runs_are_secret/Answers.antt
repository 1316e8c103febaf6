use Rattle.law_secrecy.proofs.Runs as laws
use Rattle.law_secrecy.proofs.runs_are_secret.Goals as goal

pub returns : goal.returns
returns g = record {
  seen = λ b s z t ms parts facts wired shut one two zeros zeros_too agree alike. laws.runs_alike b t parts facts wired shut ms s z one two zeros zeros_too agree alike;
  away = λ b s z t ms parts facts wired shut one two zeros zeros_too agree away. laws.runs_away b t parts facts wired shut ms s z one two zeros zeros_too agree away;
}
