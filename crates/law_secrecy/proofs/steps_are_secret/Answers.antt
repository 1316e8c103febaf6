use Rattle.law_secrecy.proofs.Events as events
use Rattle.law_secrecy.proofs.Steps as steps
use Rattle.law_secrecy.proofs.Views as views
use Rattle.law_secrecy.proofs.steps_are_secret.Goals as goal

pub returns : goal.returns
returns g = record {
  view = views.goes_by_view;
  steps = λ b s z t parts wired one two zeros zeros_too runs agree. steps.step_secret b s z t parts wired one two zeros zeros_too runs agree;
  events = λ b s z t e parts wired one two zeros zeros_too agree only. events.event_secret b s z t parts wired one two zeros zeros_too agree e only;
}
