use Rattle.law_secrecy.proofs.Apart as laws
use Rattle.law_secrecy.proofs.Others as others
use Rattle.law_secrecy.proofs.Unshared as steps
use Rattle.law_secrecy.proofs.others_stay_unseen.Goals as goal

pub returns : goal.returns
returns g = record {
  stays = λ b s t u parts wired held runs apart out. others.event_stays b s t u parts wired held runs apart out;
  reach = λ b s t u parts facts held differ apart devices. laws.out_of_reach b s t u parts facts held differ apart devices;
  steps = λ b s t u parts facts wired held runs differ apart devices. steps.steps_away b s t u parts facts wired held runs differ apart devices;
}
