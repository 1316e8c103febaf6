use Rattle.law_history.proofs.Services.{sleep_stops, wait_differs, wait_stops, wake_answers, yield_stops}
use Rattle.law_history.proofs.Statuses.{lower_wakes, sleep_lasts, sleep_over, waking_waits}
use Rattle.law_history.proofs.Waking.{counted}
use Rattle.law_history.proofs.causes.scheduler_routines_answer.Goals as goal

pub returns : goal.returns
returns c = record {
  yields = yield_stops;
  sleep = sleep_stops;
  before = sleep_lasts;
  over = sleep_over;
  differs = wait_differs;
  waits = wait_stops;
  lower = lower_wakes;
  waited = waking_waits;
  counted = counted;
  answers = wake_answers;
}
