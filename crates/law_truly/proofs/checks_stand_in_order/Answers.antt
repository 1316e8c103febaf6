use Rattle.law_truly.proofs.Orders.{call_order, fetch_order, gate_order, jump_order, load_order, return_order, stack_order, store_order, wait_order, wake_order, word_order}
use Rattle.law_truly.proofs.checks_stand_in_order.Goals as goal

pub returns : goal.returns
returns g = record {
  fetch = fetch_order;
  load = load_order;
  store = store_order;
  jump = jump_order;
  word = word_order;
  back = return_order;
  gate = gate_order;
  stack = stack_order;
  call = call_order;
  wait = wait_order;
  wake = wake_order;
}
