use Rattle.law_moves.proofs.Deeds.{call_licensed, load_licensed, store_licensed, allocate_licensed, free_licensed, off_licensed}
use Rattle.law_moves.proofs.licensed.deeds_licensed.Goals as goal

pub returns : goal.returns
returns c = record {
  call = λ i s t n f fs h x. call_licensed i s t n f fs h x.frames x.tagged;
  load = λ i s t n address width value f fs h x. load_licensed i s t n address width value f fs h x.holds.frames x.holds.tagged x.device x.may x.low x.high;
  store = λ i s t n address width value f fs h x. store_licensed i s t n address width value f fs h x.holds.frames x.holds.tagged x.device x.may x.low x.high;
  allocate = λ i s after t n number base long f fs h k x. allocate_licensed i s after t n number base long f fs h k x.holds.frames x.holds.tagged x.quota;
  free = λ i s after t n number base long f fs h k x. free_licensed i s after t n number base long f fs h k x.holds.frames x.holds.tagged x.quota;
  span = off_licensed;
}
