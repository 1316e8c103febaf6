use Rattle.law_granules.proofs.Lists.{cap_back, cap_rest, cap_marks}
use Rattle.law_granules.proofs.Apart.{cap_bytes, cap_bytes_rest, caps_comm, cap_bytes_comm}
use Rattle.law_granules.proofs.capability_stores.Goals as goal

pub returns : goal.returns
returns c = record {
  back = cap_back;
  rest = cap_rest;
  marks = cap_marks;
  bytes = cap_bytes;
  elsewhere = cap_bytes_rest;
  commute = caps_comm;
  commute_with_plain = cap_bytes_comm;
}
