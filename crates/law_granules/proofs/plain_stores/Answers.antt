use Rattle.law_granules.proofs.Lists.{in_list, store_untags, store_rest, store_marks, load_back, load_rest, store_comm}
use Rattle.law_granules.proofs.plain_stores.Goals as goal

pub returns : goal.returns
returns c = record {
  inside = in_list;
  untagged = store_untags;
  rest = store_rest;
  marks = store_marks;
  back = load_back;
  elsewhere = load_rest;
  commute = store_comm;
}
