use Rattle.law_events.proofs.Covering.{granule_misses, register_misses, pcc_misses, frames_miss, untagged_there}
use Rattle.law_events.proofs.Handing.{hands_fresh, key_fresh, token_fresh}
use Rattle.law_events.proofs.fresh.fresh_objects.Goals as goal

pub returns : goal.returns
returns c = record {
  granules = granule_misses;
  registers = register_misses;
  pcc = pcc_misses;
  frames = frames_miss;
  untagged = untagged_there;
  objects = hands_fresh;
  keys = key_fresh;
  tokens = token_fresh;
}
