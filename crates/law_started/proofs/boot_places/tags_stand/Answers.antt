use Rattle.law_started.proofs.BootPlacesTags.{counter_tags, granule_tags, register_tags}
use Rattle.law_started.proofs.boot_places.tags_stand.Goals as goal

pub returns : goal.returns
returns c = record { granules = granule_tags; registers = register_tags; counters = counter_tags }
