use Rattle.law_integrity.proofs.Frames.{own_frames}
use Rattle.law_integrity.proofs.Whole as laws
use Rattle.law_integrity.proofs.integrity_kept.Goals as goal

pub returns : goal.returns
returns c = record { each = laws.events_kept; homes = laws.each_homes_kept; stays = laws.homes_stay; frames = own_frames }
