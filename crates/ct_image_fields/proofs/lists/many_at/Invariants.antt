use Rattle.std.proofs.Common.{◌≡◌, ◌-◌}
use Rattle.ct_image_fields.specs.Reading.{many_at as many}
use Rattle.ct_image_fields.proofs.Loop.{with_front}
use Rattle.ct_image_fields.proofs.lists.many_at.Given as goal

-- those found before and those still read are all
abbrev pub invariant-loop : goal.invariant-loop
invariant-loop g l = with_front l.found.items (many g.T.Member.reads (l.count - l.counter) l.rest) ≡ many g.T.Member.reads l.count l.bytes
