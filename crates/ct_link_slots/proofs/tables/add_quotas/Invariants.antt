use Rattle.std.proofs.Common.{◌≡◌, ◌++◌, map, take}
use Rattle.def_link.specs.Slots.{quota_slot}
use Rattle.ct_link_slots.proofs.tables.add_quotas.Given as goal

abbrev pub invariant-loop-quota : goal.invariant-loop-quota
invariant-loop-quota l = l.slots.items ≡ l.fn.slots.items ++ map quota_slot (take l.quota-index l.quotas)
