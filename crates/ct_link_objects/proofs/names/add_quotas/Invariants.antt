use Rattle.std.proofs.Common.{◌≡◌, map, drop}
use Rattle.def_desc.specs.Rows.{QuotaRow}
use Rattle.ct_link_objects.specs.Slots.{with_slots}
use Rattle.ct_link_objects.proofs.names.add_quotas.Given as goal

abbrev pub invariant-loop-quota : goal.invariant-loop-quota
invariant-loop-quota l = with_slots l.names (map (λ (q : QuotaRow). q.name) (drop l.quota-index l.quotas)) ≡ with_slots l.fn.names (map (λ (q : QuotaRow). q.name) l.quotas)
