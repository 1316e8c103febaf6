use Rattle.std.proofs.Common.{◌-◌, ap, ◌∙◌}
use Rattle.def_chunks.specs.declared.rows.Account.{Account}
use Rattle.ct_heap.proofs.Answering.{remaining_is}
use Rattle.ct_heap.proofs.heap.Heap.remaining.Goals as goal

pub returns : goal.returns
returns c = λ gs l. c.saturating_sub.ensures ∙ ap (λ (a : Account). a.limit - a.charged) c.account-account.ensures ∙ remaining_is c.args.self.now gs c.args.quota l
