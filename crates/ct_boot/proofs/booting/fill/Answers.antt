use Rattle.std.proofs.Common.{ap, sym}
use Rattle.law_boot.proofs.Putting.{puts_sentry}
use Rattle.ct_boot.proofs.Made.{puts_at}
use Rattle.ct_boot.proofs.Ranges.{filled, granule_at}
use Rattle.ct_boot.proofs.booting.fill.Goals as goal

pub put-requires-clause-puts : goal.put-requires-clause-puts
put-requires-clause-puts g c =
    puts_at c.args.parts.now c.args.parts.now.trusted _ _ _ (puts_sentry c.args.parts.now c.requires.sound) (ap (λ p. p.trusted) c.parts.view_is) c.return_sentry.ensures

pub returns : goal.returns
returns g c =
    filled c.args.parts.now _ _ _ _ _ c.put_compartments.ensures c.put_libraries.ensures c.put_sealed_objects.ensures
    (granule_at c.args.parts.now _ _ _ c.args.parts.now.trusted c.put.ensures (sym (ap (λ p. p.trusted) c.parts.view_is))) (puts_sentry c.args.parts.now c.requires.sound).even
