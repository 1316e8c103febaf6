use Rattle.std.proofs.Common.{◌∙◌, ap}
use Rattle.law_boot.proofs.Putting.{puts_sealed}
use Rattle.ct_boot.proofs.Made.{bytes_at}
use Rattle.ct_boot.proofs.filling.put_sealed.Goals as goal

pub put_bytes-requires-clause-puts : goal.put_bytes-requires-clause-puts
put_bytes-requires-clause-puts g c =
    bytes_at c.args.parts.now _ _ _ _ (puts_sealed c.args.parts.now c.requires.sound c.args.of c.args.object.now c.requires.there) (ap (λ o. o.base) c.object.view_is)
    (c.as_slice.ensures.value ∙ ap (λ o. o.bytes) c.object.view_is)
