use Rattle.std.proofs.Common.{◌∙◌, ap}
use Rattle.ct_boot.proofs.Made.{bytes_at}
use Rattle.ct_boot.proofs.filling.put_code.Goals as goal

pub put_bytes-requires-clause-puts : goal.put_bytes-requires-clause-puts
put_bytes-requires-clause-puts g c = bytes_at c.args.parts.now _ _ _ _ c.requires.text c.text_base.ensures (c.as_slice.ensures.value ∙ ap (λ d. d.text) c.code.view_is)
