use Rattle.std.proofs.Common.{◌∙◌, decimal, codes}
use Rattle.ct_commands.proofs.Texts.{around}
use Rattle.ct_commands.proofs.refusing.refuse_source.Goals as goal

pub returns : goal.returns
returns g c =
    let front = c.as_bytes.ensures.value ∙ c.as_str.ensures.value ∙ c.line_front-front.ensures in
    let rest = c.as_bytes-2.ensures.value ∙ c.as_str-2.ensures.value ∙ c.line_end-rest.ensures in
    rw (front, rest, around (codes "refused 5 assembly A") (decimal c.args.number) c.args.owner.now _) at c.close_named.ensures
