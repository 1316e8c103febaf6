use Rattle.std.proofs.Common.{◌++◌, string_bytes, ap, ◌∙◌}
use Rattle.std.specs.List.{flat_map}
use Rattle.def_gen.specs.Sources.{line, passing_unless, closing}
use Rattle.ct_gen.proofs.Pieces.{whole}
use Rattle.ct_gen.proofs.sources.source_with.Goals as goal

pub returns : goal.returns
returns c =
    let call = ap (λ t. string_bytes c.in_ok-text.text ++ t) c.passing_unless.ensures ∙ ap (λ t. t ++ flat_map line (passing_unless c.args.last)) c.in_ok-text.ensures in
    c.in_ok-push_str-2.ensures.bytes
    ∙ ap (λ t. string_bytes c.push_str.new.self ++ t) (c.as_str.ensures.value ∙ c.in_ok-rest.ensures)
    ∙ ap (λ t. t ++ flat_map line (closing c.args.i)) (c.in_ok-push_str.ensures.bytes ∙ call)
    ∙ whole c.args.last c.args.size c.args.i
