use Rattle.std.proofs.Common.{◌≡◌, ◌∙◌, ap, map}
use Rattle.std.specs.Prelude.{string_bytes}
use Rattle.def_texts.specs.Names.{with_name}
use Rattle.ct_desc.proofs.Sets.{names_added}
use Rattle.ct_desc.proofs.names.Names.add.Goals as goal

pub returns-clause-added : goal.returns-clause-added
returns-clause-added c =
    let text : string_bytes c.in_ok-key.key ≡ c.args.name.now = c.in_ok-key.ensures.ok in
    ap (map string_bytes) c.in_ok-fresh.ensures.keys ∙ names_added string_bytes c.self.inside.set.keys c.in_ok-key.key
    ∙ ap (λ ns. with_name ns (string_bytes c.in_ok-key.key)) c.self.view_is ∙ ap (with_name c.args.self.now) text
