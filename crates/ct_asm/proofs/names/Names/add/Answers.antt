use Rattle.std.proofs.Common.{◌≡◌, ◌∙◌, ◌++◌, ◌∷◌, [], None, sym, ap, map}
use Rattle.std.proofs.lemmas.List.{map-append}
use Rattle.def_object.specs.Object.{slot_of}
use Rattle.ct_asm.proofs.FreshNames.{fresh_last, none_of}
use Rattle.ct_asm.proofs.names.Names.add.Goals as goal

pub returns-clause-added : goal.returns-clause-added
returns-clause-added c =
    let text : c.in_ok-key.key.items ≡ c.args.name.now = c.in_ok-key.ensures.items ∙ c.as_bytes-2.ensures.value in
    let absent : slot_of (map (λ k. k.items) c.self.inside.set.keys) c.in_ok-key.key.items ≡ None =
    ap (λ ns. slot_of ns c.in_ok-key.key.items) c.self.view_is ∙ ap (slot_of c.args.self.now) (text ∙ sym c.as_bytes.ensures.value)
    ∙ sym c.slot.ensures ∙ none_of c.slot.result c.is_some.result c.is_some.ensures c.if-is_some.false in
    ap (map (λ k. k.items)) (c.in_ok-insert.ensures.keys ∙ fresh_last (λ k. k.items) c.self.inside.set.keys c.in_ok-key.key absent)
    ∙ map-append (λ k. k.items) c.self.inside.set.keys (c.in_ok-key.key ∷ [])
    ∙ ap (λ ns. ns ++ c.in_ok-key.key.items ∷ []) c.self.view_is ∙ ap (λ n. c.args.self.now ++ n ∷ []) text
