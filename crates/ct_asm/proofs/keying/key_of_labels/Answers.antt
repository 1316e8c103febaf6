use Rattle.std.proofs.Common.{◌++◌, ◌∙◌, sym, ap}
use Rattle.std.proofs.lemmas.List.{append-nil, drop_all}
use Rattle.ct_keyed.specs.Keys.{key_of, key_of_digest}
use Rattle.ct_source.specs.Views.{statements_view}
use Rattle.ct_asm.specs.Labels.{label_lines}
use Rattle.ct_asm.proofs.keying.key_of_labels.Goals as goal

pub returns : goal.returns
returns c =
    let m = c.loop-s.invariant.0 in
    let whole = sym (append-nil m)
    ∙ ap (λ ss. m ++ label_lines (statements_view ss)) (sym (drop_all c.loop-s.s-index c.args.statements.now c.loop-s-test.false))
    ∙ c.loop-s.invariant.2 in
    c.of_digest.ensures ∙ ap key_of_digest (c.finalize.ensures m c.loop-s.invariant.1) ∙ ap key_of whole
