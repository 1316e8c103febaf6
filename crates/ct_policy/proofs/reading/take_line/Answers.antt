use Rattle.std.proofs.Common.{◌≡◌, ◌∙◌, ap, sym, Some, None}
use Rattle.def_policy.specs.Rulings.{meant}
use Rattle.ct_policy.specs.Forms.{form_of, rule_row}
use Rattle.ct_policy.specs.Words.{IsLine, texts}
use Rattle.ct_policy.proofs.Accounts.{refuse_form, refuse_name, takes}
use Rattle.ct_policy.proofs.reading.take_line.Goals as goal

pub returns-in-None : goal.returns-in-None
returns-in-None c =
    let line : IsLine c.args.left.now (texts c.in-Ok-Some.line.words.items) c.in-Ok-Some.line.rest.now = rw c.in-Ok-Some.field-0-is at c.in-Ok-Some.ensures in
    let none : form_of (texts c.in-Ok-Some.line.words.items) ≡ None = sym (c.in-None.ensures ∙ ap (λ ws. form_of (texts ws)) c.as_slice.ensures.value) in
    refuse_form c.args.parts.now _ c.args.left.now (texts c.in-Ok-Some.line.words.items) c.in-Ok-Some.line.rest.now _ c.requires.some line none c.fault-in-None.ensures

pub returns-in-Ok-None-ruling_of : goal.returns-in-Ok-None-ruling_of
returns-in-Ok-None-ruling_of c =
    let line : IsLine c.args.left.now (texts c.in-Ok-Some.line.words.items) c.in-Ok-Some.line.rest.now = rw c.in-Ok-Some.field-0-is at c.in-Ok-Some.ensures in
    let said : form_of (texts c.in-Ok-Some.line.words.items) ≡ Some (rule_row c.in-Some.rule) = sym (c.in-Some.ensures ∙ ap (λ ws. form_of (texts ws)) c.as_slice.ensures.value) in
    let unknown : None ≡ meant c.args.parts.now (rule_row c.in-Some.rule) = rw c.in-Ok-None-ruling_of.field-0-is at c.in-Ok-None-ruling_of.ensures in
    refuse_name c.args.parts.now _ c.args.left.now (texts c.in-Ok-Some.line.words.items) c.in-Ok-Some.line.rest.now (rule_row c.in-Some.rule) _
    line said (sym unknown) c.fault-in-Ok-None-ruling_of.ensures

pub returns-in-Ok : goal.returns-in-Ok
returns-in-Ok c =
    let line : IsLine c.args.left.now (texts c.in-Ok-Some.line.words.items) c.in-Ok-Some.line.rest.now = rw c.in-Ok-Some.field-0-is at c.in-Ok-Some.ensures in
    let said : form_of (texts c.in-Ok-Some.line.words.items) ≡ Some (rule_row c.in-Some.rule) = sym (c.in-Some.ensures ∙ ap (λ ws. form_of (texts ws)) c.as_slice.ensures.value) in
    let means : Some c.in-Ok-Some-ruling_of.ruling ≡ meant c.args.parts.now (rule_row c.in-Some.rule) = rw c.in-Ok-Some-ruling_of.field-0-is at c.in-Ok-Some-ruling_of.ensures in
    takes c.args.parts.now _ _ c.args.left.now (texts c.in-Ok-Some.line.words.items) c.in-Ok-Some.line.rest.now (rule_row c.in-Some.rule) _
    line said (sym means) c.in-Ok.ensures.items
