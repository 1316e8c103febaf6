use Rattle.std.proofs.Common.{◌≡◌, ◌∙◌, ◌++◌, ◌∷◌, [], Some, None, is_none, sym, ap}
use Rattle.indexmap.specs.IndexMap.{insert_entry}
use Rattle.std.specs.Str.{bytes_eq}
use Rattle.ct_asm.specs.Labels.{label_named}
use Rattle.ct_asm.proofs.LabelTables.{rows, looked_up, inserted, put_back, with_new, with_known}
use Rattle.ct_asm.proofs.labels.Labels.add.Goals as goal

pub returns-in-None-clause-added : goal.returns-in-None-clause-added
returns-in-None-clause-added c =
    let name : c.in_ok-key.key.items ≡ c.args.name.now = c.in_ok-key.ensures.items in
    let absent : label_named c.in_ok-key.key.items (rows (λ k. k.items) c.self.inside.table.entries) ≡ None = sym (c.in_ok-insert.ensures.old ∙ looked_up (λ k. k.items) c.in_ok-key.key.items c.self.inside.table.entries) ∙ c.in-None.is in
    let none : label_named c.args.name.now c.args.self.now ≡ None = sym (ap (label_named c.in_ok-key.key.items) c.self.view_is ∙ ap (λ n. label_named n c.args.self.now) name) ∙ absent in
    ap (rows (λ k. k.items)) c.in_ok-insert.ensures.entries ∙ inserted (λ k. k.items) c.in_ok-key.key c.args.label c.self.inside.table.entries absent
    ∙ ap (λ r. r ++ (c.in_ok-key.key.items, c.args.label) ∷ []) c.self.view_is ∙ ap (λ n. c.args.self.now ++ (n, c.args.label) ∷ []) name
    ∙ with_new c.args.self.now c.args.name.now c.args.label none

pub returns-in-None-clause-new : goal.returns-in-None-clause-new
returns-in-None-clause-new c =
    sym (ap is_none (sym (c.in_ok-insert.ensures.old ∙ looked_up (λ k. k.items) c.in_ok-key.key.items c.self.inside.table.entries ∙ ap (label_named c.in_ok-key.key.items) c.self.view_is ∙ ap (λ n. label_named n c.args.self.now) c.in_ok-key.ensures.items) ∙ c.in-None.is))

pub returns-in_ok-insert-in-Some-clause-added : goal.returns-in_ok-insert-in-Some-clause-added
returns-in_ok-insert-in-Some-clause-added c =
    let name : c.in_ok-key.key.items ≡ c.args.name.now = c.in_ok-key.ensures.items in
    let known : label_named c.in_ok-key.key.items (rows (λ k. k.items) c.self.inside.table.entries) ≡ Some c.in-Some.first = sym (c.in_ok-insert.ensures.old ∙ looked_up (λ k. k.items) c.in_ok-key.key.items c.self.inside.table.entries) ∙ c.in-Some.is in
    let found : label_named c.args.name.now c.args.self.now ≡ Some c.in-Some.first = sym (ap (label_named c.in_ok-key.key.items) c.self.view_is ∙ ap (λ n. label_named n c.args.self.now) name) ∙ known in
    ap (rows (λ k. k.items)) (c.in_ok-insert-in-Some.ensures.entries ∙ ap (λ es. insert_entry (λ a b. bytes_eq (a.items) (b.items)) es c.in_ok-key-in-Some.key c.in-Some.first) c.in_ok-insert.ensures.entries)
    ∙ put_back (λ k. k.items) c.in_ok-key.key c.in_ok-key-in-Some.key c.args.label c.in-Some.first c.self.inside.table.entries (c.in_ok-key-in-Some.ensures.items ∙ sym name) known
    ∙ c.self.view_is ∙ with_known c.args.self.now c.args.name.now c.args.label c.in-Some.first found

pub returns-in_ok-insert-in-Some-clause-new : goal.returns-in_ok-insert-in-Some-clause-new
returns-in_ok-insert-in-Some-clause-new c =
    sym (ap is_none (sym (c.in_ok-insert.ensures.old ∙ looked_up (λ k. k.items) c.in_ok-key.key.items c.self.inside.table.entries ∙ ap (label_named c.in_ok-key.key.items) c.self.view_is ∙ ap (λ n. label_named n c.args.self.now) c.in_ok-key.ensures.items) ∙ c.in-Some.is))
