use Rattle.std.proofs.Common.{◌≡◌, rules, sym, ◌∙◌, subst}
use denote.Enum.Bare.{same_true, same_false}
use Rattle.ct_entry.specs.contracts.rows.Kind.{the_type}
use Rattle.ct_licence.specs.Rows.{IsRow}
use Rattle.ct_licence.proofs.Naming.{no_row, row_is, other_kind}
use Rattle.ct_licence.proofs.rows.named.Goals as goal

pub returns-then-eq : goal.returns-then-eq
returns-then-eq c =
    let same : c.in-Some.row.kind ≡ c.args.kind = same_true the_type (search rules) _ _ (sym c.eq.ensures ∙ c.if-eq.true) in
    subst (λ k. IsRow c.args.e.now c.args.number k c.in-Some.row) same (row_is c.args.e.now c.args.number c.in-Some.row (sym c.in-Some.ensures))

pub returns-else-eq : goal.returns-else-eq
returns-else-eq c = other_kind c.args.e.now c.args.number c.in-Some.row c.args.kind (sym c.in-Some.ensures) (same_false the_type _ _ (sym c.eq.ensures ∙ c.if-eq.false))

pub returns-in-None : goal.returns-in-None
returns-in-None c = no_row c.args.e.now c.args.number c.args.kind (sym c.in-None.ensures)
