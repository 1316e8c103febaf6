use Rattle.std.proofs.Common.{◌≡◌, ℕ, false, true, refl, sym, ◌∙◌, subst}
use Rattle.std.proofs.lemmas.Bool.{both_ways}
use Rattle.ct_entry.specs.declared.rows.Owner.{Owner}
use Rattle.ct_entry.specs.Listed.{Listed}
use Rattle.def_reach.specs.Sharing.{Reaches}
use Rattle.ct_licence.proofs.licence.off_licensed.Goals as goal

moved : (e g : Listed) (o p : Owner) (a : ℕ) → e ≡ g → o ≡ p → Reaches e o a → Reaches g p a
moved e g o p a same owner r = subst (λ l. Reaches l p a) same (subst (λ q. Reaches e q a) owner r)

pub returns-then-disabled : goal.returns-then-disabled
returns-then-disabled c =
    let is = c.in-Some.ensures in (
      λ t. (is.origin_is, is.disabled_is ∙ sym c.disabled.ensures ∙ c.if-disabled.true, moved _ _ _ _ _ c.requires (sym is.owner_is) (c.reaches.ensures.0 t)),
      λ h. c.reaches.ensures.1 (moved _ _ _ _ _ (sym c.requires) is.owner_is h.2),
    )

pub returns-else-disabled : goal.returns-else-disabled
returns-else-disabled c = (
  λ t. absurd (both_ways c.disabled.result c.if-disabled.false t),
  λ h. absurd (both_ways c.disabled.result c.if-disabled.false (c.disabled.ensures ∙ sym c.in-Some.ensures.disabled_is ∙ h.1)),
)
