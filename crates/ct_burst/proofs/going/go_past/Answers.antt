use Rattle.std.proofs.Common.{◌≡◌, true, ap, sym, ◌∙◌, subst}
use Rattle.def_words.specs.declared.Cap.{Cap}
use Rattle.def_words.specs.Authority.{cap_address}
use Rattle.def_words.specs.Capability.{raised}
use Rattle.ct_threads.specs.Windows.{window_holds, Suits}
use Rattle.ct_burst.proofs.Past.{stays, unsealed, bounds_past, perms_past, seal_past, raised_past}
use Rattle.ct_burst.proofs.going.go_past.Goals as goal

pub invariant_of-l : goal.invariant_of-l
invariant_of-l c =
    let here : Cap = c.l.inside.cap in
    let fits = subst (Suits c.args.window) (sym c.l.view_is) c.requires.suits in
    let tagged = ap (λ (d : Cap). d.tag) c.l.view_is ∙ c.requires.tagged in
    let held = subst (λ (d : Cap). window_holds c.args.window (cap_address d) ≡ true) (sym c.l.view_is) c.requires.held in
    let inside = stays c.args.window here fits tagged held in (
      c.l.invariant.0 ∙ sym (bounds_past here inside),
      c.l.invariant.1 ∙ ap (λ p. record { 0 = p }) (sym (perms_past here inside)),
      c.l.invariant.2 ∙ sym (seal_past here inside),
    )

pub returns : goal.returns
returns c =
    let here : Cap = c.l.inside.cap in
    let fits = subst (Suits c.args.window) (sym c.l.view_is) c.requires.suits in
    let tagged = ap (λ (d : Cap). d.tag) c.l.view_is ∙ c.requires.tagged in
    let held = subst (λ (d : Cap). window_holds c.args.window (cap_address d) ≡ true) (sym c.l.view_is) c.requires.held in
    raised_past here (stays c.args.window here fits tagged held) tagged (unsealed c.args.window here fits tagged held) ∙ ap (λ (d : Cap). raised d 4) c.l.view_is
