use Rattle.std.proofs.Common.{ℕ, ◌+◌, ◌*◌, ◌/◌, ◌%◌, ◌^◌, ◌<◌, ◌≡◌, arith, refl, ap, sym, ◌∙◌, subst}
use Rattle.def_words.specs.declared.Cap.{Cap}
use Rattle.def_words.specs.Authority.{cap_high, word_of}
use Rattle.def_words.specs.Capability.{with_address}
use Rattle.law_words.proofs.Words.{perms_same, seal_same}
use Rattle.ct_cap.proofs.Turned.{bounds_stay, turned}
use Rattle.ct_threads.specs.Windows.{Suits}
use Rattle.ct_burst.proofs.Moves.{stays_at, unsealed_at}
use Rattle.ct_burst.proofs.going.go_inside.Goals as goal

there : Cap → ℕ → Cap
there c a = record c { word = c.word / 2 ^ 32 * 2 ^ 32 % 2 ^ 64 + a }

word_is : (c : Cap) (a : ℕ) → c.word < 2 ^ 64 → (there c a).word ≡ word_of (cap_high c) a
unfolding there
word_is c a fits = omega (arith, fits)

pub invariant_of-l : goal.invariant_of-l
unfolding there
invariant_of-l c =
    let small : c.args.target < 2 ^ 32 = omega (arith, c.ranges.target) in
    let word = word_is c.l.inside.cap c.args.target (omega (arith, c.l.ranges)) in
    let tagged = ap (λ (d : Cap). d.tag) c.l.view_is ∙ c.requires.tagged in
    let inside = stays_at c.args.window c.l.inside.cap c.args.target (subst (Suits c.args.window) (sym c.l.view_is) c.requires.suits) tagged c.requires.held in (
      c.l.invariant.0 ∙ sym (bounds_stay c.l.inside.cap (there c.l.inside.cap c.args.target) c.args.target inside word),
      c.l.invariant.1 ∙ ap (λ p. record { 0 = p }) (sym (perms_same c.l.inside.cap (there c.l.inside.cap c.args.target) (cap_high c.l.inside.cap) c.args.target small word refl)),
      c.l.invariant.2 ∙ sym (seal_same c.l.inside.cap (there c.l.inside.cap c.args.target) (cap_high c.l.inside.cap) c.args.target small word refl refl),
    )

pub returns : goal.returns
unfolding there
returns c =
    let word = word_is c.l.inside.cap c.args.target (omega (arith, c.l.ranges)) in
    let fits = subst (Suits c.args.window) (sym c.l.view_is) c.requires.suits in
    let tagged = ap (λ (d : Cap). d.tag) c.l.view_is ∙ c.requires.tagged in
    turned c.l.inside.cap (there c.l.inside.cap c.args.target) c.args.target (stays_at c.args.window c.l.inside.cap c.args.target fits tagged c.requires.held) tagged
    (unsealed_at c.args.window c.l.inside.cap c.args.target fits tagged c.requires.held) (ap (λ w. record c.l.inside.cap { word = w }) word)
    ∙ ap (λ (d : Cap). with_address d c.args.target) c.l.view_is
