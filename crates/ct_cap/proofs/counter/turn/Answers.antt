use Rattle.std.proofs.Common.{ℕ, ◌+◌, ◌*◌, ◌/◌, ◌%◌, ◌^◌, ◌<◌, ◌≡◌, ◌&&◌, nat_le, true, arith, refl, ap, sym, ◌∙◌, subst}
use Rattle.def_words.specs.declared.Cap.{Cap}
use Rattle.def_words.specs.Authority.{cap_high, cap_top, word_of}
use Rattle.def_words.specs.Capability.{is_range_inside, with_address}
use Rattle.law_words.proofs.Words.{perms_same, seal_same}
use Rattle.ct_cap.proofs.Turned.{Stays, stays_by, bounds_stay, turned}
use Rattle.ct_cap.proofs.counter.turn.Goals as goal

there : Cap → ℕ → Cap
there c a = record c { word = c.word / 2 ^ 32 * 2 ^ 32 % 2 ^ 64 + a }

word_is : (c : Cap) (a : ℕ) → c.word < 2 ^ 64 → (there c a).word ≡ word_of (cap_high c) a
unfolding there
word_is c a fits = omega (arith, fits)

stays : (c now : Cap) (a : ℕ) → a < 2 ^ 32 → c ≡ now → (is_range_inside now a a && nat_le (cap_top now) (2 ^ 32)) ≡ true → Stays c a
stays c now a small is passes = stays_by c a small (subst (λ (d : Cap). (is_range_inside d a a && nat_le (cap_top d) (2 ^ 32)) ≡ true) (sym is) passes)

pub invariant_of-l : goal.invariant_of-l
unfolding there
invariant_of-l c =
    let small : c.args.address < 2 ^ 32 = omega (arith, c.ranges.address) in
    let word = word_is c.l.inside.cap c.args.address (omega (arith, c.l.ranges)) in
    let inside = stays c.l.inside.cap c.args.l.now c.args.address small c.l.view_is (sym c.stays_inside.ensures ∙ c.if-stays_inside.true) in (
      c.l.invariant.0 ∙ sym (bounds_stay c.l.inside.cap (there c.l.inside.cap c.args.address) c.args.address inside word),
      c.l.invariant.1 ∙ ap (λ p. record { 0 = p }) (sym (perms_same c.l.inside.cap (there c.l.inside.cap c.args.address) (cap_high c.l.inside.cap) c.args.address small word refl)),
      c.l.invariant.2 ∙ sym (seal_same c.l.inside.cap (there c.l.inside.cap c.args.address) (cap_high c.l.inside.cap) c.args.address small word refl refl),
    )

pub returns-then-stays_inside : goal.returns-then-stays_inside
unfolding there
returns-then-stays_inside c =
    let small : c.args.address < 2 ^ 32 = omega (arith, c.ranges.address) in
    let word = word_is c.l.inside.cap c.args.address (omega (arith, c.l.ranges)) in
    let inside = stays c.l.inside.cap c.args.l.now c.args.address small c.l.view_is (sym c.stays_inside.ensures ∙ c.if-stays_inside.true) in
    turned c.l.inside.cap (there c.l.inside.cap c.args.address) c.args.address inside c.if-l.true (sym c.l.invariant.2 ∙ c.if-l-eq0.true)
    (ap (λ w. record c.l.inside.cap { word = w }) word)
    ∙ ap (λ (d : Cap). with_address d c.args.address) c.l.view_is
