-- A capability at another address, from what the code has at hand.
use Rattle.std.proofs.Common.{ℕ, ◌<◌, ◌^◌, ◌≡◌, ◌==◌, ◌&&◌, refl, ap, sym, ◌∙◌}
use Rattle.def_words.specs.declared.Cap.{Cap}
use Rattle.def_words.specs.declared.Bounds.{Bounds}
use Rattle.def_words.specs.Authority.{bounds_of, cap_base, cap_bounds, cap_high, cap_top, word_of}
use Rattle.def_words.specs.Capability.{cap_of, with_address, word_at}
use Rattle.def_words.specs.Seals.{cap_seal, is_unsealed}
use Rattle.law_words.proofs.Words.{bounds_is}

pub addressed_is : (c : Cap) (b lb : Bounds) (seal a : ℕ) → a < 2 ^ 32 → b ≡ bounds_of (cap_high c) a → lb ≡ cap_bounds c → seal ≡ cap_seal c
    → cap_of (c.tag && (seal == 0) && ((b.base == lb.base) && (b.top == lb.top))) (word_of (cap_high c) a) c.shadow ≡ with_address c a
unfolding with_address
addressed_is c b lb seal a small is_b is_lb is_seal =
    let there : cap_bounds (record c { word = word_at c a }) ≡ b = bounds_is (record c { word = word_at c a }) (cap_high c) a small refl ∙ sym is_b in
    ap (λ x. cap_of (c.tag && (x == 0) && ((b.base == lb.base) && (b.top == lb.top))) (word_of (cap_high c) a) c.shadow) is_seal
    ∙ ap (λ y. cap_of (c.tag && is_unsealed c && ((b.base == y.base) && (b.top == y.top))) (word_of (cap_high c) a) c.shadow) is_lb
    ∙ ap (λ x. cap_of (c.tag && is_unsealed c && ((x.base == cap_base c) && (x.top == cap_top c))) (word_of (cap_high c) a) c.shadow) (sym there)
