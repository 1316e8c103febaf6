-- A capability whose address goes past an instruction inside its bounds.
use Rattle.std.proofs.Common.{ℕ, ◌+◌, ◌%◌, ◌^◌, ◌≡◌, true, arith, refl, ap, ◌∙◌}
use Rattle.std.proofs.lemmas.Bool.{eqb-true}
use Rattle.def_words.specs.declared.Cap.{Cap}
use Rattle.def_words.specs.Authority.{cap_address, cap_bounds, cap_high, word_of}
use Rattle.def_words.specs.Capability.{raised, with_address}
use Rattle.def_words.specs.Permissions.{cap_perms}
use Rattle.def_words.specs.Seals.{cap_seal}
use Rattle.law_words.proofs.Words.{perms_same, seal_same}
use Rattle.ct_cap.proofs.Turned.{Stays, bounds_stay, turned}
use Rattle.ct_threads.specs.declared.window.Window.{Window}
use Rattle.ct_threads.specs.Windows.{window_holds, Suits}

abbrev pub next : Cap → ℕ
next c = cap_address c + 4

abbrev pub past : Cap → Cap
past c = record c { word = c.word + 4 }

-- where a window holds its address
pub stays : (w : Window) (c : Cap) → Suits w c → c.tag ≡ true → window_holds w (cap_address c) ≡ true → Stays c (next c)
stays w c fits tagged within =
    let opens = fits (cap_address c) within tagged in
    let base = opens.base in
    let top = opens.top in
    let less = opens.small in
    record {
      small = omega (arith, top, less);
      low = omega (arith, base);
      high = top;
      fits = omega (arith, less);
    }

pub unsealed : (w : Window) (c : Cap) → Suits w c → c.tag ≡ true → window_holds w (cap_address c) ≡ true → cap_seal c ≡ 0
unsealed w c fits tagged within = eqb-true (cap_seal c) 0 (fits (cap_address c) within tagged).unsealed

word_is : (c : Cap) → (past c).word ≡ word_of (cap_high c) (next c)
word_is c = omega arith

pub bounds_past : (c : Cap) → Stays c (next c) → cap_bounds (past c) ≡ cap_bounds c
bounds_past c s = bounds_stay c (past c) (next c) s (word_is c)

pub perms_past : (c : Cap) → Stays c (next c) → cap_perms (past c) ≡ cap_perms c
perms_past c s = perms_same c (past c) (cap_high c) (next c) s.small (word_is c) refl

pub seal_past : (c : Cap) → Stays c (next c) → cap_seal (past c) ≡ cap_seal c
seal_past c s = seal_same c (past c) (cap_high c) (next c) s.small (word_is c) refl refl

pub raised_past : (c : Cap) → Stays c (next c) → c.tag ≡ true → cap_seal c ≡ 0 → past c ≡ raised c 4
raised_past c s tagged unsealed =
    let small = s.small in
    let same : next c ≡ (cap_address c + 4) % 2 ^ 32 = omega (arith, small) in
    turned c (past c) (next c) s tagged unsealed (ap (λ w. record c { word = w }) (word_is c)) ∙ ap (with_address c) same
