-- A tagged capability that moves to an address of a window that suits it, and the row whose program counter that is.
use Rattle.std.proofs.Common.{ℕ, ◌+◌, ◌%◌, ◌^◌, ◌<◌, ◌≡◌, true, arith, refl, sym, ap, ◌∙◌, subst}
use Rattle.std.proofs.lemmas.Bool.{eqb-true}
use Rattle.def_words.specs.declared.Cap.{Cap}
use Rattle.def_words.specs.declared.Posture.{Posture}
use Rattle.def_words.specs.Authority.{cap_address}
use Rattle.def_words.specs.Capability.{raised, with_address, word_at}
use Rattle.def_words.specs.Seals.{cap_seal}
use Rattle.ct_areas.specs.declared.thread.Thread as row
use Rattle.ct_cap.proofs.Turned.{Stays, turned}
use Rattle.ct_threads.specs.declared.window.Window.{Window}
use Rattle.ct_threads.specs.Rows.{row_gone}
use Rattle.ct_threads.specs.Windows.{window_holds, Suits}
use Rattle.ct_burst.proofs.Past.{raised_past, stays, unsealed}
use Rattle.ct_burst.specs.Carrying.{put_in, IsHeld, IsOn, IsPast}
use Rattle.ct_burst.proofs.Windows.{put_suits, moved_suits}

-- at an address that the window holds
pub stays_at : (w : Window) (c : Cap) (a : ℕ) → Suits w c → c.tag ≡ true → window_holds w a ≡ true → Stays c a
stays_at w c a fits tagged within =
    let opens = fits a within tagged in
    let base = opens.base in
    let top = opens.top in
    let less = opens.small in
    record {
      small = omega (arith, top, less);
      low = base;
      high = omega (arith, top);
      fits = omega (arith, less);
    }

pub unsealed_at : (w : Window) (c : Cap) (a : ℕ) → Suits w c → c.tag ≡ true → window_holds w a ≡ true → cap_seal c ≡ 0
unsealed_at w c a fits tagged within = eqb-true (cap_seal c) 0 (fits a within tagged).unsealed

tagged_past : (w : Window) (c : Cap) → Suits w c → c.tag ≡ true → window_holds w (cap_address c) ≡ true → (raised c 4).tag ≡ true
tagged_past w c fits tagged within =
    ap (λ (d : Cap). d.tag) (sym (raised_past c (stays w c fits tagged within) tagged (unsealed w c fits tagged within))) ∙ tagged

whole_past : (w : Window) (c : Cap) → Suits w c → c.tag ≡ true → window_holds w (cap_address c) ≡ true → cap_address c % 4 ≡ 0 → cap_address (raised c 4) % 4 ≡ 0
whole_past w c fits tagged within whole =
    let is : cap_address (raised c 4) ≡ (c.word + 4) % 2 ^ 32 = ap cap_address (sym (raised_past c (stays w c fits tagged within) tagged (unsealed w c fits tagged within))) in
    let here : (c.word + 4) % 2 ^ 32 % 4 ≡ 0 = omega (arith, whole) in
    ap (λ n. n % 4) is ∙ here

next_past : (w : Window) (c : Cap) → Suits w c → c.tag ≡ true → window_holds w (cap_address c) ≡ true → cap_address (raised c 4) ≡ cap_address c + 4
next_past w c fits tagged within =
    let is : cap_address (raised c 4) ≡ (c.word + 4) % 2 ^ 32 = ap cap_address (sym (raised_past c (stays w c fits tagged within) tagged (unsealed w c fits tagged within))) in
    let top = (fits (cap_address c) within tagged).top in
    let less = (fits (cap_address c) within tagged).small in
    let here : (c.word + 4) % 2 ^ 32 ≡ c.word % 2 ^ 32 + 4 = omega (arith, top, less) in
    is ∙ here

put_on : (r new : row.Thread) (w : Window) (to : ℕ) (value : Cap) → new ≡ put_in r to value → IsHeld r w → IsOn new w
put_on r new w to value is h = record {
  suits = put_suits w r new r.posture to value is h.on.suits;
  tagged = ap (λ (q : row.Thread). q.pcc.tag) is ∙ tagged_past w r.pcc h.on.suits h.on.tagged h.held;
  whole = ap (λ (q : row.Thread). cap_address q.pcc % 4) is ∙ whole_past w r.pcc h.on.suits h.on.tagged h.held h.on.whole;
}

pub put_past : (r new : row.Thread) (w : Window) (to : ℕ) (value : Cap) → new ≡ put_in r to value → IsHeld r w → IsPast r new w
put_past r new w to value is h = record {
  on = put_on r new w to value is h;
  next = ap (λ (q : row.Thread). cap_address q.pcc) is ∙ next_past w r.pcc h.on.suits h.on.tagged h.held;
}

-- where it goes to an address of the window
at_is : (w : Window) (c : Cap) (a : ℕ) → Suits w c → c.tag ≡ true → window_holds w a ≡ true → record c { word = word_at c a } ≡ with_address c a
at_is w c a fits tagged within = turned c (record c { word = word_at c a }) a (stays_at w c a fits tagged within) tagged (unsealed_at w c a fits tagged within) refl

whole_at : (c : Cap) (a : ℕ) → a < 2 ^ 32 → a % 4 ≡ 0 → word_at c a % 2 ^ 32 % 4 ≡ 0
whole_at c a small whole = omega (arith, small, whole)

turned_on : (r new : row.Thread) (w : Window) (a : ℕ) (posture : Posture) (to : ℕ) (value : Cap) → new ≡ row_gone r (with_address r.pcc a) posture to value → IsOn r w
    → window_holds w a ≡ true → a % 4 ≡ 0 → IsOn new w
turned_on r new w a posture to value is on within whole =
    let there = at_is w r.pcc a on.suits on.tagged within in
    let small : a < 2 ^ 32 = (stays_at w r.pcc a on.suits on.tagged within).small in
    record {
      suits = moved_suits w r new a posture to value is small on.suits;
      tagged = ap (λ (q : row.Thread). q.pcc.tag) is ∙ ap (λ (d : Cap). d.tag) (sym there) ∙ on.tagged;
      whole = ap (λ (q : row.Thread). cap_address q.pcc % 4) is ∙ ap (λ (d : Cap). cap_address d % 4) (sym there) ∙ whole_at r.pcc a small whole;
    }

address_at : (c : Cap) (a : ℕ) → a < 2 ^ 32 → word_at c a % 2 ^ 32 ≡ a
address_at c a small = omega (arith, small)

pub turned_held : (r new : row.Thread) (w : Window) (a : ℕ) (posture : Posture) (to : ℕ) (value : Cap) → new ≡ row_gone r (with_address r.pcc a) posture to value → IsOn r w
    → window_holds w a ≡ true → a % 4 ≡ 0 → IsHeld new w
turned_held r new w a posture to value is on within whole =
    let there = at_is w r.pcc a on.suits on.tagged within in
    let small : a < 2 ^ 32 = (stays_at w r.pcc a on.suits on.tagged within).small in
    let at : cap_address new.pcc ≡ a = ap (λ (q : row.Thread). cap_address q.pcc) is ∙ ap (λ (d : Cap). cap_address d) (sym there) ∙ address_at r.pcc a small in
    record {
      on = turned_on r new w a posture to value is on within whole;
      held = subst (λ n. window_holds w n ≡ true) (sym at) within;
    }
