-- How a jump went.
use Rattle.std.proofs.Common.{ℕ, ◌≡◌, Bool, true, false, refl, sym, subst, if◌then◌else◌}
use Rattle.def_instr.specs.declared.Instr.{Instr}
use Rattle.def_words.specs.declared.Cap.{Cap}
use Rattle.ct_areas.specs.declared.thread.Thread as row
use Rattle.ct_threads.specs.declared.window.Window.{Window}
use Rattle.ct_threads.specs.Rows.{row_gone}
use Rattle.ct_burst.specs.declared.going.Quietly.{Quietly}
use Rattle.ct_burst.specs.declared.going.Quietly.TheVariants.{Led, Loud, Turned, Went}
use Rattle.ct_burst.specs.Carrying.{CarriesAlone, IsBeside, IsHeld, IsPast, CarriedAlone}

pub beside_gone : (r new : row.Thread) (pcc : Cap) (to : ℕ) (value : Cap) → new ≡ row_gone r pcc r.posture to value → IsBeside r new
beside_gone r new pcc to value is = subst (λ (q : row.Thread). IsBeside r q) (sym is) refl

turned_so : (r : row.Thread) (w : Window) (i : Instr) (gone : Bool) (new : row.Thread) → (gone ≡ true → CarriesAlone r i new) → (gone ≡ false → new ≡ r) → IsBeside r new
    → CarriedAlone r w i (if gone then Turned else Loud) new
turned_so r w i true new carries same beside = record {
  carries = λ told. carries refl;
  same = λ left. absurd (cc);
  beside = beside;
  past = λ is. absurd (cc);
  led = λ is. absurd (cc);
}
turned_so r w i false new carries same beside = record {
  carries = λ told. absurd (cc);
  same = λ left. same refl;
  beside = beside;
  past = λ is. absurd (cc);
  led = λ is. absurd (cc);
}

-- what was carried out may have left the window
pub turned_jump : (r : row.Thread) (w : Window) (i : Instr) (gone : Bool) (how : Quietly) (new : row.Thread) → how ≡ (if gone then Turned else Loud) → (gone ≡ true → CarriesAlone r i new)
    → (gone ≡ false → new ≡ r) → IsBeside r new → CarriedAlone r w i how new
turned_jump r w i gone how new is carries same beside = subst (λ h. CarriedAlone r w i h new) (sym is) (turned_so r w i gone new carries same beside)

led_so : (r : row.Thread) (w : Window) (i : Instr) (inside : Bool) (new : row.Thread) → CarriesAlone r i new → IsBeside r new → (inside ≡ true → IsHeld new w) → CarriedAlone r w i (if inside then Led else Turned) new
led_so r w i true new carries beside held = record {
  carries = λ told. carries;
  same = λ left. absurd (cc);
  beside = beside;
  past = λ is. absurd (cc);
  led = λ is. held refl;
}
led_so r w i false new carries beside held = record {
  carries = λ told. carries;
  same = λ left. absurd (cc);
  beside = beside;
  past = λ is. absurd (cc);
  led = λ is. absurd (cc);
}

-- what leads elsewhere, inside the window or not
pub led_jump : (r : row.Thread) (w : Window) (i : Instr) (inside : Bool) (how : Quietly) (new : row.Thread) → how ≡ (if inside then Led else Turned) → CarriesAlone r i new → IsBeside r new → (inside ≡ true → IsHeld new w)
    → CarriedAlone r w i how new
led_jump r w i inside how new is carries beside held = subst (λ h. CarriedAlone r w i h new) (sym is) (led_so r w i inside new carries beside held)

-- what goes past
pub past_jump : (r : row.Thread) (w : Window) (i : Instr) (how : Quietly) (new : row.Thread) → how ≡ Went → CarriesAlone r i new → IsBeside r new → IsPast r new w → CarriedAlone r w i how new
past_jump r w i how new is carries beside past = subst (λ h. CarriedAlone r w i h new) (sym is) (record {
  carries = λ told. carries;
  same = λ left. absurd (cc);
  beside = beside;
  past = λ is. past;
  led = λ is. absurd (cc);
})
