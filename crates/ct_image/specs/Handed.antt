-- What an image hands out without copying.
use Rattle.std.specs.Prelude.{ℕ, List, Option, None, option_map, slice_get}
use Rattle.ct_entry.specs.declared.rows.Owner.{Owner}
use Rattle.ct_entry.specs.declared.rows.Owner.TheVariants.{Compartment, Library}
use Rattle.def_image.specs.Parts.{CodeRow, CompartmentRow, PartsRow}

-- the text of an owner, where the image has it
abbrev pub text_in : PartsRow → Owner → Option (List ℕ)
text_in p (Compartment b) =
    option_map (λ (c : CompartmentRow). c.code.text) (slice_get p.compartments b)
text_in p (Library l) = option_map (λ (c : CodeRow). c.text) (slice_get p.libraries l)
text_in p _ = None

-- what a compartment's globals begin with
abbrev pub initial_in : PartsRow → ℕ → Option (List ℕ)
initial_in p b = option_map (λ (c : CompartmentRow). c.initial) (slice_get p.compartments b)
