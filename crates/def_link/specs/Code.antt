-- What the code of a compartment or library of linked parts is built of.
use Rattle.std.specs.Prelude.{ℕ, suc, zero, ◌≡◌, ◌+◌, List, [], ◌∷◌, length, Ok}
use Rattle.def_image.specs.Parts.{CodeRow as CodePart, CompartmentRow as CompartmentPart}
use Rattle.def_desc.specs.Rows.{DescCompartment, LibraryRow, DescRow}
use Rattle.def_link.specs.Owners.{Unit as OwnerUnit, Built, compartment_unit, library_unit, units_of, unit_built, source_for, rest_of}
use Rattle.def_link.specs.Slots.{compartment_gate_rows, library_gate_rows}

-- the source of owner i: each code that is a file takes the next text
abbrev pub source_in : List OwnerUnit → List (List ℕ) → ℕ → List ℕ
source_in [] sources i = []
source_in (u ∷ us) sources zero = source_for u.code.file sources
source_in (u ∷ us) sources (suc i) = source_in us (rest_of u.code.file sources) i

-- its text, initial bytes and places of exports are what its row and source are built to
pub record CompartmentCode (d : DescRow) (sources : List (List ℕ)) (i : ℕ) (row : DescCompartment)
    (c : CompartmentPart) : Type 0 where
  pub built : Built
  pub is : unit_built (compartment_unit i row) (source_in (units_of d) sources i) ≡ Ok built
  pub text : c.code.text ≡ built.text
  pub initial : c.initial ≡ built.initial
  pub entry : ℕ
  pub exports : c.code.exports ≡ compartment_gate_rows built entry row

-- libraries come after the compartments
pub record LibraryCode (d : DescRow) (sources : List (List ℕ)) (i : ℕ) (row : LibraryRow)
    (c : CodePart) : Type 0 where
  pub built : Built
  pub is : unit_built (library_unit i row)
      (source_in (units_of d) sources (length d.compartments + i))
      ≡ Ok built
  pub text : c.text ≡ built.text
  pub entry : ℕ
  pub exports : c.exports ≡ library_gate_rows built entry row
