-- The instructions of a statement: none, one or two.
use Rattle.std.specs.Prelude.{ℕ, ◌≡◌, ◌%◌, ◌^◌, Bool, true, false, List, [], ◌∷◌, None}
use Rattle.def_instr.specs.declared.Instr.{Instr}
use Rattle.def_instr.specs.Table.{InRange}
use Rattle.def_instr.specs.declared.shapes.Shape.{Shape}
use Rattle.def_instr.specs.declared.shapes.Shape.TheVariants as shapes
use Rattle.def_source.specs.Source.{Name}
use Rattle.def_source.specs.declared.parts.Part.{Part}
use Rattle.def_source.specs.declared.parts.Part.TheVariants as part
use Rattle.def_object.specs.Object.{Labels, number_word, reference_fault}
use Rattle.ct_asm.specs.declared.instructions.Emitted.{Emitted}
use Rattle.ct_asm.specs.declared.instructions.Emitted.TheVariants.{Nothing, One, Two}

abbrev pub instructions_in : Emitted → List Instr
instructions_in Nothing = []
instructions_in (One i) = i ∷ []
instructions_in (Two i j) = i ∷ j ∷ []

-- each holds what its fields may hold
abbrev pub AreInRange : List Instr → Type 0
AreInRange [] = Unit {0}
AreInRange (i ∷ is) = InRange i × AreInRange is

-- the labels that a statement refers to are there, in its reach
abbrev pub IsFound : Labels → ℕ → Part Name → Type 0
IsFound labels at (part.Label name) = Unit {0}
IsFound labels at q = reference_fault labels 0 at q ≡ None

-- the statements whose shape is their operands', and that shape
abbrev pub is_plain : Part Name → Bool
is_plain (part.Registers operation rd rs1 rs2) = true
is_plain (part.Immediate operation rd rs1 number) = true
is_plain (part.Upper operation rd number) = true
is_plain (part.Load operation rd number rs1) = true
is_plain (part.Store operation rs2 number rs1) = true
is_plain _ = false

abbrev pub plain_shape : Part Name → Shape
plain_shape (part.Registers operation rd rs1 rs2) = shapes.Registers operation rd rs1 rs2
plain_shape (part.Immediate operation rd rs1 number) =
    shapes.Immediate operation rd rs1 (number_word number)
plain_shape (part.Upper operation rd number) =
    shapes.Upper operation rd (number_word number % 2 ^ 20)
plain_shape (part.Load operation rd number rs1) = shapes.Load operation rd rs1 (number_word number)
plain_shape (part.Store operation rs2 number rs1) =
    shapes.Store operation rs1 rs2 (number_word number)
plain_shape _ = shapes.Call
