-- What the bytes of a statement say: words, lowest byte first, each of which decodes to one instruction.
use Rattle.std.specs.Prelude.{ℕ, ◌≡◌, Bool, true, false, List, [], ◌∷◌, ◌++◌, Some}
use Rattle.def_instr.specs.declared.Instr.{Instr}
use Rattle.def_instr.specs.Reading.{instruction_in}
use Rattle.def_source.specs.Source.{Name, Statements}
use Rattle.def_source.specs.declared.parts.Part.{Part}
use Rattle.def_source.specs.declared.parts.Part.TheVariants as part
use Rattle.def_object.specs.declared.Place.{Place}
use Rattle.def_object.specs.Object.{Labels, word_bytes, instructions_at, bytes_at, offset, place_after}

-- the bytes are the words of these instructions in order, and each word decodes to its instruction
abbrev pub Decodes : List Instr → List ℕ → Type 0
Decodes [] bytes = bytes ≡ []
Decodes (i ∷ is) bytes =
    (w : ℕ)
    × ((rest : List ℕ)
    × ((bytes ≡ word_bytes w ++ rest) × (instruction_in w ≡ Some i) × Decodes is rest))

-- a statement that is an instruction or a pseudo instruction: no label, no section, no plain bytes
abbrev pub is_instruction : Part Name → Bool
is_instruction (part.Label name) = false
is_instruction part.Text = false
is_instruction part.Data = false
is_instruction (part.Word number) = false
is_instruction (part.Byte number) = false
is_instruction (part.Zero number) = false
is_instruction (part.Align number) = false
is_instruction _ = true

abbrev pub Says : Labels → List Name → ℕ → Part Name → Type 0
Says labels slots at q =
    is_instruction q ≡ true
    → Decodes (instructions_at labels slots at q) (bytes_at labels slots at q)

-- each statement from a place on
abbrev pub AllSay : Labels → List Name → Place → Statements → Type 0
AllSay labels slots p [] = Unit {0}
AllSay labels slots p (s ∷ ss) =
    Says labels slots (offset p) s.part × AllSay labels slots (place_after p s.part) ss
