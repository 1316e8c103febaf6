-- What a word of code says, and the slots that hold it.
use Rattle.std.specs.Prelude.{ℕ, ◌≡◌, ◌<◌, ◌/◌, ◌%◌, List, unwrap_or, length, slice_index_or}
use Rattle.def_instr.specs.declared.Instr.{Instr}
use Rattle.def_instr.specs.declared.Instr.TheVariants.{Ebreak}
use Rattle.def_instr.specs.Reading.{instruction_in}
use Rattle.def_step.specs.declared.Operands.{Operands}
use Rattle.def_step.specs.Operands.{operands_of}
use Rattle.ct_decode.specs.declared.reading.Reading.{Reading}
use Rattle.ct_decode.specs.declared.decoded.TheConstants.{SLOTS}

-- the instruction that a word says; a word that is no instruction's reads as the breakpoint
abbrev pub read_as : ℕ → Instr
read_as word = unwrap_or (instruction_in word) Ebreak

abbrev pub reading_of : ℕ → Reading
reading_of word = record { word = word; instruction = read_as word; room = 0 }

-- each is a register's number
pub record AreRegisters (o : Operands) : Type 0 where
  pub to : o.to < 16
  pub first : o.first < 16
  pub second : o.second < 16

-- the slot of an address
abbrev pub slot_at : ℕ → ℕ
slot_at at = at / 4 % SLOTS

-- what stands in a slot is what its word says
pub record IsRead (r : Reading) : Type 0 where
  pub is : r ≡ reading_of r.word
  pub registers : AreRegisters (operands_of r.instruction)

pub record AreRead (rows : List Reading) : Type 0 where
  pub size : length rows ≡ SLOTS
  pub each : (k : ℕ) → IsRead (slice_index_or rows k (reading_of 0))
