-- What a text that ends a call did to the sink, and the status that it ends with.
use Rattle.std.specs.Prelude.{◌≡◌, ℕ, List, ◌⊎◌}
use Rattle.def_port.specs.Bytes.{SinkView}
use Rattle.def_port.specs.Writes.{Writes, WriteFails}
use Rattle.def_program.specs.declared.Status.{Status}
use Rattle.def_program.specs.declared.Status.TheVariants as status

-- a text was written and the call ends with a status, or a write failed
abbrev pub Closes : SinkView → SinkView → List ℕ → Status → Status → Type 0
Closes before after text due result =
    ((result ≡ due) × Writes before after text)
    ⊎ ((result ≡ status.WriteFault) × WriteFails before after text)

-- memory was wanted, and nothing was written
pub record WroteNothing (before after : SinkView) (result : Status) : Type 0 where
  pub is : result ≡ status.NoMemory
  pub written : after.bytes ≡ before.bytes
  pub same : after.faults ≡ before.faults
