-- The refusal of a file that isn't given.
use Rattle.def_port.specs.Bytes.{SinkView}
use Rattle.def_program.specs.declared.Status.{Status}
use Rattle.def_program.specs.declared.Status.TheVariants.{ReadFault, TooLarge}
use Rattle.def_program.specs.Lines.{read_line, large_line}
use Rattle.ct_commands.specs.declared.files.Stop.{Stop}
use Rattle.ct_commands.specs.declared.files.Stop.TheVariants.{Unread, Large, NoMemory}
use Rattle.ct_commands.specs.Closing.{Closes, WroteNothing}

-- its line was written; where memory was wanted nothing was
abbrev pub RefusesFile : Stop → SinkView → SinkView → Status → Type 0
RefusesFile (Unread name) before after result =
    Closes before after (read_line name.now) ReadFault result
RefusesFile (Large name) before after result =
    Closes before after (large_line name.now) TooLarge result
RefusesFile NoMemory before after result = WroteNothing before after result
