-- What a call of the program reads, writes and answers.
use Rattle.std.specs.Prelude.{◌≡◌, ℕ, List, [], ◌∷◌, ◌++◌, map, take, Bool, true, false, Some, None, slice_get}
use Rattle.def_port.specs.Bytes.{FaultsRose, Appends, AppendsPart}
use Rattle.def_port.specs.Told.{Call}
use Rattle.def_program.specs.Calls.{CallRecord, IsFile, Exceeds, most}
use Rattle.def_program.specs.declared.Status.{Status}
use Rattle.def_program.specs.declared.Status.TheVariants as status
use Rattle.def_program.specs.Commands.{Command, command_form}
use Rattle.def_program.specs.Lines.{usage_line, read_line, large_line}
use Rattle.def_program.specs.Turns.{Turn, Asks, Follows}
use Rattle.def_program.specs.Turns as turn

-- ---- what was read

-- a file that was given whole
pub record Read : Type 0 where
  pub name : List ℕ
  pub bytes : List ℕ

abbrev pub contents : List Read → List (List ℕ)
contents rs = map (λ (r : Read). r.bytes) rs

-- a call that asks for a file of the most bytes that one may have
abbrev pub asking : List ℕ → Bool → Call
asking name failed = record { name = name; limit = most; failed = failed }

abbrev pub read_call : Read → Call
read_call r = asking r.name false

abbrev pub read_calls : List Read → List Call
read_calls rs = map read_call rs

-- each of these files was due when it was read, and was given whole
pub record WasDue (e : CallRecord) (c : Command) (rs : List Read) (k : ℕ) (r : Read) : Type 0 where
  pub asked : Follows c (contents (take k rs)) (Asks r.name)
  pub file : IsFile (e.folder.file r.name) r.bytes

abbrev pub WereDue : CallRecord → Command → List Read → Type 0
WereDue e c rs = (k : ℕ) (r : Read) → slice_get rs k ≡ Some r → WasDue e c rs k r

-- the files of a command that were given whole, with nothing else read and no fault
pub record AllRead (e : CallRecord) (c : Command) (rs : List Read) : Type 0 where
  pub due : WereDue e c rs
  pub calls : e.folder_after.calls ≡ e.folder.calls ++ read_calls rs
  pub same : e.folder_after.faults ≡ e.folder.faults

-- after these files this one was due, and was read or refused
pub record LastRead (e : CallRecord) (c : Command) (rs : List Read) (name : List ℕ) : Type 0 where
  pub due : WereDue e c rs
  pub asked : Follows c (contents rs) (Asks name)

-- the calls with a last one
abbrev pub calls_to : List Read → Call → List Call
calls_to rs c = read_calls rs ++ c ∷ []

-- ---- causes: what a status rests on, and the text that is due

pub record UsageCause (e : CallRecord) (text : List ℕ) : Type 0 where
  pub form : command_form e.words ≡ None
  pub calls : e.folder_after.calls ≡ e.folder.calls
  pub same : e.folder_after.faults ≡ e.folder.faults
  pub due : text ≡ usage_line

pub record ReadCause (e : CallRecord) (text : List ℕ) : Type 0 where
  pub command : Command
  pub form : command_form e.words ≡ Some command
  pub reads : List Read
  pub name : List ℕ
  pub last : LastRead e command reads name
  pub calls : e.folder_after.calls ≡ e.folder.calls ++ calls_to reads (asking name true)
  pub rose : FaultsRose e.folder.faults e.folder_after.faults
  pub due : text ≡ read_line name

pub record LargeCause (e : CallRecord) (text : List ℕ) : Type 0 where
  pub command : Command
  pub form : command_form e.words ≡ Some command
  pub reads : List Read
  pub name : List ℕ
  pub last : LastRead e command reads name
  pub calls : e.folder_after.calls ≡ e.folder.calls ++ calls_to reads (asking name false)
  pub same : e.folder_after.faults ≡ e.folder.faults
  pub large : Exceeds (e.folder.file name)
  pub due : text ≡ large_line name

-- the last turn of the dialogue
pub record TurnCause (e : CallRecord) (s : Status) (text : List ℕ) : Type 0 where
  pub command : Command
  pub form : command_form e.words ≡ Some command
  pub reads : List Read
  pub read : AllRead e command reads
  pub due : Follows command (contents reads) (turn.Ends s text)

-- No text is due with a failed write or with want of memory: their answers stand below.
abbrev pub Cause : CallRecord → Status → List ℕ → Type 0
Cause e status.Done text = TurnCause e status.Done text
Cause e status.Usage text = UsageCause e text
Cause e status.ReadFault text = ReadCause e text
Cause e status.TooLarge text = LargeCause e text
Cause e status.Description text = TurnCause e status.Description text
Cause e status.Assembly text = TurnCause e status.Assembly text
Cause e status.Link text = TurnCause e status.Link text
Cause e status.Image text = TurnCause e status.Image text
Cause e status.Script text = TurnCause e status.Script text
Cause e status.WriteFault text = ⊥
Cause e status.NoMemory text = ⊥
Cause e status.Name text = TurnCause e status.Name text
Cause e status.Denied text = TurnCause e status.Denied text
Cause e status.Policy text = TurnCause e status.Policy text

-- ---- answers

-- the whole text was written, and no write failed
pub record Whole (e : CallRecord) (s : Status) : Type 0 where
  pub text : List ℕ
  pub cause : Cause e s text
  pub written : Appends e.sink.bytes e.sink_after.bytes text
  pub same : e.sink_after.faults ≡ e.sink.faults

-- a write failed: a prefix of what was due was written
pub record WriteBroke (e : CallRecord) : Type 0 where
  pub status : Status
  pub text : List ℕ
  pub cause : Cause e status text
  pub written : AppendsPart e.sink.bytes e.sink_after.bytes text
  pub rose : FaultsRose e.sink.faults e.sink_after.faults

-- memory was wanted: the words are a form, nothing is written, and no read failed
pub record WantsMemory (e : CallRecord) : Type 0 where
  pub command : Command
  pub form : command_form e.words ≡ Some command
  pub reads : List Read
  pub due : WereDue e command reads
  pub calls : e.folder_after.calls ≡ e.folder.calls ++ read_calls reads
  pub written : e.sink_after.bytes ≡ e.sink.bytes
  pub read_same : e.folder_after.faults ≡ e.folder.faults
  pub write_same : e.sink_after.faults ≡ e.sink.faults

abbrev pub Answers : CallRecord → Status → Type 0
Answers e status.WriteFault = WriteBroke e
Answers e status.NoMemory = WantsMemory e
Answers e s = Whole e s
