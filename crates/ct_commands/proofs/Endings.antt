-- From what was read and written to the answer of the call.
use Rattle.std.proofs.Common.{◌≡◌, ℕ, true, false, List, [], ◌∷◌, ◌++◌, Some, None, refl, sym, subst, inl, inr}
use Rattle.def_port.specs.Bytes.{FaultsRose, SinkView}
use Rattle.def_port.specs.Told.{FolderView}
use Rattle.def_program.specs.declared.Status.{Status}
use Rattle.def_program.specs.declared.Status.TheVariants as status
use Rattle.def_program.specs.Commands.{Command, command_form}
use Rattle.def_program.specs.Calls.{CallRecord, Exceeds}
use Rattle.def_program.specs.Lines.{usage_line, read_line, large_line}
use Rattle.def_program.specs.Turns.{Turn, Follows}
use Rattle.def_program.specs.Turns as turn
use Rattle.def_program.specs.Answers.{Answers, asking, Cause, TurnCause, Whole, Read, contents, read_calls, calls_to, WereDue, AllRead, LastRead}
use Rattle.ct_commands.specs.Closing.{Closes, WroteNothing}
use Rattle.ct_commands.specs.Ended.{EndsBy}
use Rattle.ct_commands.specs.Settled.{IsLast, Settles}

-- ---- statuses

-- a status that isn't WriteFault and isn't NoMemory answers where it is whole
abbrev Speaks : Status → Type 0
Speaks s = (e : CallRecord) → Whole e s → Answers e s

speaks : (s : Status) → IsLast s → Speaks s
speaks status.Done last = λ e w. w
speaks status.Usage last = elim last [ ]
speaks status.ReadFault last = elim last [ ]
speaks status.TooLarge last = elim last [ ]
speaks status.Description last = λ e w. w
speaks status.Assembly last = λ e w. w
speaks status.Link last = λ e w. w
speaks status.Image last = λ e w. w
speaks status.Script last = λ e w. w
speaks status.WriteFault last = elim last [ ]
speaks status.NoMemory last = elim last [ ]
speaks status.Name last = λ e w. w
speaks status.Denied last = λ e w. w
speaks status.Policy last = λ e w. w

caused : (e : CallRecord) (s : Status) (text : List ℕ) → IsLast s → TurnCause e s text → Cause e s text
caused e status.Done text last c = c
caused e status.Usage text last c = elim last [ ]
caused e status.ReadFault text last c = elim last [ ]
caused e status.TooLarge text last c = elim last [ ]
caused e status.Description text last c = c
caused e status.Assembly text last c = c
caused e status.Link text last c = c
caused e status.Image text last c = c
caused e status.Script text last c = c
caused e status.WriteFault text last c = elim last [ ]
caused e status.NoMemory text last c = elim last [ ]
caused e status.Name text last c = c
caused e status.Denied text last c = c
caused e status.Policy text last c = c

closed : (e : CallRecord) (s : Status) (text : List ℕ) (result : Status) → Speaks s → Cause e s text →
    Closes e.sink e.sink_after text s result → Answers e result
closed e s text result speaks cause (inl done) =
    subst (λ r. Answers e r) (sym done.0) (speaks e (record { text = text; cause = cause; written = done.1.added; same = done.1.same }))
closed e s text result speaks cause (inr broken) =
    subst (λ r. Answers e r) (sym broken.0) (record { status = s; text = text; cause = cause; written = broken.1.added; rose = broken.1.rose })

-- ---- the answers of a call

-- memory was wanted after these files
pub wanting : (e : CallRecord) (c : Command) (rs : List Read) (result : Status) → command_form e.words ≡ Some c → WereDue e c rs
    → e.folder_after.calls ≡ e.folder.calls ++ read_calls rs → e.folder_after.faults ≡ e.folder.faults
    → WroteNothing e.sink e.sink_after result → Answers e result
wanting e c rs result form due calls same silent =
    subst (λ r. Answers e r) (sym silent.is)
    (record { command = c; form = form; reads = rs; due = due; calls = calls; written = silent.written; read_same = same; write_same = silent.same })

-- after these files the last turn came
pub settled : (e : CallRecord) (c : Command) (rs : List Read) (result : Status) → command_form e.words ≡ Some c → AllRead e c rs
    → Settles (Follows c (contents rs)) e.sink e.sink_after result → Answers e result
settled e c rs result form read (inl s) =
    closed e s.status s.text result (speaks s.status s.last)
    (caused e s.status s.text s.last (record { command = c; form = form; reads = rs; read = read; due = s.due })) s.closes
settled e c rs result form read (inr silent) = wanting e c rs result form read.due read.calls read.same silent

-- after these files one couldn't be read
pub unread : (e : CallRecord) (c : Command) (rs : List Read) (name : List ℕ) (result : Status) → command_form e.words ≡ Some c → LastRead e c rs name
    → e.folder_after.calls ≡ e.folder.calls ++ calls_to rs (asking name true) → FaultsRose e.folder.faults e.folder_after.faults
    → Closes e.sink e.sink_after (read_line name) status.ReadFault result → Answers e result
unread e c rs name result form last calls rose closes = closed e status.ReadFault (read_line name) result (λ _ w. w)
    (record { command = c; form = form; reads = rs; name = name; last = last; calls = calls; rose = rose; due = refl }) closes

-- after these files one was too large
pub too_large : (e : CallRecord) (c : Command) (rs : List Read) (name : List ℕ) (result : Status) → command_form e.words ≡ Some c → LastRead e c rs name
    → e.folder_after.calls ≡ e.folder.calls ++ calls_to rs (asking name false) → e.folder_after.faults ≡ e.folder.faults → Exceeds (e.folder.file name)
    → Closes e.sink e.sink_after (large_line name) status.TooLarge result → Answers e result
too_large e c rs name result form last calls same large closes = closed e status.TooLarge (large_line name) result (λ _ w. w)
    (record { command = c; form = form; reads = rs; name = name; last = last; calls = calls; same = same; large = large; due = refl }) closes

pub misused : (e : CallRecord) (result : Status) → command_form e.words ≡ None → e.folder_after.calls ≡ e.folder.calls → e.folder_after.faults ≡ e.folder.faults
    → Closes e.sink e.sink_after usage_line status.Usage result → Answers e result
misused e result form calls same closes = closed e status.Usage usage_line result (λ _ w. w) (record { form = form; calls = calls; same = same; due = refl }) closes

-- ---- last turns

pub ends_with : (Due : Turn → Type 0) (s : Status) (text : List ℕ) (before after : SinkView) (result : Status)
    → IsLast s → Due (turn.Ends s text) → Closes before after text s result → Settles Due before after result
ends_with Due s text before after result last due closes =
    inl (record { status = s; text = text; last = last; due = due; closes = closes })

-- a turn that is due by one account is due by another
pub due_by : (Due Other : Turn → Type 0) (before after : SinkView) (result : Status) → ((t : Turn) → Due t → Other t)
    → Settles Due before after result → Settles Other before after result
due_by Due Other before after result then (inl s) =
    inl (record { status = s.status; text = s.text; last = s.last; due = then (turn.Ends s.status s.text) s.due; closes = s.closes })
due_by Due Other before after result then (inr silent) = inr silent

-- ---- ends after more files

pub at_once : (Due : List (List ℕ) → Turn → Type 0) (folder folder_after : FolderView) (sink sink_after : SinkView) (result : Status)
    → folder_after.calls ≡ folder.calls → folder_after.faults ≡ folder.faults
    → Settles (Due []) sink sink_after result → EndsBy Due folder folder_after sink sink_after result
at_once Due folder folder_after sink sink_after result calls same settles = inl (record { calls = calls; same = same; settles = settles })

pub ends_by : (Due Other : List (List ℕ) → Turn → Type 0) (folder folder_after : FolderView) (sink sink_after : SinkView) (result : Status)
    → ((more : List (List ℕ)) (t : Turn) → Due more t → Other more t)
    → EndsBy Due folder folder_after sink sink_after result → EndsBy Other folder folder_after sink sink_after result
ends_by Due Other folder folder_after sink sink_after result then (inl x) = inl (record {
  calls = x.calls;
  same = x.same;
  settles = due_by (Due []) (Other []) sink sink_after result (then []) x.settles;
})
ends_by Due Other folder folder_after sink sink_after result then (inr (inl x)) = inr (inl (record {
  name = x.name;
  asked = then [] (turn.Asks x.name) x.asked;
  bytes = x.bytes;
  given = x.given;
  settles = due_by (Due (x.bytes ∷ [])) (Other (x.bytes ∷ [])) sink sink_after result (then (x.bytes ∷ [])) x.settles;
}))
ends_by Due Other folder folder_after sink sink_after result then (inr (inr x)) =
    inr (inr (record { name = x.name; asked = then [] (turn.Asks x.name) x.asked; stop = x.stop; why = x.why; refused = x.refused }))
