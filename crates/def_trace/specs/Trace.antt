-- The lines of a run: one for each deed, one for each span with interrupts off that begins, and the
-- summary. Numbers are decimal; addresses and values have a fixed number of hexadecimal digits.
use Rattle.std.specs.Prelude.{ℕ, zero, suc, ◌+◌, ◌*◌, ◌/◌, ◌%◌, min, nat_lt, List, [], ◌∷◌, ◌++◌, codes, decimal, Option, Some, None, if◌then◌else◌}
use Rattle.ct_entry.specs.declared.acts.Act.{Act}
use Rattle.ct_entry.specs.declared.acts.Act.TheVariants.{Call, Load, Store, Allocate, Free, Trap}
use Rattle.ct_entry.specs.declared.acts.Deed.{Deed}
use Rattle.ct_entry.specs.declared.acts.Owned.{Owned}
use Rattle.ct_entry.specs.declared.acts.Happened.{Happened}
use Rattle.ct_entry.specs.declared.acts.End.{End}
use Rattle.ct_entry.specs.declared.acts.End.TheVariants.{Limit, Finished, Idle}
use Rattle.ct_entry.specs.declared.acts.Totals.{Totals}

-- ---- numbers

-- a digit of base 16, in lower case
abbrev pub hexadecimal_digit : ℕ → ℕ
hexadecimal_digit d = if nat_lt d 10 then 48 + d else 87 + d

-- a number as so many digits of base 16, the greatest first
abbrev pub hexadecimal : ℕ → ℕ → List ℕ
hexadecimal zero n = []
hexadecimal (suc k) n = hexadecimal k (n / 16) ++ hexadecimal_digit (n % 16) ∷ []

-- a value has twice as many digits as its width in bytes, and a width is at most 8
abbrev pub value_digits : ℕ → ℕ
value_digits width = 2 * min width 8

-- a number after a word
abbrev pub word_then_number : List ℕ → ℕ → List ℕ
word_then_number word n = word ++ decimal n

-- an address after a space
abbrev pub after_space : ℕ → ℕ → List ℕ
after_space digits n = 32 ∷ hexadecimal digits n

-- ---- deeds

-- the step and the thread after the deed's word, then the actor
abbrev pub who : ℕ → List ℕ → ℕ → ℕ → List ℕ
who step word thread actor = decimal step ++ (word_then_number word thread ++ word_then_number (codes " c") actor)

-- who, and by which entry
abbrev pub by_entry : ℕ → List ℕ → Deed → List ℕ
by_entry step word d = who step word d.thread d.actor ++ word_then_number (codes " e") d.entry

-- an access of a device
abbrev pub access_text : ℕ → ℕ → ℕ → List ℕ
access_text address width value =
    after_space 8 address ++ (word_then_number (codes " ") width ++ after_space (value_digits width) value)

-- an object of the heap, and the quota's charges after the deed
abbrev pub sizes_text : ℕ → ℕ → List ℕ
sizes_text length live = word_then_number (codes " ") length ++ word_then_number (codes " ") live

abbrev pub object_text : ℕ → ℕ → ℕ → ℕ → List ℕ
object_text number base length live =
    word_then_number (codes " n") number ++ (after_space 8 base ++ sizes_text length live)

abbrev pub trap_text : ℕ → ℕ → ℕ → List ℕ
trap_text cause code register =
    word_then_number (codes " ") cause ++ (word_then_number (codes " ") code ++ word_then_number (codes " ") register)

abbrev pub act_text : ℕ → Deed → Act → List ℕ
act_text step d (Call export) = by_entry step (codes " call t") d ++ word_then_number (codes " e") export
act_text step d (Load address width value) =
    by_entry step (codes " load t") d ++ access_text address width value
act_text step d (Store address width value) =
    by_entry step (codes " store t") d ++ access_text address width value
act_text step d (Allocate number base length live) =
    by_entry step (codes " allocate t") d ++ object_text number base length live
act_text step d (Free number base length live) =
    by_entry step (codes " free t") d ++ object_text number base length live
act_text step d (Trap cause code register) =
    who step (codes " trap t") d.thread d.actor ++ trap_text cause code register

unfoldable pub deed_line : ℕ → Deed → List ℕ
deed_line step d = act_text step d d.act ++ 10 ∷ []

-- the begin of a span with interrupts off, by an export
unfoldable pub off_line : ℕ → Owned → List ℕ
off_line step o =
    (who step (codes " off t") o.thread o.actor ++ word_then_number (codes " e") o.export) ++ 10 ∷ []

abbrev pub deed_part : ℕ → Option Deed → List ℕ
deed_part step None = []
deed_part step (Some d) = deed_line step d

abbrev pub off_part : ℕ → Option Owned → List ℕ
off_part step None = []
off_part step (Some o) = off_line step o

-- what a step did, in no line, one or two
unfoldable pub trace_line : ℕ → Happened → List ℕ
trace_line step h = deed_part step h.deed ++ off_part step h.off

-- ---- the summary

abbrev pub end_text : End → List ℕ
end_text Limit = codes "end limit steps "
end_text Finished = codes "end finished steps "
end_text Idle = codes "end idle steps "

abbrev pub events_text : Totals → List ℕ
events_text t = word_then_number (end_text t.end) t.steps ++ word_then_number (codes " ticks ") t.ticks

abbrev pub rest_text : Totals → List ℕ
rest_text t =
    word_then_number (codes " allocations ") t.allocations
    ++ (word_then_number (codes " frees ") t.frees ++ word_then_number (codes " traps ") t.traps)

abbrev pub deeds_text : Totals → List ℕ
deeds_text t =
    word_then_number (codes " calls ") t.calls ++ (word_then_number (codes " devices ") t.devices ++ rest_text t)

unfoldable pub summary_line : Totals → List ℕ
summary_line t = (events_text t ++ deeds_text t) ++ 10 ∷ []
