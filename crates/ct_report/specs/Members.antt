-- The members of an entry's object and of the report's, in the order in which the code adds them.
use Rattle.std.specs.Prelude.{ℕ, List, length, map, codes}
use Rattle.serde_json.specs.Data.{Members, no_members, put, string}
use Rattle.ct_entry.specs.Listed.{Listed}
use Rattle.def_image.specs.Parts.{PartsRow}
use Rattle.def_report.specs.Lines.{Line, num, posture_text, passes_text}
use Rattle.def_report.specs.Rights.{rights_text}
use Rattle.def_report.specs.Report.{list, device_data, compartment_data, library_data, thread_data, heap_data, edges_data, entries_data}

-- where an entry is, and its number
abbrev pub with_place : Line → Members → Members
with_place l more =
    put (codes "number") (num l.number)
    (put (codes "length") (num l.entry.length) (put (codes "base") (num l.entry.base) more))

-- what every entry has
abbrev pub with_plain : List ℕ → Line → Members → Members
with_plain kind l more =
    with_place l
    (put (codes "rights") (string (rights_text l.entry.rights))
    (put (codes "owner") (string l.label.owner) (put (codes "kind") (string kind) more)))

-- and a name
abbrev pub named_members : List ℕ → Line → Members
named_members kind l = put (codes "name") (string l.label.name) (with_plain kind l no_members)

-- and what a slot is of
abbrev pub slot_members : List ℕ → Line → Members
slot_members kind l = put (codes "of") (string l.label.of) (named_members kind l)

-- or an export's posture
abbrev pub export_members : Line → Members
export_members l =
    put (codes "posture") (string (posture_text l.label.export.posture))
    (named_members (codes "export") l)

-- what a call of an export takes, passes and needs
abbrev pub with_call : Line → Members → Members
with_call l more =
    put (codes "stack") (num l.label.export.stack)
    (put (codes "passes") (string (passes_text l.label.export.capabilities))
    (put (codes "args") (num l.label.export.args) more))

-- ---- the report's

-- the names of the compartments and of the libraries
abbrev pub with_owners : PartsRow → Members → Members
with_owners p more =
    put (codes "libraries") (list (map library_data p.libraries))
    (put (codes "compartments") (list (map compartment_data p.compartments)) more)

-- the firmware's name, its devices, its heap and its quantum
abbrev pub with_firmware : PartsRow → Members → Members
with_firmware p more =
    put (codes "quantum") (num p.quantum)
    (put (codes "heap") (heap_data p)
    (put (codes "devices") (list (map device_data p.devices))
    (put (codes "firmware") (string p.name) more)))

-- the edges and the entries
abbrev pub with_access : PartsRow → Listed → Members → Members
with_access p e more =
    put (codes "entries") (entries_data p e)
    (put (codes "edges") (edges_data e (length p.compartments)) more)

-- the threads
abbrev pub with_threads : PartsRow → Members → Members
with_threads p more = put (codes "threads") (list (map (thread_data p) p.threads)) more
