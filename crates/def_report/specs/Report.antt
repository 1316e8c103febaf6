-- The report of an image as a JSON value, and its line.
use Rattle.std.specs.Prelude.{ℕ, ◌+◌, ◌-◌, List, [], ◌∷◌, ◌++◌, length, map, codes}
use Rattle.serde_json.specs.Data.{Data, string, array, object, no_members, member}
use Rattle.serde_json.specs.View.{items_of}
use Rattle.serde_json.specs.Written.{compact_text}
use Rattle.ct_entry.specs.DeviceKinds.{kind_text}
use Rattle.ct_entry.specs.Listed.{DeviceRow, Listed}
use Rattle.def_image.specs.Parts.{CodeRow, CompartmentRow, ThreadRow, PartsRow}
use Rattle.def_image.specs.Members.{gate_number}
use Rattle.def_boot.specs.Gates.{entries_of}
use Rattle.def_report.specs.Edges.{edges}
use Rattle.def_report.specs.Labels.{labels_of}
use Rattle.def_report.specs.Lines.{num, numbered_entries}

abbrev pub list : List Data → Data
list ds = array (items_of ds)

abbrev pub device_data : DeviceRow → Data
device_data x = object
    (member (codes "base") (num x.base)
    (member (codes "kind") (string (kind_text x.kind))
    (member (codes "name") (string x.name) no_members)))

abbrev pub compartment_data : CompartmentRow → Data
compartment_data c = string c.code.name

abbrev pub library_data : CodeRow → Data
library_data c = string c.name

-- an edge by the indexes of its ends
abbrev pub edge_data : ℕ × ℕ → Data
edge_data x = list (num x.0 ∷ num x.1 ∷ [])

-- a thread by the number of the export that it enters
abbrev pub thread_data : PartsRow → ThreadRow → Data
thread_data p t = object
    (member (codes "entry") (num (gate_number p t.compartment t.export))
    (member (codes "name") (string t.name)
    (member (codes "priority") (num t.priority) no_members)))

-- the heap is the rest of RAM from its base on
abbrev pub heap_data : PartsRow → Data
heap_data p = object
    (member (codes "base") (num p.heap)
    (member (codes "length") (num (p.ram + p.size - p.heap)) no_members))

abbrev pub edges_data : Listed → ℕ → Data
edges_data e n = list (map edge_data (edges e n))

abbrev pub entries_data : PartsRow → Listed → Data
entries_data p e = list (numbered_entries 1 e.rows (labels_of p))

-- over the image's parts and a list of entries
unfoldable pub data_over : PartsRow → Listed → Data
data_over p e = object
    (member (codes "compartments") (list (map compartment_data p.compartments))
    (member (codes "devices") (list (map device_data p.devices))
    (member (codes "edges") (edges_data e (length p.compartments))
    (member (codes "entries") (entries_data p e)
    (member (codes "firmware") (string p.name)
    (member (codes "heap") (heap_data p)
    (member (codes "libraries") (list (map library_data p.libraries))
    (member (codes "quantum") (num p.quantum)
    (member (codes "threads") (list (map (thread_data p) p.threads)) no_members)))))))))

-- the entries are the image's own
unfoldable pub report_data : PartsRow → Data
report_data p = data_over p (entries_of p)

-- the report line: the value's compact text, and a line feed
unfoldable pub report_line : PartsRow → List ℕ
report_line p = compact_text (report_data p) ++ 10 ∷ []
