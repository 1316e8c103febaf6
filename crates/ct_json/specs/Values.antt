-- What contracts see of a value of a JSON text, and of what stands in a list or an object.
use Rattle.std.specs.Prelude.{ℕ, List, map}
use Rattle.std.specs.Borrow.{Bor}
use Rattle.serde_json.specs.Data.{Data}
use Rattle.def_desc.specs.Members.{list_of}
use Rattle.ct_json.specs.Rows.{row, value_of, items_of, pairs_of}
use Rattle.ct_json.specs.declared.read.Document.{Document}
use Rattle.ct_json.specs.declared.value.Json.{Json}
use Rattle.ct_json.specs.declared.value.Items.{Items}
use Rattle.ct_json.specs.declared.value.Keys.{Keys}
use Rattle.ct_json.specs.declared.value.Pairs.{Pairs}

-- the value that a text is
abbrev pub document_data : Document → Data
document_data d = value_of (map row d.nodes.items)

-- the value that a list of nodes begins with
abbrev pub data_of : Json → Data
data_of j = value_of (map row j.nodes.now)

-- the items that are still to come
abbrev pub items_left : Items → List Data
items_left it = list_of (items_of it.left (map row it.nodes.now))

-- a key and its value
abbrev pub pair_of : Bor (List ℕ) × Json → List ℕ × Data
pair_of p = (p.0.now, data_of p.1)

-- the members that are still to come, each with its key, in the order of the text
abbrev pub members_left : Pairs → List (List ℕ × Data)
members_left it = pairs_of it.left (map row it.nodes.now)

-- the keys that are still to come, in the order of the text
abbrev pub keys_left : Keys → List (List ℕ)
keys_left it = map (λ p. p.0) (members_left it.pairs)
