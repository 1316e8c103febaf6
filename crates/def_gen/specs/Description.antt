-- The description of the generated firmware as a JSON value, and its text. Members stand in the order of
-- their names' bytes; a member that has its default is left out.
use Rattle.std.specs.Prelude.{ℕ, ◌+◌, Bool, true, false, List, [], ◌∷◌, ◌++◌, map, codes, decimal, if◌then◌else◌}
use Rattle.std.specs.List.{range_with_len}
use Rattle.serde_json.specs.Data.{Data, number, unsigned, string, array, object, no_members, member}
use Rattle.serde_json.specs.View.{items_of}
use Rattle.serde_json.specs.Written.{compact_text}
use Rattle.def_gen.specs.declared.TheConstants.{RAM_BASE, RAM_SIZE, QUANTUM, PORT_BASE, QUOTA, ARGUMENTS, EXPORT_STACK, PRIORITY, THREAD_STACK}
use Rattle.def_gen.specs.Numbers.{count_of, chosen, globals_of, passes_data, is_last}

abbrev pub number_data : ℕ → Data
number_data n = number (unsigned n)

abbrev pub array_data : List Data → Data
array_data ds = array (items_of ds)

-- ---- names

-- of compartment i
abbrev pub name_of_compartment : ℕ → List ℕ
name_of_compartment i = codes "n" ++ decimal i

-- of its source
abbrev pub file_name : ℕ → List ℕ
file_name i = name_of_compartment i ++ codes ".s"

-- of its export
abbrev pub name_of_entry : ℕ → List ℕ
name_of_entry i = name_of_compartment i ++ codes ".go"

-- ---- compartments

abbrev pub port_import : Data
port_import = object
    (member (codes "as") (string (codes "uart"))
    (member (codes "device") (string (codes "uart0"))
    (member (codes "rights") (string (codes "W")) no_members)))

-- of a service by its own name
abbrev pub service_import : List ℕ → Data
service_import name = object
    (member (codes "as") (string name)
    (member (codes "service") (string name) no_members))

-- of the next compartment's export
abbrev pub next_import : ℕ → Data
next_import i = object
    (member (codes "as") (string (codes "next"))
    (member (codes "call") (string (name_of_entry (i + 1))) no_members))

-- the last one calls none
abbrev pub next_imports : Bool → ℕ → List Data
next_imports last i = if last then [] else next_import i ∷ []

abbrev pub import_objects : Bool → ℕ → List Data
import_objects last i =
    port_import ∷ service_import (codes "allocate") ∷ service_import (codes "free")
    ∷ next_imports last i

abbrev pub quota : Data
quota = object
    (member (codes "limit") (number_data QUOTA)
    (member (codes "name") (string (codes "q")) no_members))

abbrev pub data_export : Data
data_export = object
    (member (codes "args") (number_data ARGUMENTS)
    (member (codes "at") (string (codes "go"))
    (member (codes "name") (string (codes "go"))
    (member (codes "passes") (string (codes "data"))
    (member (codes "stack") (number_data EXPORT_STACK) no_members)))))

abbrev pub capability_export : Data
capability_export = object
    (member (codes "args") (number_data ARGUMENTS)
    (member (codes "at") (string (codes "go"))
    (member (codes "name") (string (codes "go"))
    (member (codes "stack") (number_data EXPORT_STACK) no_members))))

abbrev pub export : Bool → Data
export passes = if passes then data_export else capability_export

abbrev pub code_object : ℕ → Data
code_object i = object (member (codes "file") (string (file_name i)) no_members)

-- compartment i, which is the last one or not, and whose calls pass data alone or not
abbrev pub compartment_with : Bool → Bool → ℕ → ℕ → Data
compartment_with last passes globals i = object
    (member (codes "code") (code_object i)
    (member (codes "exports") (array_data (export passes ∷ []))
    (member (codes "globals") (number_data globals)
    (member (codes "imports") (array_data (import_objects last i))
    (member (codes "name") (string (name_of_compartment i))
    (member (codes "quotas") (array_data (quota ∷ [])) no_members))))))

-- compartment i of so many, by its number y
abbrev pub compartment_by : ℕ → ℕ → ℕ → Data
compartment_by count y i = compartment_with (is_last count i) (passes_data y) (globals_of y) i

abbrev pub compartment_object : ℕ → ℕ → Data
compartment_object seed i = compartment_by (count_of seed) (chosen seed i) i

unfoldable pub compartments : ℕ → List Data
compartments seed = map (compartment_object seed) (range_with_len 0 (count_of seed))

-- ---- the firmware

abbrev pub port : Data
port = object
    (member (codes "base") (number_data PORT_BASE)
    (member (codes "kind") (string (codes "uart"))
    (member (codes "name") (string (codes "uart0")) no_members)))

abbrev pub ram : Data
ram = object
    (member (codes "base") (number_data RAM_BASE)
    (member (codes "size") (number_data RAM_SIZE) no_members))

-- a thread enters the first compartment, and has a frame for each and one more
abbrev pub thread_json : ℕ → List ℕ → Data
thread_json count name = object
    (member (codes "entry") (string (name_of_entry 0))
    (member (codes "frames") (number_data (count + 1))
    (member (codes "name") (string name)
    (member (codes "priority") (number_data PRIORITY)
    (member (codes "stack") (number_data THREAD_STACK) no_members)))))

abbrev pub threads : ℕ → List Data
threads count = thread_json count (codes "a") ∷ thread_json count (codes "b") ∷ []

-- of so many compartments, over their list
abbrev pub firmware_over : ℕ → Data → Data
firmware_over count owners = object
    (member (codes "compartments") owners
    (member (codes "devices") (array_data (port ∷ []))
    (member (codes "firmware") (string (codes "demo"))
    (member (codes "quantum") (number_data QUANTUM)
    (member (codes "ram") ram
    (member (codes "threads") (array_data (threads count)) no_members))))))

-- the firmware that is generated from a number
unfoldable pub firmware : ℕ → Data
firmware seed = firmware_over (count_of seed) (array_data (compartments seed))

-- its description: the value's compact text
unfoldable pub description : ℕ → List ℕ
description seed = compact_text (firmware seed)
