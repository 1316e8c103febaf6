-- Descriptions as values, and alterations of them.
use Rattle.std.specs.Prelude.{ℕ, List, [], ◌∷◌, codes, bytes_eq, if◌then◌else◌}
use Rattle.serde_json.specs.Data.{Data, number, string, array, object, unsigned, Items, no_items, item, Members, no_members, member}
use Rattle.def_desc.specs.declared.faults.Fault.{Fault}
use Rattle.def_desc.specs.declared.faults.PartWord.{PartWord}
use Rattle.def_desc.specs.Walk.{place}
use Rattle.def_desc.specs.WellFormed.{fault}

-- the fault of this number at this place
abbrev pub at : ℕ → PartWord → ℕ → ℕ → Fault
at n word i j = fault n (place word i j)

abbrev pub items : List Data → Items
items [] = no_items
items (d ∷ ds) = item d (items ds)

abbrev pub all : List Data → Data
all ds = array (items ds)

abbrev pub num : ℕ → Data
num n = number (unsigned n)

-- an object with one more member
abbrev pub with : Data → List ℕ → Data → Data
with (object ms) key d = object (member key d ms)
with d key e = d

abbrev pub without_in : List ℕ → Members → Members
without_in key no_members = no_members
without_in key (member k d ms) =
    if bytes_eq k key then without_in key ms else member k d (without_in key ms)

-- an object with another value of a member
abbrev pub altered : Data → List ℕ → Data → Data
altered (object ms) key d = object (member key d (without_in key ms))
altered d key e = d

abbrev pub empty : Data
empty = object no_members

abbrev pub ram : Data
ram = with (with empty (codes "size") (num 4096)) (codes "base") (num 2147483648)

abbrev pub uart : Data
uart =
    with
    (with (with empty (codes "name") (string (codes "uart0"))) (codes "kind")
    (string (codes "uart")))
    (codes "base") (num 268435456)

abbrev pub words : Data
words =
    with empty (codes "words") (all (string (codes "00000297") ∷ string (codes "ff82b283") ∷ []))

abbrev pub import : Data
import =
    with
    (with (with empty (codes "as") (string (codes "uart"))) (codes "device")
    (string (codes "uart0")))
    (codes "rights") (string (codes "W"))

abbrev pub export : Data
export = with (with empty (codes "name") (string (codes "main"))) (codes "at") (num 0)

abbrev pub app : Data
app = with (with (with (with empty (codes "name") (string (codes "app"))) (codes "code") words)
    (codes "imports") (all (import ∷ []))) (codes "exports") (all (export ∷ []))

abbrev pub thread : Data
thread =
    with
    (with (with (with (with empty (codes "name") (string (codes "t"))) (codes "entry") (string (codes "app.main")))
    (codes "priority") (num 1)) (codes "stack") (num 256)) (codes "frames") (num 2)

-- one device, one compartment that may write to it, one thread
abbrev pub tiny : Data
tiny =
    with
    (with (with (with (with empty (codes "firmware") (string (codes "tiny"))) (codes "ram") ram)
    (codes "devices") (all (uart ∷ []))) (codes "compartments") (all
    (app ∷ []))) (codes "threads") (all (thread
    ∷ []))

-- the same with another compartment
abbrev pub tiny_of : Data → Data
tiny_of c = altered tiny (codes "compartments") (all (c ∷ []))

-- ---- parts that something is wrong with

abbrev pub text : List ℕ → Data
text name = string name

-- the import of a service
abbrev pub service_of : List ℕ → Data
service_of name = with (with empty (codes "as") (text (codes "s"))) (codes "service") (text name)

abbrev pub tiny_importing : Data → Data
tiny_importing x = tiny_of (altered app (codes "imports") (all (x ∷ [])))

abbrev pub tiny_on : List Data → Data
tiny_on devices = altered tiny (codes "devices") (all devices)

abbrev pub tiny_in : Data → Data
tiny_in r = altered tiny (codes "ram") r

abbrev pub tiny_run_by : Data → Data
tiny_run_by t = altered tiny (codes "threads") (all (t ∷ []))

-- ---- an application, a driver, a library and two threads

abbrev pub file : List ℕ → Data
file name = with empty (codes "file") (text name)

abbrev pub import_of : List ℕ → List ℕ → List ℕ → Data
import_of alias form name = with (with empty (codes "as") (text alias)) form (text name)

abbrev pub quota : Data
quota = with (with empty (codes "name") (text (codes "q"))) (codes "limit") (num 64)

abbrev pub export_of : List ℕ → Data
export_of name = with (with empty (codes "name") (text name)) (codes "at") (text name)

abbrev pub application : Data
application =
    with
    (with (with (with (with empty (codes "name") (text (codes "app"))) (codes "code") (file (codes "app.s")))
    (codes "imports") (all (import_of (codes "digit") (codes "library") (codes "hex.digit")
    ∷ import_of (codes "put") (codes "call") (codes "driver.put")
    ∷ import_of (codes "allocate") (codes "service") (codes "allocate") ∷ [])))
    (codes "quotas") (all (quota ∷ []))) (codes "exports") (all (export_of (codes "main") ∷ []))

abbrev pub put : Data
put =
    with (with (export_of (codes "put")) (codes "args") (num 1)) (codes "passes")
    (text (codes "data"))

abbrev pub driver : Data
driver =
    with
    (with (with (with empty (codes "name") (text (codes "driver"))) (codes "code") (file (codes "driver.s")))
    (codes "imports") (all (import ∷ []))) (codes "exports") (all (put ∷ []))

abbrev pub hex : Data
hex =
    with
    (with (with empty (codes "name") (text (codes "hex"))) (codes "code") (file (codes "hex.s")))
    (codes "exports") (all (export_of (codes "digit") ∷ []))

abbrev pub board : Data
board =
    with
    (with (with (with (with (with (with empty (codes "firmware") (text (codes "board"))) (codes "ram") ram) (codes "quantum") (num 20))
    (codes "devices") (all (uart ∷ []))) (codes "compartments") (all
    (application ∷ driver ∷ []))) (codes "libraries") (all (hex
    ∷ [])))
    (codes "threads") (all (thread ∷ altered thread (codes "name") (text (codes "u")) ∷ []))
