-- The members of the description's objects, in the order in which the code adds them.
use Rattle.std.specs.Prelude.{ℕ, ◌+◌, Bool, List, [], ◌∷◌, codes}
use Rattle.serde_json.specs.Data.{Members, put, string}
use Rattle.def_gen.specs.declared.TheConstants.{QUANTUM, ARGUMENTS, EXPORT_STACK, PRIORITY, THREAD_STACK}
use Rattle.def_gen.specs.Description.{number_data, array_data, name_of_compartment, name_of_entry, code_object, export, import_objects, quota, port, ram, threads}

-- what every export has
abbrev pub with_export : Members → Members
with_export more =
    put (codes "stack") (number_data EXPORT_STACK)
    (put (codes "name") (string (codes "go"))
    (put (codes "at") (string (codes "go")) (put (codes "args") (number_data ARGUMENTS) more)))

-- what a compartment is
abbrev pub with_code : ℕ → ℕ → Members → Members
with_code globals i more =
    put (codes "name") (string (name_of_compartment i))
    (put (codes "globals") (number_data globals) (put (codes "code") (code_object i) more))

-- what it offers and what it may use
abbrev pub with_access : Bool → Bool → ℕ → Members → Members
with_access last passes i more =
    put (codes "quotas") (array_data (quota ∷ []))
    (put (codes "imports") (array_data (import_objects last i))
    (put (codes "exports") (array_data (export passes ∷ [])) more))

-- where a thread begins, and how many frames it has
abbrev pub with_entry : ℕ → Members → Members
with_entry count more = put (codes "frames") (number_data (count + 1)) (put (codes "entry") (string (name_of_entry 0)) more)

-- what it is called, and what it runs with
abbrev pub with_running : List ℕ → Members → Members
with_running name more =
    put (codes "stack") (number_data THREAD_STACK)
    (put (codes "priority") (number_data PRIORITY) (put (codes "name") (string name) more))

-- what the firmware runs on
abbrev pub with_board : Members → Members
with_board more = put (codes "ram") ram (put (codes "devices") (array_data (port ∷ [])) more)

-- what it is called, and what its threads are
abbrev pub with_threads : ℕ → Members → Members
with_threads count more =
    put (codes "threads") (array_data (threads count))
    (put (codes "quantum") (number_data QUANTUM) (put (codes "firmware") (string (codes "demo")) more))
