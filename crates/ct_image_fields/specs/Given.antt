-- What a reader answers: what reading gives, unless memory is wanted.
use Rattle.std.specs.Prelude.{◌≡◌, Option, Some, None, Result, Ok, Err}
use Rattle.ct_image_fields.specs.declared.fault.Cut.{Cut}
use Rattle.ct_image_fields.specs.declared.fault.Cut.TheVariants.{Unspelled, NoMemory}

abbrev pub Fails : {Y : Type 0} → Cut → Option Y → Type 0
Fails NoMemory read = Unit {0}
Fails Unspelled read = read ≡ None

abbrev pub Gives : {X Y : Type 0} → (X → Y) → Result X Cut → Option Y → Type 0
Gives view (Ok x) read = read ≡ Some (view x)
Gives view (Err e) read = Fails e read
