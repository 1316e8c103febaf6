-- The name of an owner, as the image has it; the trusted code has none.
use Rattle.std.specs.Prelude.{ℕ, List, [], map, get_or}
use Rattle.ct_entry.specs.declared.rows.Owner.{Owner}
use Rattle.ct_entry.specs.declared.rows.Owner.TheVariants.{Compartment, Library, Thread, Trusted}
use Rattle.def_image.specs.Members.{compartment, library}
use Rattle.def_image.specs.Parts.{ThreadRow, PartsRow}

abbrev pub owner_name : PartsRow → Owner → List ℕ
owner_name p (Compartment b) = (compartment p b).code.name
owner_name p (Library l) = (library p l).name
owner_name p (Thread t) = get_or (map (λ (x : ThreadRow). x.name) p.threads) t []
owner_name p Trusted = []
