-- The line that is found, of the image's own parts.
use Rattle.std.proofs.Common.{◌≡◌, ℕ, List, Option, Some, refl, subst}
use Rattle.ct_entry.specs.declared.rows.Owner.{Owner}
use Rattle.def_image.specs.Accepted.{IsFaultless}
use Rattle.def_image.specs.Parts.{PartsRow}
use Rattle.def_image.specs.Sound.{AreFew}
use Rattle.def_program.specs.Paths.{IsWhyLine, compartment_named, owner_named}
use Rattle.law_image.proofs.Sounds.{sound}
use Rattle.ct_commands.specs.Found.{IsFound}

pub are_few : (p q : PartsRow) → q ≡ p → IsFaultless p → AreFew q
are_few p q same f = rw same (sound p f).few

found_by : (p : PartsRow) (o : Option Owner) (c : Option ℕ) (from : Owner) (to : ℕ) (text : List ℕ) → Some from ≡ o → Some to ≡ c → IsWhyLine p from to text → IsFound p o c (Some text)
found_by p o c from to text is there line =
    subst (λ x. IsFound p x c (Some text)) is (subst (λ y. IsFound p (Some from) y (Some text)) there (text, refl, line))

pub found : (p q : PartsRow) (owner compartment : List ℕ) (from : Owner) (to : ℕ) (text : List ℕ) → q ≡ p
    → Some from ≡ owner_named q owner → Some to ≡ compartment_named q compartment → IsWhyLine q from to text
    → IsFound p (owner_named p owner) (compartment_named p compartment) (Some text)
found p q owner compartment from to text same is there line =
    subst (λ r. IsFound r (owner_named r owner) (compartment_named r compartment) (Some text)) same
    (found_by q (owner_named q owner) (compartment_named q compartment) from to text is there line)
