-- What the whole reader's answer says of the bytes.
use Rattle.std.proofs.Common.{ℕ, ◌≡◌, List, Some, None, Result, Ok, Err, refl, sym, ◌∙◌}
use Rattle.std.specs.Prelude.{IfOk, IsErrOf}
use Rattle.def_image.specs.Raw.{RawImage}
use Rattle.def_image.specs.Accepted.{Spells}
use Rattle.ct_image_fields.specs.declared.fault.Cut.{Cut}
use Rattle.ct_image_fields.specs.declared.fault.Cut.TheVariants.{Unspelled, NoMemory}
use Rattle.ct_image_fields.specs.Given.{Gives}
use Rattle.ct_image_fields.specs.Reading.{all_of}
use Rattle.ct_image_fields.proofs.Exact.{IsBytes}
use Rattle.ct_image_fields.proofs.Whole.{all_take, all_again}

pub is_found : (bytes : List ℕ) (r : Result RawImage Cut) → IsBytes bytes → Gives (λ x. x) r (all_of bytes) → IfOk r (λ x. Spells x bytes)
is_found bytes (Ok x) fits given = all_take bytes x fits given
is_found bytes (Err e) fits given = tt

pub is_unspelled : (bytes : List ℕ) (r : Result RawImage Cut) → Gives (λ x. x) r (all_of bytes) → IsErrOf r Unspelled → (q : RawImage) → Spells q bytes → ⊥
is_unspelled bytes (Ok x) given is q spells = absurd (let no : Ok x ≡ Err Unspelled = is in cc)
is_unspelled bytes (Err Unspelled) given is q spells = absurd (let no : None ≡ Some q = sym given ∙ all_again bytes q spells in cc)
is_unspelled bytes (Err NoMemory) given is q spells = absurd (let no : Err NoMemory ≡ Err Unspelled = is in cc)

pub is_only : (bytes : List ℕ) (r : Result RawImage Cut) → Gives (λ x. x) r (all_of bytes) → (q : RawImage) → Spells q bytes → IfOk r (λ x. x ≡ q)
is_only bytes (Ok x) given q spells = let same : Some x ≡ Some q = sym given ∙ all_again bytes q spells in cc
is_only bytes (Err e) given q spells = tt
