-- Rulings as they are kept, and what is added to a text.
use Rattle.std.specs.Prelude.{ℕ, ◌≡◌, ◌≢◌, ◌<◌, ◌^◌, ◌++◌, List, length}
use Rattle.std.specs.List.{AllByRecursion}
use Rattle.ct_entry.specs.declared.rows.Owner.TheVariants.{Trusted}
use Rattle.def_policy.specs.declared.Subject.{Subject}
use Rattle.def_policy.specs.declared.Subject.TheVariants.{Apart}
use Rattle.def_policy.specs.Rulings.{Ruling}

-- an owner that is to be apart is a compartment or a library
abbrev pub IsUntrusted : Subject → Type 0
IsUntrusted (Apart o b) = o ≢ Trusted
IsUntrusted _ = Unit {0}

abbrev pub KeepsUntrusted : Ruling → Type 0
KeepsUntrusted r = IsUntrusted r.subject

pub record AreKept (rulings : List Ruling) : Type 0 where
  pub few : length rulings < 2 ^ 32
  pub untrusted : AllByRecursion KeepsUntrusted rulings

-- a piece of this kind was added
pub record Adds (P : List ℕ → Type 0) (old new : List ℕ) : Type 0 where
  pub piece : List ℕ
  pub is : P piece
  pub new_is : new ≡ old ++ piece
