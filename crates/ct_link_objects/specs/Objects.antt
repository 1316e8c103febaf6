-- What the objects of a description's compartments and libraries stand for, as def_link has it.
use Rattle.std.specs.Prelude.{ℕ, ◌≡◌, ◌+◌, ◌<◌, ◌^◌, ⊤, List, [], ◌∷◌, length, Option, Some, None, Result, Ok, Err}
use Rattle.std.specs.List.{AllByRecursion}
use Rattle.ct_entry.specs.declared.rows.Owner.{Owner}
use Rattle.ct_entry.specs.declared.rows.Owner.TheVariants.{Compartment, Library}
use Rattle.def_link.specs.declared.LinkFault.{LinkFault}
use Rattle.def_link.specs.declared.LinkFault.TheVariants as fault
use Rattle.def_desc.specs.Lawful.{AreNames, IsLawful}
use Rattle.def_desc.specs.Rows.{DescRow}
use Rattle.def_link.specs.Owners.{Unit as OwnerUnit, Built, compartment_unit, library_unit, units_of}
use Rattle.ct_link_objects.specs.declared.owners.OwnerRow.{OwnerRow}
use Rattle.ct_link_objects.specs.declared.owners.OwnerRow.TheVariants as row
use Rattle.ct_asm.specs.Labels.{Assembled, label_named}

-- ---- sources

-- how many codes of these owners are files
abbrev pub file_of : Option (List ℕ) → ℕ
file_of None = 0
file_of (Some name) = 1

abbrev pub files_of : List OwnerUnit → ℕ
files_of [] = 0
files_of (u ∷ us) = file_of u.code.file + files_of us

-- one text for each code that is a file, and each of a length that 32 bits can count
pub record AreSourced (d : DescRow) (sources : List (List ℕ)) : Type 0 where
  pub each : length sources ≡ files_of (units_of d)
  pub short : AllByRecursion (λ (t : List ℕ). length t < 2 ^ 32) sources

pub record IsLinkable (d : DescRow) (sources : List (List ℕ)) : Type 0 where
  pub lawful : IsLawful d
  pub sourced : AreSourced d sources

-- the index of an owner within its kind
abbrev pub index_of : Owner → ℕ
index_of (Compartment i) = i
index_of (Library i) = i
index_of _ = 0

-- what an owner's object asks of it: names that stand once, and numbers of 32 bits
pub record IsCounted (u : OwnerUnit) : Type 0 where
  pub index : index_of u.owner < 2 ^ 32
  pub slots : AreNames u.slots
  pub exports : length u.exports < 2 ^ 32

-- what a row stands for, as def_link has it
abbrev pub unit_of : OwnerRow → OwnerUnit
unit_of (row.Compartment i c) = compartment_unit i c.now
unit_of (row.Library i l) = library_unit i l.now

-- ---- objects

-- what an object holds, as what stands for an owner's code
abbrev pub built_of : Assembled → Built
built_of o = record {
  text = o.text;
  initial = o.init;
  labels = λ name. label_named name o.labels;
}

-- the object holds what was built: its text, initial bytes and labels
pub record HoldsBuilt (b : Built) (o : Assembled) : Type 0 where
  pub text : o.text ≡ b.text
  pub initial : o.init ≡ b.initial
  pub labels : (name : List ℕ) → label_named name o.labels ≡ b.labels name

abbrev pub AllHold : List Built → List Assembled → Type 0
AllHold [] [] = ⊤
AllHold (b ∷ bs) (o ∷ os) = HoldsBuilt b o × AllHold bs os
AllHold _ _ = ⊥

-- ---- answers

-- the object holds what is to be built
pub record IsBuilt (wanted : Result Built LinkFault) (o : Assembled) : Type 0 where
  pub built : Built
  pub is : wanted ≡ Ok built
  pub held : HoldsBuilt built o

pub record AreBuilt (wanted : Result (List Built) LinkFault) (os : List Assembled) : Type 0 where
  pub built : List Built
  pub is : wanted ≡ Ok built
  pub held : AllHold built os

-- want of memory comes of nothing; another fault is the one that the definition gives
abbrev pub RefusesLink : {A : Type 0} → Result A LinkFault → LinkFault → Type 0
RefusesLink wanted fault.NoMemory = ⊤
RefusesLink wanted e = wanted ≡ Err e
