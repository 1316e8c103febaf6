-- The rows that a description stands for. Texts are lists of bytes; addresses and sizes are bytes.
use Rattle.std.specs.Prelude.{ℕ, List, Option}
use Rattle.ct_entry.specs.Listed.{DeviceRow}
use Rattle.ct_entry.specs.declared.rows.Mode.{Mode}
use Rattle.def_desc.specs.declared.Ram.{Ram}
use Rattle.def_desc.specs.declared.tables.Form.{Form}
use Rattle.def_desc.specs.declared.tables.Passes.{Passes}

-- code: its words, or the name of the file that holds its source
pub record DescCode : Type 0 where
  pub words : List ℕ
  pub file : Option (List ℕ)

-- where an export begins: at a label, or at an offset in the text where there is none
pub record AtRow : Type 0 where
  pub label : Option (List ℕ)
  pub offset : ℕ

pub record DescShared : Type 0 where
  pub name : List ℕ
  pub size : ℕ

pub record DescSealed : Type 0 where
  pub name : List ℕ
  pub seal : ℕ
  pub bytes : List ℕ

-- an import of a compartment: the slot's name, and the members that stand in it
pub record ImportRow : Type 0 where
  pub alias : List ℕ
  pub device : Option (List ℕ)
  pub rights : Option (List ℕ)
  pub shared : Option (List ℕ)
  pub sealed : Option (List ℕ)
  pub call : Option (List ℕ)
  pub service : Option (List ℕ)
  pub library : Option (List ℕ)

pub record QuotaRow : Type 0 where
  pub name : List ℕ
  pub limit : ℕ

pub record ExportRow : Type 0 where
  pub name : List ℕ
  pub at : AtRow
  pub posture : Mode
  pub args : ℕ
  pub stack : ℕ
  pub passes : Passes

-- keys are the numbers of their types
pub record DescCompartment : Type 0 where
  pub name : List ℕ
  pub code : DescCode
  pub globals : ℕ
  pub imports : List ImportRow
  pub quotas : List QuotaRow
  pub keys : List ℕ
  pub exports : List ExportRow

pub record LimportRow : Type 0 where
  pub alias : List ℕ
  pub library : List ℕ

pub record LexportRow : Type 0 where
  pub name : List ℕ
  pub at : AtRow
  pub posture : Mode

pub record LibraryRow : Type 0 where
  pub name : List ℕ
  pub code : DescCode
  pub imports : List LimportRow
  pub exports : List LexportRow

pub record DescThread : Type 0 where
  pub name : List ℕ
  pub entry : List ℕ
  pub priority : ℕ
  pub stack : ℕ
  pub frames : ℕ

pub record DescRow : Type 0 where
  pub firmware : List ℕ
  pub version : ℕ
  pub sweep : ℕ
  pub ram : Ram
  pub quantum : ℕ
  pub devices : List DeviceRow
  pub shared : List DescShared
  pub sealed : List DescSealed
  pub compartments : List DescCompartment
  pub libraries : List LibraryRow
  pub threads : List DescThread

-- what an import names: by which member, and the text there
pub record Target : Type 0 where
  pub form : Form
  pub name : List ℕ
