-- Files that are read one after another, each before the next is due.
use Rattle.std.specs.Prelude.{◌≡◌, ℕ, ◌⊎◌, List, [], ◌∷◌, ◌++◌, map, true, false}
use Rattle.std.specs.List.{AllByRecursion}
use Rattle.def_port.specs.Bytes.{FaultsRose}
use Rattle.def_port.specs.Told.{Told, Call, FolderView}
use Rattle.def_port.specs.Reads.{recorded}
use Rattle.def_program.specs.Calls.{IsFile, Exceeds, most}
use Rattle.def_program.specs.Answers.{Read, contents, read_calls}
use Rattle.ct_commands.specs.declared.files.Stop.{Stop}
use Rattle.ct_commands.specs.declared.files.Stop.TheVariants.{Unread, Large, NoMemory}
use denote.Bor.{Bor}

abbrev pub texts : List (Bor (List ℕ)) → List (List ℕ)
texts names = map (λ n. n.now) names

abbrev pub names_of : List Read → List (List ℕ)
names_of rs = map (λ (r : Read). r.name) rs

-- ---- one file

-- a file was given whole
pub record WasGiven (name : List ℕ) (before after : FolderView) (bytes : List ℕ) : Type 0 where
  pub file : IsFile (before.file name) bytes
  pub call : after.calls ≡ recorded before.calls name most false
  pub same : after.faults ≡ before.faults

-- a file gave more than is taken
pub record WasLarge (name : List ℕ) (before after : FolderView) : Type 0 where
  pub large : Exceeds (before.file name)
  pub call : after.calls ≡ recorded before.calls name most false
  pub same : after.faults ≡ before.faults

-- a file couldn't be read
pub record WasRefused (name : List ℕ) (before after : FolderView) : Type 0 where
  pub call : after.calls ≡ recorded before.calls name most true
  pub rose : FaultsRose before.faults after.faults

-- memory was wanted, and the file wasn't read
pub record WasUnasked (before after : FolderView) : Type 0 where
  pub call : after.calls ≡ before.calls
  pub same : after.faults ≡ before.faults

-- why a file isn't given
abbrev pub NotGiven : List ℕ → FolderView → FolderView → Stop → Type 0
NotGiven name before after (Unread n) = (n.now ≡ name) × WasRefused name before after
NotGiven name before after (Large n) = (n.now ≡ name) × WasLarge name before after
NotGiven name before after NoMemory = WasUnasked before after

-- ---- several

-- of these names some stand for files that were given whole, one after another, and these are left
pub record Front (told : List ℕ → Told) (names : List (List ℕ)) (before after : List Call)
    (done : List Read) (left : List (List ℕ)) : Type 0 where
  pub whole : names_of done ++ left ≡ names
  pub files : AllByRecursion (λ (r : Read). IsFile (told r.name) r.bytes) done
  pub calls : after ≡ before ++ read_calls done

-- all of them were given whole
pub record AllGiven (names : List (List ℕ)) (before after : FolderView) (bytes : List (List ℕ))
    : Type 0 where
  pub done : List Read
  pub front : Front before.file names before.calls after.calls done []
  pub given : contents done ≡ bytes
  pub same : after.faults ≡ before.faults

-- a folder that told the same and counted as many faults, after some calls more
abbrev pub after_calls : FolderView → List Call → FolderView
after_calls f calls = record f { calls = calls }

-- the first that is left isn't given
pub record NextStops (left : List (List ℕ)) (before after : FolderView) (stop : Stop)
    : Type 0 where
  pub name : List ℕ
  pub rest : List (List ℕ)
  pub next : left ≡ name ∷ rest
  pub why : NotGiven name before after stop

-- memory was wanted between two files
pub record WantsBetween (before after : FolderView) (stop : Stop) : Type 0 where
  pub is : stop ≡ NoMemory
  pub wanted : WasUnasked before after

-- some were given, and then one wasn't, or memory was wanted
pub record SomeGiven (names : List (List ℕ)) (before after : FolderView) (stop : Stop)
    : Type 0 where
  pub done : List Read
  pub left : List (List ℕ)
  pub calls : List Call
  pub front : Front before.file names before.calls calls done left
  pub stopped : NextStops left (after_calls before calls) after stop
      ⊎ WantsBetween (after_calls before calls) after stop
