-- What differs in shadows alone: in the root and source of capabilities, and in the source of a posture.
use Rattle.std.specs.Prelude.{ℕ, ◌≡◌, List, [], ◌∷◌, Result, Ok, Err}
use Rattle.ct_entry.specs.declared.acts.Act.{Act}
use Rattle.def_words.specs.declared.Cap.{Cap}
use Rattle.def_words.specs.declared.Posture.{Posture}
use Rattle.def_words.specs.declared.Trap.{Trap}
use Rattle.def_memory.specs.declared.Granule.{Granule}
use Rattle.def_step.specs.Accesses.{MemoryAndDevices}
use Rattle.def_step.specs.Instructions.{Context, Effect}

-- the same tag and the same word
pub record Alike (c d : Cap) : Type 0 where
  pub tag_is : c.tag ≡ d.tag
  pub word_is : c.word ≡ d.word

-- interrupts are off in both or on in both, whatever turned them off
abbrev pub PosturesAlike : Posture → Posture → Type 0
PosturesAlike p q = p.off ≡ q.off

pub record GranulesAlike (g h : Granule) : Type 0 where
  pub cap : Alike g.cap h.cap
  pub mark_is : g.mark ≡ h.mark

-- memory, granule by granule
abbrev pub AllAlike : List Granule → List Granule → Type 0
AllAlike [] [] = Unit {0}
AllAlike (g ∷ gs) (h ∷ hs) = GranulesAlike g h × AllAlike gs hs
AllAlike [] (h ∷ hs) = ⊥
AllAlike (g ∷ gs) [] = ⊥

-- RAM, with the same devices at the same time
pub record SpacesAlike (p q : MemoryAndDevices) : Type 0 where
  pub ram_is : p.ram ≡ q.ram
  pub granules : AllAlike p.granules q.granules
  pub bank_is : p.bank ≡ q.bank
  pub time_is : p.time ≡ q.time

-- what an instruction works on beside its operands
pub record AroundsAlike (a b : Context) : Type 0 where
  pub pcc : Alike a.pcc b.pcc
  pub posture : PosturesAlike a.posture b.posture
  pub space : SpacesAlike a.space b.space

-- what an instruction leaves: the same register gets a value, RAM and devices change, a device is reached
pub record DonesAlike (d e : Effect) : Type 0 where
  pub to_is : d.to ≡ e.to
  pub value : Alike d.value e.value
  pub pcc : Alike d.pcc e.pcc
  pub posture : PosturesAlike d.posture e.posture
  pub granules : AllAlike d.granules e.granules
  pub bank_is : d.bank ≡ e.bank
  pub act_is : d.act ≡ e.act

-- the same trap, or what is alike
abbrev pub ResultsAlike : Result Effect Trap → Result Effect Trap → Type 0
ResultsAlike (Ok d) (Ok e) = DonesAlike d e
ResultsAlike (Err why) (Err other) = why ≡ other
ResultsAlike (Ok d) (Err other) = ⊥
ResultsAlike (Err why) (Ok e) = ⊥
