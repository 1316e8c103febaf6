-- What events tell is licensed, each deed and each span with interrupts off.
use Rattle.std.specs.Prelude.{◌≡◌, List, [], ◌∷◌, Option, Some}
use Rattle.ct_entry.specs.declared.acts.Deed.{Deed}
use Rattle.ct_entry.specs.declared.acts.Owned.{Owned}
use Rattle.ct_entry.specs.declared.acts.Happened.{Happened}
use Rattle.ct_entry.specs.Listed.{Listed}
use Rattle.def_confined.specs.Licensed.{Licensed, OffLicensed}

pub record IsLicensedEvent (e : Listed) (h : Happened) : Type 0 where
  pub deed : (d : Deed) → h.deed ≡ Some d → Licensed e d
  pub off : (o : Owned) → h.off ≡ Some o → OffLicensed e o

abbrev pub AllLicensed : Listed → List Happened → Type 0
AllLicensed e [] = Unit {0}
AllLicensed e (h ∷ hs) = IsLicensedEvent e h × AllLicensed e hs
