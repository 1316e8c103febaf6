-- Whether a path leads from an owner to a compartment.
use Rattle.std.specs.Prelude.{ℕ, ◌⊎◌, List}
use Rattle.ct_entry.specs.declared.rows.Owner.{Owner}
use Rattle.ct_entry.specs.Listed.{Listed}
use Rattle.def_reach.specs.Reach.{Reached}
use Rattle.def_reach.specs.Route.{IsPath}

-- the owner reaches the compartment by a path that comes before all others
pub record Leads (e : Listed) (o : Owner) (c : ℕ) : Type 0 where
  pub owners : List Owner
  pub reached : Reached e o c
  pub path : IsPath e o c owners

-- it leads there, or the owner doesn't reach the compartment
abbrev pub LeadsOrNot : Listed → Owner → ℕ → Type 0
LeadsOrNot e o c = Leads e o c ⊎ (Reached e o c → ⊥)
