-- A run that a command asks for is safe, since it is a list of events from a sound image's boot.
use Rattle.std.proofs.Common.{ℕ, List, take}
use Rattle.def_boot.specs.Boot.{booted_machine}
use Rattle.def_image.specs.Parts.{PartsRow}
use Rattle.def_image.specs.Sound.{Sound}
use Rattle.def_program.specs.Commands.{Command, Audit, Image, Run, RunImage, Why, Upgrade, Check, Demo}
use Rattle.def_program.specs.declared.TheConstants.{DEMO_STEPS}
use Rattle.def_program.specs.Runs.{events_until}
use Rattle.def_step.specs.declared.Event.{Event}
use Rattle.law_accepted.proofs.Running as running
use Rattle.def_program.specs.Safe.{IsSafeRun, IsSafeCommand, RunsSafely}

pub safe : (p : PartsRow) (es : List Event) → Sound p → IsSafeRun p es
safe p es f = record {
  events = running.upheld p es f;
  exact = running.exact p es f;
  integrity = running.integrity p es f;
  homes = running.homes p es f;
  stay = running.stay p es f;
  locals = λ n. running.locals p (take n es) f;
  unused = λ before fs rest freed n base long live is tells frees.
      running.unused p f before fs freed n base long live tells frees;
  swept = λ before fs rest freed made n base long live number from size left is tells frees told allocates meets.
      running.swept p before fs freed n base long live made number from size left f tells frees told allocates meets;
  quotas = λ n q. running.quotas p (take n es) q f;
}

runs : (p : PartsRow) (limit : ℕ) → Sound p → RunsSafely p limit
runs p limit f = λ script. safe p (events_until (booted_machine p) script p.quantum limit) f

pub command_safe : (c : Command) (p : PartsRow) → Sound p → IsSafeCommand c p
command_safe (Audit name) p f = tt
command_safe (Image name) p f = tt
command_safe (Run name limit script) p f = runs p limit f
command_safe (RunImage name limit script) p f = runs p limit f
command_safe (Why name owner compartment) p f = tt
command_safe (Upgrade name) p f = tt
command_safe (Check name policy) p f = tt
command_safe (Demo number) p f = runs p DEMO_STEPS f
