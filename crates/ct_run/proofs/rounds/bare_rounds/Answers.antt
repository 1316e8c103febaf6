use Rattle.ct_run.proofs.Onward.{bare_from, most_bare}
use Rattle.ct_run.proofs.rounds.bare_rounds.Goals as goal

pub returns-in-Some : goal.returns-in-Some
returns-in-Some c =
    rw c.in-Some.is
    (bare_from c.in-Some.script.now c.args.left c.args.limit c.args.done c.min-most.result c.bare_steps.result c.requires.some c.requires.more
    c.min-most.ensures c.bare_steps.ensures.most c.bare_steps.ensures.none)

pub returns-in-None : goal.returns-in-None
returns-in-None c = rw c.in-None.is (most_bare _ _ _ _ c.requires.some c.requires.more c.min-most.ensures)
