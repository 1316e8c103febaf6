use Rattle.std.proofs.Common.{refl, inl, inr}
use Rattle.ct_top.proofs.commands.check.Goals as goal

pub returns-in-Err : goal.returns-in-Err
returns-in-Err g c = inr (inr (record {
  name = c.args.policy.now;
  asked = refl;
  stop = c.in-Err.stop;
  why = c.in-Err.ensures.answer;
  refused = c.refuse_file.ensures;
}))

pub returns : goal.returns
returns g c = inr (inl (record {
  name = c.args.policy.now;
  asked = refl;
  bytes = c.in-Ok.text.items;
  given = c.in-Ok.ensures.answer;
  settles = rw c.as_slice.ensures.value at c.judge.ensures;
}))
