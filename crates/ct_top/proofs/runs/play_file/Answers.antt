use Rattle.std.proofs.Common.{refl, inl, inr}
use Rattle.ct_top.proofs.runs.play_file.Goals as goal

pub play_text-requires-clause-text : goal.play_text-requires-clause-text
play_text-requires-clause-text g c = rw c.as_slice.ensures.value c.in-Ok.ensures.answer.file.size

pub returns-in-Err : goal.returns-in-Err
returns-in-Err g c = inr (inr (record {
  name = c.args.name.now;
  asked = refl;
  stop = c.in-Err.stop;
  why = c.in-Err.ensures.answer;
  refused = c.refuse_file.ensures;
}))

pub returns-in-Ok : goal.returns-in-Ok
returns-in-Ok g c = inr (inl (record {
  name = c.args.name.now;
  asked = refl;
  bytes = c.in-Ok.text.items;
  given = c.in-Ok.ensures.answer;
  settles = rw c.as_slice.ensures.value at c.play_text.ensures;
}))
