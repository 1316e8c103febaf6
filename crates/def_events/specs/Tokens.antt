-- *Token law*, of one event.
use Rattle.std.specs.Prelude.{ℕ}
use Rattle.def_machine.specs.Platform.{Platform}
use Rattle.def_machine.specs.State.{State}
use Rattle.def_machine.specs.Objects.{Any}
use Rattle.def_machine.specs.Rows.{RowsFit}
use Rattle.def_step.specs.declared.Event.{Event}
use Rattle.def_step.specs.Events.{happens}
use Rattle.def_safety.specs.Opening.{FindsSealed, OpensTokens, StaysShut}
use Rattle.def_safety.specs.Tokened.{IsKeyRow, Tokened}
use Rattle.def_safety.specs.Each.{ready}

-- After it each row of a key or a token is of a live object, and no two are of one; what is sealed as a token is of a whole
-- object. token_open gives a token without its seal exactly where its caller holds the token and its key; by nothing else
-- does anybody come to hold an object that was shut; and a key stays a key.
pub record KeepsTokens (b : Platform) (s : State) (e : Event) : Type 0 where
  pub rows : RowsFit (happens b s e).0.objects (happens b s e).0.tokens
  pub tokened : Tokened b.image (happens b s e).0
  pub found : FindsSealed (ready b s)
  pub opens : OpensTokens b s
  pub shut : StaysShut b s e
  pub keys : (n : ℕ) → Any (IsKeyRow n) s.tokens → Any (IsKeyRow n) (happens b s e).0.tokens
