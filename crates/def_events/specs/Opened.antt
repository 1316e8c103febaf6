-- Where a value comes from that stands anywhere after an event, and who opened it, if it is a token without its seal.
use Rattle.std.specs.Prelude.{ℕ, ◌≡◌}
use Rattle.def_words.specs.declared.Cap.{Cap}
use Rattle.def_machine.specs.Platform.{Platform}
use Rattle.def_machine.specs.Heap.{object_cap}
use Rattle.def_machine.specs.State.{State, Object, thread, register}
use Rattle.def_step.specs.declared.Event.{Event}
use Rattle.def_step.specs.declared.Event.TheVariants.{Step}
use Rattle.def_step.specs.Events.{happens}
use Rattle.def_step.specs.Tokens.{opened_token, sealed_token}
use Rattle.def_safety.specs.Each.{ready}
use Rattle.def_safety.specs.Opening.{HoldsBoth, MayOpen}
use Rattle.def_safety.specs.Comes.{Derives, IsNew}

-- Thread t is about to run token_open, and its c1 leads back. Its c10 is a key and its c11, of which P holds, a token of
-- it: d is that token without its seal.
pub record IsOpenedBy (b : Platform) (P : Cap → Type 0) (s : State) (t : ℕ) (d : Cap) : Type 0 where
  pub may : MayOpen b s t
  pub key : Object
  pub token : Object
  pub holds : HoldsBoth s t key token
  pub stood : P (register (thread s t) 11)
  pub answer : d ≡ opened_token (register (thread s t) 11)

-- As Comes of def_safety says it, but a token is opened by a step alone, which carries out token_open and is given the
-- token with its key.
pub data ComesOpened (b : Platform) (P : Cap → Type 0) (s : State) (e : Event) (d : Cap) : Type 0 where
  derived : Derives b P s e d → ComesOpened b P s e d
  object : (r : Object) → IsNew s (happens b s e).0 r → d ≡ object_cap r → ComesOpened b P s e d
  sealed : (r : Object) → IsNew s (happens b s e).0 r → d ≡ sealed_token r → ComesOpened b P s e d
  token : e ≡ Step → (t : ℕ) → IsOpenedBy b P (ready b s) t d → ComesOpened b P s e d
