-- What holds of whatever the switcher gives, whatever is told.
use Rattle.std.proofs.Common.{ℕ, ◌≡◌, true, Option}
use Rattle.ct_entry.specs.declared.acts.Deed.{Deed}
use Rattle.def_words.specs.declared.Cap.{Cap}
use Rattle.def_machine.specs.Image.{Image, handler_entry}
use Rattle.def_machine.specs.State.{State}
use Rattle.def_confined.specs.Made.{IsOwn, IsReturnSentry, IsStackUpTo}
use Rattle.def_safety.specs.Gives.{IsGivenOwn, code, back, globals, Gives, to_callee, stack, to_handler}

-- what holds of each kind of what the switcher gives: a compartment's own code or globals, the return sentry, a thread's stack up to
-- an address
pub record GivenKinds (i : Image) (C : Cap → Type 0) : Type 0 where
  pub own : (a : ℕ) (d : Cap) → (d.tag ≡ true → IsOwn i a d) → C d
  pub back : (d : Cap) → (d.tag ≡ true → IsReturnSentry i d) → C d
  pub stack : (t high : ℕ) (d : Cap) → (d.tag ≡ true → IsStackUpTo i t high d) → C d

own_given : (i : Image) (C : Cap → Type 0) → GivenKinds i C → (a export : ℕ) (d : Cap) → IsGivenOwn i a export d → C d
own_given i C k a export d (code is own) = k.own a d own
own_given i C k a export d (back is sentry) = k.back d sentry
own_given i C k a export d (globals is own) = k.own a d own

pub kinds_given : (i : Image) (C : Cap → Type 0) (s : State) (t : ℕ) → GivenKinds i C → (o : Option Deed) (d : Cap) → Gives i s t o d → C d
kinds_given i C s t k o d (to_callee a export tells own) = own_given i C k a export d own
kinds_given i C s t k o d (stack a export high tells below is up) = k.stack t high d up
kinds_given i C s t k o d (to_handler f fs tells own) = own_given i C k f.actor (handler_entry i f.actor) d own
