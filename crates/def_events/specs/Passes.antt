-- How values come from others: what holds of those that stand before an event, and what of those that it leaves.
use Rattle.std.specs.Prelude.{◌≡◌, true, false}
use Rattle.def_words.specs.declared.Cap.{Cap}
use Rattle.def_words.specs.declared.Posture.{Posture}
use Rattle.def_words.specs.Narrows.{IsOpened}
use Rattle.def_machine.specs.Image.{Image}
use Rattle.def_confined.specs.Confined.{IsPcc}
use Rattle.def_confined.specs.Made.{Links}
use Rattle.def_safety.specs.Results.{ResultOf}

-- what holds before holds after, and after also of what is untagged
pub record Widens (S C : Cap → Type 0) : Type 0 where
  pub none : (c : Cap) → c.tag ≡ false → C c
  pub stays : (c : Cap) → S c → C c

-- Of what stood before S holds, of what the running thread has at hand R, of what leads it on K, of its program
-- counter under its posture L; and so C of whatever comes of it: as it is or untagged; a result of an operation;
-- opened by a jump or a return; the link of a program counter.
pub record Passes (i : Image) (S R K : Cap → Type 0) (L : Cap → Posture → Type 0)
    (C : Cap → Type 0) : Type 0 where
  pub widens : Widens S C
  pub result : (c d : Cap) → ResultOf c d → R c → C d
  pub opened : (c d : Cap) → (d.tag ≡ true → IsOpened c d) → K c → C d
  pub linked : (c d : Cap) (before : Posture) → (c.tag ≡ true → IsPcc i c) → Links c before d
      → L c before → C d

-- where one predicate is all that is asked of what stood before
abbrev pub PassesOn : Image → (Cap → Type 0) → (Cap → Type 0) → Type 0
PassesOn i S C = Passes i S S S (λ c before. S c) C
