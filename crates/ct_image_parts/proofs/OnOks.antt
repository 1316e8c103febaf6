-- What follows where a call succeeds.
use Rattle.std.proofs.Common.{◌≡◌, ◌++◌, append_assoc, List, ℕ, Result, Ok, Err}
use Rattle.std.specs.Prelude.{OnOk}

pub on_ok : {T E : Type 0} (r : Result T E) {P Q : Type 0} → (P → Q) → OnOk r P → OnOk r Q
on_ok (Ok x) f p = f p
on_ok (Err e) f p = tt

-- five texts at the end of another, one after the other
pub five : (front a b c d e : List ℕ) → ((((front ++ a) ++ b) ++ c) ++ d) ++ e ≡ front ++ (a ++ b ++ c ++ d ++ e)
five front a b c d e = simp append_assoc
