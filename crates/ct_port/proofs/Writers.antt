-- A piece that a writer takes part by part: what the kit says of one write, in the words of sinks.
use Rattle.std.proofs.Common.{ℕ, ◌≤◌, List, [], length, take, drop, Option, Some, None, Result, Ok, Err, MatchResult, IfOk, ◌∙◌, ap, sym, subst, arith}
use Rattle.std.proofs.lemmas.List.{append-nil, take-append-drop}
use Rattle.std.specs.Io.KnownBytes as known
use Rattle.std.specs.Io.{WritesAtMost}
use Rattle.def_port.specs.Bytes.{Appends, AppendsBefore}
use Rattle.ct_port.specs.Writing.{Took}
use Rattle.ct_port.proofs.Added.{goes_on}

pub grows : (old new : Option (List ℕ)) (text : List ℕ) → known.Appends old new text → Appends old new text
grows None new text a = tt
grows (Some xs) None text a = elim a [ ]
grows (Some xs) (Some ys) text a = ap (λ t. Some t) a

pub stays : (old new : Option (List ℕ)) → known.Keeps old new → Appends old new []
stays None new a = tt
stays (Some xs) None a = elim a [ ]
stays (Some xs) (Some ys) a = ap (λ t. Some t) (a ∙ sym (append-nil xs))

pub taken_bytes : {E F : Type 0} (again : E → Type 0) (old new : Option (List ℕ)) (text : List ℕ) (r : Result ℕ E) (t : Result ℕ F) → known.WriteAppends old new r text → Took again r t → MatchResult t (λ n. Appends old new (take n text)) (λ _. Appends old new [])
taken_bytes again old new text (Ok n) (Ok m) w k = rw k.0 (grows old new (take n text) w)
taken_bytes again old new text (Ok n) (Err f) w k = grows old new [] (subst (λ x. known.Appends old new (take x text)) k w)
taken_bytes again old new text (Err e) (Ok m) w k = rw k.0 (stays old new w)
taken_bytes again old new text (Err e) (Err f) w k = stays old new w

pub taken_bound : {E F : Type 0} (again : E → Type 0) (text : List ℕ) (r : Result ℕ E) (t : Result ℕ F) → WritesAtMost r text → Took again r t → IfOk t (λ n. n ≤ length text)
taken_bound again text (Ok n) (Ok m) w k = rw k.0 w
taken_bound again text (Ok n) (Err f) w k = tt
taken_bound again text (Err e) (Ok m) w k = omega (arith, k.0)
taken_bound again text (Err e) (Err f) w k = tt

pub next : (old mid new : Option (List ℕ)) (n : ℕ) (left text : List ℕ) → AppendsBefore old mid left text → Appends mid new (take n left) → AppendsBefore old new (drop n left) text
next old mid new n left text so_far added =
    goes_on old mid new (take n left) (drop n left) text (subst (λ t. AppendsBefore old mid t text) (sym (take-append-drop n left)) so_far) added
